-- Where every attempt commits on the fast path, the lines of the attempts say so, and none is left.
use Rattle.std.proofs.Common.{◌≡◌, ◌⊎◌, ◌∙◌, ℕ, zero, suc, ◌+◌, ◌||◌, false, refl, inl, inr, sym, ap, List, [], ◌∷◌, Option, Some, None}
use Rattle.std.specs.Prelude.{option_map}
use Rattle.std.specs.List.{list_any}
use Rattle.mk_lists.specs.Among.{Among, Each, Each-append}
use Rattle.mk_lists.proofs.Lookups.{find_tells}
use Rattle.mk_txn.specs.declared.TxnId.{TxnId}
use Rattle.mk_txn.specs.declared.Outcome.TheVariants.{Commit}
use Rattle.mk_model.specs.ColumnState.{ColumnState, AttemptState, attempt_of, is_attempt, new_column}
use Rattle.mk_history.specs.declared.Path.TheVariants.{Fast}
use Rattle.mk_history.specs.declared.State.TheVariants.{Learned}
use Rattle.mk_history.specs.Histories.{History}
use Rattle.mk_history.specs.Learning.{Learnt}
use Rattle.mk_history.specs.Wholes.{last_state}
use Rattle.mk_run.specs.declared.line.AttemptLine.{AttemptLine}
use Rattle.mk_run.specs.Attempts.{begun_by, column_at, first_in_run, is_open, line_of, lines_from, lines_of_clients, outcomes_of, state_of, with_line}
use Rattle.mk_quiet_laws.specs.CommitFast.{CommitsFast}
use Rattle.mk_top.specs.Runs.{AllFast, has_left}

abbrev IsFast : AttemptLine → Type 0
IsFast line = line.state ≡ Learned Commit Fast

module _ (run : History) (fast : CommitsFast run) where
  -- a column of a number is one of the columns, or has no attempt
  at_number : (columns : List ColumnState) (c : ℕ) → Among (column_at columns c) columns ⊎ (column_at columns c ≡ new_column 0 [])
  at_number [] c = inr refl
  at_number (column ∷ columns) zero = inl (inl refl)
  at_number (column ∷ columns) (suc c) = elim (at_number columns c) [ inl a ↦ inl (inr a) | inr e ↦ inr e ]

  fast_line : (c : ℕ) (id : TxnId) (a : AttemptState) → attempt_of (column_at (last_state run).columns c) id ≡ Some a → IsFast (line_of run.faults (first_in_run run) (column_at (last_state run).columns c) a)
  fast_line c id a e = elim (at_number (last_state run).columns c) [
    | inl there ↦ (
        let k = fast (column_at (last_state run).columns c) there a (find_tells (is_attempt id) (column_at (last_state run).columns c).attempts a e).0 in
        let first : first_in_run run a.id ≡ Some (Commit, Fast) = ap (option_map (λ (l : Learnt). (l.outcome, l.path))) k.1 ∙ (λ i. Some (k.2 i, k.3 i)) in
        ap (state_of run.faults (column_at (last_state run).columns c) a) first
        )
    | inr none ↦ absurd (let nothing : attempt_of (new_column 0 []) id ≡ Some a = ap (λ (x : ColumnState). attempt_of x id) (sym none) ∙ e in cc nothing)
  ]

  from_fast : (c client seq n : ℕ) → Each IsFast (lines_from run.faults (first_in_run run) (column_at (last_state run).columns c) client seq n)
  from_fast c client seq zero = tt
  from_fast c client seq (suc n) = by (attempt_of (column_at (last_state run).columns c) (record { client = client; seq = seq })) refl (from_fast c client (seq + 1) n)
    where
      by : (o : Option AttemptState) → attempt_of (column_at (last_state run).columns c) (record { client = client; seq = seq }) ≡ o →
          Each IsFast (lines_from run.faults (first_in_run run) (column_at (last_state run).columns c) client (seq + 1) n) →
          Each IsFast (with_line (option_map (line_of run.faults (first_in_run run) (column_at (last_state run).columns c)) o) (lines_from run.faults (first_in_run run) (column_at (last_state run).columns c) client (seq + 1) n))
      by None e rest = rest
      by (Some a) e rest = (fast_line c (record { client = client; seq = seq }) a e, rest)

  clients_fast : (client : ℕ) (numbers : List ℕ) → Each IsFast (lines_of_clients run.faults (first_in_run run) (last_state run).columns client numbers)
  clients_fast client [] = tt
  clients_fast client (c ∷ numbers) =
      Each-append IsFast (lines_from run.faults (first_in_run run) (column_at (last_state run).columns c) client 1 (begun_by (column_at (last_state run).columns c) client))
      (lines_of_clients run.faults (first_in_run run) (last_state run).columns (client + 1) numbers) (from_fast c client 1 (begun_by (column_at (last_state run).columns c) client)) (clients_fast (client + 1) numbers)

  all_fast : AllFast run
  all_fast = clients_fast 1 run.client_columns

none_open : (lines : List AttemptLine) → Each IsFast lines → list_any (λ line. is_open line.state) lines ≡ false
none_open [] h = refl
none_open (line ∷ lines) h = (λ i. is_open (h.0 i) || none_open lines h.1 i)

-- every attempt commits fast, and none is left
pub fast_and_none_left : (run : History) → CommitsFast run → AllFast run × (has_left run ≡ false)
fast_and_none_left run fast = (all_fast run fast, none_open (outcomes_of run) (all_fast run fast))
