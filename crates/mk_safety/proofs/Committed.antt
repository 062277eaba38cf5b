-- The commits of a run are the transactions of attempts whose commit was learned.
use Rattle.std.proofs.Common.{◌≡◌, ◌<◌, ℕ, Bool, true, refl, inl, inr, sym, ap, ◌∙◌, List, [], ◌∷◌, Option, Some, None, subst, ◌&&◌}
use Rattle.std.specs.List.{list_any}
use Rattle.mk_lists.specs.Among.{Among, Among-append}
use Rattle.mk_txn.specs.declared.TxnId.{TxnId}
use Rattle.mk_txn.specs.declared.Outcome.{Outcome}
use Rattle.mk_txn.specs.declared.Outcome.TheVariants.{Commit}
use Rattle.mk_txn.specs.Outcomes.{is_commit}
use Rattle.mk_txn.specs.Transactions.{Transaction, same_id}
use Rattle.mk_txn.proofs.IdOrder.{same_id-tells, same_id-itself}
use Rattle.mk_txn.proofs.OutcomeLaws.{is_commit-tells}
use Rattle.mk_merge_laws.proofs.Orders.{by_stamp_there, by_stamp_from}
use Rattle.mk_model.specs.ColumnState.{ColumnState, AttemptState, attempt_of}
use Rattle.mk_model.specs.Logs.{not_reading}
use Rattle.mk_column_laws.specs.Moments.{IsReached}
use Rattle.mk_column_laws.specs.Facts.{Facts}
use Rattle.mk_history.specs.Histories.{History}
use Rattle.mk_history.specs.Learning.{learned, stamped_in, stamped_by, is_learned_commit, commits}
use Rattle.mk_history.specs.Legality.{IsLegal}
use Rattle.mk_history.specs.Wholes.{last_state, column_of}
use Rattle.mk_run_laws.specs.Ends.{last_moment}
use Rattle.mk_run_laws.specs.Learnt.{IsLearnt}
use Rattle.mk_run_laws.specs.TaughtIn.{taught_in}
use Rattle.mk_fate_laws.specs.Fates.{RestsOn}
use Rattle.mk_cause_laws.proofs.Owned.{IsOf, stands_in_run, own_id}
use Rattle.mk_safety.specs.Agreeing.{RestsIn}
use Rattle.mk_safety.specs.Commits.{IsKnownCommit, CommitsAreKnown, KnownAreCommits}
use Rattle.mk_safety.proofs.CommitLaws.{CommitLaws}
use Rattle.mk_lists.proofs.Members.{Among-from_map, Among-filter, Among-from_filter}
use Rattle.mk_lists.proofs.Tests.{list_any-from_Among, Among-from_list_any}
use Rattle.mk_run_laws.proofs.LastMoments.{last_is_moment, same_column}
use Rattle.std.proofs.lemmas.Bool.{and_parts}

-- ---- attempts' transactions in lists

pub stamped-from : (attempts : List AttemptState) (txn : Transaction) → Among txn (stamped_in attempts) → (a : AttemptState) × Among a attempts × (a.txn ≡ Some txn)
stamped-from [] txn m = absurd m
stamped-from (x ∷ attempts) txn m = by x.txn refl (stamped-from attempts txn) m
  where
    by : (o : Option Transaction) → x.txn ≡ o → (Among txn (stamped_in attempts) → (a : AttemptState) × Among a attempts × (a.txn ≡ Some txn)) →
        Among txn (stamped_in (record x { txn = o } ∷ attempts)) → (a : AttemptState) × Among a (x ∷ attempts) × (a.txn ≡ Some txn)
    by (Some t) k again (inl same) = (x, inl refl, k ∙ ap Some same)
    by (Some t) k again (inr later) = let f = again later in (f.0, inr f.1, f.2)
    by None k again later = let f = again later in (f.0, inr f.1, f.2)

pub stamped_by-from : (columns : List ColumnState) (txn : Transaction) → Among txn (stamped_by columns) → (column : ColumnState) × Among column columns × Among txn (stamped_in column.attempts)
stamped_by-from [] txn m = absurd m
stamped_by-from (x ∷ columns) txn m = elim (Among-append txn (stamped_in x.attempts) (stamped_by columns) m) [
  | inl here ↦ (x, inl refl, here)
  | inr later ↦ let f = stamped_by-from columns txn later in (f.0, inr f.1, f.2)
]

module _ (laws : CommitLaws) (run : History) (legal : IsLegal run) where
  pub reached : (c : ℕ) → c < run.columns → IsReached (taught_in run) (last_moment run c)
  reached c lt = laws.below.reach run legal c lt (last_moment run c) (last_is_moment laws.below.moments run c)

  pub facts : (c : ℕ) → c < run.columns → Facts (taught_in run) (last_moment run c)
  facts c lt = laws.below.facts run legal c lt (last_moment run c) (last_is_moment laws.below.moments run c)

  -- a transaction among the attempts of a column at the end is an attempt's of the column's last moment
  pub of_column : (c : ℕ) → c < run.columns → (txn : Transaction) → Among txn (stamped_in (column_of (last_state run) c).attempts) →
      (a : AttemptState) × (attempt_of (last_moment run c).column txn.id ≡ Some a) × (a.txn ≡ Some txn)
  of_column c lt txn m =
      let n = last_moment run c in
      let f = stamped-from (column_of (last_state run) c).attempts txn m in
      let g = Among-from_map not_reading f.0 n.column.attempts (subst (Among f.0) (laws.below.ends run c lt run.rounds).attempts f.1) in
      let b = g.0 in
      let found = laws.found (taught_in run) (laws.below.teaching run) n (reached c lt) b g.1 in
      let stamped : b.txn ≡ Some txn = ap (λ (x : AttemptState). x.txn) g.2 ∙ f.2 in
      let same = ((facts c lt).attempts b.id b found).txn_id txn stamped in
      (b, subst (λ (id : TxnId). attempt_of n.column id ≡ Some b) (sym same) found, stamped)

  -- and each transaction of the run is one of a column
  pub of_run : (txn : Transaction) → Among txn (stamped_by (last_state run).columns) → IsOf run txn
  of_run txn m =
      let f = stamped_by-from (last_state run).columns txn m in
      let k = (laws.below.columns run run.rounds).only f.0 f.1 in
      let a = of_column k.0 k.1 txn (subst (λ (x : ColumnState). Among txn (stamped_in x.attempts)) (sym k.2) f.2) in
      record { column = k.0; in_run = k.1; id = txn.id; attempt = a.0; found = a.1; stamped = a.2 }

  -- what was learned of a transaction's attempt rests on something in its column
  learnt_rests : (txn : Transaction) (o : IsOf run txn) (outcome : Outcome) → IsLearnt run txn.id outcome → RestsOn run o.column txn.id outcome
  learnt_rests txn o outcome (l, m, is, says) =
      let r = subst (λ (id : TxnId). RestsIn run id outcome) is (subst (RestsIn run l.id) says (laws.rest run legal l m)) in
      let own = ap (attempt_of (last_moment run o.column).column) (own_id laws.below run legal txn o) ∙ o.found in
      subst (λ (c : ℕ). RestsOn run c txn.id outcome) (same_column laws.below.moments laws.below.ids run legal r.column o.column r.in_run o.in_run txn.id r.attempt o.attempt r.found own) r.rests

  -- ---- the commits

  known_commit : (txn : Transaction) → IsOf run txn → IsLearnt run txn.id Commit → IsKnownCommit run txn
  known_commit txn o learnt = record {
    column = o.column;
    in_run = o.in_run;
    attempt = o.attempt;
    found = ap (attempt_of (last_moment run o.column).column) (own_id laws.below run legal txn o) ∙ o.found;
    stamped = o.stamped;
    learnt = learnt;
    rests = learnt_rests txn o Commit learnt;
  }

  pub known : (txn : Transaction) → Among txn (commits run) → IsKnownCommit run txn
  known txn m =
      let all = stamped_by (last_state run).columns in
      let p : Transaction → Bool = λ t. list_any (is_learned_commit t.id) (learned run) in
      let f = Among-from_filter p txn all (by_stamp_from txn _ m) in
      let l = Among-from_list_any (is_learned_commit txn.id) (learned run) f.1 in
      let both = and_parts (same_id (l.0).id txn.id) (is_commit (l.0).outcome) l.2 in
      known_commit txn (of_run txn f.0) (l.0, l.1, same_id-tells (l.0).id txn.id both.0, is_commit-tells (l.0).outcome both.1)

  pub committed : (txn : Transaction) → IsOf run txn → IsLearnt run txn.id Commit → Among txn (commits run)
  committed txn o (l, m, is, says) =
      let all = stamped_by (last_state run).columns in
      let p : Transaction → Bool = λ t. list_any (is_learned_commit t.id) (learned run) in
      let here : same_id l.id txn.id ≡ true = ap (λ (id : TxnId). same_id id txn.id) is ∙ same_id-itself txn.id in
      let one : is_learned_commit txn.id l ≡ true = (λ i. here i && is_commit (says i)) in
      by_stamp_there txn _ (Among-filter p txn all (stands_in_run laws.below run legal txn o) (list_any-from_Among (is_learned_commit txn.id) (learned run) l m one))

pub commits_are_known : CommitLaws → CommitsAreKnown
commits_are_known laws run legal txn m = known laws run legal txn m

pub known_are_commits : CommitLaws → KnownAreCommits
known_are_commits laws run legal c lt id a txn found stamped learnt =
    let o : IsOf run txn = record { column = c; in_run = lt; id = id; attempt = a; found = found; stamped = stamped } in
    committed laws run legal txn o (subst (λ (x : TxnId). IsLearnt run x Commit) (sym (own_id laws.below run legal txn o)) learnt)
