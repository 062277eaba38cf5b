-- Lines appended in turn.
use Rattle.std.proofs.Common.{◌≡◌, ◌∙◌, ◌+◌, ◌-◌, ◌<◌, ℕ, suc, refl, sym, ap, arith, List, [], ◌∷◌, ◌++◌, Option, Some, None, append_assoc}
use Rattle.std.specs.Prelude.{option_map}
use Rattle.std.proofs.lemmas.List.{append-nil}
use Rattle.std.proofs.lemmas.Option.{same_Some}
use Rattle.mk_txn.specs.declared.TxnId.{TxnId}
use Rattle.mk_txn.specs.declared.Outcome.{Outcome}
use Rattle.mk_model.specs.ColumnState.{ColumnState, AttemptState, attempt_of}
use Rattle.mk_model.proofs.Parts.{attempt_of-id}
use Rattle.mk_column.specs.declared.Attempt.{Attempt}
use Rattle.mk_column.specs.ColumnState.{shown}
use Rattle.mk_history.specs.declared.Path.{Path}
use Rattle.mk_history.specs.declared.State.{State}
use Rattle.mk_run.specs.declared.firsts.FirstLearning.{FirstLearning}
use Rattle.mk_run.specs.declared.line.AttemptLine.{AttemptLine}
use Rattle.mk_run.specs.Attempts.{state_of, attempt_line, line_of, with_line, lines_from}
use Rattle.mk_run.specs.Firsts.{first_in}
use Rattle.mk_run.specs.Lines.{told_by, first_told}

-- a line that is appended, before the others
pub line-first : (before : List AttemptLine) (line : Option AttemptLine) (rest : List AttemptLine) → (before ++ with_line line []) ++ rest ≡ before ++ with_line line rest
line-first before None rest = ap (λ xs. xs ++ rest) (append-nil before)
line-first before (Some line) rest = append_assoc before (line ∷ []) rest

-- the line at a place that is not the last, and the others
pub lines-next : (f : ℕ) (first : TxnId → Option (Outcome × Path)) (column : ColumnState) (client seq end : ℕ) (before : List AttemptLine) → seq < end →
    (before ++ with_line (option_map (line_of f first column) (attempt_of column (record { client = client; seq = seq }))) []) ++ lines_from f first column client (seq + 1) (end - (seq + 1))
    ≡ before ++ lines_from f first column client seq (end - seq)
lines-next f first column client seq end before lt =
    line-first before (option_map (line_of f first column) (attempt_of column (record { client = client; seq = seq }))) (lines_from f first column client (seq + 1) (end - (seq + 1)))
    ∙ ap (λ (n : ℕ). before ++ lines_from f first column client seq n) count
  where
    count : suc (end - (seq + 1)) ≡ end - seq
    count = omega (arith, lt)

-- the line that is made of an attempt as it is shown is its line
pub line-there : (f : ℕ) (firsts : List FirstLearning) (column : ColumnState) (id : TxnId) (attempt : Attempt) (first : Option FirstLearning) (state : State) (line : AttemptLine) →
    Some attempt ≡ option_map shown (attempt_of column id) → first ≡ first_in id firsts →
    option_map (λ (a : AttemptState). state_of f column a (option_map told_by first)) (attempt_of column id) ≡ Some state → line ≡ attempt_line attempt.id attempt.txn state →
    line ∷ [] ≡ with_line (option_map (line_of f (first_told firsts) column) (attempt_of column id)) []
line-there f firsts column id attempt first state line is_shown is_first is_state is_line = by_attempt (attempt_of column id) refl is_shown is_state
  where
    by_attempt : (o : Option AttemptState) → attempt_of column id ≡ o → Some attempt ≡ option_map shown o →
        option_map (λ (a : AttemptState). state_of f column a (option_map told_by first)) o ≡ Some state →
        line ∷ [] ≡ with_line (option_map (line_of f (first_told firsts) column) o) []
    by_attempt None there seen stands = absurd (cc seen)
    by_attempt (Some a) there seen stands =
        let same : attempt ≡ shown a = same_Some attempt (shown a) seen in
        let state_is : state_of f column a (option_map told_by first) ≡ state = same_Some (state_of f column a (option_map told_by first)) state stands in
        let told : first ≡ first_in a.id firsts = is_first ∙ ap (λ (i : TxnId). first_in i firsts) (sym (attempt_of-id column id a there)) in
        ap (λ (l : AttemptLine). l ∷ [])
        (is_line
        ∙ ap (λ (b : Attempt). attempt_line b.id b.txn state) same
        ∙ ap (attempt_line a.id a.txn) (sym state_is)
        ∙ ap (λ (o : Option FirstLearning). attempt_line a.id a.txn (state_of f column a (option_map told_by o))) told)
