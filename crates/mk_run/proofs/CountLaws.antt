-- Attempts counted in turn.
use Rattle.std.proofs.Common.{◌≡◌, ◌∙◌, ◌+◌, ◌-◌, ◌<◌, ◌≤◌, ℕ, suc, Bool, true, false, refl, sym, ap, arith, List, ◌∷◌, ◌++◌, Option, Some, None, if◌then◌else◌, cond, add_assoc, add-one, length, drop, get_or, drop-cons}
use Rattle.std.specs.Prelude.{option_map, count_by}
use Rattle.std.proofs.lemmas.List.Sums.{sum_by-cons, sum_by-append}
use Rattle.mk_txn.specs.declared.TxnId.{TxnId}
use Rattle.mk_txn.specs.declared.Outcome.{Outcome}
use Rattle.mk_txn.specs.declared.Outcome.TheVariants.{Commit, Abort}
use Rattle.mk_txn.specs.Outcomes.{is_commit}
use Rattle.mk_model.specs.ColumnState.{ColumnState, AttemptState, attempt_of}
use Rattle.mk_model.proofs.Parts.{attempt_of-id}
use Rattle.mk_history.specs.declared.Path.{Path}
use Rattle.mk_history.specs.declared.State.TheVariants.{Learned}
use Rattle.mk_run.specs.declared.firsts.FirstLearning.{FirstLearning}
use Rattle.mk_run.specs.declared.line.AttemptLine.{AttemptLine}
use Rattle.mk_run.specs.declared.line.Tally.{Tally}
use Rattle.mk_run.specs.Attempts.{state_of, attempt_line, line_of, with_line, lines_from, is_committed, is_aborted, is_open}
use Rattle.mk_run.specs.Counting.{total_of, counted, counted_where, plus_lines}
use Rattle.mk_run.specs.Firsts.{first_in}
use Rattle.mk_column.specs.ColumnByCode.{ColumnView}
use Rattle.mk_run.specs.Lines.{told_by, first_told, view_at, lines_of_client, lines_of_views}

-- a line that counts for so many
more : (p : AttemptLine → Bool) (line : AttemptLine) (rest : List AttemptLine) (t k : ℕ) → cond (p line) 1 0 ≡ k → t + k + count_by p rest ≡ t + count_by p (line ∷ rest)
more p line rest t k e =
    add_assoc t k (count_by p rest)
    ∙ sym (ap (λ (n : ℕ). t + n) (sum_by-cons (λ x. cond (p x) 1 0) line rest ∙ ap (λ (n : ℕ). n + count_by p rest) e))

-- a line that does not count
no_more : (p : AttemptLine → Bool) (line : AttemptLine) (rest : List AttemptLine) (t : ℕ) → cond {A = ℕ} (p line) 1 0 ≡ 0 → t + count_by p rest ≡ t + count_by p (line ∷ rest)
no_more p line rest t e = plus_zero t (count_by p rest) ∙ more p line rest t 0 e
  where
    plus_zero : (a b : ℕ) → a + b ≡ a + 0 + b
    plus_zero a b = omega arith

-- one attempt more is its line more
counted-line : (f : ℕ) (column : ColumnState) (a : AttemptState) (first : Option FirstLearning) (t : Tally) (rest : List AttemptLine) →
    plus_lines (counted first t) rest ≡ plus_lines t (attempt_line a.id a.txn (state_of f column a (option_map told_by first)) ∷ rest)
counted-line f column a None t rest =
    let line = attempt_line a.id a.txn (state_of f column a None) in
    let p = no_more (λ l. is_committed l.state) line rest t.commits refl in
    let q = no_more (λ l. is_aborted l.state) line rest t.aborts refl in
    let r = more (λ l. is_open l.state) line rest t.opens 1 refl in
    λ i. record { commits = p i; aborts = q i; opens = r i }
counted-line f column a (Some first) t rest = by_outcome first.outcome (told_by first).1
  where
    by_outcome : (o : Outcome) (path : Path) →
        plus_lines (if is_commit o then record t { commits = t.commits + 1 } else record t { aborts = t.aborts + 1 }) rest ≡ plus_lines t (attempt_line a.id a.txn (Learned o path) ∷ rest)
    by_outcome Commit path =
        let line = attempt_line a.id a.txn (Learned Commit path) in
        let p = more (λ l. is_committed l.state) line rest t.commits 1 refl in
        let q = no_more (λ l. is_aborted l.state) line rest t.aborts refl in
        let r = no_more (λ l. is_open l.state) line rest t.opens refl in
        λ i. record { commits = p i; aborts = q i; opens = r i }
    by_outcome (Abort cause) path =
        let line = attempt_line a.id a.txn (Learned (Abort cause) path) in
        let p = no_more (λ l. is_committed l.state) line rest t.commits refl in
        let q = more (λ l. is_aborted l.state) line rest t.aborts 1 refl in
        let r = no_more (λ l. is_open l.state) line rest t.opens refl in
        λ i. record { commits = p i; aborts = q i; opens = r i }

counted-there : (f : ℕ) (firsts : List FirstLearning) (column : ColumnState) (id : TxnId) (t : Tally) (rest : List AttemptLine) →
    plus_lines (counted_where (attempt_of column id) (first_in id firsts) t) rest ≡ plus_lines t (with_line (option_map (line_of f (first_told firsts) column) (attempt_of column id)) rest)
counted-there f firsts column id t rest = by_attempt (attempt_of column id) refl
  where
    by_attempt : (o : Option AttemptState) → attempt_of column id ≡ o →
        plus_lines (counted_where o (first_in id firsts) t) rest ≡ plus_lines t (with_line (option_map (line_of f (first_told firsts) column) o) rest)
    by_attempt None there = refl
    by_attempt (Some a) there =
        ap (λ (i : TxnId). plus_lines (counted (first_in i firsts) t) rest) (sym (attempt_of-id column id a there))
        ∙ counted-line f column a (first_in a.id firsts) t rest

-- the attempt at a place that is not the last, and the others
pub counted-next : (f : ℕ) (firsts : List FirstLearning) (column : ColumnState) (client seq end : ℕ) (t : Tally) → seq < end →
    plus_lines (counted_where (attempt_of column (record { client = client; seq = seq })) (first_in (record { client = client; seq = seq }) firsts) t) (lines_from f (first_told firsts) column client (seq + 1) (end - (seq + 1)))
    ≡ plus_lines t (lines_from f (first_told firsts) column client seq (end - seq))
counted-next f firsts column client seq end t lt =
    counted-there f firsts column (record { client = client; seq = seq }) t (lines_from f (first_told firsts) column client (seq + 1) (end - (seq + 1)))
    ∙ ap (λ (n : ℕ). plus_lines t (lines_from f (first_told firsts) column client seq n)) count
  where
    count : suc (end - (seq + 1)) ≡ end - seq
    count = omega (arith, lt)

-- one attempt counts one at most
pub counted-few : (attempt : Option AttemptState) (first : Option FirstLearning) (t : Tally) → total_of (counted_where attempt first t) ≤ total_of t + 1
counted-few None first t = omega arith
counted-few (Some a) None t = omega arith
counted-few (Some a) (Some first) t = by_test (is_commit first.outcome)
  where
    by_test : (b : Bool) → total_of (if b then record t { commits = t.commits + 1 } else record t { aborts = t.aborts + 1 }) ≤ total_of t + 1
    by_test true = omega arith
    by_test false = omega arith

count_two : (p : AttemptLine → Bool) (xs ys : List AttemptLine) (n : ℕ) → n + count_by p xs + count_by p ys ≡ n + count_by p (xs ++ ys)
count_two p xs ys n =
    add_assoc n (count_by p xs) (count_by p ys) ∙ ap (λ (m : ℕ). n + m) (sym (sum_by-append (λ x. cond (p x) 1 0) xs ys))

pub plus_two : (t : Tally) (xs ys : List AttemptLine) → plus_lines (plus_lines t xs) ys ≡ plus_lines t (xs ++ ys)
plus_two t xs ys =
    let p = count_two (λ line. is_committed line.state) xs ys t.commits in
    let q = count_two (λ line. is_aborted line.state) xs ys t.aborts in
    let r = count_two (λ line. is_open line.state) xs ys t.opens in
    λ i. record { commits = p i; aborts = q i; opens = r i }

-- the lines of one client more
pub plus_next : (firsts : List FirstLearning) (columns : List ColumnView) (numbers : List ℕ) (i : ℕ) (t new : Tally) → i < length numbers →
    new ≡ plus_lines t (lines_of_client firsts (view_at columns (get_or numbers i 0)) (i + 1)) →
    plus_lines new (lines_of_views firsts columns (i + 1 + 1) (drop (i + 1) numbers)) ≡ plus_lines t (lines_of_views firsts columns (i + 1) (drop i numbers))
plus_next firsts columns numbers i t new lt is =
    let later = lines_of_views firsts columns (i + 1 + 1) (drop (i + 1) numbers) in
    let parts : drop i numbers ≡ get_or numbers i 0 ∷ drop (i + 1) numbers =
    drop-cons numbers i 0 lt ∙ ap (λ (n : ℕ). get_or numbers i 0 ∷ drop n numbers) (sym (add-one i)) in
    ap (λ (x : Tally). plus_lines x later) is
    ∙ plus_two t (lines_of_client firsts (view_at columns (get_or numbers i 0)) (i + 1)) later
    ∙ ap (λ (xs : List ℕ). plus_lines t (lines_of_views firsts columns (i + 1) xs)) (sym parts)
