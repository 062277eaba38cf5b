-- No two lines that say commit have one stamp.
use Rattle.std.proofs.Common.{◌≡◌, ◌∙◌, ◌⊎◌, ◌<◌, ◌≤◌, ◌+◌, ℕ, zero, suc, Bool, true, false, refl, sym, ap, subst, arith, inl, inr, List, [], ◌∷◌, ◌++◌, Option, Some, None, map, find, if◌then◌else◌}
use Rattle.std.specs.Prelude.{option_map, max}
use Rattle.std.proofs.lemmas.Grind.{flat_map-append}
use Rattle.mk_lists.specs.Among.{Among, Each}
use Rattle.mk_lists.proofs.Lookups.{find-map}
use Rattle.mk_txn.specs.declared.Stamp.{Stamp}
use Rattle.mk_txn.specs.declared.TxnId.{TxnId}
use Rattle.mk_txn.specs.declared.Outcome.{Outcome}
use Rattle.mk_txn.specs.Transactions.{Transaction}
use Rattle.mk_model.specs.OneCopy.{stamps_of, HaveDistinctStamps}
use Rattle.mk_model.specs.ColumnState.{ColumnState, AttemptState, is_attempt, attempt_of}
use Rattle.mk_model.specs.Logs.{not_reading}
use Rattle.mk_history.specs.declared.Path.{Path}
use Rattle.mk_history.specs.declared.State.{State}
use Rattle.mk_history.specs.Histories.{History}
use Rattle.mk_history.specs.Legality.{IsLegal}
use Rattle.mk_history.specs.Shape.{HasShape, columns_of}
use Rattle.mk_history.specs.Wholes.{last_state}
use Rattle.mk_run_laws.specs.Ends.{last_moment}
use Rattle.mk_run_laws.specs.Joins.{EndsJoin}
use Rattle.mk_run_laws.specs.Lifts.{MomentsOfRounds}
use Rattle.mk_run_laws.specs.RunLaws.{IdsInRuns}
use Rattle.mk_run_laws.proofs.LastMoments.{last_is_moment}
use Rattle.mk_run.specs.declared.line.AttemptLine.{AttemptLine}
use Rattle.mk_run.specs.Attempts.{is_committed, state_of, attempt_line, line_of, with_line, lines_from, begun_by, column_at, lines_of_clients, first_in_run, outcomes_of}
use Rattle.mk_report.specs.Commits.{told_txn, commit_in, commits_in}

-- ---- lists of transactions

stamps-append : (xs ys : List Transaction) (s : Stamp) → Among s (stamps_of (xs ++ ys)) → Among s (stamps_of xs) ⊎ Among s (stamps_of ys)
stamps-append [] ys s m = inr m
stamps-append (x ∷ xs) ys s (inl e) = inl (inl e)
stamps-append (x ∷ xs) ys s (inr m) = elim (stamps-append xs ys s m) [ inl h ↦ inl (inr h) | inr l ↦ inr l ]

joined : (xs ys : List Transaction) → HaveDistinctStamps xs → HaveDistinctStamps ys → ((s : Stamp) → Among s (stamps_of xs) → Among s (stamps_of ys) → ⊥) → HaveDistinctStamps (xs ++ ys)
joined [] ys d e apart = e
joined (x ∷ xs) ys d e apart = (
  (λ m. elim (stamps-append xs ys x.stamp m) [ inl h ↦ d.0 h | inr l ↦ apart x.stamp (inl refl) l ]),
  joined xs ys d.1 e (λ s h l. apart s (inr h) l),
)

-- ---- one line

abbrev pub Told : Type 0
Told = TxnId → Option (Outcome × Path)

abbrev pub told_if : Bool → TxnId → Option Transaction → State → List Transaction
told_if b id o state = if b then told_txn (attempt_line id o state) (option_map (λ (t : Transaction). t.stamp) o) else []

told-stamp : (b : Bool) (id : TxnId) (o : Option Transaction) (state : State) (s : Stamp) → Among s (stamps_of (told_if b id o state)) →
    (txn : Transaction) × (o ≡ Some txn) × (txn.stamp ≡ s)
told-stamp true id (Some t) state s (inl e) = (t, refl, e)
told-stamp true id (Some t) state s (inr m) = absurd m
told-stamp true id None state s m = absurd m
told-stamp false id o state s m = absurd m

told-distinct : (b : Bool) (id : TxnId) (o : Option Transaction) (state : State) → HaveDistinctStamps (told_if b id o state)
told-distinct true id (Some t) state = ((λ m. m), tt)
told-distinct true id None state = tt
told-distinct false id o state = tt

-- the stamp of a line that says commit is its attempt's
commit-stamp : (f : ℕ) (first : Told) (column : ColumnState) (a : AttemptState) (s : Stamp) → Among s (stamps_of (commit_in (line_of f first column a))) →
    (txn : Transaction) × (a.txn ≡ Some txn) × (txn.stamp ≡ s)
commit-stamp f first column a s m =
    let state = state_of f column a (first a.id) in
    told-stamp (is_committed state) a.id a.txn state s m

commit-distinct : (f : ℕ) (first : Told) (column : ColumnState) (a : AttemptState) → HaveDistinctStamps (commit_in (line_of f first column a))
commit-distinct f first column a =
    let state = state_of f column a (first a.id) in
    told-distinct (is_committed state) a.id a.txn state

-- ---- the lines of a client

-- an attempt's stamp is of its client, and the times of a client rise
record Rises (column : ColumnState) : Type 0 where
  own : (id : TxnId) (a : AttemptState) (txn : Transaction) → attempt_of column id ≡ Some a → a.txn ≡ Some txn → txn.stamp.client ≡ id.client
  rise : (id other : TxnId) (a b : AttemptState) (txn later : Transaction) → attempt_of column id ≡ Some a → attempt_of column other ≡ Some b →
      a.txn ≡ Some txn → b.txn ≡ Some later → id.client ≡ other.client → id.seq < other.seq → txn.stamp.time < later.stamp.time

-- the attempt has this stamp
record HasStamp (column : ColumnState) (id : TxnId) (s : Stamp) : Type 0 where
  attempt : AttemptState
  txn : Transaction
  found : attempt_of column id ≡ Some attempt
  stamped : attempt.txn ≡ Some txn
  stamp : txn.stamp ≡ s

from-lines : (f : ℕ) (first : Told) (column : ColumnState) (client seq n : ℕ) (s : Stamp) → Among s (stamps_of (commits_in (lines_from f first column client seq n))) →
    (k : ℕ) × (seq ≤ k) × HasStamp column (record { client = client; seq = k }) s
from-lines f first column client seq zero s m = absurd m
from-lines f first column client seq (suc n) s m =
    by (attempt_of column (record { client = client; seq = seq })) refl (λ l. up (from-lines f first column client (seq + 1) n s l)) m
  where
    up : ((k : ℕ) × (seq + 1 ≤ k) × HasStamp column (record { client = client; seq = k }) s) → (k : ℕ) × (seq ≤ k) × HasStamp column (record { client = client; seq = k }) s
    up g = let le = g.1 in (g.0, omega (arith, le), g.2)

    by : (o : Option AttemptState) → attempt_of column (record { client = client; seq = seq }) ≡ o →
        (Among s (stamps_of (commits_in (lines_from f first column client (seq + 1) n))) → (k : ℕ) × (seq ≤ k) × HasStamp column (record { client = client; seq = k }) s) →
        Among s (stamps_of (commits_in (with_line (option_map (line_of f first column) o) (lines_from f first column client (seq + 1) n)))) →
        (k : ℕ) × (seq ≤ k) × HasStamp column (record { client = client; seq = k }) s
    by None is later l = later l
    by (Some a) is later l = elim (stamps-append (commit_in (line_of f first column a)) (commits_in (lines_from f first column client (seq + 1) n)) s l) [
      | inl here ↦ let g = commit-stamp f first column a s here in (seq, omega arith, record { attempt = a; txn = g.0; found = is; stamped = g.1; stamp = g.2 })
      | inr more ↦ later more
    ]

client-distinct : (f : ℕ) (first : Told) (column : ColumnState) (client seq n : ℕ) → Rises column → HaveDistinctStamps (commits_in (lines_from f first column client seq n))
client-distinct f first column client seq zero rises = tt
client-distinct f first column client seq (suc n) rises = by (attempt_of column (record { client = client; seq = seq })) refl (client-distinct f first column client (seq + 1) n rises)
  where
    apart : (a : AttemptState) → attempt_of column (record { client = client; seq = seq }) ≡ Some a → (s : Stamp) → Among s (stamps_of (commit_in (line_of f first column a))) →
        Among s (stamps_of (commits_in (lines_from f first column client (seq + 1) n))) → ⊥
    apart a is s here later =
        let g = commit-stamp f first column a s here in
        let l = from-lines f first column client (seq + 1) n s later in
        let up = l.1 in
        let h = l.2 in
        let lt = rises.rise (record { client = client; seq = seq }) (record { client = client; seq = l.0 }) a h.attempt g.0 h.txn is h.found g.1 h.stamped refl (omega (arith, up)) in
        let same : (g.0).stamp.time ≡ h.txn.stamp.time = ap (λ (x : Stamp). x.time) (g.2 ∙ sym h.stamp) in
        absurd (omega (arith, lt, same))

    by : (o : Option AttemptState) → attempt_of column (record { client = client; seq = seq }) ≡ o → HaveDistinctStamps (commits_in (lines_from f first column client (seq + 1) n)) →
        HaveDistinctStamps (commits_in (with_line (option_map (line_of f first column) o) (lines_from f first column client (seq + 1) n)))
    by None is again = again
    by (Some a) is again = joined (commit_in (line_of f first column a)) (commits_in (lines_from f first column client (seq + 1) n)) (commit-distinct f first column a) again (apart a is)

-- ---- the lines of all clients

abbrev EachRises : List ColumnState → List ℕ → Type 0
EachRises columns numbers = Each (λ c. Rises (column_at columns c)) numbers

own-client : (f : ℕ) (first : Told) (column : ColumnState) (client n : ℕ) (s : Stamp) → Rises column → Among s (stamps_of (commits_in (lines_from f first column client 1 n))) → s.client ≡ client
own-client f first column client n s rises m =
    let l = from-lines f first column client 1 n s m in
    let h = l.2 in
    sym (ap (λ (x : Stamp). x.client) h.stamp) ∙ rises.own (record { client = client; seq = l.0 }) h.attempt h.txn h.found h.stamped

abbrev pub client_lines : ℕ → Told → List ColumnState → ℕ → ℕ → List AttemptLine
client_lines f first columns client c = lines_from f first (column_at columns c) client 1 (begun_by (column_at columns c) client)

pub split : (xs ys : List AttemptLine) → commits_in (xs ++ ys) ≡ commits_in xs ++ commits_in ys
split xs ys = flat_map-append commit_in xs ys

above : (f : ℕ) (first : Told) (columns : List ColumnState) (client : ℕ) (numbers : List ℕ) (s : Stamp) → EachRises columns numbers →
    Among s (stamps_of (commits_in (lines_of_clients f first columns client numbers))) → client ≤ s.client
above f first columns client [] s rises m = absurd m
above f first columns client (c ∷ numbers) s rises m =
    let here = client_lines f first columns client c in
    let rest = lines_of_clients f first columns (client + 1) numbers in
    elim (stamps-append (commits_in here) (commits_in rest) s (subst (λ (txns : List Transaction). Among s (stamps_of txns)) (split here rest) m)) [
      | inl h ↦ (let e = own-client f first (column_at columns c) client (begun_by (column_at columns c) client) s rises.0 h in omega (arith, e))
      | inr l ↦ (let up = above f first columns (client + 1) numbers s rises.1 l in omega (arith, up))
    ]

clients-distinct : (f : ℕ) (first : Told) (columns : List ColumnState) (client : ℕ) (numbers : List ℕ) → EachRises columns numbers →
    HaveDistinctStamps (commits_in (lines_of_clients f first columns client numbers))
clients-distinct f first columns client [] rises = tt
clients-distinct f first columns client (c ∷ numbers) rises =
    let here = client_lines f first columns client c in
    let rest = lines_of_clients f first columns (client + 1) numbers in
    subst HaveDistinctStamps (sym (split here rest))
    (joined (commits_in here) (commits_in rest) (client-distinct f first (column_at columns c) client 1 (begun_by (column_at columns c) client) rises.0)
    (clients-distinct f first columns (client + 1) numbers rises.1)
    (λ s h l.
    let e = own-client f first (column_at columns c) client (begun_by (column_at columns c) client) s rises.0 h in
    let up = above f first columns (client + 1) numbers s rises.1 l in
    absurd (omega (arith, e, up))))

-- ---- the columns that a legal run leaves

was_reading : (o : Option AttemptState) (a : AttemptState) → option_map not_reading o ≡ Some a → (b : AttemptState) × (o ≡ Some b) × (b.txn ≡ a.txn)
was_reading None a e = absurd (cc e)
was_reading (Some b) a e = (b, refl, ap txn_of e)
  where
    txn_of : Option AttemptState → Option Transaction
    txn_of None = None
    txn_of (Some x) = x.txn

pub below-columns : (d : ℕ) (numbers : List ℕ) → columns_of numbers ≤ d → Each (λ c. c < d) numbers
below-columns d [] h = tt
below-columns d (c ∷ numbers) h =
    let one : c + 1 ≤ max (c + 1) (columns_of numbers) = omega arith in
    let more : columns_of numbers ≤ max (c + 1) (columns_of numbers) = omega arith in
    (omega (arith, h, one), below-columns d numbers (omega (arith, h, more)))

module _ (ids : IdsInRuns) (ends : EndsJoin) (moments : MomentsOfRounds) (run : History) (shape : HasShape run) (legal : IsLegal run) where
  pub before : (c : ℕ) → c < run.columns → (id : TxnId) (a : AttemptState) → attempt_of (column_at (last_state run).columns c) id ≡ Some a →
      (b : AttemptState) × (attempt_of (last_moment run c).column id ≡ Some b) × (b.txn ≡ a.txn)
  before c lt id a found =
      let n = last_moment run c in
      was_reading (attempt_of n.column id) a
      (sym (find-map (is_attempt id) not_reading n.column.attempts) ∙ sym (ap (λ (xs : List AttemptState). find (is_attempt id) xs) (ends run c lt run.rounds).attempts) ∙ found)

  rises : (c : ℕ) → c < run.columns → Rises (column_at (last_state run).columns c)
  rises c lt =
      let n = last_moment run c in
      let i = ids run legal c lt n (last_is_moment moments run c) in
      record {
        own = λ id a txn found stamped. (let b = before c lt id a found in (i.stamps id b.0 txn b.1 (b.2 ∙ stamped)).of_client);
        rise = λ id other a b txn later here there one two client seq.
            (let x = before c lt id a here in let y = before c lt other b there in i.rise id other x.0 y.0 txn later x.1 y.1 (x.2 ∙ one) (y.2 ∙ two) client seq);
      }

  each-rises : (numbers : List ℕ) → Each (λ c. c < run.columns) numbers → EachRises (last_state run).columns numbers
  each-rises [] h = tt
  each-rises (c ∷ numbers) h = (rises c h.0, each-rises numbers h.1)

  pub commits_in-distinct : HaveDistinctStamps (commits_in (outcomes_of run))
  commits_in-distinct =
      let few = shape.columns in
      clients-distinct run.faults (first_in_run run) (last_state run).columns 1 run.client_columns
      (each-rises run.client_columns (below-columns run.columns run.client_columns (omega (arith, few))))
