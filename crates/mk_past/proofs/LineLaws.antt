-- The lines of a legal run and its attempts: each line is an attempt's, and each attempt with a transaction has its line.
use Rattle.std.proofs.Common.{◌≡◌, ◌∙◌, ◌<◌, ◌≤◌, ◌+◌, ◌-◌, ◌==◌, ℕ, zero, suc, Bool, true, false, refl, sym, ap, subst, arith, inl, inr, List, [], ◌∷◌, ◌++◌, Option, Some, None, find, cond}
use Rattle.std.specs.Prelude.{option_map, unwrap_or}
use Rattle.std.proofs.lemmas.Bool.{eqb-true}
use Rattle.mk_lists.specs.Among.{Among, Each, Each-among, Among-append, Among-append_left, Among-append_right}
use Rattle.mk_lists.proofs.Lookups.{find-map, find_tells}
use Rattle.mk_lists.proofs.Members.{Among-map, Among-from_map}
use Rattle.mk_txn.specs.declared.TxnId.{TxnId}
use Rattle.mk_txn.specs.declared.Outcome.{Outcome}
use Rattle.mk_txn.specs.Transactions.{Transaction}
use Rattle.mk_model.specs.ColumnState.{ColumnState, AttemptState, ClientState, is_attempt, attempt_of, is_client, client_of}
use Rattle.mk_model.specs.Logs.{not_reading}
use Rattle.mk_model.proofs.Parts.{attempt_of-id}
use Rattle.mk_history.specs.declared.Path.{Path}
use Rattle.mk_history.specs.Histories.{History, clients_of}
use Rattle.mk_history.specs.Legality.{IsLegal}
use Rattle.mk_history.specs.Shape.{HasShape, columns_of}
use Rattle.mk_history.specs.Wholes.{last_state}
use Rattle.mk_run_laws.specs.Ends.{last_moment}
use Rattle.mk_run_laws.specs.Joins.{EndsJoin, ColumnsAreNumbered}
use Rattle.mk_run_laws.specs.Lifts.{MomentsOfRounds}
use Rattle.mk_run_laws.specs.RunLaws.{IdsInRuns, TeachingStays, RunsReachMoments}
use Rattle.mk_run_laws.proofs.LastMoments.{last_is_moment}
use Rattle.mk_run_laws.proofs.StampColumns.{numbers_then}
use Rattle.mk_past.specs.Reasons.{HasAttempt}
use Rattle.mk_record_laws.specs.Attempts.{AttemptsAreFound}
use Rattle.mk_run_laws.specs.TaughtIn.{taught_in}
use Rattle.mk_run.specs.declared.line.AttemptLine.{AttemptLine}
use Rattle.mk_run.specs.Attempts.{line_of, with_line, lines_from, begun_by, column_at, lines_of_clients, first_in_run, outcomes_of}
use Rattle.std.specs.Prelude.{max}

abbrev pub Told : Type 0
Told = TxnId → Option (Outcome × Path)

-- the line is that of an attempt of the column
pub record IsLineOf (f : ℕ) (first : Told) (column : ColumnState) (line : AttemptLine) : Type 0 where
  pub id : TxnId
  pub attempt : AttemptState
  pub found : attempt_of column id ≡ Some attempt
  pub is : line_of f first column attempt ≡ line

abbrev client_lines : ℕ → Told → List ColumnState → ℕ → ℕ → List AttemptLine
client_lines f first columns client c = lines_from f first (column_at columns c) client 1 (begun_by (column_at columns c) client)

-- ---- each line is an attempt's

lines-of : (f : ℕ) (first : Told) (column : ColumnState) (client seq n : ℕ) (line : AttemptLine) → Among line (lines_from f first column client seq n) → IsLineOf f first column line
lines-of f first column client seq zero line m = absurd m
lines-of f first column client seq (suc n) line m =
    by (attempt_of column (record { client = client; seq = seq })) refl (λ l. lines-of f first column client (seq + 1) n line l) m
  where
    by : (o : Option AttemptState) → attempt_of column (record { client = client; seq = seq }) ≡ o →
        (Among line (lines_from f first column client (seq + 1) n) → IsLineOf f first column line) →
        Among line (with_line (option_map (line_of f first column) o) (lines_from f first column client (seq + 1) n)) → IsLineOf f first column line
    by None is later l = later l
    by (Some a) is later (inl here) = record { id = record { client = client; seq = seq }; attempt = a; found = is; is = here }
    by (Some a) is later (inr l) = later l

pub clients-of : (f : ℕ) (first : Told) (columns : List ColumnState) (client : ℕ) (numbers : List ℕ) (line : AttemptLine) → Among line (lines_of_clients f first columns client numbers) →
    (c : ℕ) × Among c numbers × IsLineOf f first (column_at columns c) line
clients-of f first columns client [] line m = absurd m
clients-of f first columns client (c ∷ numbers) line m =
    let here = client_lines f first columns client c in
    let rest = lines_of_clients f first columns (client + 1) numbers in
    elim (Among-append line here rest m) [
      | inl h ↦ (c, inl refl, lines-of f first (column_at columns c) client 1 (begun_by (column_at columns c) client) line h)
      | inr l ↦ (let g = clients-of f first columns (client + 1) numbers line l in (g.0, inr g.1, g.2))
    ]

-- ---- each attempt has its line

line-there : (f : ℕ) (first : Told) (column : ColumnState) (client seq n j : ℕ) (a : AttemptState) → j < n →
    attempt_of column (record { client = client; seq = seq + j }) ≡ Some a → Among (line_of f first column a) (lines_from f first column client seq n)
line-there f first column client seq zero j a lt found = absurd (omega (arith, lt))
line-there f first column client seq (suc n) zero a lt found =
    let rest = lines_from f first column client (seq + 1) n in
    let none : seq + 0 ≡ seq = omega arith in
    let here : attempt_of column (record { client = client; seq = seq }) ≡ Some a = subst (λ (k : ℕ). attempt_of column (record { client = client; seq = k }) ≡ Some a) none found in
    subst (λ (o : Option AttemptState). Among (line_of f first column a) (with_line (option_map (line_of f first column) o) rest)) (sym here) (inl refl)
line-there f first column client seq (suc n) (suc j) a lt found =
    let next : seq + suc j ≡ seq + 1 + j = omega arith in
    later (attempt_of column (record { client = client; seq = seq }))
    (line-there f first column client (seq + 1) n j a (omega (arith, lt))
    (subst (λ (k : ℕ). attempt_of column (record { client = client; seq = k }) ≡ Some a) next found))
  where
    later : (o : Option AttemptState) → Among (line_of f first column a) (lines_from f first column client (seq + 1) n) →
        Among (line_of f first column a) (with_line (option_map (line_of f first column) o) (lines_from f first column client (seq + 1) n))
    later None m = m
    later (Some b) m = inr m

clients-there : (f : ℕ) (first : Told) (columns : List ColumnState) (c n k : ℕ) (numbers : List ℕ) (line : AttemptLine) → Among n (clients_of c k numbers) →
    Among line (client_lines f first columns n c) → Among line (lines_of_clients f first columns k numbers)
clients-there f first columns c n k [] line m told = absurd m
clients-there f first columns c n k (d ∷ numbers) line m told = by (d == c) refl (λ l. later (clients-there f first columns c n (k + 1) numbers line l told)) m
  where
    here : List AttemptLine
    here = client_lines f first columns k d

    rest : List AttemptLine
    rest = lines_of_clients f first columns (k + 1) numbers

    later : Among line rest → Among line (here ++ rest)
    later l = Among-append_right line here rest l

    by : (b : Bool) → (d == c) ≡ b → (Among n (clients_of c (k + 1) numbers) → Among line (here ++ rest)) →
        Among n (cond b (k ∷ clients_of c (k + 1) numbers) (clients_of c (k + 1) numbers)) → Among line (here ++ rest)
    by true e more (inl same) =
        let column : d ≡ c = eqb-true d c e in
        Among-append_left line here rest
        (subst (λ (x : ℕ). Among line (client_lines f first columns x d)) (sym same)
        (subst (λ (x : ℕ). Among line (client_lines f first columns n x)) (sym column) told))
    by true e more (inr l) = more l
    by false e more l = more l

-- ---- the columns that a legal run leaves

was_reading : (o : Option AttemptState) (a : AttemptState) → option_map not_reading o ≡ Some a → (b : AttemptState) × (o ≡ Some b) × (b.txn ≡ a.txn)
was_reading None a e = absurd (cc e)
was_reading (Some b) a e = (b, refl, ap txn_of e)
  where
    txn_of : Option AttemptState → Option Transaction
    txn_of None = None
    txn_of (Some x) = x.txn

below-columns : (d : ℕ) (numbers : List ℕ) → columns_of numbers ≤ d → Each (λ c. c < d) numbers
below-columns d [] h = tt
below-columns d (c ∷ numbers) h =
    let one : c + 1 ≤ max (c + 1) (columns_of numbers) = omega arith in
    let more : columns_of numbers ≤ max (c + 1) (columns_of numbers) = omega arith in
    (omega (arith, h, one), below-columns d numbers (omega (arith, h, more)))

-- a line of a run, and its attempt at the last moment of its column
pub record IsOfRun (run : History) (line : AttemptLine) : Type 0 where
  pub column : ℕ
  pub in_run : column < run.columns
  pub told : IsLineOf run.faults (first_in_run run) (column_at (last_state run).columns column) line
  pub attempt : AttemptState
  pub found : attempt_of (last_moment run column).column told.id ≡ Some attempt
  pub same_txn : attempt.txn ≡ told.attempt.txn
  pub own : told.attempt.id ≡ told.id

module _ (ids : IdsInRuns) (ends : EndsJoin) (moments : MomentsOfRounds) (run : History) (shape : HasShape run) (legal : IsLegal run) where
  pub of_run : (line : AttemptLine) → Among line (outcomes_of run) → IsOfRun run line
  of_run line m =
      let g = clients-of run.faults (first_in_run run) (last_state run).columns 1 run.client_columns line m in
      let c = g.0 in
      let few = shape.columns in
      let lt = Each-among (λ c. c < run.columns) c run.client_columns (below-columns run.columns run.client_columns (omega (arith, few))) g.1 in
      let k = g.2 in
      let n = last_moment run c in
      let b = was_reading (attempt_of n.column k.id) k.attempt
      (sym (find-map (is_attempt k.id) not_reading n.column.attempts) ∙ sym (ap (λ (xs : List AttemptState). find (is_attempt k.id) xs) (ends run c lt run.rounds).attempts) ∙ k.found) in
      record {
        column = c;
        in_run = lt;
        told = k;
        attempt = b.0;
        found = b.1;
        same_txn = b.2;
        own = attempt_of-id (column_at (last_state run).columns c) k.id k.attempt k.found;
      }

  -- the line of an attempt
  pub line-of_attempt : (c : ℕ) → c < run.columns → (id : TxnId) (a : AttemptState) → attempt_of (last_moment run c).column id ≡ Some a →
      Among (line_of run.faults (first_in_run run) (column_at (last_state run).columns c) (not_reading a)) (outcomes_of run)
  line-of_attempt c lt id a there =
      let n = last_moment run c in
      let at = last_is_moment moments run c in
      let e = ends run c lt run.rounds in
      let column = column_at (last_state run).columns c in
      let found : attempt_of column id ≡ Some (not_reading a) =
      ap (λ (xs : List AttemptState). find (is_attempt id) xs) e.attempts ∙ find-map (is_attempt id) not_reading n.column.attempts ∙ ap (option_map not_reading) there in
      let q = (ids run legal c lt n at).attempts id a there in
      let own = find_tells (is_client id.client) n.column.clients q.client q.found in
      let among = subst (λ (x : ℕ). Among x (clients_of c 1 run.client_columns)) (eqb-true q.client.number id.client own.1)
      (subst (Among q.client.number) (numbers_then run c n at) (Among-map (λ (x : ClientState). x.number) q.client n.column.clients own.0)) in
      let from_one = q.from_one in
      let begun = q.begun in
      let client : client_of column id.client ≡ Some q.client = ap (λ (xs : List ClientState). find (is_client id.client) xs) e.clients ∙ q.found in
      let count : begun_by column id.client ≡ q.client.next_seq - 1 = ap (λ (o : Option ClientState). unwrap_or (option_map (λ (x : ClientState). x.next_seq - 1) o) 0) client in
      let seq : id.seq ≡ 1 + (id.seq - 1) = omega (arith, from_one) in
      let it : Among (line_of run.faults (first_in_run run) column (not_reading a)) (client_lines run.faults (first_in_run run) (last_state run).columns id.client c) =
      line-there run.faults (first_in_run run) column id.client 1 (begun_by column id.client) (id.seq - 1) (not_reading a) (omega (arith, count, begun, from_one))
      (subst (λ (s : ℕ). attempt_of column (record { client = id.client; seq = s }) ≡ Some (not_reading a)) seq found) in
      clients-there run.faults (first_in_run run) (last_state run).columns c id.client 1 run.client_columns _ among it

  -- ---- lines and attempts

  module _ (columns : ColumnsAreNumbered) where
    pub line-has : (line : AttemptLine) → Among line (outcomes_of run) → HasAttempt run line.id
    line-has line m =
        let r = of_run line m in
        let column = column_at (last_state run).columns r.column in
        record {
          column = column;
          in_run = (columns run run.rounds).there r.column r.in_run;
          attempt = r.told.attempt;
          in_column = (find_tells (is_attempt r.told.id) column.attempts r.told.attempt r.told.found).0;
          same_attempt = ap (λ (l : AttemptLine). l.id) r.told.is;
        }

    pub has-line : TeachingStays → RunsReachMoments → AttemptsAreFound → (id : TxnId) → HasAttempt run id → (line : AttemptLine) × Among line (outcomes_of run) × (line.id ≡ id)
    has-line teaching reach found id h =
        let k = (columns run run.rounds).only h.column h.in_run in
        let n = last_moment run k.0 in
        let at = last_is_moment moments run k.0 in
        let here = subst (λ (x : ColumnState). Among h.attempt x.attempts) (sym k.2) h.in_column in
        let g = Among-from_map not_reading h.attempt n.column.attempts (subst (Among h.attempt) (ends run k.0 k.1 run.rounds).attempts here) in
        let there = found (taught_in run) (teaching run) n (reach run legal k.0 k.1 n at) g.0 g.1 in (
          line_of run.faults (first_in_run run) (column_at (last_state run).columns k.0) (not_reading g.0),
          line-of_attempt k.0 k.1 (g.0).id g.0 there,
          ap (λ (x : AttemptState). x.id) g.2 ∙ h.same_attempt,
        )
