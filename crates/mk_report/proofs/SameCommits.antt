-- The transactions of the lines that say commit are the run's commits.
use Rattle.std.proofs.Common.{◌≡◌, ◌≢◌, ◌∙◌, ◌⊎◌, ◌<◌, ◌≤◌, ◌+◌, ◌-◌, ◌==◌, ℕ, zero, suc, Bool, true, false, refl, sym, ap, subst, arith, inl, inr, List, [], ◌∷◌, ◌++◌, Option, Some, None, map, find, if◌then◌else◌, cond}
use Rattle.std.specs.Prelude.{option_map, unwrap_or}
use Rattle.std.proofs.lemmas.Bool.{false≢true, eqb-true}
use Rattle.mk_lists.specs.Among.{Among, Each, Each-among, Among-append, Among-append_left, Among-append_right}
use Rattle.mk_lists.proofs.Lookups.{find-map, find_tells, find-from_Among}
use Rattle.mk_txn.specs.declared.Stamp.{Stamp}
use Rattle.mk_txn.specs.declared.TxnId.{TxnId}
use Rattle.mk_txn.specs.declared.Outcome.{Outcome}
use Rattle.mk_txn.specs.declared.Outcome.TheVariants.{Commit, Abort}
use Rattle.mk_txn.specs.Outcomes.{is_commit, agrees}
use Rattle.mk_txn.specs.Stamps.{is_before}
use Rattle.mk_txn.specs.Transactions.{Transaction, same_id}
use Rattle.mk_txn.proofs.IdOrder.{same_id-tells, same_id-itself}
use Rattle.mk_txn.proofs.OutcomeLaws.{is_commit-tells}
use Rattle.mk_txn.proofs.StampOrder.{is_before-itself, is_before-through}
use Rattle.mk_words.specs.Bases.{in_stamp_order}
use Rattle.mk_words.proofs.StampOrdering.{IsInStampOrder, ordered-in_order, ordered-from, ordered-there}
use Rattle.mk_model.specs.OneCopy.{HaveDistinctStamps, one_copy, replayed}
use Rattle.mk_model.specs.ColumnState.{ColumnState, AttemptState, ClientState, is_attempt, attempt_of, is_client, client_of}
use Rattle.mk_model.specs.Logs.{not_reading}
use Rattle.mk_model.proofs.Parts.{attempt_of-id}
use Rattle.mk_history.specs.declared.Path.{Path}
use Rattle.mk_history.specs.declared.State.{State}
use Rattle.mk_history.specs.Histories.{History, clients_of}
use Rattle.mk_history.specs.Legality.{IsLegal}
use Rattle.mk_history.specs.Learning.{Learnt, learned, first_learned, commits}
use Rattle.mk_history.specs.Safety.{Agree}
use Rattle.mk_history.specs.Shape.{HasShape}
use Rattle.mk_history.specs.Wholes.{last_state}
use Rattle.mk_run_laws.specs.Ends.{last_moment}
use Rattle.mk_run_laws.specs.Joins.{EndsJoin}
use Rattle.mk_run_laws.specs.Learnt.{IsLearnt}
use Rattle.mk_run_laws.specs.Lifts.{MomentsOfRounds}
use Rattle.mk_run_laws.specs.RunLaws.{IdsInRuns, FactsInRuns}
use Rattle.mk_run_laws.proofs.LastMoments.{last_is_moment}
use Rattle.mk_run_laws.proofs.StampColumns.{client_there}
use Rattle.mk_run.specs.declared.line.AttemptLine.{AttemptLine}
use Rattle.mk_run.specs.Attempts.{is_committed, state_of, attempt_line, line_of, with_line, lines_from, begun_by, column_at, lines_of_clients, first_in_run, outcomes_of}
use Rattle.mk_safety.specs.Commits.{CommitsAreKnown, KnownAreCommits, CommitsAreDistinct}
use Rattle.mk_safety.specs.Agreeing.{LearningsAgree}
use Rattle.mk_report.specs.Commits.{told_txn, commit_in, commits_in}
use Rattle.mk_report.proofs.DistinctCommits.{Told, told_if, client_lines, split, below-columns, before, commits_in-distinct}

-- ---- lists in order of stamp with the same members are one list

no_cycle : (a b : Stamp) → is_before a b ≡ true → is_before b a ≡ true → ⊥
no_cycle a b p q = false≢true (sym (is_before-itself a) ∙ is_before-through a b a p q)

not_later : (x z : Transaction) (xs : List Transaction) → Each (λ y. is_before x.stamp y.stamp ≡ true) xs → x ≡ z → Among z xs → ⊥
not_later x z xs h e a =
    let up : is_before x.stamp z.stamp ≡ true = Each-among (λ y. is_before x.stamp y.stamp ≡ true) z xs h a in
    false≢true (sym (is_before-itself x.stamp) ∙ subst (λ (w : Transaction). is_before x.stamp w.stamp ≡ true) (sym e) up)

same-members : (xs ys : List Transaction) → IsInStampOrder xs → IsInStampOrder ys → ((x : Transaction) → Among x xs → Among x ys) → ((x : Transaction) → Among x ys → Among x xs) → xs ≡ ys
same-members [] [] h k to back = refl
same-members [] (y ∷ ys) h k to back = absurd (back y (inl refl))
same-members (x ∷ xs) [] h k to back = absurd (to x (inl refl))
same-members (x ∷ xs) (y ∷ ys) h k to back = let e = heads (to x (inl refl)) (back y (inl refl)) in let more = tails e (same-members xs ys h.1 k.1) in (λ i. e i ∷ more i)
  where
    heads : (y ≡ x) ⊎ Among x ys → (x ≡ y) ⊎ Among y xs → x ≡ y
    heads (inl e) b = sym e
    heads (inr a) (inl e) = e
    heads (inr a) (inr b) =
        absurd (no_cycle x.stamp y.stamp (Each-among (λ z. is_before x.stamp z.stamp ≡ true) y xs h.0 b) (Each-among (λ z. is_before y.stamp z.stamp ≡ true) x ys k.0 a))

    tails : x ≡ y → (((z : Transaction) → Among z xs → Among z ys) → ((z : Transaction) → Among z ys → Among z xs) → xs ≡ ys) → xs ≡ ys
    tails e again = again
        (λ z a. elim (to z (inr a)) [ inl f ↦ absurd (not_later x z xs h.0 (e ∙ f) a) | inr c ↦ c ])
        (λ z a. elim (back z (inr a)) [ inl f ↦ absurd (not_later y z ys k.0 (sym e ∙ f) a) | inr c ↦ c ])

-- ---- a commit that a line tells is an attempt's

abbrev pub told_as : TxnId → Transaction → Transaction
told_as id u = record { id = id; stamp = u.stamp; reads = u.reads; writes = u.writes }

told-from : (b : Bool) (id : TxnId) (o : Option Transaction) (state : State) (t : Transaction) → Among t (told_if b id o state) →
    (u : Transaction) × (o ≡ Some u) × (told_as id u ≡ t) × (b ≡ true)
told-from true id (Some u) state t (inl e) = (u, refl, e, refl)
told-from true id (Some u) state t (inr m) = absurd m
told-from true id None state t m = absurd m
told-from false id o state t m = absurd m

told-there : (b : Bool) (id : TxnId) (o : Option Transaction) (state : State) (u : Transaction) → o ≡ Some u → b ≡ true → Among (told_as id u) (told_if b id o state)
told-there b id o state u is says =
    subst (λ (x : Bool). Among (told_as id u) (told_if x id o state)) (sym says)
    (subst (λ (x : Option Transaction). Among (told_as id u) (told_if true id x state)) (sym is) (inl refl))

pub record IsTold (f : ℕ) (first : Told) (column : ColumnState) (t : Transaction) : Type 0 where
  pub id : TxnId
  pub attempt : AttemptState
  pub txn : Transaction
  pub found : attempt_of column id ≡ Some attempt
  pub stamped : attempt.txn ≡ Some txn
  pub is : told_as attempt.id txn ≡ t
  pub says : is_committed (state_of f column attempt (first attempt.id)) ≡ true

lines-tell : (f : ℕ) (first : Told) (column : ColumnState) (client seq n : ℕ) (t : Transaction) → Among t (commits_in (lines_from f first column client seq n)) → IsTold f first column t
lines-tell f first column client seq zero t m = absurd m
lines-tell f first column client seq (suc n) t m =
    by (attempt_of column (record { client = client; seq = seq })) refl (λ l. lines-tell f first column client (seq + 1) n t l) m
  where
    by : (o : Option AttemptState) → attempt_of column (record { client = client; seq = seq }) ≡ o →
        (Among t (commits_in (lines_from f first column client (seq + 1) n)) → IsTold f first column t) →
        Among t (commits_in (with_line (option_map (line_of f first column) o) (lines_from f first column client (seq + 1) n))) → IsTold f first column t
    by None is later l = later l
    by (Some a) is later l = elim (Among-append t (commit_in (line_of f first column a)) (commits_in (lines_from f first column client (seq + 1) n)) l) [
      | inl here ↦ (let state = state_of f column a (first a.id) in
          let g = told-from (is_committed state) a.id a.txn state t here in
          record { id = record { client = client; seq = seq }; attempt = a; txn = g.0; found = is; stamped = g.1; is = g.2; says = g.3 })
      | inr more ↦ later more
    ]

pub clients-tell : (f : ℕ) (first : Told) (columns : List ColumnState) (client : ℕ) (numbers : List ℕ) (t : Transaction) → Among t (commits_in (lines_of_clients f first columns client numbers)) →
    (c : ℕ) × Among c numbers × IsTold f first (column_at columns c) t
clients-tell f first columns client [] t m = absurd m
clients-tell f first columns client (c ∷ numbers) t m =
    let here = client_lines f first columns client c in
    let rest = lines_of_clients f first columns (client + 1) numbers in
    elim (Among-append t (commits_in here) (commits_in rest) (subst (Among t) (split here rest) m)) [
      | inl h ↦ (c, inl refl, lines-tell f first (column_at columns c) client 1 (begun_by (column_at columns c) client) t h)
      | inr l ↦ (let g = clients-tell f first columns (client + 1) numbers t l in (g.0, inr g.1, g.2))
    ]

-- ---- and an attempt's commit is told

lines-there : (f : ℕ) (first : Told) (column : ColumnState) (client seq n j : ℕ) (a : AttemptState) (u : Transaction) → j < n →
    attempt_of column (record { client = client; seq = seq + j }) ≡ Some a → a.txn ≡ Some u → is_committed (state_of f column a (first a.id)) ≡ true →
    Among (told_as a.id u) (commits_in (lines_from f first column client seq n))
lines-there f first column client seq zero j a u lt found stamped says = absurd (omega (arith, lt))
lines-there f first column client seq (suc n) zero a u lt found stamped says =
    let rest = lines_from f first column client (seq + 1) n in
    let state = state_of f column a (first a.id) in
    let none : seq + 0 ≡ seq = omega arith in
    let here : attempt_of column (record { client = client; seq = seq }) ≡ Some a = subst (λ (k : ℕ). attempt_of column (record { client = client; seq = k }) ≡ Some a) none found in
    subst (λ (o : Option AttemptState). Among (told_as a.id u) (commits_in (with_line (option_map (line_of f first column) o) rest))) (sym here)
    (Among-append_left (told_as a.id u) (commit_in (line_of f first column a)) (commits_in rest) (told-there (is_committed state) a.id a.txn state u stamped says))
lines-there f first column client seq (suc n) (suc j) a u lt found stamped says =
    let next : seq + suc j ≡ seq + 1 + j = omega arith in
    later (attempt_of column (record { client = client; seq = seq }))
    (lines-there f first column client (seq + 1) n j a u (omega (arith, lt))
    (subst (λ (k : ℕ). attempt_of column (record { client = client; seq = k }) ≡ Some a) next found) stamped says)
  where
    later : (o : Option AttemptState) → Among (told_as a.id u) (commits_in (lines_from f first column client (seq + 1) n)) →
        Among (told_as a.id u) (commits_in (with_line (option_map (line_of f first column) o) (lines_from f first column client (seq + 1) n)))
    later None m = m
    later (Some b) m = Among-append_right (told_as a.id u) (commit_in (line_of f first column b)) (commits_in (lines_from f first column client (seq + 1) n)) m

clients-there : (f : ℕ) (first : Told) (columns : List ColumnState) (c n k : ℕ) (numbers : List ℕ) (t : Transaction) → Among n (clients_of c k numbers) →
    Among t (commits_in (client_lines f first columns n c)) → Among t (commits_in (lines_of_clients f first columns k numbers))
clients-there f first columns c n k [] t m told = absurd m
clients-there f first columns c n k (d ∷ numbers) t m told = subst (Among t) (sym (split here rest)) (by (d == c) refl (λ l. later (clients-there f first columns c n (k + 1) numbers t l told)) m)
  where
    here : List AttemptLine
    here = client_lines f first columns k d

    rest : List AttemptLine
    rest = lines_of_clients f first columns (k + 1) numbers

    later : Among t (commits_in rest) → Among t (commits_in here ++ commits_in rest)
    later l = Among-append_right t (commits_in here) (commits_in rest) l

    by : (b : Bool) → (d == c) ≡ b → (Among n (clients_of c (k + 1) numbers) → Among t (commits_in here ++ commits_in rest)) →
        Among n (cond b (k ∷ clients_of c (k + 1) numbers) (clients_of c (k + 1) numbers)) → Among t (commits_in here ++ commits_in rest)
    by true e more (inl same) =
        let column : d ≡ c = eqb-true d c e in
        Among-append_left t (commits_in here) (commits_in rest)
        (subst (λ (x : ℕ). Among t (commits_in (client_lines f first columns x d))) (sym same)
        (subst (λ (x : ℕ). Among t (commits_in (client_lines f first columns n x))) (sym column) told))
    by true e more (inr l) = more l
    by false e more l = more l

-- ---- a line says commit where a commit was learned

abbrev outcome_first : Learnt → Outcome × Path
outcome_first l = (l.outcome, l.path)

says-learnt : (f : ℕ) (column : ColumnState) (a : AttemptState) (o : Option Learnt) → is_committed (state_of f column a (option_map outcome_first o)) ≡ true →
    (l : Learnt) × (o ≡ Some l) × (is_commit l.outcome ≡ true)
says-learnt f column a None says = absurd (false≢true says)
says-learnt f column a (Some l) says = (l, refl, says)

agrees-commit : (o : Outcome) → agrees Commit o ≡ true → is_commit o ≡ true
agrees-commit Commit e = refl
agrees-commit (Abort cause) e = absurd (false≢true e)

module _ (ids : IdsInRuns) (ends : EndsJoin) (moments : MomentsOfRounds) (facts : FactsInRuns) (known : CommitsAreKnown) (only : KnownAreCommits) (distinct : CommitsAreDistinct) (agree : LearningsAgree) (run : History) (shape : HasShape run) (legal : IsLegal run) where
  abbrev columns_last : List ColumnState
  columns_last = (last_state run).columns

  learnt-first : (id : TxnId) (l : Learnt) → first_learned id (learned run) ≡ Some l → is_commit l.outcome ≡ true → IsLearnt run id Commit
  learnt-first id l first commit =
      let f = find_tells (λ (x : Learnt). same_id x.id id) (learned run) l first in
      (l, f.0, same_id-tells l.id id f.1, is_commit-tells l.outcome commit)

  to : (t : Transaction) → Among t (commits_in (outcomes_of run)) → Among t (commits run)
  to t m =
      let g = clients-tell run.faults (first_in_run run) columns_last 1 run.client_columns t m in
      let c = g.0 in
      let few = shape.columns in
      let lt = Each-among (λ c. c < run.columns) c run.client_columns (below-columns run.columns run.client_columns (omega (arith, few))) g.1 in
      let k = g.2 in
      let b = before ids ends moments run shape legal c lt k.id k.attempt k.found in
      let stamped = b.2 ∙ k.stamped in
      let s = says-learnt run.faults (column_at columns_last c) k.attempt (first_learned k.attempt.id (learned run)) k.says in
      let own : k.attempt.id ≡ k.id = attempt_of-id (column_at columns_last c) k.id k.attempt k.found in
      let txn_own : k.txn.id ≡ k.id = ((facts run legal c lt (last_moment run c) (last_is_moment moments run c)).attempts k.id b.0 b.1).txn_id k.txn stamped in
      let named : k.txn.id ≡ k.attempt.id = txn_own ∙ sym own in
      let same : k.txn ≡ t = ap (λ (id : TxnId). told_as id k.txn) named ∙ k.is in
      let learnt = subst (λ (id : TxnId). IsLearnt run id Commit) own (learnt-first k.attempt.id s.0 s.1 s.2) in
      subst (λ (x : Transaction). Among x (commits run)) same (only run legal c lt k.id b.0 k.txn b.1 stamped learnt)

  says : (column : ColumnState) (a : AttemptState) (id : TxnId) → IsLearnt run id Commit → is_committed (state_of run.faults column a (first_in_run run id)) ≡ true
  says column a id (l, among, is, commit) =
      let here : same_id l.id id ≡ true = ap (λ (x : TxnId). same_id x id) is ∙ same_id-itself id in
      let y = find-from_Among (λ (x : Learnt). same_id x.id id) (learned run) l among here in
      let f = find_tells (λ (x : Learnt). same_id x.id id) (learned run) y.0 y.1 in
      let one : l.id ≡ (y.0).id = is ∙ sym (same_id-tells (y.0).id id f.1) in
      let agreed : agrees Commit (y.0).outcome ≡ true = subst (λ (o : Outcome). agrees o (y.0).outcome ≡ true) commit (agree run shape legal l y.0 among f.0 one) in
      subst (λ (o : Option Learnt). is_committed (state_of run.faults column a (option_map outcome_first o)) ≡ true) (sym y.1) (agrees-commit (y.0).outcome agreed)

  back : (t : Transaction) → Among t (commits run) → Among t (commits_in (outcomes_of run))
  back t m =
      let k = known run legal t m in
      let c = k.column in
      let n = last_moment run c in
      let at = last_is_moment moments run c in
      let i = ids run legal c k.in_run n at in
      let e = ends run c k.in_run run.rounds in
      let column = column_at columns_last c in
      let found : attempt_of column t.id ≡ Some (not_reading k.attempt) =
      ap (λ (xs : List AttemptState). find (is_attempt t.id) xs) e.attempts ∙ find-map (is_attempt t.id) not_reading n.column.attempts ∙ ap (option_map not_reading) k.found in
      let own : k.attempt.id ≡ t.id = attempt_of-id n.column t.id k.attempt k.found in
      let of_client = (i.stamps t.id k.attempt t k.found k.stamped).of_client in
      let among = subst (λ (x : ℕ). Among x (clients_of c 1 run.client_columns)) of_client (client_there run c n at i t.id k.attempt t k.found k.stamped) in
      let q = i.attempts t.id k.attempt k.found in
      let from_one = q.from_one in
      let begun = q.begun in
      let client : client_of column t.id.client ≡ Some q.client = ap (λ (xs : List ClientState). find (is_client t.id.client) xs) e.clients ∙ q.found in
      let count : begun_by column t.id.client ≡ q.client.next_seq - 1 = ap (λ (o : Option ClientState). unwrap_or (option_map (λ (x : ClientState). x.next_seq - 1) o) 0) client in
      let seq : t.id.seq ≡ 1 + (t.id.seq - 1) = omega (arith, from_one) in
      let it : Among (told_as k.attempt.id t) (commits_in (client_lines run.faults (first_in_run run) columns_last t.id.client c)) =
      lines-there run.faults (first_in_run run) column t.id.client 1 (begun_by column t.id.client) (t.id.seq - 1) (not_reading k.attempt) t (omega (arith, count, begun, from_one))
      (subst (λ (s : ℕ). attempt_of column (record { client = t.id.client; seq = s }) ≡ Some (not_reading k.attempt)) seq found) k.stamped
      (says column (not_reading k.attempt) k.attempt.id (subst (λ (x : TxnId). IsLearnt run x Commit) (sym own) k.learnt)) in
      subst (λ (x : Transaction). Among x (commits_in (outcomes_of run))) (ap (λ (x : TxnId). told_as x t) own)
      (clients-there run.faults (first_in_run run) columns_last c t.id.client 1 run.client_columns (told_as k.attempt.id t) among it)

  -- so the one copy of either is the same
  pub one_copy-told : one_copy (commits_in (outcomes_of run)) ≡ one_copy (commits run)
  one_copy-told =
      let told = commits_in (outcomes_of run) in
      let all = commits run in
      ap (replayed [])
      (same-members (in_stamp_order told) (in_stamp_order all) (ordered-in_order told (commits_in-distinct ids ends moments run shape legal)) (ordered-in_order all (distinct run legal).0)
      (λ t m. ordered-there t all (to t (ordered-from t told m)))
      (λ t m. ordered-there t told (back t (ordered-from t all m))))
