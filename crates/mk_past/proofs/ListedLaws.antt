-- The transactions of the lines that say commit are the run's commits.
use Rattle.std.proofs.Common.{◌≡◌, ◌∙◌, ◌⊎◌, ℕ, Bool, true, false, refl, sym, ap, subst, inl, inr, List, [], ◌∷◌, Option, Some, None, if◌then◌else◌}
use Rattle.std.specs.Prelude.{option_map}
use Rattle.std.proofs.lemmas.Bool.{false≢true}
use Rattle.mk_lists.specs.Among.{Among, Each, Each-among}
use Rattle.mk_lists.proofs.Lookups.{find_tells, find-from_Among}
use Rattle.mk_lists.proofs.Members.{Among-flat_map, Among-from_flat_map}
use Rattle.mk_txn.specs.declared.Stamp.{Stamp}
use Rattle.mk_txn.specs.declared.TxnId.{TxnId}
use Rattle.mk_txn.specs.declared.Outcome.{Outcome}
use Rattle.mk_txn.specs.declared.Outcome.TheVariants.{Commit, Abort}
use Rattle.mk_txn.specs.Outcomes.{is_commit, agrees}
use Rattle.mk_txn.specs.Stamps.{is_before}
use Rattle.mk_txn.specs.Transactions.{Transaction, same_id}
use Rattle.mk_txn.proofs.IdOrder.{same_id-tells, same_id-itself}
use Rattle.mk_txn.proofs.OutcomeLaws.{is_commit-tells}
use Rattle.mk_txn.proofs.StampOrder.{is_before-itself, is_before-through}
use Rattle.mk_words.specs.Bases.{in_stamp_order}
use Rattle.mk_words.proofs.StampOrdering.{IsInStampOrder, ordered-in_order, ordered-from, ordered-there}
use Rattle.mk_model.specs.ColumnState.{ColumnState, AttemptState}
use Rattle.mk_model.specs.Logs.{not_reading}
use Rattle.mk_model.specs.OneCopy.{HaveDistinctStamps}
use Rattle.mk_model.proofs.Parts.{attempt_of-id}
use Rattle.mk_history.specs.declared.Path.{Path}
use Rattle.mk_history.specs.declared.State.{State}
use Rattle.mk_history.specs.Histories.{History}
use Rattle.mk_history.specs.Legality.{IsLegal}
use Rattle.mk_history.specs.Learning.{Learnt, learned, first_learned, commits}
use Rattle.mk_history.specs.Shape.{HasShape}
use Rattle.mk_history.specs.Wholes.{last_state}
use Rattle.mk_run_laws.specs.Ends.{last_moment}
use Rattle.mk_run_laws.specs.Joins.{EndsJoin}
use Rattle.mk_run_laws.specs.Learnt.{IsLearnt}
use Rattle.mk_run_laws.specs.Lifts.{MomentsOfRounds}
use Rattle.mk_run_laws.specs.RunLaws.{IdsInRuns, FactsInRuns}
use Rattle.mk_run_laws.proofs.LastMoments.{last_is_moment}
use Rattle.mk_run.specs.declared.line.AttemptLine.{AttemptLine}
use Rattle.mk_run.specs.Attempts.{is_committed, state_of, attempt_line, line_of, column_at, first_in_run, outcomes_of}
use Rattle.mk_safety.specs.Commits.{CommitsAreKnown, KnownAreCommits, CommitsAreDistinct}
use Rattle.mk_safety.specs.Agreeing.{LearningsAgree}
use Rattle.mk_report.specs.Commits.{told_txn, commit_in, commits_in}
use Rattle.mk_past.proofs.LineLaws.{of_run, line-of_attempt}

-- ---- lists in order of stamp with the same members are one list

no_cycle : (a b : Stamp) → is_before a b ≡ true → is_before b a ≡ true → ⊥
no_cycle a b p q = false≢true (sym (is_before-itself a) ∙ is_before-through a b a p q)

not_later : (x z : Transaction) (xs : List Transaction) → Each (λ y. is_before x.stamp y.stamp ≡ true) xs → x ≡ z → Among z xs → ⊥
not_later x z xs h e a =
    let up : is_before x.stamp z.stamp ≡ true = Each-among (λ y. is_before x.stamp y.stamp ≡ true) z xs h a in
    false≢true (sym (is_before-itself x.stamp) ∙ subst (λ (w : Transaction). is_before x.stamp w.stamp ≡ true) (sym e) up)

same-members : (xs ys : List Transaction) → IsInStampOrder xs → IsInStampOrder ys → ((x : Transaction) → Among x xs → Among x ys) → ((x : Transaction) → Among x ys → Among x xs) → xs ≡ ys
same-members [] [] h k to back = refl
same-members [] (y ∷ ys) h k to back = absurd (back y (inl refl))
same-members (x ∷ xs) [] h k to back = absurd (to x (inl refl))
same-members (x ∷ xs) (y ∷ ys) h k to back = let e = heads (to x (inl refl)) (back y (inl refl)) in let more = tails e (same-members xs ys h.1 k.1) in (λ i. e i ∷ more i)
  where
    heads : (y ≡ x) ⊎ Among x ys → (x ≡ y) ⊎ Among y xs → x ≡ y
    heads (inl e) b = sym e
    heads (inr a) (inl e) = e
    heads (inr a) (inr b) =
        absurd (no_cycle x.stamp y.stamp (Each-among (λ z. is_before x.stamp z.stamp ≡ true) y xs h.0 b) (Each-among (λ z. is_before y.stamp z.stamp ≡ true) x ys k.0 a))

    tails : x ≡ y → (((z : Transaction) → Among z xs → Among z ys) → ((z : Transaction) → Among z ys → Among z xs) → xs ≡ ys) → xs ≡ ys
    tails e again = again
        (λ z a. elim (to z (inr a)) [ inl f ↦ absurd (not_later x z xs h.0 (e ∙ f) a) | inr c ↦ c ])
        (λ z a. elim (back z (inr a)) [ inl f ↦ absurd (not_later y z ys k.0 (sym e ∙ f) a) | inr c ↦ c ])

-- ---- what a line tells

abbrev told_as : TxnId → Transaction → Transaction
told_as id u = record { id = id; stamp = u.stamp; reads = u.reads; writes = u.writes }

abbrev told_if : Bool → TxnId → Option Transaction → State → List Transaction
told_if b id o state = if b then told_txn (attempt_line id o state) (option_map (λ (t : Transaction). t.stamp) o) else []

told-from : (b : Bool) (id : TxnId) (o : Option Transaction) (state : State) (t : Transaction) → Among t (told_if b id o state) →
    (u : Transaction) × (o ≡ Some u) × (told_as id u ≡ t) × (b ≡ true)
told-from true id (Some u) state t (inl e) = (u, refl, e, refl)
told-from true id (Some u) state t (inr m) = absurd m
told-from true id None state t m = absurd m
told-from false id o state t m = absurd m

told-there : (b : Bool) (id : TxnId) (o : Option Transaction) (state : State) (u : Transaction) → o ≡ Some u → b ≡ true → Among (told_as id u) (told_if b id o state)
told-there b id o state u is says =
    subst (λ (x : Bool). Among (told_as id u) (told_if x id o state)) (sym says)
    (subst (λ (x : Option Transaction). Among (told_as id u) (told_if true id x state)) (sym is) (inl refl))

abbrev outcome_first : Learnt → Outcome × Path
outcome_first l = (l.outcome, l.path)

says-learnt : (f : ℕ) (column : ColumnState) (a : AttemptState) (o : Option Learnt) → is_committed (state_of f column a (option_map outcome_first o)) ≡ true →
    (l : Learnt) × (o ≡ Some l) × (is_commit l.outcome ≡ true)
says-learnt f column a None says = absurd (false≢true says)
says-learnt f column a (Some l) says = (l, refl, says)

agrees-commit : (o : Outcome) → agrees Commit o ≡ true → is_commit o ≡ true
agrees-commit Commit e = refl
agrees-commit (Abort cause) e = absurd (false≢true e)

module _ (ids : IdsInRuns) (ends : EndsJoin) (moments : MomentsOfRounds) (facts : FactsInRuns) (known : CommitsAreKnown) (only : KnownAreCommits) (distinct : CommitsAreDistinct) (agree : LearningsAgree) (run : History) (shape : HasShape run) (legal : IsLegal run) where
  abbrev told : List Transaction
  told = commits_in (outcomes_of run)

  to : (t : Transaction) → Among t told → Among t (commits run)
  to t m =
      let g = Among-from_flat_map commit_in t (outcomes_of run) m in
      let r = of_run ids ends moments run shape legal g.0 g.1 in
      let k = r.told in
      let column = column_at (last_state run).columns r.column in
      let a = k.attempt in
      let here = subst (λ (line : AttemptLine). Among t (commit_in line)) (sym k.is) g.2 in
      let state = state_of run.faults column a (first_in_run run a.id) in
      let u = told-from (is_committed state) a.id a.txn state t here in
      let stamped = r.same_txn ∙ u.1 in
      let s = says-learnt run.faults column a (first_learned a.id (learned run)) u.3 in
      let txn_own : (u.0).id ≡ k.id = ((facts run legal r.column r.in_run (last_moment run r.column) (last_is_moment moments run r.column)).attempts k.id r.attempt r.found).txn_id u.0 stamped in
      let same : u.0 ≡ t = ap (λ (id : TxnId). told_as id u.0) (txn_own ∙ sym r.own) ∙ u.2 in
      let f = find_tells (λ (x : Learnt). same_id x.id a.id) (learned run) s.0 s.1 in
      let learnt : IsLearnt run a.id Commit = (s.0, f.0, same_id-tells (s.0).id a.id f.1, is_commit-tells (s.0).outcome s.2) in
      subst (λ (x : Transaction). Among x (commits run)) same
      (only run legal r.column r.in_run k.id r.attempt u.0 r.found stamped (subst (λ (id : TxnId). IsLearnt run id Commit) r.own learnt))

  says : (column : ColumnState) (a : AttemptState) (id : TxnId) → IsLearnt run id Commit → is_committed (state_of run.faults column a (first_in_run run id)) ≡ true
  says column a id (l, among, is, commit) =
      let here : same_id l.id id ≡ true = ap (λ (x : TxnId). same_id x id) is ∙ same_id-itself id in
      let y = find-from_Among (λ (x : Learnt). same_id x.id id) (learned run) l among here in
      let f = find_tells (λ (x : Learnt). same_id x.id id) (learned run) y.0 y.1 in
      let one : l.id ≡ (y.0).id = is ∙ sym (same_id-tells (y.0).id id f.1) in
      let agreed : agrees Commit (y.0).outcome ≡ true = subst (λ (o : Outcome). agrees o (y.0).outcome ≡ true) commit (agree run shape legal l y.0 among f.0 one) in
      subst (λ (o : Option Learnt). is_committed (state_of run.faults column a (option_map outcome_first o)) ≡ true) (sym y.1) (agrees-commit (y.0).outcome agreed)

  back : (t : Transaction) → Among t (commits run) → Among t told
  back t m =
      let k = known run legal t m in
      let c = k.column in
      let column = column_at (last_state run).columns c in
      let a = not_reading k.attempt in
      let own : k.attempt.id ≡ t.id = attempt_of-id (last_moment run c).column t.id k.attempt k.found in
      let line = line-of_attempt ids ends moments run shape legal c k.in_run t.id k.attempt k.found in
      let state = state_of run.faults column a (first_in_run run a.id) in
      let commit = says column a k.attempt.id (subst (λ (x : TxnId). IsLearnt run x Commit) (sym own) k.learnt) in
      let it : Among (told_as k.attempt.id t) told =
      Among-flat_map commit_in (told_as k.attempt.id t) (line_of run.faults (first_in_run run) column a) (outcomes_of run) line
      (told-there (is_committed state) k.attempt.id k.attempt.txn state t k.stamped commit) in
      subst (λ (x : Transaction). Among x told) (ap (λ (x : TxnId). told_as x t) own) it

  pub listed : HaveDistinctStamps (commits_in (outcomes_of run)) → in_stamp_order (commits_in (outcomes_of run)) ≡ in_stamp_order (commits run)
  listed apart =
      let all = commits run in
      same-members (in_stamp_order told) (in_stamp_order all) (ordered-in_order told apart) (ordered-in_order all (distinct run legal).0)
      (λ t m. ordered-there t all (to t (ordered-from t told m)))
      (λ t m. ordered-there t told (back t (ordered-from t all m)))
