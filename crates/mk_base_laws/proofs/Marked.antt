-- The marks of promises and bases cover only attempts that are settled.
use Rattle.std.proofs.Common.{◌≡◌, ◌⊎◌, ◌<◌, ◌≤◌, ℕ, zero, suc, true, refl, arith, inl, inr, sym, ap, ◌∙◌, List, [], ◌∷◌, ◌++◌, subst}
use Rattle.std.specs.Prelude.{is_some, fold}
use Rattle.std.proofs.lemmas.Bool.Decides.{nat_tests}
use Rattle.std.proofs.lemmas.Option.{same_Some}
use Rattle.mk_lists.specs.Among.{Among}
use Rattle.mk_record_laws.proofs.Marks.{settled_stays, one_or_other}
use Rattle.mk_txn.specs.declared.TxnId.{TxnId}
use Rattle.mk_txn.specs.MarkMaps.{MarkMap, IsMarkMap, mark_of, covers, joined_marks}
use Rattle.mk_txn.proofs.MarkLaws.{IsMarkMap-joined, mark_of-joined}
use Rattle.mk_words.specs.Bases.{BaseState, empty_base}
use Rattle.mk_words.specs.Promises.{PromiseState, base_of}
use Rattle.mk_model.specs.ColumnState.{ColumnState, attempt_of, marks_at}
use Rattle.mk_column_laws.specs.Moments.{Moment}
use Rattle.mk_column_laws.specs.Facts.{Grows}
use Rattle.mk_model.specs.EpochState.{GivenPromise, MadeBase, base_for}
use Rattle.mk_model.specs.Force.{source_of}
use Rattle.mk_epoch_laws.specs.Turns.{Always}
use Rattle.mk_epoch_laws.specs.BaseLaws.{CountedAreGiven, counted_for}
use Rattle.mk_epoch_laws.proofs.EpochFacts.{EpochFacts}
use Rattle.mk_epoch_laws.proofs.Paths.{made_or_first, source_below}
use Rattle.mk_record_laws.specs.Marks.{MarksAreTrue, MarkFacts}
use Rattle.mk_history.specs.declared.RoundLog.{RoundLog}
use Rattle.mk_history.specs.Histories.{History}
use Rattle.mk_history.specs.Legality.{IsLegal}
use Rattle.mk_history.specs.Wholes.{column_of, marks_of}
use Rattle.mk_run_laws.specs.RunEvents.{emptied_in, moment_of, turns_of}
use Rattle.mk_run_laws.specs.Ends.{epochs_after, whole_within}
use Rattle.mk_run_laws.proofs.Joined.{lines_reset}
use Rattle.mk_run_laws.proofs.Lines.{lines_are_turns}
use Rattle.mk_run_laws.proofs.Reaching.{append-one}
use Rattle.mk_run_laws.proofs.Voted.{is_moment}
use Rattle.mk_base_laws.specs.Giving.{WasGiven}
use Rattle.mk_base_laws.specs.Marks.{SettledIn, PromisedMarks, BaseMarks}
use Rattle.mk_base_laws.proofs.Lower.{Lower}
use Rattle.mk_base_laws.proofs.Walking.{at_moment, between, facts_after_rounds, legal_done}
use Rattle.mk_base_laws.proofs.Resetting.{marks_reset}
use Rattle.mk_base_laws.proofs.Given.{promises_were_given}
use Rattle.mk_base_laws.proofs.Frozen.{columns_in, split_after}

-- ---- maps of marks

pub covered-tells : (marks : MarkMap) (id : TxnId) → covers marks id ≡ true → id.seq ≤ mark_of marks id.client
covered-tells marks id e = grind (arith, nat_tests, e)

pub covers_nothing : (id : TxnId) → 1 ≤ id.seq → covers [] id ≡ true → ⊥
covers_nothing id low e = let k = covered-tells [] id e in omega (arith, low, k)

-- of each client the greatest mark of these
module _ {X : Type 0} (f : X → MarkMap) where
  pub joined_map : (xs : List X) (marks : MarkMap) → IsMarkMap marks → IsMarkMap (fold (λ all x. joined_marks all (f x)) marks xs)
  joined_map [] marks h = h
  joined_map (x ∷ xs) marks h = joined_map xs (joined_marks marks (f x)) (IsMarkMap-joined marks (f x) h)

  pub joined_from : (xs : List X) (marks : MarkMap) → IsMarkMap marks → ((x : X) → Among x xs → IsMarkMap (f x)) → (client seq : ℕ) →
      seq ≤ mark_of (fold (λ all x. joined_marks all (f x)) marks xs) client → (seq ≤ mark_of marks client) ⊎ ((x : X) × Among x xs × (seq ≤ mark_of (f x) client))
  joined_from [] marks h each client seq le = inl le
  joined_from (x ∷ xs) marks h each client seq le =
      elim (joined_from xs (joined_marks marks (f x)) (IsMarkMap-joined marks (f x) h) (λ y a. each y (inr a)) client seq le) [
        | inl here ↦
            let both = mark_of-joined marks (f x) client h (each x (inl refl)) in
            elim (one_or_other (mark_of marks client) (mark_of (f x) client) seq (omega (arith, here, both))) [ inl old ↦ inl old | inr new ↦ inr (x, inl refl, new) ]
        | inr later ↦ inr (later.0, inr later.1, later.2)
      ]

-- ---- promises

module _ (laws : Lower) (marks_true : MarksAreTrue) (run : History) (legal : IsLegal run) (given : GivenPromise) (done rest : List RoundLog) (split : run.rounds ≡ done ++ rest) (w : WasGiven run done given) where
  split_done : run.rounds ≡ ((w.before ++ w.round ∷ []) ++ w.later) ++ rest
  split_done = split ∙ ap (λ (rs : List RoundLog). rs ++ rest) (w.split ∙ append-one w.before w.round w.later)

  then : ℕ → Moment
  then c = moment_of run c (w.before ++ w.round ∷ [])

  facts_then : (c : ℕ) → c < run.columns → MarkFacts (moment_of run c (w.before ++ w.round ∷ []))
  facts_then c lt =
      at_moment laws run legal c lt (λ taught m. MarkFacts m) marks_true (moment_of run c (w.before ++ w.round ∷ [])) (is_moment run (w.before ++ w.round ∷ []) (w.later ++ rest) (split_after laws run legal given done rest split w) c)

  -- the marks of a column at the promise
  column_marks : (c : ℕ) → c < run.columns →
      (marks_at (column_of (whole_within run w.before w.round w.lines) c) given.promise.replica ≡ marks_at (moment_of run c (w.before ++ w.round ∷ [])).column given.promise.replica)
      ⊎ (marks_at (column_of (whole_within run w.before w.round w.lines) c) given.promise.replica ≡ [])
  column_marks c lt =
      let same = ap (λ (x : ColumnState). marks_at x given.promise.replica) (lines_reset run c lt w.before w.round w.lines) in
      elim (marks_reset (emptied_in w.lines) (moment_of run c (w.before ++ w.round ∷ [])).column given.promise.replica) [ inl k ↦ inl (same ∙ k) | inr k ↦ inr (same ∙ k) ]

  column_map : (c : ℕ) → c < run.columns → IsMarkMap (marks_at (column_of (whole_within run w.before w.round w.lines) c) given.promise.replica)
  column_map c lt = elim (column_marks c lt) [
    | inl k ↦ subst IsMarkMap (sym k) ((facts_then c lt).maps given.promise.replica)
    | inr k ↦ subst IsMarkMap (sym k) tt
  ]

  marks_are : given.promise.marks ≡ marks_of (whole_within run w.before w.round w.lines).columns given.promise.replica
  marks_are = ap (λ (p : PromiseState). p.marks) w.hands

  pub promised_map : IsMarkMap given.promise.marks
  promised_map = subst IsMarkMap (sym marks_are) (joined_map (λ (x : ColumnState). marks_at x given.promise.replica) (whole_within run w.before w.round w.lines).columns [] tt)

  -- what a column's mark covers is settled by then, and later
  settled_by : (c : ℕ) → c < run.columns → (id : TxnId) → 1 ≤ id.seq → id.seq ≤ mark_of (marks_at (column_of (whole_within run w.before w.round w.lines) c) given.promise.replica) id.client → SettledIn run done id
  settled_by c lt id low le = elim (column_marks c lt) [
    | inr none ↦ absurd (let k = ap (λ (marks : MarkMap). mark_of marks id.client) none in omega (arith, low, le, k))
    | inl same ↦
        let k = ap (λ (marks : MarkMap). mark_of marks id.client) same in
        let a = (facts_then c lt).kept given.promise.replica id.client id.seq low (omega (arith, le, k)) in
        let g = between laws run legal c lt Grows laws.grow (w.before ++ w.round ∷ []) w.later rest split_done in
        let b = g.attempts id a.0 a.1 in
        record {
          column = c;
          in_run = lt;
          attempt = b.0;
          found = ap (λ (rs : List RoundLog). attempt_of (moment_of run c rs).column id) (w.split ∙ append-one w.before w.round w.later) ∙ b.1;
          settled = settled_stays a.0 b.0 b.2 a.2;
        }
  ]

  pub promised_settled : (id : TxnId) → 1 ≤ id.seq → covers given.promise.marks id ≡ true → SettledIn run done id
  promised_settled id low e =
      let whole = whole_within run w.before w.round w.lines in
      let has = columns_in run w.before w.round w.lines in
      let le = covered-tells given.promise.marks id e in
      let same = ap (λ (marks : MarkMap). mark_of marks id.client) marks_are in
      elim (joined_from (λ (x : ColumnState). marks_at x given.promise.replica) whole.columns [] tt
      (λ x a. let d = has.only x a in subst (λ (y : ColumnState). IsMarkMap (marks_at y given.promise.replica)) d.2 (column_map d.0 d.1)) id.client id.seq (omega (arith, le, same))) [
        | inl none ↦ absurd (omega (arith, low, none))
        | inr k ↦ let d = has.only k.0 k.1 in settled_by d.0 d.1 id low (subst (λ (y : ColumnState). id.seq ≤ mark_of (marks_at y given.promise.replica) id.client) (sym d.2) k.2)
      ]

pub promised_marks : Lower → MarksAreTrue → PromisedMarks
promised_marks laws marks_true run legal done rest split given a id low e =
    promised_settled laws marks_true run legal given done rest split (promises_were_given run legal done rest split given a) id low e

-- ---- bases

module _ (laws : Lower) (marks_true : MarksAreTrue) (counted : Always CountedAreGiven) (run : History) (legal : IsLegal run) (done rest : List RoundLog) (split : run.rounds ≡ done ++ rest) where
  facts : EpochFacts (epochs_after run done)
  facts = facts_after_rounds run legal done rest split

  counted_here : CountedAreGiven (epochs_after run done)
  counted_here = let l = lines_are_turns run done (legal_done run legal done rest split) in subst CountedAreGiven l.1 (counted run.faults (turns_of run done) l.0)

  -- a map of marks, of which each place is settled
  Fine : MarkMap → Type 0
  Fine marks = IsMarkMap marks × ((id : TxnId) → 1 ≤ id.seq → covers marks id ≡ true → SettledIn run done id)

  given_fine : (given : GivenPromise) → Among given (epochs_after run done).promises → Fine given.promise.marks
  unfolding Fine
  given_fine given a =
      let w = promises_were_given run legal done rest split given a in
      (promised_map laws marks_true run legal given done rest split w, promised_settled laws marks_true run legal given done rest split w)

  covered-by : (marks : MarkMap) (id : TxnId) → id.seq ≤ mark_of marks id.client → covers marks id ≡ true
  covered-by marks id le = grind (arith, nat_tests, le)

  -- the marks of a base are its source's, joined with those of the promises that count
  merged_fine : (base : BaseState) (ps : List PromiseState) → Fine base.marks → ((p : PromiseState) → Among p ps → Fine p.marks) → Fine (fold (λ marks p. joined_marks marks p.marks) base.marks ps)
  unfolding Fine
  merged_fine base ps h each = (
    joined_map (λ (p : PromiseState). p.marks) ps base.marks h.0,
    λ id low e. elim (joined_from (λ (p : PromiseState). p.marks) ps base.marks h.0 (λ p a. (each p a).0) id.client id.seq
        (covered-tells (fold (λ marks p. joined_marks marks p.marks) base.marks ps) id e)) [
          | inl old ↦ h.1 id low (covered-by base.marks id old)
          | inr new ↦ (each new.0 new.1).1 id low (covered-by new.0.marks id new.2)
        ],
  )

  made_fine : (limit : ℕ) (made : MadeBase) → made.epoch ≤ limit → Among made (epochs_after run done).made → Fine made.base.marks
  unfolding Fine
  made_fine zero made le a = absurd (let low = source_below (epochs_after run done) facts made a in omega (arith, low, le))
  made_fine (suc limit) made le a =
      let state = epochs_after run done in
      let ct = counted_here made a in
      let low = source_below state facts made a in
      subst Fine (ap (λ (b : BaseState). b.marks) (sym ct.list))
      (merged_fine (base_of (counted_for state made.epoch)) (counted_for state made.epoch)
      (elim (made_or_first state (source_of state made.epoch) (ap is_some ct.base)) [
        | inl first ↦ first_fine (base_of (counted_for state made.epoch)) (same_Some empty_base (base_of (counted_for state made.epoch)) (ap (λ (n : ℕ). base_for n state) (sym first) ∙ ct.base))
        | inr m ↦
            let epoch = m.2 in
            subst (λ (b : BaseState). Fine b.marks) (same_Some m.0.base (base_of (counted_for state made.epoch)) (sym m.3 ∙ ct.base))
            (made_fine limit m.0 (omega (arith, low, epoch, le)) m.1)
      ])
      (λ p b. given_fine (record { epoch = made.epoch; promise = p }) (ct.given p (ct.taken p b))))
    where
      first_fine : (base : BaseState) → empty_base ≡ base → Fine base.marks
      first_fine base same = subst (λ (b : BaseState). Fine b.marks) same (nothing_fine)
        where
          nothing_fine : Fine []
          nothing_fine = (tt, λ id low e. absurd (covers_nothing id low e))

  pub base_settled : (made : MadeBase) → Among made (epochs_after run done).made → (id : TxnId) → 1 ≤ id.seq → covers made.base.marks id ≡ true → SettledIn run done id
  unfolding Fine
  base_settled made a = (made_fine made.epoch made (omega arith) a).1

pub base_marks : Lower → MarksAreTrue → Always CountedAreGiven → BaseMarks
base_marks laws marks_true counted run legal done rest split made a id low e = base_settled laws marks_true counted run legal done rest split made a id low e
