-- What there is of bases: from the laws of epoch changes.
use Rattle.std.proofs.Common.{◌≡◌, ◌⊎◌, ◌≤◌, ◌<◌, ℕ, zero, suc, Bool, true, false, refl, arith, inl, inr, sym, ap, ◌∙◌, List, [], ◌∷◌, Option, Some, None, subst, ◌==◌, ◌||◌}
use Rattle.std.specs.Prelude.{is_some, map, option_and_then}
use Rattle.std.specs.List.{list_any}
use Rattle.std.proofs.lemmas.List.{length-map}
use Rattle.std.proofs.lemmas.Bool.{eq-eqb, eqb-true}
use Rattle.std.proofs.lemmas.Option.{same_Some}
use Rattle.mk_lists.specs.Among.{Among, Each}
use Rattle.mk_lists.proofs.Tests.{Among-from_list_any, list_any-from_Among}
use Rattle.mk_txn.specs.declared.TxnId.{TxnId}
use Rattle.mk_txn.specs.declared.Outcome.{Outcome}
use Rattle.mk_txn.specs.declared.Outcome.TheVariants.{Commit}
use Rattle.mk_txn.specs.Clashes.{conflict}
use Rattle.mk_txn.specs.Outcomes.{is_commit}
use Rattle.mk_words.specs.declared.Entry.{Entry}
use Rattle.mk_quorum.specs.Counts.{count_below}
use Rattle.mk_quorum.specs.Sizes.{members, majority_of, hint_of}
use Rattle.mk_quorum.specs.Slots.{passes}
use Rattle.mk_quorum.proofs.Counting.{count_below-same}
use Rattle.mk_words.specs.declared.Fated.{Fated}
use Rattle.mk_words.specs.Bases.{BaseState, fate_in}
use Rattle.mk_words.specs.Promises.{PromiseState, base_of}
use Rattle.mk_words.specs.Merging.{merged_from}
use Rattle.mk_merge_laws.specs.Composition.{IsNew, made_fate, OldFatesStay}
use Rattle.mk_basic_laws.specs.Meetings.{ListCounts}
use Rattle.mk_model.specs.EpochState.{EpochState, MadeBase, first_epochs, base_for}
use Rattle.mk_model.specs.Force.{InForce, source_of}
use Rattle.mk_epoch_laws.specs.Turns.{GlobalTurn, after_turns, EachAnswered, Always}
use Rattle.mk_epoch_laws.specs.WordLaws.{EverHad, PromiseGap, PromisersAreThere}
use Rattle.mk_epoch_laws.specs.BaseLaws.{IsMade, IsWellMade, BasesMade, CountedOf, CountedAreGiven, taken_for, counted_for}
use Rattle.mk_epoch_laws.specs.PathLaws.{down, PathsPass, outcome_in, AddsItsSource, ForceInLine}
use Rattle.mk_epoch_laws.proofs.EpochFacts.{EpochFacts}
use Rattle.mk_epoch_laws.proofs.PromisesTaken.{highest_above}
use Rattle.mk_epoch_laws.proofs.FactsKept.{facts_first}
use Rattle.mk_epoch_laws.proofs.Turning.{facts_turns}
use Rattle.mk_epoch_laws.proofs.Paths.{at_most, made_or_first, source_zero, below, further_made, down_le, force_made}
use Rattle.mk_fate_laws.specs.Composing.{has_promise, AreHandedIn, IsOpen, counted_oks, Composed, OutcomesAreComposed, TakenFit}
use Rattle.mk_fate_laws.specs.InBases.{commits_at, PathsGive, ForceGives, is_taken, is_counted, PromisersOf, PromisersCount, BasesAreComposed, OutcomesInBases, TakenFitInBases}

is_commit-tells : (x : Option Outcome) → passes is_commit x ≡ true → (o : Outcome) × (x ≡ Some o)
is_commit-tells None e = absurd (cc e)
is_commit-tells (Some o) e = (o, refl)

-- ---- paths

module _ (state : EpochState) (h : EpochFacts state) where
  abbrev source : ℕ → ℕ
  source = source_of state

  source_in_force : (e : ℕ) → InForce state e → InForce state (source e)
  source_in_force e (inl first) = inl (ap source first ∙ source_zero state h)
  source_in_force e (inr (path, leads)) = inr (e ∷ path, (refl, leads))

  -- the member of a path just above one that is below
  before : (k e held : ℕ) → InForce state e → down state k e ≡ held → held < e → (m : ℕ) × InForce state m × (0 < m) × (source m ≡ held)
  before zero e held force on lt = absurd (omega (arith, on, lt))
  before (suc k) e held force on lt =
      let le = down_le state h k (source e) (further_made state h e (force_made state h e force)) in
      elim (at_most held (source e) (omega (arith, le, on))) [
        | inl same ↦ (e, force, omega (arith, lt), same)
        | inr up ↦ before k (source e) held (source_in_force e force) on up
      ]

  abbrev BaseAt : ℕ → Type 0
  BaseAt e = (m : MadeBase) × Among m state.made × (m.epoch ≡ e) × (base_for e state ≡ Some m.base)

  -- the base that an epoch above the first has
  base_at : (e : ℕ) → IsMade state e → 0 < e → BaseAt e
  base_at e is up = elim (made_or_first state e is) [
    | inl first ↦ absurd (omega (arith, first, up))
    | inr m ↦ m
  ]

  module _ (counted : CountedAreGiven state) where
    counted_at : (e : ℕ) → (m : BaseAt e) → CountedOf state (record { epoch = e; base = m.0.base })
    counted_at e m = subst (λ (n : ℕ). CountedOf state (record { epoch = n; base = m.0.base })) m.2 (counted m.0 m.1)

    base_composed : (e : ℕ) → IsMade state e → 0 < e → base_for e state ≡ Some (merged_from state.faults e (counted_for state e))
    base_composed e is up = let m = base_at e is up in m.3 ∙ ap Some (counted_at e m).list

    says_made : (e : ℕ) (id : TxnId) → IsMade state e → 0 < e → outcome_in state e id ≡ made_fate state.faults e (counted_for state e) id
    says_made e id is up = ap (option_and_then (λ (b : BaseState). fate_in id b.list)) (base_composed e is up)

    says_below : (e : ℕ) (id : TxnId) → IsMade state e → 0 < e → outcome_in state (source e) id ≡ fate_in id (base_of (counted_for state e)).list
    says_below e id is up = ap (option_and_then (λ (b : BaseState). fate_in id b.list)) (counted_at e (base_at e is up)).base

    module _ (epoch_of : TxnId → ℕ) (adds : AddsItsSource state epoch_of) where
      listed_within : (limit e : ℕ) (id : TxnId) → e ≤ limit → IsMade state e → is_some (outcome_in state e id) ≡ true → epoch_of id < e
      listed_within limit zero id small is some = absurd (cc some)
      listed_within zero (suc e) id small is some = absurd (omega (arith, small))
      listed_within (suc limit) (suc e) id small is some =
          let lower = below state h (suc e) is (omega arith) in
          elim (adds (suc e) id is (omega arith) some) [
            | inl old ↦ (let low = listed_within limit (source (suc e)) id (omega (arith, lower, small)) (further_made state h (suc e) is) old in omega (arith, low, lower))
            | inr same ↦ omega (arith, same, lower)
          ]

      listed : (e : ℕ) (id : TxnId) → IsMade state e → is_some (outcome_in state e id) ≡ true → epoch_of id < e
      listed e id is some = listed_within e e id (omega arith) is some

      -- an attempt of the source's epoch is new
      new_at : (e : ℕ) (id : TxnId) → IsMade state e → 0 < e → epoch_of id ≡ source e → IsNew (counted_for state e) id
      new_at e id is up same = sym (says_below e id is up) ∙ by (outcome_in state (source e) id) refl
        where
          by : (x : Option Outcome) → outcome_in state (source e) id ≡ x → outcome_in state (source e) id ≡ None
          by None k = k
          by (Some o) k = absurd (let low = listed (source e) id (further_made state h e is) (ap is_some k) in omega (arith, low, same))

      from_below : ((epoch : ℕ) (ps : List PromiseState) → OldFatesStay state.faults epoch ps) → (e : ℕ) (id : TxnId) → IsMade state e → 0 < e → commits_at state e id ≡ true →
          (commits_at state (source e) id ≡ true) ⊎ (epoch_of id ≡ source e)
      from_below old_stay e id is up commits =
          let k = is_commit-tells (outcome_in state e id) commits in
          elim (adds e id is up (ap is_some k.1)) [
            | inl old ↦ inl (by (outcome_in state (source e) id) refl old)
            | inr same ↦ inr same
          ]
        where
          by : (x : Option Outcome) → outcome_in state (source e) id ≡ x → is_some x ≡ true → commits_at state (source e) id ≡ true
          by None k some = absurd (cc some)
          by (Some o) k some =
              let there = says_made e id is up ∙ old_stay e (counted_for state e) id o (sym (says_below e id is up) ∙ k) in
              ap (passes is_commit) (k ∙ sym there) ∙ commits

      paths_give : PathsPass state → ForceInLine state → ((f epoch : ℕ) (ps : List PromiseState) → OldFatesStay f epoch ps) → PathsGive state epoch_of
      paths_give pass in_line old_stay =
          record {
            made = force_made state h;
            below = λ e force up. below state h e (force_made state h e force) up;
            source_force = source_in_force;
            listed_below = listed;
            line = λ one other id p q low high. ap (passes is_commit) (in_line epoch_of adds one other id p q low high);
            under = λ e held force holds lt. let on = pass held e holds (force_made state h e force) (omega (arith, lt)) in before on.0 e held force on.1 lt;
            commits_from = from_below (old_stay state.faults);
          }

-- ---- promisers

-- the numbers of the replicas of promises
abbrev replicas_in : List PromiseState → List ℕ
replicas_in ps = map (λ (p : PromiseState). p.replica) ps

promise-number : (ps : List PromiseState) (r : ℕ) → list_any (λ (x : ℕ). x == r) (replicas_in ps) ≡ has_promise ps r
promise-number [] r = refl
promise-number (p ∷ ps) r = ap (λ (b : Bool). (p.replica == r) || b) (promise-number ps r)

promise_of : (ps : List PromiseState) (r : ℕ) → has_promise ps r ≡ true → (p : PromiseState) × Among p ps × (p.replica ≡ r)
promise_of ps r e = let k = Among-from_list_any (λ (p : PromiseState). p.replica == r) ps e in (k.0, k.1, eqb-true k.0.replica r k.2)

promise_there : (ps : List PromiseState) (r : ℕ) (p : PromiseState) → Among p ps → p.replica ≡ r → has_promise ps r ≡ true
promise_there ps r p a same = list_any-from_Among (λ (q : PromiseState). q.replica == r) ps p a (eq-eqb p.replica r same)

module _ (state : EpochState) (h : EpochFacts state) (made : BasesMade state) (counted : CountedAreGiven state) (gap : PromiseGap state) (there : PromisersAreThere state) (count : ListCounts)
    (e : ℕ) (is : IsMade state e) (up : 0 < e) where
  m : BaseAt state h e
  m = base_at state h e is up

  c : CountedOf state (record { epoch = e; base = m.0.base })
  c = counted_at state h counted e m

  well : IsWellMade state (record { epoch = e; base = m.0.base })
  well = subst (λ (n : ℕ). IsWellMade state (record { epoch = n; base = m.0.base })) m.2 (made.well m.0 m.1)

  all_there : (ps : List PromiseState) → ((p : PromiseState) → Among p ps → p.replica < members state.faults) → Each (λ (x : ℕ). x < members state.faults) (replicas_in ps)
  all_there [] k = tt
  all_there (p ∷ ps) k = (k p (inl refl), all_there ps (λ q a. k q (inr a)))

  majority_is : count_below (members state.faults) (is_taken state e) ≡ majority_of state.faults
  majority_is =
      let ps = taken_for state e in
      count_below-same (members state.faults) (is_taken state e) (λ r. list_any (λ (x : ℕ). x == r) (replicas_in ps)) (λ r lt. sym (promise-number ps r))
      ∙ count (members state.faults) (replicas_in ps) well.of_different (all_there ps (λ p a. there (record { epoch = e; promise = p }) (c.given p a)))
      ∙ length-map ps (λ (p : PromiseState). p.replica)
      ∙ well.of_majority

  sees_it : (r : ℕ) → is_taken state e r ≡ true → EverHad state r (source_of state e) → is_counted state e r ≡ true
  sees_it r taken had =
      let p = promise_of (taken_for state e) r taken in
      let g = c.given p.0 p.1 in
      let top = highest_above p.0 (taken_for state e) p.1 in
      let low = well.on_earlier in
      elim ((gap (record { epoch = e; promise = p.0 }) g).2 (source_of state e) (subst (λ (n : ℕ). EverHad state n (source_of state e)) (sym p.2) had)) [
        | inl knew ↦ promise_there (counted_for state e) r p.0 (c.all p.0 p.1 (omega (arith, knew, top))) p.2
        | inr above ↦ absurd (omega (arith, above, low))
      ]

  promisers_of : PromisersOf state e
  promisers_of =
      record {
        majority = majority_is;
        counted = λ r k. let p = promise_of (counted_for state e) r k in promise_there (taken_for state e) r p.0 (c.taken p.0 p.1) p.2;
        sees = sees_it;
        given = λ p a. (c.given p (c.taken p a), c.source p a);
        each = λ r k. promise_of (counted_for state e) r k;
      }

-- ---- outcomes

module _ (state : EpochState) (h : EpochFacts state) (counted : CountedAreGiven state) (epoch_of : TxnId → ℕ) (adds : AddsItsSource state epoch_of)
    (e : ℕ) (id : TxnId) (up : 0 < e) (same : epoch_of id ≡ source_of state e) (has : ℕ → Option Entry) (handed : AreHandedIn (counted_for state e) id has) where
  outcome_composed : OutcomesAreComposed → IsMade state e → Composed state.faults e (counted_for state e) id has
  outcome_composed composed is =
      composed state.faults e (counted_for state e) (counted_at state h counted e (base_at state h e is up)).of_replicas id (new_at state h counted epoch_of adds e id is up same) has handed

  outcome_fits : TakenFit → IsOpen (counted_for state e) has → hint_of state.faults ≤ counted_oks state.faults (counted_for state e) has →
      (base : BaseState) → base_for e state ≡ Some base → (taken other : Fated) → Among taken base.list → taken.txn.id ≡ id → taken.outcome ≡ Commit →
      Among other base.list → other.outcome ≡ Commit → conflict taken.txn other.txn ≡ false
  outcome_fits fit open_still hinted base there x y a of_id commits b also =
      let is : IsMade state e = ap is_some there in
      let k = base_at state h e is up in
      let list : base ≡ merged_from state.faults e (counted_for state e) = same_Some base (merged_from state.faults e (counted_for state e)) (sym there ∙ k.3 ∙ ap Some (counted_at state h counted e k).list) in
      let at = λ (z : Fated) (i : Among z base.list). subst (λ (s : BaseState). Among z s.list) list i in
      fit state.faults e (counted_for state e) (counted_at state h counted e k).of_replicas id (new_at state h counted epoch_of adds e id is up same) has handed open_still hinted x y (at x a) of_id commits (at y b) also

-- ---- as they are stated

reached : (f : ℕ) (turns : List GlobalTurn) → EachAnswered (first_epochs f) turns → EpochFacts (after_turns (first_epochs f) turns)
reached f turns answered = facts_turns (first_epochs f) (facts_first f) turns answered

pub force_gives : Always CountedAreGiven → Always PathsPass → Always ForceInLine → ((f epoch : ℕ) (ps : List PromiseState) → OldFatesStay f epoch ps) → Always ForceGives
force_gives counted pass in_line old_stay f turns answered epoch_of adds =
    paths_give (after_turns (first_epochs f) turns) (reached f turns answered) (counted f turns answered) epoch_of adds (pass f turns answered) (in_line f turns answered) old_stay

pub promisers_count : Always BasesMade → Always CountedAreGiven → Always PromiseGap → Always PromisersAreThere → ListCounts → Always PromisersCount
promisers_count made counted gap there count f turns answered epoch is up =
    promisers_of (after_turns (first_epochs f) turns) (reached f turns answered) (made f turns answered) (counted f turns answered) (gap f turns answered) (there f turns answered) count epoch is up

pub bases_are_composed : Always CountedAreGiven → Always BasesAreComposed
bases_are_composed counted f turns answered epoch is up = base_composed (after_turns (first_epochs f) turns) (reached f turns answered) (counted f turns answered) epoch is up

pub outcomes_in_bases : Always CountedAreGiven → OutcomesAreComposed → Always OutcomesInBases
outcomes_in_bases counted composed f turns answered epoch_of adds epoch id is up same has handed =
    outcome_composed (after_turns (first_epochs f) turns) (reached f turns answered) (counted f turns answered) epoch_of adds epoch id up same has handed composed is

pub taken_fit_in_bases : Always CountedAreGiven → TakenFit → Always TakenFitInBases
taken_fit_in_bases counted fit f turns answered epoch_of adds epoch id up same has handed open_still hinted base there x y a of_id commits b also =
    outcome_fits (after_turns (first_epochs f) turns) (reached f turns answered) (counted f turns answered) epoch_of adds epoch id up same has handed fit open_still hinted base there x y a of_id commits b also
