-- The laws as they are stated.
use Rattle.std.proofs.Common.{◌≡◌, ◌<◌, ◌≤◌, ℕ, zero, suc, refl, arith, inl, inr, sym, ap, ◌∙◌, List, [], ◌∷◌, Option, Some, None, subst}
use Rattle.std.specs.Prelude.{is_some, ◌==◌}
use Rattle.std.proofs.lemmas.Bool.{eq-eqb, eqb-true, cases_lt}
use Rattle.mk_lists.specs.Among.{Among, Each}
use Rattle.mk_lists.proofs.Members.{Among-filter, Among-from_filter}
use Rattle.mk_quorum.specs.Sizes.{members}
use Rattle.mk_txn.specs.declared.TxnId.{TxnId}
use Rattle.mk_words.specs.Bases.{BaseState}
use Rattle.mk_words.specs.Promises.{PromiseState, highest_adopted, chosen, base_of}
use Rattle.mk_model.specs.EpochState.{EpochState, GivenPromise, MadeBase, promises_for, base_for}
use Rattle.mk_model.specs.Force.{source_of}
use Rattle.mk_epoch_laws.specs.Turns.{Always, AlwaysLater}
use Rattle.mk_epoch_laws.specs.WordLaws.{WordsBound, PhaseAndWord, AdoptedOnTop, AdoptsOnce, PromiseGap, OnePromiseEach, PromisersAreThere}
use Rattle.mk_epoch_laws.specs.BaseLaws.{IsMade, IsHeld, IsWellMade, BasesMade, BasesStay, BasesHeld, KeptGrows, CountedOf, CountedAreGiven, taken_for, counted_for}
use Rattle.mk_epoch_laws.specs.PathLaws.{EpochsInOrder, IsBuiltOn, down, PathsPass, PathsStay, outcome_in, AddsItsSource, PathsKeep, HeldStands, ForceInOrder, ForceInLine}
use Rattle.mk_epoch_laws.proofs.Extending.{keeps_promise, keeps_had, keeps_base_for, keeps_held, Extends, keeps_made, later_promises}
use Rattle.mk_epoch_laws.proofs.EpochFacts.{EpochFacts}
use Rattle.mk_epoch_laws.proofs.FactsKept.{given_of}
use Rattle.mk_epoch_laws.proofs.ReplicasKept.{base_made}
use Rattle.mk_epoch_laws.proofs.PromisesTaken.{chosen_stays, chosen_majority, chosen_distinct, chosen_leader, distinct-filter}
use Rattle.mk_epoch_laws.proofs.Resetting.{held_was_made}
use Rattle.mk_epoch_laws.proofs.Turning.{always, always_later}
use Rattle.mk_epoch_laws.proofs.Paths.{promiser_there, inside, taken_given, made_or_first, source_below, source_made, in_order, paths_pass, built_made, built_further, down_le, further_made, forced, force_under, at_most, source_zero}
use Rattle.mk_epoch_laws.proofs.SourceKept.{source_kept, counted_base}

pub words_bound : Always WordsBound
words_bound = always WordsBound (λ state h r replica at. ((h.each r replica at).had_below, (h.each r replica at).promised_below))

pub phase_and_word : Always PhaseAndWord
phase_and_word = always PhaseAndWord (λ state h r replica at. (h.each r replica at).phase_fits)

pub adopted_on_top : Always AdoptedOnTop
adopted_on_top = always AdoptedOnTop (λ state h r replica at there. ((h.each r replica at).had_own, (h.each r replica at).had_top there))

pub adopts_once : Always AdoptsOnce
adopts_once = always AdoptsOnce (λ state h. h.adopts_once)

pub promise_gap : Always PromiseGap
promise_gap = always PromiseGap (λ state h g a. ((h.given g a).lower, (h.given g a).had_then, (h.given g a).gap))

pub one_promise_each : Always OnePromiseEach
one_promise_each = always OnePromiseEach (λ state h. h.one_promise)

pub promisers_are_there : Always PromisersAreThere
promisers_are_there = always PromisersAreThere (λ state h. promiser_there state h)

pub bases_made : Always BasesMade
bases_made = always BasesMade (λ state h. record { well = λ m a. well state h m a; once = h.made_once })
  where
    well : (state : EpochState) → EpochFacts state → (m : MadeBase) → Among m state.made → IsWellMade state m
    well state h m a =
        let was = h.well m a in
        let ps = promises_for m.epoch state in
        let distinct = h.one_promise m.epoch in
        record {
          after_first = was.after_first;
          is_merged = was.is_merged;
          of_majority = chosen_majority state.faults m.epoch ps distinct was.could;
          of_different = chosen_distinct state.faults m.epoch ps distinct was.could;
          of_leader = chosen_leader state.faults m.epoch ps distinct was.could;
          on_earlier = source_below state h m a;
          on_made = source_made state h m a;
        }

-- the promises of a base stay
taken_stays : (early late : EpochState) → EpochFacts early → Extends early late → (m : MadeBase) → Among m early.made → taken_for late m.epoch ≡ taken_for early m.epoch
taken_stays early late h grown m a =
    let more = later_promises early late grown m.epoch in
    ap (λ (f : ℕ). chosen f m.epoch (promises_for m.epoch late)) grown.same_faults
    ∙ ap (chosen early.faults m.epoch) more.1
    ∙ chosen_stays early.faults m.epoch (promises_for m.epoch early) more.0 (h.one_promise m.epoch) (h.well m a).could

pub bases_stay : AlwaysLater BasesStay
bases_stay = always_later BasesStay (λ early late h k grown m a. (keeps_made early late grown m a, taken_stays early late h grown m a))

pub kept_grows : AlwaysLater KeptGrows
kept_grows = always_later KeptGrows (λ early late h k grown.
    record {
      same_faults = grown.same_faults;
      promises = keeps_promise early late grown;
      had = keeps_had early late grown;
      held = keeps_held early late grown;
      bases = keeps_base_for early late grown;
    })

pub counted_are_given : Always CountedAreGiven
counted_are_given = always CountedAreGiven (λ state h m a. counted state h m a)
  where
    counted : (state : EpochState) → EpochFacts state → (m : MadeBase) → Among m state.made → CountedOf state m
    counted state h m a =
        let may = (h.well m a).could in
        let ps = promises_for m.epoch state in
        let top = highest_adopted (chosen state.faults m.epoch ps) in
        record {
          of_replicas = record {
            different = distinct-filter (λ p. p.adopted == top) (chosen state.faults m.epoch ps) (chosen_distinct state.faults m.epoch ps (h.one_promise m.epoch) may);
            within = each_in (counted_for state m.epoch) (λ p b. inside state h m.epoch p (taken_given state h m.epoch p (Among-from_filter (λ q. q.adopted == top) p (chosen state.faults m.epoch ps) b).0 may));
          };
          source = λ p b. eqb-true p.adopted top (Among-from_filter (λ q. q.adopted == top) p (chosen state.faults m.epoch ps) b).1;
          all = λ p b same. Among-filter (λ q. q.adopted == top) p (chosen state.faults m.epoch ps) b (eq-eqb p.adopted top same);
          taken = λ p b. (Among-from_filter (λ q. q.adopted == top) p (chosen state.faults m.epoch ps) b).0;
          base = based (base_for (source_of state m.epoch) state) refl;
          given = λ p b. let g = given_of m.epoch state p (taken_given state h m.epoch p b may) in subst (λ (x : GivenPromise). Among x state.promises) (λ i. record { epoch = g.2 i; promise = g.3 i }) g.1;
          list = (h.well m a).is_merged;
        }
      where
        each_in : (qs : List PromiseState) → ((p : PromiseState) → Among p qs → p.replica < members state.faults) → Each (λ p. p.replica < members state.faults) qs
        each_in [] k = tt
        each_in (q ∷ qs) k = (k q (inl refl), each_in qs (λ p b. k p (inr b)))

        based : (o : Option BaseState) → base_for (source_of state m.epoch) state ≡ o → o ≡ Some (base_of (counted_for state m.epoch))
        based None k = absurd (cc (sym (ap is_some k) ∙ source_made state h m a))
        based (Some base) k = ap Some (sym (counted_base state h m a base k))

pub bases_held : Always BasesHeld
bases_held = always BasesHeld (λ state h.
    record {
      by_replica = λ r replica at. (h.each r replica at).own_base;
      by_adoption = λ a m. let k = h.was_made a m in ap is_some (base_made state h a.epoch k.0 k.1);
      by_promise = λ g a. (h.given g a).base_then;
    })

pub epochs_in_order : Always EpochsInOrder
epochs_in_order = always EpochsInOrder (λ state h. in_order state h)

pub paths_passing : Always PathsPass
paths_passing = always PathsPass (λ state h. paths_pass state h)

-- the source of a base that was made stays
source_stays : (early late : EpochState) → EpochFacts early → EpochFacts late → Extends early late → (e : ℕ) → IsMade early e → source_of late e ≡ source_of early e
source_stays early late h k grown e is = elim (made_or_first early e is) [
  | inl first ↦ ap (source_of late) first ∙ source_zero late k ∙ sym (source_zero early h) ∙ ap (source_of early) (sym first)
  | inr m ↦ subst (λ (n : ℕ). source_of late n ≡ source_of early n) m.2 (ap highest_adopted (taken_stays early late h grown m.0 m.1))
]

down_stays : (early late : EpochState) → EpochFacts early → EpochFacts late → Extends early late → (k e : ℕ) → IsMade early e → down late k e ≡ down early k e
down_stays early late h l grown zero e is = refl
down_stays early late h l grown (suc k) e is =
    ap (down late k) (source_stays early late h l grown e is) ∙ down_stays early late h l grown k (source_of early e) (further_made early h e is)

pub paths_stay : AlwaysLater PathsStay
paths_stay = always_later PathsStay (λ early late h k grown made other is on.
    let on_early : IsBuiltOn early made other = (on.0, sym (down_stays early late h k grown on.0 made is) ∙ on.1) in
    (built_made early h made other is on_early, on_early))

keeps_down : (state : EpochState) → EpochFacts state → (epoch_of : TxnId → ℕ) → AddsItsSource state epoch_of → (k made other : ℕ) (id : TxnId) → IsMade state made →
    down state k made ≡ other → epoch_of id < other → outcome_in state made id ≡ outcome_in state other id
keeps_down state h epoch_of adds zero made other id is on lt = ap (λ (n : ℕ). outcome_in state n id) on
keeps_down state h epoch_of adds (suc k) made other id is on lt = elim (at_most 0 made (omega arith)) [
  | inl first ↦ (let z = ap (source_of state) first ∙ source_zero state h in absurd (omega (arith, low, z)))
  | inr up ↦ source_kept state h epoch_of adds made is up id low ∙ keeps_down state h epoch_of adds k (source_of state made) other id (further_made state h made is) on lt
]
  where
    low : epoch_of id < source_of state made
    low = let le = down_le state h k (source_of state made) (further_made state h made is) in omega (arith, le, on, lt)

pub paths_keep_all : (state : EpochState) → EpochFacts state → PathsKeep state
paths_keep_all state h epoch_of adds made other id is on lt = keeps_down state h epoch_of adds on.0 made other id is on.1 lt

pub paths_keep : Always PathsKeep
paths_keep = always PathsKeep paths_keep_all

pub held_stands : Always HeldStands
held_stands = always HeldStands (λ state h epoch_of adds held made id holds is le lt. paths_keep_all state h epoch_of adds made held id is (paths_pass state h held made holds is le) lt)

pub force_in_order : AlwaysLater ForceInOrder
force_in_order = always_later ForceInOrder (λ early late h k grown e held force up holds lt.
    let late_holds = keeps_held early late grown held holds in
    let on = force_under late k e held force up late_holds lt in
    let is = held_was_made early h held holds in
    let on_early : IsBuiltOn early held e = (on.0, sym (down_stays early late h k grown on.0 held is) ∙ on.1) in
    (built_made early h held e is on_early, on_early))

-- two bases on the path of one that a majority adopted
half : (state : EpochState) → EpochFacts state → (epoch_of : TxnId → ℕ) → AddsItsSource state epoch_of → (one other : ℕ) (id : TxnId) →
    (f : (top : ℕ) × IsHeld state top × IsBuiltOn state top one) → (g : (top : ℕ) × IsHeld state top × IsBuiltOn state top other) → f.0 ≤ g.0 → epoch_of id < one → epoch_of id < other →
    outcome_in state one id ≡ outcome_in state other id
half state h epoch_of adds one other id f g le lt lt_other =
    let top_made = held_was_made state h g.0 g.1 in
    let on = built_further state h g.0 f.0 one (paths_pass state h f.0 g.0 f.1 top_made le) f.2 in
    sym (paths_keep_all state h epoch_of adds g.0 one id top_made on lt) ∙ paths_keep_all state h epoch_of adds g.0 other id top_made g.2 lt_other

pub force_in_line : Always ForceInLine
force_in_line = always ForceInLine (λ state h epoch_of adds one other id f g lt lt_other.
    let p = forced state h one f in
    let q = forced state h other g in
    elim (cases_lt q.0 p.0) [
      | inr le ↦ half state h epoch_of adds one other id p q le lt lt_other
      | inl over ↦ sym (half state h epoch_of adds other one id q p (omega (arith, over)) lt_other lt)
    ])
