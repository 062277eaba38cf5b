-- Where no epoch changes, everything that is learned is decided, and agrees.
use Rattle.std.proofs.Common.{◌≡◌, ℕ, false, refl, arith, inl, inr, sym, subst, List, [], ◌∷◌, ◌||◌, ◌&&◌}
use Rattle.mk_txn.specs.declared.TxnId.{TxnId}
use Rattle.mk_txn.specs.declared.Outcome.{Outcome}
use Rattle.mk_column_laws.specs.Moments.{Moment, Event, Taught, StaysTaught, EachHappens, CanHappen, IsReached, after_event, moment_through, first_moment, has_number}
use Rattle.mk_column_laws.specs.Moments.Event.{NewRound, Doing}
use Rattle.mk_model.specs.Deciding.{IsDecided}
use Rattle.mk_column_laws.specs.Facts.{IsBacked}
use Rattle.mk_column_laws.specs.FirstEpoch.{InFirstEpoch, EachInFirstEpoch, OneDecisionInFirstEpoch, LearningsAreDecided, LearningsAgree}
use Rattle.mk_column_laws.proofs.Rounds.{reached_facts}
use Rattle.mk_column_laws.proofs.TheLaws.{decisions_agree}

-- nothing is ever taught
abbrev nothing_taught : Taught
nothing_taught = λ id epoch outcome round. false

nothing_stays : StaysTaught nothing_taught
nothing_stays id epoch o i j le e = e

-- no replica was reset
abbrev NoneLeft : Moment → Type 0
NoneLeft m = (r epoch : ℕ) → m.past.has_left r epoch ≡ false

none_left : (m : Moment) → NoneLeft m → (event : Event) → InFirstEpoch event m → NoneLeft (after_event event m)
none_left m none (Doing step) can r epoch = none r epoch
none_left m none (NewRound views resets) can r epoch =
    subst (λ (l : List ℕ). (m.past.has_left r epoch || (has_number l r && m.past.ever_served r epoch)) ≡ false) (sym can.1) (let k = none r epoch in grind (arith, k))

happens : (m : Moment) → NoneLeft m → (event : Event) → InFirstEpoch event m → CanHappen nothing_taught event m
happens m none (Doing step) can = can
happens m none (NewRound views resets) can =
    record {
      idle = can.0;
      tenure = λ r epoch e. none_left m none (NewRound views resets) can r epoch;
      teaches = λ r view id epoch o is p lt k. absurd (let zero_epoch = can.2 r view is in omega (arith, zero_epoch, lt));
    }

each_happens : (m : Moment) → NoneLeft m → (events : List Event) → EachInFirstEpoch m events → EachHappens nothing_taught m events
each_happens m none [] can = tt
each_happens m none (event ∷ events) can =
    (happens m none event can.0, each_happens (after_event event m) (none_left m none event can.0) events can.1)

reached : (version f keys : ℕ) (clients : List ℕ) (events : List Event) → EachInFirstEpoch (first_moment version f keys clients) events →
    IsReached nothing_taught (moment_through (first_moment version f keys clients) events)
reached version f keys clients events can =
    record {
      version = version;
      faults = f;
      keys = keys;
      clients = clients;
      events = events;
      happens = each_happens (first_moment version f keys clients) (λ r epoch. refl) events can;
      leads = refl;
    }

pub one_decision_in_first_epoch : OneDecisionInFirstEpoch
one_decision_in_first_epoch version f keys clients events can id o p d e =
    let m = moment_through (first_moment version f keys clients) events in
    decisions_agree nothing_taught m (reached_facts nothing_taught nothing_stays m (reached version f keys clients events can)) id o p d e

decided_from : (m : Moment) (id : TxnId) (o : Outcome) → IsBacked nothing_taught m id o m.past.now → IsDecided m.round.faults m.column id o
decided_from m id o (inl d) = d.0
decided_from m id o (inr t) = absurd (cc t.2)

pub learnings_are_decided : LearningsAreDecided
learnings_are_decided version f keys clients events can l a =
    let m = moment_through (first_moment version f keys clients) events in
    decided_from m l.id l.outcome ((reached_facts nothing_taught nothing_stays m (reached version f keys clients events can)).learnings l a)

pub learnings_agree : LearningsAgree
learnings_agree version f keys clients events can a b p q same =
    let m = moment_through (first_moment version f keys clients) events in
    let d = learnings_are_decided version f keys clients events can a p in
    let e = learnings_are_decided version f keys clients events can b q in
    one_decision_in_first_epoch version f keys clients events can a.id a.outcome b.outcome d (subst (λ (x : TxnId). IsDecided m.round.faults m.column x b.outcome) (sym same) e)
