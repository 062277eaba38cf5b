-- Runs in which no epoch changes: every view is of epoch 0, and no replica is reset.
use Rattle.std.specs.Prelude.{◌≡◌, ℕ, true, List, [], ◌∷◌, Some, None, slice_get}
use Rattle.mk_lists.specs.Among.{Among}
use Rattle.mk_txn.specs.declared.TxnId.{TxnId}
use Rattle.mk_txn.specs.declared.Outcome.{Outcome}
use Rattle.mk_txn.specs.Outcomes.{agrees}
use Rattle.mk_trim.specs.declared.ReplicaView.{ReplicaView}
use Rattle.mk_model.specs.ColumnState.{Learning}
use Rattle.mk_model.specs.ColumnState.Work.{Idle}
use Rattle.mk_model.specs.Conditions.{blocked}
use Rattle.mk_column_laws.specs.Moments.{Moment, Event, after_event, moment_through, first_moment}
use Rattle.mk_column_laws.specs.Moments.Event.{NewRound, Doing}
use Rattle.mk_model.specs.Deciding.{IsDecided}

-- the event can happen, and stays in epoch 0
abbrev pub InFirstEpoch : Event → Moment → Type 0
InFirstEpoch (NewRound views resets) m =
    (m.column.work ≡ Idle) × (resets ≡ []) × ((r : ℕ) (view : ReplicaView) → slice_get views r ≡ Some view → view.epoch ≡ 0)
InFirstEpoch (Doing step) m = blocked m.round m.column step ≡ None

-- each event in its turn
abbrev pub EachInFirstEpoch : Moment → List Event → Type 0
EachInFirstEpoch m [] = Unit {0}
EachInFirstEpoch m (event ∷ events) = InFirstEpoch event m × EachInFirstEpoch (after_event event m) events

-- P holds after all such events
abbrev pub HoldsInFirstEpoch : (Moment → Type 0) → Type 0
HoldsInFirstEpoch P =
    (version faults keys : ℕ) (clients : List ℕ) (events : List Event) → EachInFirstEpoch (first_moment version faults keys clients) events →
    P (moment_through (first_moment version faults keys clients) events)

-- two decided outcomes of an attempt are both commits or both aborts
abbrev pub OneDecisionInFirstEpoch : Type 0
OneDecisionInFirstEpoch =
    HoldsInFirstEpoch (λ m. (id : TxnId) (one other : Outcome) → IsDecided m.round.faults m.column id one → IsDecided m.round.faults m.column id other → agrees one other ≡ true)

-- everything that is learned is decided
abbrev pub LearningsAreDecided : Type 0
LearningsAreDecided = HoldsInFirstEpoch (λ m. (l : Learning) → Among l m.column.learned → IsDecided m.round.faults m.column l.id l.outcome)

-- so all that is learned of an attempt agrees
abbrev pub LearningsAgree : Type 0
LearningsAgree = HoldsInFirstEpoch (λ m. (a b : Learning) → Among a m.column.learned → Among b m.column.learned → a.id ≡ b.id → agrees a.outcome b.outcome ≡ true)
