-- Why an attempt is aborted: a cause names what it says that there is.
use Rattle.std.specs.Prelude.{◌≡◌, ℕ, Some}
use Rattle.mk_txn.specs.declared.TxnId.{TxnId}
use Rattle.mk_txn.specs.declared.Cause.TheVariants.{Conflict as ByConflict, Takeover as ByTakeover, Epoch as ByEpoch}
use Rattle.mk_txn.specs.declared.Vote.TheVariants.{Abort as VoteAbort}
use Rattle.mk_txn.specs.declared.Outcome.{Outcome}
use Rattle.mk_txn.specs.declared.Outcome.TheVariants.{Commit, Abort}
use Rattle.mk_model.specs.ColumnState.{TakeoverOf, takeover_of}
use Rattle.mk_model.specs.Deciding.{IsDecided}
use Rattle.mk_model.specs.Sending.{Proposed}
use Rattle.mk_column_laws.specs.Moments.{Moment, PastEntry}
use Rattle.mk_column_laws.specs.Laws.{AlwaysHolds}

-- a conflict was voted by a replica; a takeover is there and has proposed so; and an epoch is no cause within a column
abbrev pub IsCausedBy : Moment → TxnId → Outcome → Type 0
IsCausedBy m id Commit = Unit {0}
IsCausedBy m id (Abort (ByConflict conflict)) =
    (r : ℕ) × (entry : PastEntry) × (round : ℕ) × (m.past.entries r id ≡ Some entry) × (entry.vote ≡ Some (VoteAbort conflict, round))
IsCausedBy m id (Abort (ByTakeover view)) =
    (t : TakeoverOf) × (takeover_of m.column id view ≡ Some t) × (t.state.proposed ≡ Some (Abort (ByTakeover view)))
IsCausedBy m id (Abort (ByEpoch epoch)) = ⊥

-- what is proposed and what is decided has the cause that it names
pub record CausesOf (m : Moment) (id : TxnId) : Type 0 where
  pub proposed : (view : ℕ) (outcome : Outcome) → Proposed m.column.link id view outcome → IsCausedBy m id outcome
  pub decided : (outcome : Outcome) → IsDecided m.round.faults m.column id outcome → IsCausedBy m id outcome

abbrev pub CausesAreTrue : Type 0
CausesAreTrue = AlwaysHolds (λ taught m. (id : TxnId) → CausesOf m id)
