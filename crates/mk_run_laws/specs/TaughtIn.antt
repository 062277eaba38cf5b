-- What the entered epochs of a run have taught, as a test that columns can go by.
use Rattle.std.specs.Prelude.{ℕ, Bool, true, false, ◌&&◌, ◌==◌, nat_lt}
use Rattle.std.specs.List.{list_any}
use Rattle.mk_txn.specs.declared.TxnId.{TxnId}
use Rattle.mk_txn.specs.Stamps.{same_stamp}
use Rattle.mk_txn.specs.declared.Reason.{Reason}
use Rattle.mk_txn.specs.declared.Reason.TheVariants.{ReadStale, ReadPending, WriteLate, WritePending}
use Rattle.mk_txn.specs.declared.Conflict.{Conflict}
use Rattle.mk_txn.specs.declared.Cause.{Cause}
use Rattle.mk_txn.specs.declared.Cause.TheVariants.{Conflict as ByConflict, Takeover as ByTakeover, Epoch as ByEpoch}
use Rattle.mk_txn.specs.declared.Outcome.{Outcome}
use Rattle.mk_txn.specs.declared.Outcome.TheVariants.{Commit, Abort}
use Rattle.mk_quorum.specs.Slots.{passes}
use Rattle.mk_model.specs.EpochState.{MadeBase}
use Rattle.mk_column_laws.specs.Moments.{Taught}
use Rattle.mk_history.specs.Histories.{History}
use Rattle.mk_history.specs.Wholes.{last_state}
use Rattle.mk_history.specs.Teaching.{entered_round, stands_in}

-- the two reasons are one
abbrev pub is_same_reason : Reason → Reason → Bool
is_same_reason a b = number a == number b
  where
    number : Reason → ℕ
    number ReadStale = 0
    number ReadPending = 1
    number WriteLate = 2
    number WritePending = 3

-- the two conflicts are one
abbrev pub is_same_conflict : Conflict → Conflict → Bool
is_same_conflict a b = a.key == b.key && is_same_reason a.reason b.reason && same_stamp a.stamp b.stamp

-- the two causes are one
abbrev pub is_same_cause : Cause → Cause → Bool
is_same_cause (ByConflict a) (ByConflict b) = is_same_conflict a b
is_same_cause (ByTakeover a) (ByTakeover b) = a == b
is_same_cause (ByEpoch a) (ByEpoch b) = a == b
is_same_cause _ _ = false

-- the two outcomes are one, with their causes
abbrev pub is_same_outcome : Outcome → Outcome → Bool
is_same_outcome Commit Commit = true
is_same_outcome (Abort a) (Abort b) = is_same_cause a b
is_same_outcome Commit (Abort b) = false
is_same_outcome (Abort a) Commit = false

-- the epoch was entered before this round
abbrev pub was_entered : History → ℕ → ℕ → Bool
was_entered run epoch round = passes (λ i. nat_lt i round) (entered_round run epoch)

-- the base teaches an attempt of this epoch this outcome before this round: it is of a later epoch, which was entered
-- before, and makes that of the attempt
abbrev pub teaches : History → TxnId → ℕ → Outcome → ℕ → MadeBase → Bool
teaches run id epoch outcome round made =
    nat_lt epoch made.epoch && was_entered run made.epoch round && is_same_outcome (stands_in made.base made.epoch id) outcome

-- some base that was made in the run teaches it
abbrev pub taught_in : History → Taught
taught_in run = λ id epoch outcome round. list_any (teaches run id epoch outcome round) (last_state run).epochs.made
