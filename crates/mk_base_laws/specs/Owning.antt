-- Records have only entries of the epoch that their replica has.
use Rattle.std.specs.Prelude.{◌≡◌, ◌<◌, ℕ, false, List, ◌∷◌, ◌++◌, Some}
use Rattle.mk_txn.specs.declared.TxnId.{TxnId}
use Rattle.mk_words.specs.declared.Entry.{Entry}
use Rattle.mk_words.specs.Entries.{entry_of}
use Rattle.mk_words.specs.declared.GlobalEntry.{GlobalEntry}
use Rattle.mk_model.specs.ColumnState.{ColumnState, AttemptState, attempt_of, entries_at}
use Rattle.mk_model.specs.EpochState.{EpochState, ReplicaState}
use Rattle.mk_model.specs.GlobalAnswers.{lacks}
use Rattle.mk_epoch_laws.specs.WordLaws.{IsAt}
use Rattle.mk_history.specs.declared.RoundLog.{RoundLog}
use Rattle.mk_history.specs.Histories.{History}
use Rattle.mk_history.specs.Legality.{IsLegal}
use Rattle.mk_history.specs.Wholes.{column_of}
use Rattle.mk_run_laws.specs.Ends.{whole_within}

-- the replica has a state, and the attempt is of its epoch
pub record IsOfItsEpoch (epochs : EpochState) (column : ColumnState) (r : ℕ) (id : TxnId) : Type 0 where
  pub replica : ReplicaState
  pub at : IsAt epochs r replica
  pub has_state : lacks replica.phase ≡ false
  pub attempt : AttemptState
  pub found : attempt_of column id ≡ Some attempt
  pub same_epoch : attempt.epoch ≡ replica.adopted

-- every entry of a record is so
abbrev pub IsOwned : EpochState → ColumnState → Type 0
IsOwned epochs column = (r : ℕ) (id : TxnId) (entry : Entry) → entry_of id (entries_at column r) ≡ Some entry → IsOfItsEpoch epochs column r id

-- and that before each global line of a round, and at its end
abbrev pub RecordsAreOfTheEpoch : Type 0
RecordsAreOfTheEpoch =
    (run : History) → IsLegal run → (done rest : List RoundLog) (round : RoundLog) → run.rounds ≡ done ++ round ∷ rest →
    (lines more : List GlobalEntry) → round.globals ≡ lines ++ more → (c : ℕ) → c < run.columns →
    IsOwned (whole_within run done round lines).epochs (column_of (whole_within run done round lines) c)
