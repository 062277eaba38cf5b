-- A promise hands in the whole history of its replica's time in an epoch: nothing is added to it later.
use Rattle.std.specs.Prelude.{◌≡◌, ◌<◌, ℕ, List, ◌++◌, Some, option_map}
use Rattle.mk_lists.specs.Among.{Among}
use Rattle.mk_txn.specs.declared.TxnId.{TxnId}
use Rattle.mk_words.specs.declared.Entry.{Entry}
use Rattle.mk_words.specs.Entries.{entry_of}
use Rattle.mk_model.specs.ColumnState.{AttemptState, attempt_of}
use Rattle.mk_column_laws.specs.Moves.{entry_of_past}
use Rattle.mk_model.specs.EpochState.{GivenPromise}
use Rattle.mk_history.specs.declared.RoundLog.{RoundLog}
use Rattle.mk_history.specs.Histories.{History}
use Rattle.mk_history.specs.Legality.{IsLegal}
use Rattle.mk_run_laws.specs.RunEvents.{moment_of}
use Rattle.mk_run_laws.specs.Ends.{epochs_after, last_moment}

-- what the promise hands in of an attempt is all that its replica remembers of it after these rounds, and at the end of the run
pub record IsFrozen (run : History) (done : List RoundLog) (given : GivenPromise) (c : ℕ) (id : TxnId) : Type 0 where
  pub handed : entry_of id given.promise.entries ≡ option_map entry_of_past ((moment_of run c done).past.entries given.promise.replica id)
  pub stays : (last_moment run c).past.entries given.promise.replica id ≡ (moment_of run c done).past.entries given.promise.replica id

-- so of each attempt of the epoch that the promise names
abbrev pub PromisesFreeze : Type 0
PromisesFreeze =
    (run : History) → IsLegal run → (done rest : List RoundLog) → run.rounds ≡ done ++ rest → (given : GivenPromise) →
    Among given (epochs_after run done).promises → (c : ℕ) → c < run.columns → (id : TxnId) (a : AttemptState) →
    attempt_of (last_moment run c).column id ≡ Some a → a.epoch ≡ given.promise.adopted → IsFrozen run done given c id

-- what the promise hands in is of an attempt of the epoch that it names, with the attempt's transaction
pub record IsPromisedOf (run : History) (given : GivenPromise) (entry : Entry) : Type 0 where
  pub column : ℕ
  pub in_run : column < run.columns
  pub attempt : AttemptState
  pub found : attempt_of (last_moment run column).column entry.txn.id ≡ Some attempt
  pub stamped : attempt.txn ≡ Some entry.txn
  pub same_epoch : attempt.epoch ≡ given.promise.adopted
  pub handed : entry_of entry.txn.id given.promise.entries ≡ Some entry

abbrev pub PromisedAreOfEpoch : Type 0
PromisedAreOfEpoch =
    (run : History) → IsLegal run → (done rest : List RoundLog) → run.rounds ≡ done ++ rest → (given : GivenPromise) →
    Among given (epochs_after run done).promises → (entry : Entry) → Among entry given.promise.entries → IsPromisedOf run given entry
