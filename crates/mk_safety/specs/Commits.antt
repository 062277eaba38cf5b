-- What is learned to commit in a run, and what it read.
use Rattle.std.specs.Prelude.{◌≡◌, ◌⊎◌, ◌<◌, ℕ, Bool, false, Some, filter}
use Rattle.mk_lists.specs.Among.{Among}
use Rattle.mk_txn.specs.declared.TxnId.{TxnId}
use Rattle.mk_txn.specs.declared.Outcome.TheVariants.{Commit}
use Rattle.mk_txn.specs.declared.ReadItem.{ReadItem}
use Rattle.mk_txn.specs.declared.WriteItem.{WriteItem}
use Rattle.mk_txn.specs.Stamps.{zero_stamp}
use Rattle.mk_txn.specs.Clashes.{clashes}
use Rattle.mk_txn.specs.Transactions.{Transaction, initial_value}
use Rattle.mk_model.specs.OneCopy.{HaveDistinctStamps}
use Rattle.mk_model.specs.Explained.{IsExplained}
use Rattle.mk_model.specs.ColumnState.{AttemptState, attempt_of}
use Rattle.mk_history.specs.Histories.{History}
use Rattle.mk_history.specs.Learning.{commits}
use Rattle.mk_history.specs.Legality.{IsLegal}
use Rattle.mk_history.specs.Shape.{HasShape}
use Rattle.mk_run_laws.specs.Ends.{last_moment}
use Rattle.mk_run_laws.specs.Learnt.{IsLearnt}
use Rattle.mk_fate_laws.specs.Fates.{RestsOn}

-- the transaction is an attempt's whose commit was learned, and that rests on a decision or on the base of an entered epoch
pub record IsKnownCommit (run : History) (txn : Transaction) : Type 0 where
  pub column : ℕ
  pub in_run : column < run.columns
  pub attempt : AttemptState
  pub found : attempt_of (last_moment run column).column txn.id ≡ Some attempt
  pub stamped : attempt.txn ≡ Some txn
  pub learnt : IsLearnt run txn.id Commit
  pub rests : RestsOn run column txn.id Commit

-- all commits of a run are such
abbrev pub CommitsAreKnown : Type 0
CommitsAreKnown = (run : History) → IsLegal run → (txn : Transaction) → Among txn (commits run) → IsKnownCommit run txn

-- and each transaction of an attempt whose commit was learned is one of them
abbrev pub KnownAreCommits : Type 0
KnownAreCommits =
    (run : History) → IsLegal run → (c : ℕ) → c < run.columns → (id : TxnId) (a : AttemptState) (txn : Transaction) →
    attempt_of (last_moment run c).column id ≡ Some a → a.txn ≡ Some txn → IsLearnt run id Commit → Among txn (commits run)

-- no two of them have one stamp, nor have any two of a part of them
abbrev pub CommitsAreDistinct : Type 0
CommitsAreDistinct = (run : History) → IsLegal run → HaveDistinctStamps (commits run) × ((p : Transaction → Bool) → HaveDistinctStamps (filter p (commits run)))

-- what was read is what one of them wrote
pub record IsWritten (run : History) (item : ReadItem) : Type 0 where
  pub writer : Transaction
  pub committed : Among writer (commits run)
  pub version : writer.stamp ≡ item.version
  pub write : WriteItem
  pub writes : Among write writer.writes
  pub on_key : write.key ≡ item.key
  pub value : write.value ≡ item.value

-- whatever a commit read is what every key holds at first, or was written by a commit
abbrev pub VersionsWereCommitted : Type 0
VersionsWereCommitted =
    (run : History) → HasShape run → IsLegal run → (txn : Transaction) → Among txn (commits run) → (item : ReadItem) → Among item txn.reads →
    ((item.version ≡ zero_stamp) × (item.value ≡ initial_value)) ⊎ IsWritten run item

-- and no commit wrote the key between that version and the reader
abbrev pub NoneBetween : Type 0
NoneBetween =
    (run : History) → HasShape run → IsLegal run → (reader writer : Transaction) → Among reader (commits run) → Among writer (commits run) → clashes reader writer ≡ false

-- so the reads of all commits are explained on one copy
abbrev pub CommitsAreExplained : Type 0
CommitsAreExplained = (run : History) → HasShape run → IsLegal run → IsExplained (commits run)
