-- What the causes of aborts name.
use Rattle.std.specs.Prelude.{◌≡◌, ◌<◌, ℕ, Bool, true, is_some, Some}
use Rattle.mk_lists.specs.Among.{Among}
use Rattle.mk_txn.specs.declared.TxnId.{TxnId}
use Rattle.mk_txn.specs.declared.Reason.{Reason}
use Rattle.mk_txn.specs.declared.Reason.TheVariants.{ReadStale, ReadPending, WriteLate, WritePending}
use Rattle.mk_txn.specs.declared.Conflict.{Conflict}
use Rattle.mk_txn.specs.declared.Cause.TheVariants.{Conflict as ByConflict, Takeover as ByTakeover, Epoch as ByEpoch}
use Rattle.mk_txn.specs.declared.Outcome.{Outcome}
use Rattle.mk_txn.specs.declared.Outcome.TheVariants.{Commit, Abort}
use Rattle.mk_txn.specs.Clashes.{writes_key}
use Rattle.mk_txn.specs.LatestWrites.{reads_key}
use Rattle.mk_txn.specs.Transactions.{Transaction}
use Rattle.mk_words.specs.declared.Answer.TheVariants.{Refused}
use Rattle.mk_words.specs.declared.JournalEntry.{JournalEntry}
use Rattle.mk_words.specs.Acts.{is_check_of}
use Rattle.mk_model.specs.ColumnState.{ColumnState, AttemptState, TakeoverOf}
use Rattle.mk_model.specs.EpochState.{made_for}
use Rattle.mk_history.specs.declared.RoundLog.{RoundLog}
use Rattle.mk_history.specs.Histories.{History, journal_of}
use Rattle.mk_history.specs.Wholes.{last_state}
use Rattle.mk_history.specs.Learning.{Learnt, learned, stamped_by}

-- a refused read names a writer of the key, and a refused write a reader
abbrev pub touches : Reason → ℕ → Transaction → Bool
touches ReadStale key txn = writes_key key txn
touches ReadPending key txn = writes_key key txn
touches WriteLate key txn = reads_key key txn
touches WritePending key txn = reads_key key txn

-- a check of the transaction was refused so in a journal of the key, and another attempt has the stamp that it names
pub record IsRefusalOf (run : History) (txn : Transaction) (conflict : Conflict) : Type 0 where
  pub round : RoundLog
  pub in_run : Among round run.rounds
  pub replica : ℕ
  pub entry : JournalEntry
  pub in_journal : Among entry (journal_of round replica conflict.key)
  pub check : is_check_of txn.stamp entry.act ≡ true
  pub refused : entry.answer ≡ Refused conflict.reason conflict.stamp
  pub other : Transaction
  pub other_in_run : Among other (stamped_by (last_state run).columns)
  pub other_stamp : other.stamp ≡ conflict.stamp
  pub is_other : ¬ (other.id ≡ txn.id)
  pub touches_key : touches conflict.reason conflict.key other ≡ true

-- a takeover of the attempt at this view proposed the abort that names it
pub record IsTakeoverOf (run : History) (id : TxnId) (view : ℕ) : Type 0 where
  pub column : ColumnState
  pub in_run : Among column (last_state run).columns
  pub takeover : TakeoverOf
  pub in_column : Among takeover column.takeovers
  pub same_attempt : takeover.id ≡ id
  pub same_view : takeover.state.view ≡ view
  pub proposed : takeover.state.proposed ≡ Some (Abort (ByTakeover view))

-- the base of the epoch was made, and the attempt is of an earlier epoch
pub record IsEpochOf (run : History) (id : TxnId) (epoch : ℕ) : Type 0 where
  pub made : is_some (made_for epoch (last_state run).epochs) ≡ true
  pub column : ColumnState
  pub in_run : Among column (last_state run).columns
  pub attempt : AttemptState
  pub in_column : Among attempt column.attempts
  pub same_attempt : attempt.id ≡ id
  pub earlier : attempt.epoch < epoch

-- the transaction of the attempt, and a refusal of it
pub record IsConflictOf (run : History) (id : TxnId) (conflict : Conflict) : Type 0 where
  pub txn : Transaction
  pub in_run : Among txn (stamped_by (last_state run).columns)
  pub same_attempt : txn.id ≡ id
  pub refusal : IsRefusalOf run txn conflict

-- the cause of an outcome names what happened
abbrev pub IsNamed : History → TxnId → Outcome → Type 0
IsNamed run id Commit = Unit {0}
IsNamed run id (Abort (ByConflict conflict)) = IsConflictOf run id conflict
IsNamed run id (Abort (ByTakeover view)) = IsTakeoverOf run id view
IsNamed run id (Abort (ByEpoch epoch)) = IsEpochOf run id epoch

-- every abort that is learned has a cause that names what happened
abbrev pub EachNamed : History → Type 0
EachNamed run = (l : Learnt) → Among l (learned run) → IsNamed run l.id l.outcome
