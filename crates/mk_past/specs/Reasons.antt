-- Why an attempt ended as it did, by what was learned first of it.
use Rattle.std.specs.Prelude.{◌≡◌, Bool, true, false, List, Option, Some, None, find, is_some}
use Rattle.mk_lists.specs.Among.{Among}
use Rattle.mk_txn.specs.declared.Stamp.{Stamp}
use Rattle.mk_txn.specs.declared.TxnId.{TxnId}
use Rattle.mk_txn.specs.declared.Conflict.{Conflict}
use Rattle.mk_txn.specs.declared.Cause.{Cause}
use Rattle.mk_txn.specs.declared.Cause.TheVariants.{Conflict as ByConflict, Takeover as ByTakeover, Epoch as ByEpoch}
use Rattle.mk_txn.specs.declared.Outcome.{Outcome}
use Rattle.mk_txn.specs.declared.Outcome.TheVariants.{Commit as ToCommit, Abort as ToAbort}
use Rattle.mk_txn.specs.Stamps.{same_stamp}
use Rattle.mk_txn.specs.Transactions.{same_id}
use Rattle.mk_model.specs.ColumnState.{ColumnState, AttemptState}
use Rattle.mk_history.specs.declared.Path.{Path}
use Rattle.mk_history.specs.declared.State.{State}
use Rattle.mk_history.specs.declared.State.TheVariants.{Learned, Left as LeftOpen}
use Rattle.mk_history.specs.Histories.{History}
use Rattle.mk_history.specs.Wholes.{last_state}
use Rattle.mk_run.specs.declared.line.AttemptLine.{AttemptLine}
use Rattle.mk_run.specs.Attempts.{outcomes_of}
use Rattle.mk_past.specs.declared.refusals.CheckPlace.{CheckPlace}
use Rattle.mk_past.specs.declared.reasons.Reasoned.{Reasoned}
use Rattle.mk_past.specs.declared.reasons.Reasoned.TheVariants.{Commit, Conflict as InConflict, Takeover, Epoch, Open}
use Rattle.mk_past.specs.Refusals.{first_refusal}

-- the line of an attempt
abbrev pub line_of_id : TxnId → List AttemptLine → Option AttemptLine
line_of_id id lines = find (λ line. same_id line.id id) lines

-- whether there is this stamp
abbrev pub is_stamp : Stamp → Option Stamp → Bool
is_stamp stamp None = false
is_stamp stamp (Some own) = same_stamp own stamp

-- the line of the attempt that has this stamp
abbrev pub line_of_stamp : Stamp → List AttemptLine → Option AttemptLine
line_of_stamp stamp lines = find (λ line. is_stamp stamp line.stamp) lines

-- a refused check, and the attempt whose stamp it names: how that one ended
abbrev pub by_conflict : Conflict → Option CheckPlace → Option AttemptLine → Option Reasoned
by_conflict conflict None owner = None
by_conflict conflict (Some place) None = None
by_conflict conflict (Some place) (Some owner) = Some (InConflict conflict place.round place.replica place.entry owner.id owner.state)

-- the first refused check of this stamp, where there is a stamp
abbrev pub refusal_of : History → Conflict → Option Stamp → Option CheckPlace
refusal_of run conflict None = None
refusal_of run conflict (Some stamp) = first_refusal run stamp conflict

-- why an attempt with this stamp aborted by this cause
abbrev pub by_cause : History → Option Stamp → Cause → Option Reasoned
by_cause run stamp (ByConflict conflict) = by_conflict conflict (refusal_of run conflict stamp) (line_of_stamp conflict.stamp (outcomes_of run))
by_cause run stamp (ByTakeover view) = Some (Takeover view)
by_cause run stamp (ByEpoch epoch) = Some (Epoch epoch)

-- why it has this outcome; an abort is told by its cause alone
abbrev pub by_outcome : History → Option Stamp → Path → Outcome → Option Reasoned
by_outcome run stamp path ToCommit = Some (Commit path)
by_outcome run stamp path (ToAbort cause) = by_cause run stamp cause

-- why it ended so
abbrev pub by_state : History → Option Stamp → State → Option Reasoned
by_state run stamp (Learned outcome path) = by_outcome run stamp path outcome
by_state run stamp (LeftOpen left) = Some (Open left)

-- the reason of a line, where there is one
abbrev pub reason_of_line : History → Option AttemptLine → Option Reasoned
reason_of_line run None = None
reason_of_line run (Some line) = by_state run line.stamp line.state

-- the reason of an attempt of the run, where it has the attempt
abbrev pub reason_of : History → TxnId → Option Reasoned
reason_of run id = reason_of_line run (line_of_id id (outcomes_of run))

-- the run has the attempt: a column has it at the end
pub record HasAttempt (run : History) (id : TxnId) : Type 0 where
  pub column : ColumnState
  pub in_run : Among column (last_state run).columns
  pub attempt : AttemptState
  pub in_column : Among attempt column.attempts
  pub same_attempt : attempt.id ≡ id

-- the line has a reason
abbrev pub IsReasoned : History → AttemptLine → Type 0
IsReasoned run line = is_some (by_state run line.stamp line.state) ≡ true
