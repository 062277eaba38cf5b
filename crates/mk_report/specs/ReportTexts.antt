-- The lines of a report, and their parts.
use Rattle.std.specs.Prelude.{ℕ, ◌-◌, List, [], ◌∷◌, ◌++◌, Option, Some, None, codes}
use Rattle.std.specs.Fmt.{decimal}
use Rattle.std.specs.List.{flat_map, join_with_byte}
use Rattle.mk_txn.specs.declared.Stamp.{Stamp}
use Rattle.mk_txn.specs.declared.TxnId.{TxnId}
use Rattle.mk_txn.specs.declared.Value.{Value}
use Rattle.mk_txn.specs.declared.Value.TheVariants.{Number, Absent}
use Rattle.mk_txn.specs.declared.ReadItem.{ReadItem}
use Rattle.mk_txn.specs.declared.WriteItem.{WriteItem}
use Rattle.mk_txn.specs.declared.Reason.{Reason}
use Rattle.mk_txn.specs.declared.Reason.TheVariants as reasons
use Rattle.mk_txn.specs.declared.Conflict.{Conflict}
use Rattle.mk_txn.specs.declared.Cause.{Cause}
use Rattle.mk_txn.specs.declared.Cause.TheVariants as causes
use Rattle.mk_txn.specs.declared.Outcome.{Outcome}
use Rattle.mk_txn.specs.declared.Outcome.TheVariants as outcomes
use Rattle.mk_words.specs.declared.GlobalAnswer.{GlobalAnswer}
use Rattle.mk_words.specs.declared.GlobalAnswer.TheVariants as answers
use Rattle.mk_words.specs.declared.GlobalLine.{GlobalLine}
use Rattle.mk_words.specs.declared.GlobalLine.TheVariants as globals
use Rattle.mk_words.specs.declared.GlobalEntry.{GlobalEntry}
use Rattle.mk_history.specs.declared.Path.{Path}
use Rattle.mk_history.specs.declared.Path.TheVariants as paths
use Rattle.mk_history.specs.declared.Left.{Left}
use Rattle.mk_history.specs.declared.Left.TheVariants as lefts
use Rattle.mk_history.specs.declared.State.{State}
use Rattle.mk_history.specs.declared.State.TheVariants as states
use Rattle.mk_run.specs.declared.line.AttemptLine.{AttemptLine}
use Rattle.mk_script.specs.Grammar.{id_text, global_words}
use Rattle.mk_script.specs.Printed.{key_name}

-- ---- words and numbers

-- a time, a dot and a client's number
abbrev pub stamp_text : Stamp → List ℕ
stamp_text stamp = decimal stamp.time ++ 46 ∷ decimal stamp.client

-- a number, or `none`
abbrev pub value_text : Value → List ℕ
value_text (Number n) = decimal n
value_text Absent = codes "none"

-- why a check was refused
abbrev pub reason_text : Reason → List ℕ
reason_text reasons.ReadStale = codes "read-stale"
reason_text reasons.ReadPending = codes "read-pending"
reason_text reasons.WriteLate = codes "write-late"
reason_text reasons.WritePending = codes "write-pending"

-- a client's name, which counts from 1, a dot and a seq
abbrev pub attempt_name : List (List ℕ) → TxnId → List ℕ
attempt_name clients id = id_text (key_name clients (id.client - 1)) id.seq

-- ---- how an attempt ended

-- how it was learned first
abbrev pub path_text : Path → List ℕ
path_text paths.Fast = codes "fast"
path_text paths.Slow = codes "slow"
path_text (paths.Takeover view) = codes "takeover " ++ decimal view
path_text (paths.Epoch epoch) = codes "epoch " ++ decimal epoch
path_text (paths.Moved epoch) = codes "moved " ++ decimal epoch

-- a refused check: the key, the reason and the other stamp
abbrev pub conflict_text : List (List ℕ) → Conflict → List ℕ
conflict_text keys c = codes "conflict " ++ (key_name keys c.key ++ 32 ∷ (reason_text c.reason ++ 32 ∷ stamp_text c.stamp))

-- why it aborts
abbrev pub cause_text : List (List ℕ) → Cause → List ℕ
cause_text keys (causes.Conflict conflict) = conflict_text keys conflict
cause_text keys (causes.Takeover view) = codes "takeover " ++ decimal view
cause_text keys (causes.Epoch epoch) = codes "epoch " ++ decimal epoch

-- an outcome with its path, and an abort with its cause
abbrev pub outcome_text : List (List ℕ) → Outcome → Path → List ℕ
outcome_text keys outcomes.Commit path = codes "commit " ++ path_text path
outcome_text keys (outcomes.Abort cause) path = codes "abort " ++ (path_text path ++ (codes " because " ++ cause_text keys cause))

-- how an attempt stands that nobody learned
abbrev pub left_text : Left → List ℕ
left_text lefts.Unread = codes "unread"
left_text (lefts.Short n) = codes "short " ++ decimal n
left_text (lefts.Unaccepted n) = codes "unaccepted " ++ decimal n
left_text lefts.Stopped = codes "stopped"
left_text (lefts.Unclear ok not_ok) = codes "unclear " ++ (decimal ok ++ 32 ∷ decimal not_ok)

-- the outcome, or `open` and how it stands
abbrev pub state_text : List (List ℕ) → State → List ℕ
state_text keys (states.Learned outcome path) = outcome_text keys outcome path
state_text keys (states.Left left) = codes "open " ++ left_text left

-- ---- the line of an attempt

-- a space, and what was read
abbrev pub read_text : List (List ℕ) → ReadItem → List ℕ
read_text keys item = codes " r:" ++ (key_name keys item.key ++ 64 ∷ (stamp_text item.version ++ 61 ∷ value_text item.value))

-- a space, and what is written
abbrev pub write_text : List (List ℕ) → WriteItem → List ℕ
write_text keys item = codes " w:" ++ (key_name keys item.key ++ 61 ∷ value_text item.value)

-- a space, an at sign and the stamp, where there is one
abbrev pub stamp_part : Option Stamp → List ℕ
stamp_part None = []
stamp_part (Some stamp) = codes " @" ++ stamp_text stamp

-- the id, the stamp, how it ended, what it read and what it writes
abbrev pub attempt_text : List (List ℕ) → List (List ℕ) → AttemptLine → List ℕ
attempt_text clients keys a =
    attempt_name clients a.id ++ (stamp_part a.stamp ++ (32 ∷ (state_text keys a.state ++ (flat_map (read_text keys) a.reads ++ (flat_map (write_text keys) a.writes ++ 10 ∷ [])))))

-- ---- global lines

-- a space and the answer
abbrev pub answer_text : GlobalAnswer → List ℕ
answer_text answers.Ok = codes " ok"
answer_text (answers.Counts commits aborts) = codes " ok " ++ (decimal commits ++ 32 ∷ decimal aborts)
answer_text (answers.Entered n) = codes " ok " ++ decimal n
answer_text answers.Unasked = codes " unasked"
answer_text answers.Unmade = codes " unmade"
answer_text answers.Lacking = codes " lacking"
answer_text (answers.Old epoch) = codes " old " ++ decimal epoch
answer_text answers.WordFault = codes " word-fault"
answer_text (answers.Short n) = codes " short " ++ decimal n

-- a wipe and an ask have no answer
abbrev pub answer_part : GlobalLine → GlobalAnswer → List ℕ
answer_part (globals.Wipe replica) answer = []
answer_part (globals.Ask epoch) answer = []
answer_part (globals.Promise epoch replica) answer = answer_text answer
answer_part (globals.Merge epoch) answer = answer_text answer
answer_part (globals.Adopt epoch replica) answer = answer_text answer
answer_part (globals.Enter epoch) answer = answer_text answer

-- a global line as in a script, and its answer
abbrev pub answered_text : GlobalEntry → List ℕ
answered_text entry = join_with_byte 32 (global_words entry.line) ++ answer_part entry.line entry.answer

-- the same, as a line
abbrev pub global_text : GlobalEntry → List ℕ
global_text entry = answered_text entry ++ 10 ∷ []

-- ---- the last lines

-- a key with its version and its number; an absent value has no line
abbrev pub store_text : List ℕ → Stamp → Value → List ℕ
store_text name version (Number n) = codes "store " ++ (name ++ 32 ∷ (stamp_text version ++ 32 ∷ (decimal n ++ 10 ∷ [])))
store_text name version Absent = []

-- how many attempts were learned to commit, were learned to abort, and were not learned
abbrev pub end_text : ℕ → ℕ → ℕ → List ℕ
end_text commits aborts opens = codes "end " ++ (decimal commits ++ 32 ∷ (decimal aborts ++ 32 ∷ (decimal opens ++ 10 ∷ [])))

-- how many store lines there are, and what their values come to
abbrev pub summed_text : ℕ → ℕ → List ℕ
summed_text count sum = codes "store " ++ (decimal count ++ 32 ∷ (decimal sum ++ 10 ∷ []))
