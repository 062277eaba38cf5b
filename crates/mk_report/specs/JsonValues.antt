-- The parts of a run's JSON, as values: the members of each object in byte order of their keys.
use Rattle.std.specs.Prelude.{ℕ, List, [], ◌∷◌, Option, Some, None, map, codes, if◌then◌else◌}
use Rattle.std.specs.List.{flat_map}
use Rattle.serde_json.specs.Data.{Data, null, number, unsigned, string, array, object, Members, no_members, member}
use Rattle.serde_json.specs.View.{items_of}
use Rattle.mk_txn.specs.declared.Stamp.{Stamp}
use Rattle.mk_txn.specs.declared.Value.{Value}
use Rattle.mk_txn.specs.declared.Value.TheVariants.{Number, Absent}
use Rattle.mk_txn.specs.declared.ReadItem.{ReadItem}
use Rattle.mk_txn.specs.declared.WriteItem.{WriteItem}
use Rattle.mk_txn.specs.declared.Outcome.TheVariants.{Commit, Abort}
use Rattle.mk_txn.specs.LatestWrites.{VersionedValue}
use Rattle.mk_words.specs.declared.GlobalEntry.{GlobalEntry}
use Rattle.mk_model.specs.OneCopy.{Copy, version_in}
use Rattle.mk_history.specs.declared.RoundLog.{RoundLog}
use Rattle.mk_history.specs.declared.State.{State}
use Rattle.mk_history.specs.declared.State.TheVariants.{Learned, Left}
use Rattle.mk_script.specs.Printed.{key_name}
use Rattle.mk_run.specs.declared.line.AttemptLine.{AttemptLine}
use Rattle.mk_report.specs.ReportTexts.{stamp_text, attempt_name, path_text, left_text, cause_text, answered_text}
use Rattle.mk_report.specs.StoreTexts.{is_written, by_name}

-- ---- lists and objects

-- a list of values
abbrev pub list_data : List Data → Data
list_data values = array (items_of values)

-- keys with values
abbrev pub members_data : List (List ℕ × Data) → Members
members_data [] = no_members
members_data (m ∷ ms) = member m.0 m.1 (members_data ms)

abbrev pub object_data : List (List ℕ × Data) → Data
object_data ms = object (members_data ms)

-- ---- what attempts read and write

-- a number, or null
abbrev pub value_data : Value → Data
value_data (Number n) = number (unsigned n)
value_data Absent = null

-- the key, what was read, and the version of it
abbrev pub read_data : List (List ℕ) → ReadItem → Data
read_data keys item =
    object_data ((codes "key", string (key_name keys item.key)) ∷ (codes "value", value_data item.value) ∷ (codes "version", string (stamp_text item.version)) ∷ [])

-- the key, and what is written
abbrev pub write_data : List (List ℕ) → WriteItem → Data
write_data keys item =
    object_data ((codes "key", string (key_name keys item.key)) ∷ (codes "value", value_data item.value) ∷ [])

-- ---- attempts

-- the stamp, or null
abbrev pub stamp_data : Option Stamp → Data
stamp_data None = null
stamp_data (Some stamp) = string (stamp_text stamp)

-- which kind of end it is
abbrev pub outcome_word : State → List ℕ
outcome_word (Learned Commit path) = codes "commit"
outcome_word (Learned (Abort cause) path) = codes "abort"
outcome_word (Left left) = codes "open"

-- how it was learned first, or how it stands
abbrev pub way_text : State → List ℕ
way_text (Learned outcome path) = path_text path
way_text (Left left) = left_text left

-- why it aborts, or null
abbrev pub cause_data : List (List ℕ) → State → Data
cause_data keys (Learned Commit path) = null
cause_data keys (Learned (Abort cause) path) = string (cause_text keys cause)
cause_data keys (Left left) = null

-- an attempt: what its line says
abbrev pub attempt_data : List (List ℕ) → List (List ℕ) → AttemptLine → Data
attempt_data clients keys a =
    object_data (
    (codes "cause", cause_data keys a.state)
    ∷ (codes "id", string (attempt_name clients a.id))
    ∷ (codes "outcome", string (outcome_word a.state))
    ∷ (codes "path", string (way_text a.state))
    ∷ (codes "reads", list_data (map (read_data keys) a.reads))
    ∷ (codes "stamp", stamp_data a.stamp)
    ∷ (codes "writes", list_data (map (write_data keys) a.writes))
    ∷ []
    )

-- ---- global lines

-- a global line with its answer
abbrev pub global_data : GlobalEntry → Data
global_data entry = string (answered_text entry)

-- those of a round
abbrev pub round_data : RoundLog → List Data
round_data round = map global_data round.globals

-- ---- what the one copy holds

-- a key with its number and its version
abbrev pub stored_data : List ℕ → Stamp → ℕ → Data
stored_data name version n =
    object_data ((codes "key", string name) ∷ (codes "value", number (unsigned n)) ∷ (codes "version", string (stamp_text version)) ∷ [])

-- an absent value has none
abbrev pub store_data : List ℕ → Stamp → Value → List Data
store_data name version (Number n) = stored_data name version n ∷ []
store_data name version Absent = []

-- what is held, where it was written
abbrev pub held_data : List ℕ → VersionedValue → List Data
held_data name held = if is_written held then store_data name held.version held.value else []

-- a key in the copy
abbrev pub entry_data : Copy → List ℕ × ℕ → List Data
entry_data copy entry = held_data entry.0 (version_in copy entry.1)

-- one for each key that was written and has a number, in byte order of names
abbrev pub stores_data : List (List ℕ) → Copy → List Data
stores_data keys copy = flat_map (entry_data copy) (by_name keys)
