-- The cell of a key at a replica. Doing an act is `cell_answer`, what it answers, with `cell_after`, what it leaves.
use Rattle.std.specs.Prelude.{ℕ, List, [], Option, Some, None, if◌then◌else◌}
use Rattle.mk_txn.specs.declared.Stamp.{Stamp}
use Rattle.mk_txn.specs.declared.Reason.{Reason}
use Rattle.mk_txn.specs.declared.Reason.TheVariants.{ReadStale, ReadPending, WriteLate, WritePending}
use Rattle.mk_txn.specs.Stamps.{is_before, later_stamp, zero_stamp}
use Rattle.mk_txn.specs.declared.Value.{Value}
use Rattle.mk_txn.specs.Transactions.{initial_value}
use Rattle.mk_words.specs.declared.Act.{Act}
use Rattle.mk_words.specs.declared.Act.TheVariants.{Get, CheckRead, CheckWrite, CommitRead, CommitWrite, ReleaseRead, ReleaseWrite}
use Rattle.mk_words.specs.declared.Answer.{Answer}
use Rattle.mk_words.specs.declared.Answer.TheVariants.{Version, Okay, Refused, Done}
use Rattle.mk_words.specs.Pending.{joined, without, least_below, least_above, IsAscending}

-- the value with the stamp of its write, the greatest stamp of a committed read, and the pending stamps
pub record CellState : Type 0 where
  pub value : Value
  pub wts : Stamp
  pub rts : Stamp
  pub readers : List Stamp
  pub writers : List Stamp

-- what contracts see of a cell that is kept: its state, and for how many more checks it has room
pub record CellView : Type 0 where
  pub state : CellState
  pub spare : ℕ

-- a cell with nothing pending
abbrev pub settled_cell : Value → Stamp → Stamp → CellState
settled_cell value wts rts = record { value = value; wts = wts; rts = rts; readers = []; writers = [] }

-- the cell of every key at the start
abbrev pub first_cell : CellState
first_cell = settled_cell initial_value zero_stamp zero_stamp

-- why a check is refused, and the other transaction's stamp
pub record Refusal : Type 0 where
  pub reason : Reason
  pub stamp : Stamp

-- a refusal for this reason, where there is a stamp to name
abbrev pub refused_by : Reason → Option Stamp → Option Refusal
refused_by reason None = None
refused_by reason (Some stamp) = Some (record { reason = reason; stamp = stamp })

-- a read check is refused where a newer version stands, and else where an earlier writer is pending
abbrev pub read_refusal : CellState → Stamp → Stamp → Option Refusal
read_refusal cell ts version =
    if is_before version cell.wts
    then refused_by ReadStale (Some cell.wts)
    else refused_by ReadPending (least_below ts cell.writers)

-- a write check is refused where a later read was committed, and else where a later reader is pending
abbrev pub write_refusal : CellState → Stamp → Option Refusal
write_refusal cell ts =
    if is_before ts cell.rts
    then refused_by WriteLate (Some cell.rts)
    else refused_by WritePending (least_above ts cell.readers)

-- a check that is not refused is answered Okay
abbrev pub okay_unless : Option Refusal → Answer
okay_unless (Some refusal) = Refused refusal.reason refusal.stamp
okay_unless None = Okay

-- the answer to an act
abbrev pub cell_answer : CellState → Act → Answer
cell_answer cell Get = Version cell.wts cell.value
cell_answer cell (CheckRead ts version) = okay_unless (read_refusal cell ts version)
cell_answer cell (CheckWrite ts) = okay_unless (write_refusal cell ts)
cell_answer cell (CommitRead ts) = Done
cell_answer cell (CommitWrite ts value) = Done
cell_answer cell (ReleaseRead ts) = Done
cell_answer cell (ReleaseWrite ts) = Done

-- a reader joins unless it was refused
abbrev pub reader_joined : CellState → Stamp → Option Refusal → CellState
reader_joined cell ts (Some refusal) = cell
reader_joined cell ts None = record cell { readers = joined ts cell.readers }

-- a writer joins unless it was refused
abbrev pub writer_joined : CellState → Stamp → Option Refusal → CellState
writer_joined cell ts (Some refusal) = cell
writer_joined cell ts None = record cell { writers = joined ts cell.writers }

-- the cell after an act; a write below the version that stands is not installed
abbrev pub cell_after : CellState → Act → CellState
cell_after cell Get = cell
cell_after cell (CheckRead ts version) = reader_joined cell ts (read_refusal cell ts version)
cell_after cell (CheckWrite ts) = writer_joined cell ts (write_refusal cell ts)
cell_after cell (CommitRead ts) = record cell { readers = without ts cell.readers; rts = later_stamp cell.rts ts }
cell_after cell (CommitWrite ts value) =
    record cell {
      writers = without ts cell.writers;
      wts = later_stamp cell.wts ts;
      value = if is_before cell.wts ts then value else cell.value;
    }
cell_after cell (ReleaseRead ts) = record cell { readers = without ts cell.readers }
cell_after cell (ReleaseWrite ts) = record cell { writers = without ts cell.writers }

-- what every cell keeps: both lists ascend and are distinct
pub record CellFits (cell : CellState) : Type 0 where
  pub readers : IsAscending cell.readers
  pub writers : IsAscending cell.writers
