-- What each act leaves of a cell.
use Rattle.std.proofs.Common.{Option, Some, None}
use Rattle.mk_words.specs.declared.Act.{Act}
use Rattle.mk_words.specs.declared.Act.TheVariants.{Get, CheckRead, CheckWrite, CommitRead, CommitWrite, ReleaseRead, ReleaseWrite}
use Rattle.mk_words.specs.Cells.{CellState, CellFits, Refusal, cell_after, read_refusal, write_refusal, reader_joined, writer_joined}
use Rattle.mk_words.proofs.PendingLaws.{IsAscending-joined, IsAscending-without}

-- every act keeps both lists ascending and distinct
pub CellFits-after : (cell : CellState) (act : Act) → CellFits cell → CellFits (cell_after cell act)
CellFits-after cell Get h = h
CellFits-after cell (CheckRead ts version) h = by (read_refusal cell ts version)
  where
    by : (refusal : Option Refusal) → CellFits (reader_joined cell ts refusal)
    by (Some r) = h
    by None = record { readers = IsAscending-joined ts cell.readers h.readers; writers = h.writers }
CellFits-after cell (CheckWrite ts) h = by (write_refusal cell ts)
  where
    by : (refusal : Option Refusal) → CellFits (writer_joined cell ts refusal)
    by (Some r) = h
    by None = record { readers = h.readers; writers = IsAscending-joined ts cell.writers h.writers }
CellFits-after cell (CommitRead ts) h = record { readers = IsAscending-without ts cell.readers h.readers; writers = h.writers }
CellFits-after cell (CommitWrite ts value) h = record { readers = h.readers; writers = IsAscending-without ts cell.writers h.writers }
CellFits-after cell (ReleaseRead ts) h = record { readers = IsAscending-without ts cell.readers h.readers; writers = h.writers }
CellFits-after cell (ReleaseWrite ts) h = record { readers = h.readers; writers = IsAscending-without ts cell.writers h.writers }
