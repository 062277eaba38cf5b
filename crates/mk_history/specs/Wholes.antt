-- The state of the whole: all columns, all cells and the epoch machine, and where a round leads.
use Rattle.std.specs.Prelude.{ℕ, ◌+◌, List, [], ◌∷◌, flat_map, fold, length, map, replicate, slice_index_or, slice_set, if◌then◌else◌}
use Rattle.mk_txn.specs.MarkMaps.{MarkMap, joined_marks}
use Rattle.mk_words.specs.Cells.{CellState, first_cell}
use Rattle.mk_words.specs.Journals.{cell_through}
use Rattle.mk_words.specs.declared.Entry.{Entry}
use Rattle.mk_quorum.specs.Sizes.{members}
use Rattle.mk_words.specs.Bases.{BaseState, empty_base}
use Rattle.mk_words.specs.Rebuilding.{rebuilt}
use Rattle.mk_words.specs.declared.GlobalEntry.{GlobalEntry}
use Rattle.mk_words.specs.declared.GlobalLine.{GlobalLine}
use Rattle.mk_words.specs.declared.GlobalLine.TheVariants.{Wipe, Ask, Promise, Merge, Adopt, Enter}
use Rattle.mk_model.specs.ColumnState.{ColumnState, Setting, new_column, numbers_from, entries_at, marks_at}
use Rattle.mk_model.specs.Logs.{column_through, reading_ended, replica_reset}
use Rattle.mk_model.specs.EpochState.{EpochState, first_epochs, views_of, made_for}
use Rattle.mk_model.specs.GlobalAnswers.{is_accepted}
use Rattle.mk_model.specs.GlobalSteps.{HandedIn, nothing_handed, global_outcome, base_or_empty}
use Rattle.mk_history.specs.declared.RoundLog.{RoundLog}
use Rattle.mk_history.specs.Histories.{History, clients_of, log_of, journal_of}

-- columns stand by number, cells by replica and key
pub record WholeState : Type 0 where
  pub columns : List ColumnState
  pub cells : List (List CellState)
  pub epochs : EpochState

-- the state before the first round
abbrev pub first_state : History → WholeState
first_state run =
    record {
      columns = map (λ c. new_column run.faults (clients_of c 1 run.client_columns)) (numbers_from 0 run.columns);
      cells = replicate (members run.faults) (replicate (length run.key_names) first_cell);
      epochs = first_epochs run.faults;
    }

-- what the columns go by in a round that begins in this state
abbrev pub setting_of : History → WholeState → Setting
setting_of run state = record { version = run.version; faults = run.faults; keys = length run.key_names; views = views_of state.epochs }

-- the column of this number
abbrev pub column_of : WholeState → ℕ → ColumnState
column_of state c = slice_index_or state.columns c (new_column 0 [])

-- the cell of this key at this replica
abbrev pub cell_of : WholeState → ℕ → ℕ → CellState
cell_of state r key = slice_index_or (slice_index_or state.cells r []) key first_cell

-- each column after its log
abbrev pub columns_after_logs : Setting → RoundLog → ℕ → List ColumnState → List ColumnState
columns_after_logs setting round c [] = []
columns_after_logs setting round c (column ∷ columns) =
    column_through setting column (log_of round c) ∷ columns_after_logs setting round (c + 1) columns

-- each cell after its journal
abbrev pub keys_after_journals : RoundLog → ℕ → ℕ → List CellState → List CellState
keys_after_journals round r key [] = []
keys_after_journals round r key (cell ∷ cells) =
    cell_through cell (journal_of round r key) ∷ keys_after_journals round r (key + 1) cells

-- the cells of these replicas after their journals, the first of which has this number
abbrev pub cells_after_journals : RoundLog → ℕ → List (List CellState) → List (List CellState)
cells_after_journals round r [] = []
cells_after_journals round r (keys ∷ cells) = keys_after_journals round r 0 keys ∷ cells_after_journals round (r + 1) cells

-- the state once all columns have worked, before the round's global lines
abbrev pub after_logs : History → RoundLog → WholeState → WholeState
after_logs run round state =
    record state {
      columns = columns_after_logs (setting_of run state) round 0 state.columns;
      cells = cells_after_journals round 0 state.cells;
    }

-- the base's cells of all keys
abbrev pub rebuilt_cells : ℕ → BaseState → List CellState
rebuilt_cells keys base = map (rebuilt base) (numbers_from 0 keys)

-- a replica that adopted has the base's cells, one that was wiped has new ones, and both have no entries and no marks
abbrev pub restarted : History → ℕ → BaseState → WholeState → WholeState
restarted run r base state =
    record state {
      columns = map (replica_reset r) state.columns;
      cells = slice_set state.cells r (rebuilt_cells (length run.key_names) base);
    }

-- what a line that was done changes beside the epoch machine
abbrev pub after_line : History → GlobalLine → WholeState → WholeState
after_line run (Wipe r) state = restarted run r empty_base state
after_line run (Adopt epoch r) state = restarted run r (base_or_empty (made_for epoch state.epochs)) state
after_line run (Ask epoch) state = state
after_line run (Promise epoch r) state = state
after_line run (Merge epoch) state = state
after_line run (Enter epoch) state = state

-- the entries and the marks of all columns at a replica
abbrev pub entries_of : List ColumnState → ℕ → List Entry
entries_of columns r = flat_map (λ column. entries_at column r) columns

-- of each client the greatest mark that a column has at this replica
abbrev pub marks_of : List ColumnState → ℕ → MarkMap
marks_of columns r = fold (λ marks column. joined_marks marks (marks_at column r)) [] columns

-- a promise hands in the replica's entries and marks
abbrev pub handed_in : WholeState → GlobalLine → HandedIn
handed_in state (Promise epoch r) = record { entries = entries_of state.columns r; marks = marks_of state.columns r }
handed_in state _ = nothing_handed

-- the state after a global line with its answer
abbrev pub after_global : History → WholeState → GlobalEntry → WholeState
after_global run state entry =
    let parts = if is_accepted entry.answer then after_line run entry.line state else state in
    record parts { epochs = global_outcome state.epochs (handed_in state entry.line) entry.line entry.answer }

-- the state to which global lines lead
abbrev pub globals_through : History → WholeState → List GlobalEntry → WholeState
globals_through run state [] = state
globals_through run state (entry ∷ entries) = globals_through run (after_global run state entry) entries

-- the state after a round, which ends all reading
abbrev pub after_round : History → RoundLog → WholeState → WholeState
after_round run round state =
    let ended = globals_through run (after_logs run round state) round.globals in
    record ended { columns = map reading_ended ended.columns }

-- the state to which rounds lead
abbrev pub state_through : History → WholeState → List RoundLog → WholeState
state_through run state [] = state
state_through run state (round ∷ rounds) = state_through run (after_round run round state) rounds

-- the state at the end of the run
abbrev pub last_state : History → WholeState
last_state run = state_through run (first_state run) run.rounds
