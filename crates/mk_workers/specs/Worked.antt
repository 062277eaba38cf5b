-- What the workers leave together.
use Rattle.std.specs.Prelude.{◌≡◌, ℕ, ◌<◌, List, [], map, length, slice_get, slice_index_or, Some}
use Rattle.mk_lists.specs.Among.{Each}
use Rattle.mk_words.specs.declared.JournalEntry.{JournalEntry}
use Rattle.mk_words.specs.declared.Step.{Step}
use Rattle.mk_words.specs.Cells.{CellState}
use Rattle.mk_words.specs.Journals.{Replays}
use Rattle.mk_faults.specs.Fates.{RuleLines}
use Rattle.mk_column.specs.ColumnByCode.{ColumnView}
use Rattle.mk_driver.specs.Drivers.{DriverView}
use Rattle.mk_history.specs.Matching.{turns_in_journal, turns_in_log}
use Rattle.mk_workers.specs.ByKey.{IsByKey, cell_at, journal_at}
use Rattle.mk_workers.specs.Going.{HasEnded}

-- One key of one replica. Of each column the journal has the key steps of the column's log at the key, in order, and it has no
-- others. It leads from the cell handed in to the one that comes back.
pub record IsWorkedAt (r key : ℕ) (logs : List (List Step)) (before after : CellState) (journal : List JournalEntry) : Type 0 where
  pub matched : (c : ℕ) → c < length logs → turns_in_journal c journal ≡ turns_in_log r key (slice_index_or logs c [])
  pub owned : Each (λ (entry : JournalEntry). entry.seat < length logs) journal
  pub replayed : Replays before journal after

-- the logs, by column
abbrev pub logs_of : List ColumnView → List (List Step)
logs_of columns = map (λ (column : ColumnView). column.log) columns

-- cells and journals of all replicas and keys, with the logs of all columns
pub record AreWorked (replicas keys : ℕ) (logs : List (List Step)) (before after : List (List CellState)) (journals : List (List (List JournalEntry))) : Type 0 where
  pub cells : IsByKey replicas keys after
  pub by_key : IsByKey replicas keys journals
  pub each : (r key : ℕ) → r < replicas → key < keys → IsWorkedAt r key logs (cell_at before r key) (cell_at after r key) (journal_at journals r key)

-- each column with its driver has gone on to its end, in order
pub record HaveEnded (rules : RuleLines) (drivers new_drivers : List DriverView) (columns new_columns : List ColumnView) : Type 0 where
  pub columns_are : length new_columns ≡ length columns
  pub drivers_are : length new_drivers ≡ length drivers
  pub each : (c : ℕ) (driver new_driver : DriverView) (column new_column : ColumnView) → slice_get drivers c ≡ Some driver → slice_get new_drivers c ≡ Some new_driver →
      slice_get columns c ≡ Some column → slice_get new_columns c ≡ Some new_column → HasEnded rules driver new_driver column new_column

-- each outlet that comes back suits its column, and of the one handed in and of it `kept` holds
pub record AreTold {O : Type 0} (suits : O → ColumnView → Type 0) (kept : O → O → Type 0) (outlets new_outlets : List O) (new_columns : List ColumnView) : Type 0 where
  pub all : length new_outlets ≡ length outlets
  pub suit : (c : ℕ) (outlet : O) (column : ColumnView) → slice_get new_outlets c ≡ Some outlet → slice_get new_columns c ≡ Some column → suits outlet column
  pub stay : (c : ℕ) (outlet new_outlet : O) → slice_get outlets c ≡ Some outlet → slice_get new_outlets c ≡ Some new_outlet → kept outlet new_outlet
