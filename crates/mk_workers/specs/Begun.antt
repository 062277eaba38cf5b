-- What `work` asks of what is handed in.
use Rattle.std.specs.Prelude.{◌≡◌, ℕ, List, [], length, slice_get, Some}
use Rattle.mk_words.specs.declared.Step.{Step}
use Rattle.mk_words.specs.Cells.{CellState}
use Rattle.mk_faults.specs.Fates.{RuleLines}
use Rattle.mk_history.specs.Matching.{turns_in_log}
use Rattle.mk_column.specs.ColumnByCode.{ColumnView}
use Rattle.mk_driver.specs.Drivers.{DriverView}
use Rattle.mk_workers.specs.Going.{IsOfScript}
use Rattle.mk_workers.specs.ByKey.{IsByKey}

-- no step of the log is a key step
abbrev pub HasNoTurn : List Step → Type 0
HasNoTurn log = (r key : ℕ) → turns_in_log r key log ≡ []

-- one column and one driver per column number, of a script and begun for the same round; no log has a key step yet; and there are
-- cells for all replicas and keys
pub record AreBegun (rules : RuleLines) (replicas keys : ℕ) (drivers : List DriverView) (columns : List ColumnView) (cells : List (List CellState)) : Type 0 where
  pub as_many : length drivers ≡ length columns
  pub numbers : (c : ℕ) (column : ColumnView) → slice_get columns c ≡ Some column → column.number ≡ c
  pub fresh : (c : ℕ) (column : ColumnView) → slice_get columns c ≡ Some column → HasNoTurn column.log
  pub scripts : (c : ℕ) (driver : DriverView) (column : ColumnView) → slice_get drivers c ≡ Some driver → slice_get columns c ≡ Some column →
      IsOfScript rules replicas keys driver column
  pub cells_are : IsByKey replicas keys cells

-- each outlet suits its column
pub record SuitEach {O : Type 0} (suits : O → ColumnView → Type 0) (outlets : List O) (columns : List ColumnView) : Type 0 where
  pub all : length outlets ≡ length columns
  pub each : (c : ℕ) (outlet : O) (column : ColumnView) → slice_get outlets c ≡ Some outlet → slice_get columns c ≡ Some column → suits outlet column
