-- A column with its driver, as the first round of a script begins.
use Rattle.std.specs.Prelude.{◌≡◌, ℕ, List, map, length, slice_get, Some}
use Rattle.mk_quorum.specs.Sizes.{members}
use Rattle.mk_script.specs.Scripts.{ScriptParts}
use Rattle.mk_column.specs.ColumnByCode.{ColumnView, column_at_start}
use Rattle.mk_history.specs.Histories.{clients_of}
use Rattle.mk_driver.specs.declared.RoundLines.{RoundLines}
use Rattle.mk_driver.specs.Driven.{begun_with, client_columns_of, lines_of_round, setting_in}
use Rattle.mk_driver.specs.Drivers.{DriverView, after_lines}
use Rattle.mk_driver.specs.Standings.{driver_of}
use Rattle.mk_workers.specs.Pairs.{Pairs}

-- the column of this number, in which the first round began with so many views
pub record IsFirstColumn (script : ScriptParts) (number : ℕ) (column : ColumnView) : Type 0 where
  pub few : length column.setting.views ≡ members script.size
  pub is : column ≡ column_at_start number (setting_in script column.setting.views) (clients_of number 1 (client_columns_of script))

-- its driver, for which the script's first round began
abbrev pub IsFirstDriver : ScriptParts → ℕ → DriverView → Type 0
IsFirstDriver script number driver =
    (lines : RoundLines) → slice_get (map (lines_of_round script) script.rounds) 0 ≡ Some lines →
    driver ≡ (let new = driver_of script number in record new { round = 1; rounds = after_lines new.rounds; driver = begun_with lines new.driver })

-- both
pub record IsLane (script : ScriptParts) (number : ℕ) (driver : DriverView) (column : ColumnView) : Type 0 where
  pub driver_is : IsFirstDriver script number driver
  pub column_is : IsFirstColumn script number column

-- those of the columns from 0 on, in order
abbrev pub AreLanes : ScriptParts → List DriverView → List ColumnView → Type 0
AreLanes script drivers columns = Pairs (IsLane script) drivers columns
