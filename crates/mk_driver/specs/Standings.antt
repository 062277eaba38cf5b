-- What a driver with its column stands for.
use Rattle.std.specs.Prelude.{◌≡◌, ◌+◌, ℕ, List, ◌∷◌, map, drop, length}
use Rattle.mk_trim.specs.declared.ReplicaView.{ReplicaView}
use Rattle.mk_script.specs.Scripts.{ScriptParts}
use Rattle.mk_faults.specs.Fates.{RuleLines, rules_of}
use Rattle.mk_words.specs.declared.Step.{Step}
use Rattle.mk_column.specs.ColumnByCode.{ColumnView}
use Rattle.mk_model.specs.ColumnState.{new_column}
use Rattle.mk_model.specs.Steps.{column_after}
use Rattle.mk_model.specs.Logs.{reading_ended}
use Rattle.mk_history.specs.Histories.{clients_of}
use Rattle.mk_driver.specs.declared.Next.{Next}
use Rattle.mk_driver.specs.declared.Next.TheVariants.{Over}
use Rattle.mk_driver.specs.declared.RoundLines.{RoundLines}
use Rattle.mk_driver.specs.Turns.{Choice, choice}
use Rattle.mk_driver.specs.Drivers.{DriverView}
use Rattle.mk_driver.specs.Driven.{Standing, PastRound, new_driver, lines_of_round, begun_with, setting_in, standing_at, client_columns_of, reset_by_lines}

-- a driver of this column before the first round
abbrev pub driver_of : ScriptParts → ℕ → DriverView
driver_of script column =
    record { size = script.size; column = column; round = 0; rounds = map (lines_of_round script) script.rounds; driver = new_driver script column }

-- what a driver names at a standing, and the driver once it is named
abbrev pub chosen : ScriptParts → List ReplicaView → Standing → Choice
chosen script views standing = choice (rules_of script) (setting_in script views) standing.column standing.driver

-- a driver and its column stand for these finished rounds, these views and this log: the column's state is the standing's,
-- and the driver names the same and becomes the same as the standing's
pub record Stands (script : ScriptParts) (driver : DriverView) (column : ColumnView) (rounds : List PastRound) (views : List ReplicaView) (log : List Step) : Type 0 where
  pub size : driver.size ≡ script.size
  pub round : driver.round ≡ length rounds + 1
  pub lines : driver.rounds ≡ drop driver.round (map (lines_of_round script) script.rounds)
  pub number : column.number ≡ driver.column
  pub setting : column.setting ≡ setting_in script views
  pub state : column.state ≡ (let standing = standing_at script driver.column rounds views log in standing.column)
  pub named : choice (rules_of script) column.setting column.state driver.driver ≡ chosen script views (standing_at script driver.column rounds views log)

-- whatever the one stands for with the column, the other does
abbrev pub StandsAlike : RuleLines → DriverView → DriverView → ColumnView → Type 0
StandsAlike rules one other column =
    (script : ScriptParts) (rounds : List PastRound) (views : List ReplicaView) (log : List Step) →
    rules ≡ rules_of script → Stands script one column rounds views log → Stands script other column rounds views log

-- the first round began on a new driver of this column and on a new column
pub record IsFirst (script : ScriptParts) (number : ℕ) (views : List ReplicaView) (driver : DriverView) (column : ColumnView) : Type 0 where
  pub lines : RoundLines
  pub rest : List RoundLines
  pub rounds : map (lines_of_round script) script.rounds ≡ lines ∷ rest
  pub driver_is : driver ≡ (let new = driver_of script number in record new { round = 1; rounds = rest; driver = begun_with lines new.driver })
  pub number_is : column.number ≡ number
  pub setting : column.setting ≡ setting_in script views
  pub state : column.state ≡ new_column script.size (clients_of number 1 (client_columns_of script))

-- the driver was asked, and the column took this step
pub record IsStepped (script : ScriptParts) (step : Step) (driver new_driver : DriverView) (column new_column : ColumnView) : Type 0 where
  pub next : Next
  pub named : choice (rules_of script) column.setting column.state driver.driver ≡ record { next = next; driver = new_driver.driver }
  pub rest : new_driver ≡ record driver { driver = new_driver.driver }
  pub number : new_column.number ≡ column.number
  pub setting : new_column.setting ≡ column.setting
  pub state : new_column.state ≡ column_after column.setting column.state step

-- the driver named nothing more, the records were reset as the global lines say, and the next round began on both
pub record IsNextRound (script : ScriptParts) (past : PastRound) (views : List ReplicaView) (driver new_driver : DriverView) (column new_column : ColumnView) : Type 0 where
  pub over : choice (rules_of script) column.setting column.state driver.driver ≡ record { next = Over; driver = driver.driver }
  pub lines : RoundLines
  pub rest : List RoundLines
  pub rounds : driver.rounds ≡ lines ∷ rest
  pub driver_is : new_driver ≡ record driver { round = driver.round + 1; rounds = rest; driver = begun_with lines driver.driver }
  pub number : new_column.number ≡ column.number
  pub setting : new_column.setting ≡ setting_in script views
  pub state : new_column.state ≡ reading_ended (reset_by_lines past.round.globals column.state)
