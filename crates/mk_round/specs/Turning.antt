-- A driver between two rounds, and at the end of one.
use Rattle.std.specs.Prelude.{◌≡◌, ℕ, ◌+◌, ◌<◌, List, [], length, slice_get, Some, IsSome}
use Rattle.mk_trim.specs.declared.ReplicaView.{ReplicaView}
use Rattle.mk_script.specs.Scripts.{ScriptParts}
use Rattle.mk_faults.specs.Fates.{rules_of}
use Rattle.mk_column.specs.ColumnByCode.{ColumnView}
use Rattle.mk_history.specs.declared.RoundLog.{RoundLog}
use Rattle.mk_history.specs.Histories.{log_of}
use Rattle.mk_history.specs.Wholes.{column_of, after_logs}
use Rattle.mk_driver.specs.declared.Next.TheVariants.{Over}
use Rattle.mk_driver.specs.declared.RoundLines.{RoundLines}
use Rattle.mk_driver.specs.Turns.{choice}
use Rattle.mk_driver.specs.Drivers.{DriverView, after_lines}
use Rattle.mk_driver.specs.Driven.{begun_with, setting_in, turn}
use Rattle.mk_driver.specs.Standings.{Stands}
use Rattle.mk_driver_laws.specs.Enabled.{HasCome}
use Rattle.mk_round.specs.Pasts.{run_of, state_behind, views_behind, past_of}

-- the driver once its next round began, which has these lines
abbrev pub driver_begun : RoundLines → DriverView → DriverView
driver_begun lines driver =
    record driver { round = driver.round + 1; rounds = after_lines driver.rounds; driver = begun_with lines driver.driver }

-- A driver between two rounds: it is that of column c, has begun as many rounds as are done, and has the lines of a round left where
-- the script has one. Whatever the views: once the next round begins on it and on a column whose state is that behind the
-- rounds, the two stand for all that is past.
pub record IsNext (script : ScriptParts) (done : List RoundLog) (c : ℕ) (driver : DriverView) : Type 0 where
  pub column : driver.column ≡ c
  pub round : driver.round ≡ length done
  pub left : length done < length script.rounds → IsSome (slice_get driver.rounds 0)
  pub stands : (views : List ReplicaView) (lines : RoundLines) (column : ColumnView) → slice_get driver.rounds 0 ≡ Some lines → column.number ≡ c →
      column.setting ≡ setting_in script views → column.state ≡ column_of (state_behind script done) c →
      Stands script (driver_begun lines driver) column (past_of script done) views []
  pub come : (views : List ReplicaView) → HasCome script c (past_of script done) views []

-- The driver of a column whose round has come to its end: with a column whose state is that behind its log it stands for the log,
-- and nothing more is named.
pub record IsOver (script : ScriptParts) (done : List RoundLog) (round : RoundLog) (c : ℕ) (driver : DriverView) : Type 0 where
  pub column : ColumnView
  pub number : column.number ≡ c
  pub setting : column.setting ≡ setting_in script (views_behind script done)
  pub state : column.state ≡ column_of (after_logs (run_of script []) round (state_behind script done)) c
  pub stands : Stands script driver column (past_of script done) (views_behind script done) (log_of round c)
  pub over : choice (rules_of script) column.setting column.state driver.driver ≡ record { next = Over; driver = driver.driver }
  pub come : HasCome script c (past_of script done) (views_behind script done) (log_of round c)
  pub turn_is : turn script c (past_of script done) (views_behind script done) (log_of round c) ≡ Over
