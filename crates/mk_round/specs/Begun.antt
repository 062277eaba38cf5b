-- A round that has begun in columns and drivers, and what is left once the columns have worked.
use Rattle.std.specs.Prelude.{◌≡◌, ℕ, ◌+◌, ◌<◌, List, [], length, map, slice_get, Some, IsSome}
use Rattle.mk_lists.specs.Among.{Each}
use Rattle.mk_quorum.specs.Sizes.{members}
use Rattle.mk_words.specs.declared.JournalEntry.{JournalEntry}
use Rattle.mk_words.specs.Cells.{CellState}
use Rattle.mk_script.specs.Scripts.{ScriptParts}
use Rattle.mk_script.specs.Whole.{IsWhole}
use Rattle.mk_faults.specs.Fates.{rules_of}
use Rattle.mk_column.specs.ColumnByCode.{ColumnView}
use Rattle.mk_snap.specs.Snapshots.{SnapStands}
use Rattle.mk_history.specs.declared.RoundLog.{RoundLog}
use Rattle.mk_history.specs.Wholes.{column_of}
use Rattle.mk_driver.specs.declared.RoundLines.{RoundLines}
use Rattle.mk_driver.specs.Drivers.{DriverView}
use Rattle.mk_driver.specs.Driven.{setting_in}
use Rattle.mk_driver.specs.Standings.{Stands, driver_of}
use Rattle.mk_driver_laws.specs.Enabled.{HasCome}
use Rattle.mk_state.specs.Standings.{IsBegun}
use Rattle.mk_workers.specs.Worked.{AreWorked, HaveEnded, logs_of}
use Rattle.mk_round.specs.Pasts.{run_of, state_behind, views_behind, past_of}
use Rattle.mk_round.specs.Turning.{driver_begun}
use Rattle.mk_round.specs.Stores.{StoreView, column_count}

-- the driver of this column before the first round, with the lines of a round left where the script has one
pub record IsFirstOf (script : ScriptParts) (c : ℕ) (driver : DriverView) : Type 0 where
  pub driver_is : driver ≡ driver_of script c
  pub left : 0 < length script.rounds → IsSome (slice_get driver.rounds 0)

-- those of so many columns
pub record AreFirst (script : ScriptParts) (count : ℕ) (drivers : List DriverView) : Type 0 where
  pub all : length drivers ≡ count
  pub each : (c : ℕ) (driver : DriverView) → slice_get drivers c ≡ Some driver → IsFirstOf script c driver

-- the driver's next round has this number, and its lines are left
pub record MayBegin (round : ℕ) (driver : DriverView) : Type 0 where
  pub number : round ≡ driver.round + 1
  pub left : IsSome (slice_get driver.rounds 0)

-- the driver's next round has begun
pub record HasBegun (driver new_driver : DriverView) : Type 0 where
  pub lines : RoundLines
  pub there : slice_get driver.rounds 0 ≡ Some lines
  pub after : new_driver ≡ driver_begun lines driver

-- so has each driver's
pub record HaveBegun (drivers new_drivers : List DriverView) : Type 0 where
  pub all : length new_drivers ≡ length drivers
  pub each : (c : ℕ) (driver new_driver : DriverView) → slice_get drivers c ≡ Some driver → slice_get new_drivers c ≡ Some new_driver → HasBegun driver new_driver

-- The driver of column c in a round that has begun: with a column whose state is that behind the rounds it stands for all that is past.
pub record IsReady (script : ScriptParts) (done : List RoundLog) (c : ℕ) (driver : DriverView) : Type 0 where
  pub column : driver.column ≡ c
  pub stands : (column : ColumnView) → column.number ≡ c → column.setting ≡ setting_in script (views_behind script done) →
      column.state ≡ column_of (state_behind script done) c → Stands script driver column (past_of script done) (views_behind script done) []
  pub come : HasCome script c (past_of script done) (views_behind script done) []

-- the round behind these has begun in the store, and no column has done a step of it
pub record IsAtWork (script : ScriptParts) (done : List RoundLog) (store : StoreView) : Type 0 where
  pub script_whole : IsWhole script
  pub begun : store.round ≡ length done + 1
  pub at : IsBegun SnapStands (run_of script []) store.whole (state_behind script done)
  pub fresh : Each (λ (column : ColumnView). column.log ≡ []) store.whole.columns
  pub as_many : length store.drivers ≡ column_count script
  pub ready : (c : ℕ) (driver : DriverView) → slice_get store.drivers c ≡ Some driver → IsReady script done c driver

-- what the workers left of columns, drivers and cells, with the journals
pub record HaveLeft (script : ScriptParts) (store : StoreView) (columns : List ColumnView) (drivers : List DriverView) (cells : List (List CellState))
    (journals : List (List (List JournalEntry))) : Type 0 where
  pub journals_are : AreWorked (members script.size) (length script.keys) (logs_of columns) store.whole.cells cells journals
  pub ended : HaveEnded (rules_of script) store.drivers drivers store.whole.columns columns

-- the column once its log was taken
abbrev pub without_log : ColumnView → ColumnView
without_log column = record column { log = [] }

-- the store while its columns work elsewhere
abbrev pub without_work : StoreView → StoreView
without_work store = record store { whole = record store.whole { columns = []; cells = [] }; drivers = [] }

-- the store with these columns, whose logs were taken, these drivers and these cells
abbrev pub with_work : List ColumnView → List DriverView → List (List CellState) → StoreView → StoreView
with_work columns drivers cells store =
    record store { whole = record store.whole { columns = map without_log columns; cells = cells }; drivers = drivers }

-- a round with no global lines yet
abbrev pub round_with : List ColumnView → List (List (List JournalEntry)) → RoundLog
round_with columns journals = record { logs = logs_of columns; journals = journals; globals = [] }
