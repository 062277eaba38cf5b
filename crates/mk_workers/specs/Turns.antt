-- One worker, from turn to turn.
use Rattle.std.specs.Prelude.{◌≡◌, ℕ, Bool, true, false, List, OnOk}
use Rattle.mk_faults.specs.Fates.{RuleLines}
use Rattle.mk_column.specs.ColumnByCode.{ColumnView}
use Rattle.mk_driver.specs.Drivers.{DriverView}
use Rattle.mk_lock.specs.Seats.{LockView}
use Rattle.mk_workers.specs.declared.worker.Worker.{Worker}
use Rattle.mk_workers.specs.Going.{IsOfScript, HasStepped, HasEnded, IsOver}
use Rattle.mk_workers.specs.Seating.{HasSeats}

-- one turn: a step was done that was named, or nothing more is named and the column is as it was
abbrev pub HasTurned : RuleLines → Bool → DriverView → DriverView → ColumnView → ColumnView → Type 0
HasTurned rules true driver new_driver column new_column = HasStepped rules driver new_driver column new_column
HasTurned rules false driver new_driver column new_column = (new_column ≡ column) × IsOver rules driver new_driver column

-- a worker with a seat at each lock, whose lists are the key steps of its log; its outlet suits its column
pub record IsAtWork {O : Type 0} (suits : O → ColumnView → Type 0) (rules : RuleLines) (replicas keys : ℕ) (locks : List LockView) (w : Worker O) : Type 0 where
  pub script : IsOfScript rules replicas keys w.driver w.column
  pub seats : HasSeats locks w.column.number w.column.log w.seats.items
  pub suited : suits w.outlet w.column

-- what a worker leaves at its end
pub record HasWorked {O : Type 0} (suits : O → ColumnView → Type 0) (kept : O → O → Type 0) (rules : RuleLines) (locks : List LockView) (w new_w : Worker O) : Type 0 where
  pub ended : HasEnded rules w.driver new_w.driver w.column new_w.column
  pub seats : HasSeats locks new_w.column.number new_w.column.log new_w.seats.items
  pub suited : suits new_w.outlet new_w.column
  pub stays : kept w.outlet new_w.outlet

-- where it found memory
abbrev pub HasRun : {O : Type 0} → (O → ColumnView → Type 0) → (O → O → Type 0) → RuleLines → List LockView → Worker O → Worker O → Type 0
HasRun suits kept rules locks w new_w = OnOk new_w.ended (HasWorked suits kept rules locks w new_w)
