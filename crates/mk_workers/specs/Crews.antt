-- The workers of all columns.
use Rattle.std.specs.Prelude.{◌≡◌, ℕ, List, map, reverse, slice_get, Some, IsOk}
use Rattle.mk_lists.specs.Among.{Each}
use Rattle.mk_column.specs.ColumnByCode.{ColumnView}
use Rattle.mk_driver.specs.Drivers.{DriverView}
use Rattle.mk_lock.specs.Seats.{LockView}
use Rattle.mk_workers.specs.declared.worker.Worker.{Worker}
use Rattle.mk_workers.specs.Seating.{HasSeats, IsFreshColumn}

-- columns are numbered by place
abbrev pub AreNumbered : List ColumnView → Type 0
AreNumbered columns = (c : ℕ) (column : ColumnView) → slice_get columns c ≡ Some column → column.number ≡ c

-- the columns, drivers and outlets of these workers, of which the last column comes first
pub record IsCrew {O : Type 0} (workers : List (Worker O)) (columns : List ColumnView) (drivers : List DriverView) (outlets : List O) : Type 0 where
  pub columns_are : columns ≡ reverse (map (λ (w : Worker O). w.column) workers)
  pub drivers_are : drivers ≡ reverse (map (λ (w : Worker O). w.driver) workers)
  pub outlets_are : outlets ≡ reverse (map (λ (w : Worker O). w.outlet) workers)

-- the workers of these columns, drivers and outlets, with seats that nobody has used
pub record AreStarted {O : Type 0} (locks : List LockView) (columns : List ColumnView) (drivers : List DriverView) (outlets : List O) (workers : List (Worker O)) : Type 0 where
  pub crew : IsCrew workers columns drivers outlets
  pub seats : Each (λ (w : Worker O). IsFreshColumn locks w.column.number w.seats.items) workers

abbrev pub AllEnded : {O : Type 0} → List (Worker O) → Type 0
AllEnded workers = Each (λ w. IsOk w.ended) workers

-- each worker that came to its end has the column of its place, where the last column comes first
abbrev pub AreAtPlace : {O : Type 0} → List (Worker O) → Type 0
AreAtPlace {O} workers = (c : ℕ) (w : Worker O) → slice_get (reverse workers) c ≡ Some w → IsOk w.ended → w.column.number ≡ c

-- each worker that came to its end has a seat at each lock, whose lists are the key steps of its log
abbrev pub AllHaveSeats : {O : Type 0} → List LockView → List (Worker O) → Type 0
AllHaveSeats {O} locks workers = Each (λ (w : Worker O). IsOk w.ended → HasSeats locks w.column.number w.column.log w.seats.items) workers
