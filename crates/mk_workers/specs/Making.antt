-- Locks while they are made.
use Rattle.std.specs.Prelude.{◌≡◌, ℕ, ◌+◌, ◌*◌, ◌<◌, List, [], ◌∷◌, ◌++◌, length, replicate, slice_get, Some}
use Rattle.std.specs.Global.{Vec}
use Rattle.mk_words.specs.Cells.{CellState}
use Rattle.mk_lock.specs.Seats.{SeatView, LockView}
use Rattle.mk_workers.specs.ByKey.{cell_at}
use Rattle.mk_workers.specs.Seating.{HasColumns, RowsFit}
use Rattle.mk_workers.specs.declared.locks.Locks.{Locks}
use Rattle.mk_workers.specs.Seating.{locks_of}

-- the lock at this place, which began with the cell of its key
pub record IsLockAt (keys columns : ℕ) (cells : List (List CellState)) (k : ℕ) (l : LockView) : Type 0 where
  pub place : k ≡ l.replica * keys + l.key
  pub inside : l.key < keys
  pub seats : l.seats ≡ columns
  pub opening : l.opening ≡ cell_at cells l.replica l.key

-- so many locks of all keys, with all their seats
pub record HasMade (count keys columns : ℕ) (cells : List (List CellState)) (made : Locks) : Type 0 where
  pub all : length (locks_of made.locks.items) ≡ count
  pub each : (k : ℕ) (l : LockView) → slice_get (locks_of made.locks.items) k ≡ Some l → IsLockAt keys columns cells k l
  pub rows : RowsFit (locks_of made.locks.items) columns made.rows.items

-- one lock more, with its seats
pub record HasAdded (replica key columns : ℕ) (cell : CellState) (made new_made : Locks) : Type 0 where
  pub lock : LockView
  pub row : Vec SeatView
  pub locks : locks_of new_made.locks.items ≡ locks_of made.locks.items ++ lock ∷ []
  pub rows : new_made.rows.items ≡ made.rows.items ++ row ∷ []
  pub replica_is : lock.replica ≡ replica
  pub key_is : lock.key ≡ key
  pub seats : lock.seats ≡ columns
  pub opening : lock.opening ≡ cell
  pub fresh : HasColumns lock (replicate columns []) row.items
