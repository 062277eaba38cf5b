-- Locks while they are taken apart.
use Rattle.std.specs.Prelude.{◌≡◌, ℕ, ◌+◌, ◌*◌, ◌<◌, List, [], length}
use Rattle.std.specs.Global.{Vec}
use Rattle.mk_lists.specs.Among.{Each}
use Rattle.mk_words.specs.declared.JournalEntry.{JournalEntry}
use Rattle.mk_words.specs.declared.Step.{Step}
use Rattle.mk_words.specs.Cells.{CellState, CellView}
use Rattle.mk_lock.specs.Seats.{SeatView, LockView}
use Rattle.mk_workers.specs.ByKey.{cell_at}
use Rattle.mk_workers.specs.Pairs.{Pairs}
use Rattle.mk_workers.specs.Seating.{HasColumns}
use Rattle.mk_workers.specs.Worked.{IsWorkedAt}

-- a lock that is left, with the seats of all columns, where those before the first one are gone
pub record IsLeft (keys : ℕ) (logs : List (List Step)) (first k : ℕ) (l : LockView) (row : Vec SeatView) : Type 0 where
  pub place : first + k ≡ l.replica * keys + l.key
  pub inside : l.key < keys
  pub seats : l.seats ≡ length logs
  pub columns : HasColumns l logs row.items

-- all that are left
abbrev pub AreLeft : ℕ → List (List Step) → ℕ → List LockView → List (Vec SeatView) → Type 0
AreLeft keys logs first locks rows = Pairs (IsLeft keys logs first) locks rows

-- the cells and journals of one replica, by key
abbrev pub AreClosedAt : ℕ → List (List Step) → List (List CellState) → List CellView → List (Vec JournalEntry) → Type 0
AreClosedAt r logs before cells journals = Pairs (λ key (cell : CellView) (journal : Vec JournalEntry). IsWorkedAt r key logs (cell_at before r key) cell.state journal.items) cells journals

-- those of one replica for so many keys
pub record IsClosedRow (keys : ℕ) (logs : List (List Step)) (before : List (List CellState)) (r : ℕ) (cells : Vec CellView) (journals : Vec (Vec JournalEntry)) : Type 0 where
  pub all : length cells.items ≡ keys
  pub each : AreClosedAt r logs before cells.items journals.items

-- a list for each of these cells, with no entry
pub record HasNoEntries (cells : List CellView) (journals : Vec (Vec JournalEntry)) : Type 0 where
  pub all : length journals.items ≡ length cells
  pub empty : Each (λ (journal : Vec JournalEntry). journal.items ≡ []) journals.items
