-- The locks of all keys, and the seats at them.
use Rattle.std.specs.Prelude.{◌≡◌, ℕ, ◌+◌, ◌*◌, ◌<◌, List, [], map, length, replicate, slice_get, Some}
use Rattle.std.specs.Global.{Vec}
use Rattle.crossbeam_utils.specs.declared.cache_padded.CachePadded.{CachePadded}
use Rattle.crossbeam_utils.specs.Padded.{padded_value}
use Rattle.mk_words.specs.Cells.{CellState}
use Rattle.mk_words.specs.declared.JournalEntry.{JournalEntry}
use Rattle.mk_words.specs.declared.Step.{Step}
use Rattle.mk_words.specs.declared.Step.TheVariants.{Key}
use Rattle.mk_history.specs.Matching.{Turn, turns_in_log}
use Rattle.mk_lock.specs.Seats.{SeatView, LockView}
use Rattle.mk_workers.specs.ByKey.{cell_at}
use Rattle.mk_workers.specs.Pairs.{Pairs}

-- the locks, in order
abbrev pub locks_of : List (CachePadded LockView) → List LockView
locks_of locks = map (λ (l : CachePadded LockView). padded_value {T = LockView} l) locks

-- a lock for each key of each of so many replicas: those of a replica stand together, in order of key
pub record AreLocksOf (replicas keys : ℕ) (locks : List LockView) : Type 0 where
  pub all : length locks ≡ replicas * keys
  pub each : (k : ℕ) (l : LockView) → slice_get locks k ≡ Some l → (k ≡ l.replica * keys + l.key) × (l.key < keys)

-- each lock has so many seats
abbrev pub AreSeated : ℕ → List LockView → Type 0
AreSeated columns locks = (k : ℕ) (l : LockView) → slice_get locks k ≡ Some l → l.seats ≡ columns

-- each lock began with the cell of its key
abbrev pub AreOpened : List (List CellState) → List LockView → Type 0
AreOpened cells locks = (k : ℕ) (l : LockView) → slice_get locks k ≡ Some l → l.opening ≡ cell_at cells l.replica l.key

-- the act of an entry with its answer
abbrev pub turn_of : JournalEntry → Turn
turn_of entry = record { act = entry.act; answer = entry.answer }

-- a seat of this lock, whose own list is the key steps of the column's log at the lock's key
pub record IsSeatAt (l : LockView) (column : ℕ) (log : List Step) (s : SeatView) : Type 0 where
  pub lock : s.lock ≡ l.name
  pub number : s.number ≡ column
  pub entries : map turn_of s.entries ≡ turns_in_log l.replica l.key log

-- the column has a seat at each lock, in order
abbrev pub HasSeats : List LockView → ℕ → List Step → List SeatView → Type 0
HasSeats locks column log seats = Pairs (λ _ l s. IsSeatAt l column log s) locks seats

-- the lock has a seat of each column with its log, in order
abbrev pub HasColumns : LockView → List (List Step) → List SeatView → Type 0
HasColumns l logs seats = Pairs (IsSeatAt l) logs seats

-- each lock has the seats of these columns
abbrev pub RowsHold : List LockView → List (List Step) → List (Vec SeatView) → Type 0
RowsHold locks logs rows = Pairs (λ _ l (row : Vec SeatView). HasColumns l logs row.items) locks rows

-- each lock has so many seats, none of them used
abbrev pub RowsFit : List LockView → ℕ → List (Vec SeatView) → Type 0
RowsFit locks count rows = RowsHold locks (replicate count []) rows

-- the seats of one column, none of them used
abbrev pub IsFreshColumn : List LockView → ℕ → List SeatView → Type 0
IsFreshColumn locks column seats = HasSeats locks column [] seats

-- the step is no key step
abbrev pub IsElsewhere : Step → Type 0
IsElsewhere (Key call answer) = ⊥
IsElsewhere step = Unit {0}
