-- What a contract sees of a seat and of a lock.
use Rattle.std.specs.Prelude.{◌≡◌, ℕ, ◌≤◌, List, [], ◌∷◌, length, slice_get, Some}
use Rattle.atomic_table.specs.Seated.{TableId}
use Rattle.atomic_table.specs.Table.{Me}
use Rattle.mk_words.specs.declared.JournalEntry.{JournalEntry}
use Rattle.mk_words.specs.Cells.{CellState}
use Rattle.mk_lock.specs.declared.view.Held.{Held}
use Rattle.mk_lock.specs.declared.view.Stage.TheVariants.{Idle}
use Rattle.mk_lock.specs.declared.view.View.{View}
use Rattle.mk_words.specs.Journals.{Replays}
use Rattle.mk_lock.specs.Entries.{JournalState, of_seat}
use Rattle.mk_lock.specs.Turns.{held, view}

-- the lock's name, the seat's number, and the list of its own entries
pub record SeatView : Type 0 where
  pub lock : TableId
  pub number : ℕ
  pub entries : List JournalEntry

abbrev pub seat_view : TableId → ℕ → List JournalEntry → SeatView
seat_view lock number entries = record { lock = lock; number = number; entries = entries }

abbrev pub first_of : List Held → List JournalEntry
first_of [] = []
first_of (h ∷ hs) = h.entries

abbrev pub first_entries : View → List JournalEntry
first_entries v = first_of v.held

-- a seat with this number and list, which has no ticket
abbrev pub resting : ℕ → List JournalEntry → Me JournalState View
resting number entries = (view (held number entries ∷ []) Idle, [])

abbrev pub held_of : SeatView → Held
held_of s = held s.number s.entries

-- a lock's name, the number of its seats, the cell that it began with, and its place
pub record LockView : Type 0 where
  pub name : TableId
  pub seats : ℕ
  pub opening : CellState
  pub replica : ℕ
  pub key : ℕ

-- all seats of the lock, in order
pub record AreSeatsOf (name : TableId) (count : ℕ) (seats : List SeatView) : Type 0 where
  pub all : length seats ≡ count
  pub each : (k : ℕ) (s : SeatView) → slice_get seats k ≡ Some s → (s.lock ≡ name) × (s.number ≡ k)

-- the journal leads from the first cell to the last, and each seat's list is its entries there, in order
pub record IsJournalOf (opening closing : CellState) (seats : List SeatView) (journal : List JournalEntry) : Type 0 where
  pub replays : Replays opening journal closing
  pub own : (k : ℕ) (s : SeatView) → slice_get seats k ≡ Some s → of_seat k journal ≡ s.entries
  pub no_stranger : (number : ℕ) → length seats ≤ number → of_seat number journal ≡ []
