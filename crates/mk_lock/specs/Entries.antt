-- The entries of a journal, by seat.
use Rattle.std.specs.Prelude.{◌≡◌, ℕ, nat_eq, List, [], ◌∷◌}
use Rattle.std.specs.List.{filter}
use Rattle.mk_words.specs.declared.Act.{Act}
use Rattle.mk_words.specs.declared.Answer.{Answer}
use Rattle.mk_words.specs.declared.JournalEntry.{JournalEntry}
use Rattle.mk_words.specs.Cells.{CellState}

-- the cell that a journal begins with, and its entries
pub record JournalState : Type 0 where
  pub opening : CellState
  pub entries : List JournalEntry

abbrev pub entry : ℕ → Act → Answer → JournalEntry
entry number act answer = record { seat = number; act = act; answer = answer }

-- the entries of one seat, in order
abbrev pub of_seat : ℕ → List JournalEntry → List JournalEntry
of_seat number entries = filter (λ e. nat_eq e.seat number) entries

-- each entry is of this seat
abbrev pub IsBy : ℕ → List JournalEntry → Type 0
IsBy number [] = Unit {0}
IsBy number (e ∷ es) = (e.seat ≡ number) × IsBy number es
