-- Journals: the acts and answers at one key of one replica, in the order of their turns.
use Rattle.std.specs.Prelude.{◌≡◌, List, [], ◌∷◌}
use Rattle.mk_words.specs.declared.JournalEntry.{JournalEntry}
use Rattle.mk_words.specs.Cells.{CellState, cell_after, cell_answer}

-- the cell to which a journal's acts lead
abbrev pub cell_through : CellState → List JournalEntry → CellState
cell_through cell [] = cell
cell_through cell (entry ∷ journal) = cell_through (cell_after cell entry.act) journal

-- each entry has the answer that the cell gives in its turn
abbrev pub EachAnswered : CellState → List JournalEntry → Type 0
EachAnswered cell [] = Unit {0}
EachAnswered cell (entry ∷ journal) = (cell_answer cell entry.act ≡ entry.answer) × EachAnswered (cell_after cell entry.act) journal

-- a journal replays from an opening cell to a closing cell
pub record Replays (opening : CellState) (journal : List JournalEntry) (closing : CellState) : Type 0 where
  pub answered : EachAnswered opening journal
  pub closes : closing ≡ cell_through opening journal
