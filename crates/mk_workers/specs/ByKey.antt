-- Lists by replica and key.
use Rattle.std.specs.Prelude.{◌≡◌, ℕ, List, [], ◌∷◌, map, length, slice_index_or}
use Rattle.std.specs.Global.{Vec}
use Rattle.mk_lists.specs.Among.{Each}
use Rattle.mk_words.specs.declared.JournalEntry.{JournalEntry}
use Rattle.mk_words.specs.Cells.{CellState, CellView, first_cell}

-- the states of the cells of one replica, by key
abbrev pub states_in : Vec CellView → List CellState
states_in row = map (λ (cell : CellView). cell.state) row.items

-- the states of the cells, by replica and key
abbrev pub states_of : List (Vec CellView) → List (List CellState)
states_of cells = map states_in cells

-- a list for each replica, with a member for each key
pub record IsByKey {X : Type 0} (replicas keys : ℕ) (rows : List (List X)) : Type 0 where
  pub all : length rows ≡ replicas
  pub each : Each (λ row. length row ≡ keys) rows

-- how many keys there are at each replica, where it is the same for all
abbrev pub keys_of : List (Vec CellView) → ℕ
keys_of [] = 0
keys_of (row ∷ rows) = length row.items

-- the cell of a key at a replica
abbrev pub cell_at : List (List CellState) → ℕ → ℕ → CellState
cell_at cells r key = slice_index_or (slice_index_or cells r []) key first_cell

-- its journal
abbrev pub journal_at : List (List (List JournalEntry)) → ℕ → ℕ → List JournalEntry
journal_at journals r key = slice_index_or (slice_index_or journals r []) key []
