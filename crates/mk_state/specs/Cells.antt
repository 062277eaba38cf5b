-- Cells that are kept.
use Rattle.std.specs.Prelude.{List, map}
use Rattle.mk_words.specs.Cells.{CellState, CellView}

-- what cells are, whatever room they have
abbrev pub states_of : List CellView → List CellState
states_of cells = map (λ cell. cell.state) cells
