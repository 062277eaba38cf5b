-- So many keys so far.
use Rattle.std.proofs.Common.{◌≡◌}
use Rattle.std.specs.Prelude.{replicate}
use Rattle.mk_words.specs.Cells.{first_cell}
use Rattle.mk_state.specs.Cells.{states_of}
use Rattle.mk_state.proofs.starting.first_cells.Given as goal

abbrev pub invariant-loop-key : goal.invariant-loop-key
invariant-loop-key l = states_of l.cells.items ≡ replicate l._key first_cell
