-- So many replicas so far.
use Rattle.std.proofs.Common.{◌≡◌, map}
use Rattle.std.specs.Prelude.{replicate}
use Rattle.mk_words.specs.Cells.{first_cell}
use Rattle.mk_state.specs.Cells.{states_of}
use Rattle.mk_state.proofs.starting.all_cells.Given as goal

abbrev pub invariant-loop-replica : goal.invariant-loop-replica
invariant-loop-replica l = map (λ row. states_of row.items) l.cells.items ≡ replicate l._replica (replicate l.keys first_cell)
