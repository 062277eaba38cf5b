use Rattle.mk_merge.proofs.CellsMade.{AreMade}
use Rattle.mk_merge.proofs.Base.rebuilt_cells.Given as goal

abbrev pub invariant-loop-left : goal.invariant-loop-left
invariant-loop-left l = AreMade l.left-items l.left-index l.cells.items
