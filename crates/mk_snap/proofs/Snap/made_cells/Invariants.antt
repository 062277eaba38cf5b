use Rattle.mk_snap.specs.Snapshots.{AreCells}
use Rattle.mk_snap.proofs.Snap.made_cells.Given as goal

abbrev pub invariant-loop-key : goal.invariant-loop-key
invariant-loop-key l = AreCells l.self.lefts l.key l.cells.items
