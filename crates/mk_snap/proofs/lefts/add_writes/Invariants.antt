use Rattle.mk_snap.proofs.LeftsLaws.{ComesToWritten}
use Rattle.mk_snap.proofs.lefts.add_writes.Given as goal

abbrev pub invariant-loop-item : goal.invariant-loop-item
invariant-loop-item l = ComesToWritten l.txn.stamp l.item-items l.item-index l.fn.lefts.entries l.lefts.entries
