use Rattle.mk_snap.proofs.LeftsLaws.{ComesToRead}
use Rattle.mk_snap.proofs.lefts.add_reads.Given as goal

abbrev pub invariant-loop-item : goal.invariant-loop-item
invariant-loop-item l = ComesToRead l.txn.stamp l.item-items l.item-index l.fn.lefts.entries l.lefts.entries
