use Rattle.std.proofs.Common.{drop}
use Rattle.mk_merge.proofs.EveryKey.{ComeToWritten}
use Rattle.mk_merge.proofs.rebuilding.write_everywhere.Given as goal

abbrev pub invariant-loop-item : goal.invariant-loop-item
invariant-loop-item l = ComeToWritten l.stamp l.item-items (drop l.item-index l.item-items) l.fn.lefts l.lefts
