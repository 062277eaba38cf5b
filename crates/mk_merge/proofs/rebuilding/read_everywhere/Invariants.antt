use Rattle.std.proofs.Common.{drop}
use Rattle.mk_merge.proofs.EveryKey.{ComeToRead}
use Rattle.mk_merge.proofs.rebuilding.read_everywhere.Given as goal

abbrev pub invariant-loop-item : goal.invariant-loop-item
invariant-loop-item l = ComeToRead l.stamp l.item-items (drop l.item-index l.item-items) l.fn.lefts l.lefts
