use Rattle.std.proofs.Common.{◌≤◌, length, map}
use Rattle.mk_merge.proofs.OrderLaws.{AreOrdered}
use Rattle.mk_merge.proofs.ordering.by_id.Given as goal

abbrev pub invariant-loop-left : goal.invariant-loop-left
invariant-loop-left l = (l.left ≤ length l.txns) × AreOrdered (map (λ t. t.now) l.txns) l.left l.table.entries

abbrev pub decreases-loop-left : goal.decreases-loop-left
decreases-loop-left l = l.left
