use Rattle.std.proofs.Common.{◌≤◌, length, map}
use Rattle.mk_words.proofs.StampTables.{AreInTable}
use Rattle.mk_merge.proofs.ordering.by_stamp.Given as goal

abbrev pub invariant-loop-left : goal.invariant-loop-left
invariant-loop-left l = (l.left ≤ length l.txns) × AreInTable (map (λ t. t.now) l.txns) l.left l.table.entries

abbrev pub decreases-loop-left : goal.decreases-loop-left
decreases-loop-left l = l.left
