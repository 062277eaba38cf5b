use Rattle.std.proofs.Common.{◌≡◌, drop}
use Rattle.mk_txn.specs.LatestWrites.{after_writes}
use Rattle.mk_merge.proofs.rebuilding.Left.add_writes.Given as goal

-- with the writes that are left it comes to all of them
abbrev pub invariant-loop-item : goal.invariant-loop-item
invariant-loop-item l =
    (after_writes l.key l.txn.stamp l.self.latest (drop l.item-index l.item-items) ≡ after_writes l.key l.txn.stamp l.fn.self.latest l.item-items)
    × (l.self.rts ≡ l.fn.self.rts)
