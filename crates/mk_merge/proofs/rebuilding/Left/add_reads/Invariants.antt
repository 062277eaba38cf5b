use Rattle.std.proofs.Common.{◌≡◌, drop}
use Rattle.mk_merge_laws.specs.Lefts.{after_reads}
use Rattle.mk_merge.proofs.rebuilding.Left.add_reads.Given as goal

-- with the reads that are left it comes to all of them
abbrev pub invariant-loop-item : goal.invariant-loop-item
invariant-loop-item l =
    (l.self.latest ≡ l.fn.self.latest)
    × (after_reads l.key l.txn.stamp l.self.rts (drop l.item-index l.item-items) ≡ after_reads l.key l.txn.stamp l.fn.self.rts l.item-items)
