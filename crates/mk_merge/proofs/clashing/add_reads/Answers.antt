use Rattle.mk_merge.proofs.ClashingLaws.{read-next}
use Rattle.mk_merge.proofs.clashing.add_reads.Goals as goal

pub loop-item-preserved : goal.loop-item-preserved
loop-item-preserved c key stamp =
    read-next key stamp c.args.txn.now.stamp c.stamp.result c.reads-item-items.result.now c.args.txn.now.reads c.loop-item.item-index _ _ _ _ c.reads-item-items.ensures.value c.stamp.ensures c.loop-item-test.true (c.in_ok-add_span.ensures key stamp) (c.loop-item.invariant key stamp)
