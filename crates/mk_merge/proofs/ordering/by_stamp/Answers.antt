use Rattle.std.proofs.Common.{◌<◌, ◌-◌, length, arith, subst}
use Rattle.mk_lists.specs.Among.{AllDistinct}
use Rattle.mk_merge.proofs.OrderLaws.{now-at}
use Rattle.mk_words.proofs.StampTables.{table-next, stamps-now}
use Rattle.mk_merge.proofs.ordering.by_stamp.Goals as goal

pub loop-left-preserved : goal.loop-left-preserved
loop-left-preserved c =
    let within : c.loop-left.left - 1 < length c.args.txns.now = omega (arith, c.loop-left.invariant.0, c.loop-left-test.true) in
    let at = now-at c.args.txns.now (c.loop-left.left - 1) c.index-txns-left.result within c.index-txns-left.is in (
      omega (arith, within),
      table-next _ c.loop-left.left (c.loop-left.left - 1) c.index-txns-left.result _ _ _ (subst AllDistinct (stamps-now c.args.txns.now) c.requires) (omega (arith, c.loop-left-test.true)) at.1 at.0 c.stamp.ensures c.in_ok-insert.ensures.entries c.loop-left.invariant.1,
    )
