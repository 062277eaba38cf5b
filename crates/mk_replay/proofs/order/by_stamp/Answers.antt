use Rattle.std.proofs.Common.{◌<◌, ◌-◌, length, arith}
use Rattle.mk_words.proofs.StampTables.{table-next}
use Rattle.mk_replay.proofs.order.by_stamp.Goals as goal

pub loop-place-preserved : goal.loop-place-preserved
loop-place-preserved c =
    let within : c.loop-place.place - 1 < length c.args.txns.now = omega (arith, c.loop-place.auto.place, c.loop-place-test.true) in
    table-next c.args.txns.now c.loop-place.place (c.loop-place.place - 1) _ c.stamp.result c.loop-place.ordered.entries c.insert.new.self.entries c.requires
    (omega (arith, c.loop-place-test.true)) within c.index-txns-place.is c.stamp.ensures c.in_ok-insert.ensures.entries c.loop-place.invariant
