use Rattle.std.proofs.Common.{◌<◌, ◌-◌, length, arith}
use Rattle.mk_past.proofs.TableLaws.{table-next}
use Rattle.mk_past.proofs.order.by_stamp.Goals as goal

pub each-preserved : goal.each-preserved
each-preserved c =
    let within : c.each.place - 1 < length c.args.lines.now = omega (arith, c.each.auto.place, c.each-test.true) in
    table-next c.args.lines.now c.each.place (c.each.place - 1) _ c.each.table.entries c.put_commit.new.table.entries c.requires
    (omega (arith, c.each-test.true)) within c.index-lines-place.is c.in_ok-put_commit.ensures c.each.invariant
