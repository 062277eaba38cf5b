use Rattle.mk_round.proofs.BeginLaws.{first_more}
use Rattle.mk_round.proofs.beginning.first_drivers.Goals as goal

pub loop-column-preserved : goal.loop-column-preserved
loop-column-preserved c =
    first_more c.args.script.now c.loop-column.column c.loop-column.drivers.items c.push.new.self.items c.in_ok-new.field-0 c.loop-column.invariant
    (record { driver_is = c.in_ok-new.ensures.driver; left = c.in_ok-new.ensures.left }) c.in_ok-push.ensures.items
