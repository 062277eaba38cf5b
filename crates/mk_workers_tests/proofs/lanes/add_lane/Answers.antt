use Rattle.mk_workers_tests.proofs.LaneLaws.{lane_more}
use Rattle.mk_workers_tests.proofs.lanes.add_lane.Goals as goal

pub returns-clause-lanes : goal.returns-clause-lanes
returns-clause-lanes c =
    let was = c.args.lanes.now in
    lane_more c.args.script.now c.args.number was.drivers.items c.push.new.self.items was.columns.items c.push-2.new.self.items c.in_ok-driver.driver c.in_ok-column.column
    c.requires.lanes c.requires.number c.in_ok-driver.ensures c.in_ok-column.ensures c.in_ok-push.ensures.items c.in_ok-push-2.ensures.items
