use Rattle.mk_workers_tests.proofs.LaneLaws.{first_driver_is}
use Rattle.mk_workers_tests.proofs.lanes.first_driver.Goals as goal

pub returns : goal.returns
returns c = first_driver_is c.args.script.now c.args.number _ _ c.in_ok-driver.ensures.driver c.in_ok-begin_round.ensures.begun
