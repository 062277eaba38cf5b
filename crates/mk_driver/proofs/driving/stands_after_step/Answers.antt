use Rattle.mk_driver.proofs.StandingLaws.{stepped}
use Rattle.mk_driver.proofs.driving.stands_after_step.Goals as goal

pub returns : goal.returns
returns c = stepped
