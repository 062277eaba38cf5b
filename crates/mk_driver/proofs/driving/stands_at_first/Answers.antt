use Rattle.mk_driver.proofs.StandingLaws.{at_first}
use Rattle.mk_driver.proofs.driving.stands_at_first.Goals as goal

pub returns : goal.returns
returns c = at_first
