use Rattle.mk_driver.proofs.StandingLaws.{rounded}
use Rattle.mk_driver.proofs.driving.stands_after_round.Goals as goal

pub returns : goal.returns
returns c = rounded
