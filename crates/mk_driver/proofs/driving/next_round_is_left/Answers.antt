use Rattle.mk_driver.proofs.StandingLaws.{left_where}
use Rattle.mk_driver.proofs.driving.next_round_is_left.Goals as goal

pub returns : goal.returns
returns c = left_where
