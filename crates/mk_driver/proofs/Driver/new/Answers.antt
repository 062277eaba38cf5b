use Rattle.mk_driver.proofs.FewLaws.{whole_few}
use Rattle.mk_driver.proofs.Driver.new.Goals as goal

pub rounds_of-requires : goal.rounds_of-requires
rounds_of-requires c = rw c.as_slice.ensures (whole_few _ c.script.invariant)
