use Rattle.mk_shape.proofs.CountLaws.{none_taken}
use Rattle.mk_shape.proofs.attempts.Attempts.new.Goals as goal

pub returns : goal.returns
returns c = none_taken
