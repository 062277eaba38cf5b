use Rattle.mk_trace.proofs.RoundsSoFar.{shaped_so_far}
use Rattle.mk_trace.proofs.laws.rounds_so_far_are_a_run.Goals as goal

pub returns : goal.returns
returns c = shaped_so_far
