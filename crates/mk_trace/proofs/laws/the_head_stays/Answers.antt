use Rattle.mk_trace.proofs.RoundsSoFar.{head_stays}
use Rattle.mk_trace.proofs.laws.the_head_stays.Goals as goal

pub returns : goal.returns
returns c = head_stays
