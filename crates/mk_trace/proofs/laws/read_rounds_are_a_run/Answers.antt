use Rattle.mk_trace.proofs.WholeText.{handed_shape}
use Rattle.mk_trace.proofs.laws.read_rounds_are_a_run.Goals as goal

pub returns : goal.returns
returns c = handed_shape
