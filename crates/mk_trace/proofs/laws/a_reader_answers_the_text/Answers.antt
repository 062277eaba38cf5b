use Rattle.mk_trace.proofs.Finishing.{answered}
use Rattle.mk_trace.proofs.laws.a_reader_answers_the_text.Goals as goal

pub returns : goal.returns
returns c = answered
