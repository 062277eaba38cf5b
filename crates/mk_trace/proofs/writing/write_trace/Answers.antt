use Rattle.mk_trace.proofs.WholeText.{written_law}
use Rattle.mk_trace.proofs.writing.write_trace.Goals as goal

pub returns-clause-found : goal.returns-clause-found
returns-clause-found c = written_law c.write_text.result c.args.run.now c.write_text.ensures.shape c.write_text.ensures.text
