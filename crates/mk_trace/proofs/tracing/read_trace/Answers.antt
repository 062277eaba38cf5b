use Rattle.mk_trace.proofs.WholeText.{found_law, only_law}
use Rattle.mk_trace.proofs.tracing.read_trace.Goals as goal

pub returns-clause-found : goal.returns-clause-found
returns-clause-found c = found_law c.read_text.result c.args.bytes.now c.read_text.ensures.exact

pub returns-clause-only : goal.returns-clause-only
returns-clause-only c = λ run shape same. only_law c.read_text.result c.args.bytes.now run shape same c.read_text.ensures.exact
