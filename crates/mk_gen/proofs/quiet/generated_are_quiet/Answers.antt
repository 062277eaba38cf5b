use Rattle.mk_gen.proofs.QuietScripts.{generated-quiet}
use Rattle.mk_gen.proofs.quiet.generated_are_quiet.Goals as goal

pub returns : goal.returns
returns c = generated-quiet
