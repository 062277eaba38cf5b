use Rattle.std.proofs.Common.{Some}
use Rattle.mk_words.specs.declared.GlobalLine.TheVariants.{Wipe}
use Rattle.mk_words.specs.declared.GlobalAnswer.TheVariants.{Ok as Done}
use Rattle.mk_epoch_tests.proofs.ReachedCalls.{stays_reached}
use Rattle.mk_epoch_tests.proofs.tests.calling.wipe.Goals as goal

pub returns-clause-reached : goal.returns-clause-reached
returns-clause-reached g c = stays_reached g.B.Keeping.stands c.calls_lead_on.ensures.does c.args.replicas.now c.wipe.new.self (Wipe c.args.replica) (Some Done) c.requires.reached tt c.wipe.ensures.does
