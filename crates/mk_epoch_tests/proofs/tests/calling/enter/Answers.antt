use Rattle.mk_words.specs.declared.GlobalLine.TheVariants.{Enter}
use Rattle.mk_words.specs.declared.GlobalAnswer.TheVariants.{Entered}
use Rattle.mk_epoch.specs.Standing.{told}
use Rattle.mk_epoch_tests.proofs.ReachedCalls.{stays_reached}
use Rattle.mk_epoch_tests.proofs.tests.calling.enter.Goals as goal

pub returns-in-Ok-clause-reached : goal.returns-in-Ok-clause-reached
returns-in-Ok-clause-reached g c = stays_reached g.B.Keeping.stands c.calls_lead_on.ensures.does c.args.replicas.now c.enter.new.self (Enter c.args.epoch) (told Entered c.enter.result) c.requires.reached tt c.enter.ensures.does
