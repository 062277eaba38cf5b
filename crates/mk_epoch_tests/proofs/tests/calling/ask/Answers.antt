use Rattle.mk_words.specs.declared.GlobalLine.TheVariants.{Ask}
use Rattle.mk_epoch_tests.proofs.ReachedCalls.{stays_reached}
use Rattle.mk_epoch_tests.proofs.tests.calling.ask.Goals as goal

pub returns-clause-reached : goal.returns-clause-reached
returns-clause-reached g c = stays_reached g.B.Keeping.stands c.calls_lead_on.ensures.does c.args.replicas.now c.ask.new.self (Ask c.args.epoch) _ c.requires.reached tt c.ask.ensures.does
