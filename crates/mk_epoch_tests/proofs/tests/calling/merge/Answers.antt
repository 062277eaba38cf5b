use Rattle.mk_epoch.specs.Standing.{told, counts}
use Rattle.mk_epoch_tests.proofs.ReachedCalls.{merge_reached, merge_fits}
use Rattle.mk_epoch_tests.proofs.tests.calling.merge.Goals as goal

pub merge-requires-clause-fit : goal.merge-requires-clause-fit
merge-requires-clause-fit g c = merge_fits g.B.Keeping.stands c.args.replicas.now c.args.epoch c.calls_lead_on.ensures.fit c.requires.reached

pub returns-in-Ok-clause-reached : goal.returns-in-Ok-clause-reached
returns-in-Ok-clause-reached g c = merge_reached g.B.Keeping.stands c.calls_lead_on.ensures.merges c.args.replicas.now c.merge.new.self c.args.epoch (told counts c.merge.result) c.requires.reached c.merge.ensures.does
