use Rattle.mk_epoch.proofs.AnswerLaws.{wipes}
use Rattle.mk_epoch.proofs.replicas.Replicas.wipe.Goals as goal

pub returns-clause-does : goal.returns-clause-does
returns-clause-does g c = wipes g.B.Keeping.stands c.args.self.now c.args.replica c.empty-empty.result c.keep_lost.new.self c.empty-empty.ensures c.keep_lost.ensures
