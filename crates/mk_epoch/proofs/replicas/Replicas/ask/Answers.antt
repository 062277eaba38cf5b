use Rattle.mk_epoch.proofs.AnswerLaws.{asks}
use Rattle.mk_epoch.proofs.replicas.Replicas.ask.Goals as goal

pub returns-clause-does : goal.returns-clause-does
returns-clause-does g c = asks g.B.Keeping.stands c.args.self.now c.args.epoch c.keep_asked.new.self c.in_ok-keep_asked.ensures.ok
