use Rattle.mk_epoch.proofs.AnswerLaws.{adopts}
use Rattle.mk_epoch.proofs.replicas.Replicas.adopt.Goals as goal

pub returns-clause-does : goal.returns-clause-does
returns-clause-does g c =
    adopts g.B.Keeping.stands c.args.self.now c.args.epoch c.args.replica c.in_ok-base.base c.keep_adopted.new.self
    c.in_ok-check_adopt.ensures.row c.in_ok-check_adopt.ensures.made c.in_ok-base.ensures c.in_ok-check_adopt.ensures.answer c.keep_adopted.ensures.few c.keep_adopted.ensures.kept
