use Rattle.std.proofs.Common.{ap, arith}
use Rattle.mk_quorum.specs.Sizes.{majority_of}
use Rattle.mk_epoch.specs.Standing.{ReplicasView}
use Rattle.mk_epoch.proofs.AnswerLaws.{enters}
use Rattle.mk_epoch.proofs.replicas.Replicas.enter.Goals as goal

pub returns-clause-does : goal.returns-clause-does
returns-clause-does g c =
    enters g.B.Keeping.stands c.args.self.now c.args.epoch c.adopters-count.result c.serve.new.self c.adopters-count.ensures
    (omega (arith, c.if-count-majority.false, c.majority.ensures, ap (λ (v : ReplicasView g.row.B.Denot). majority_of v.faults) c.self.view_is)) c.serve.ensures
