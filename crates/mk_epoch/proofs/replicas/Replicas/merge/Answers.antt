use Rattle.std.proofs.Common.{sym}
use Rattle.mk_epoch.proofs.AnswerLaws.{merges}
use Rattle.mk_epoch.specs.Standing.{counts}
use Rattle.mk_epoch.proofs.replicas.Replicas.merge.Goals as goal

pub returns-clause-does : goal.returns-clause-does
returns-clause-does g c =
    merges g.B.Keeping.stands c.args.self.now c.args.epoch c.in_ok-base.base (counts c.counted-counts.result) c.keep_base.new.self
    c.in_ok-may_merge.ensures.row (sym c.in_default.ensures) c.in_ok-base.ensures.ok (λ state h. (c.in_ok-may_merge.ensures.ok state h).1) c.counted-counts.ensures c.keep_base.ensures
