use Rattle.std.proofs.Common.{ap, sym, ◌∙◌, Some}
use Rattle.mk_epoch.proofs.RowLaws.{asked-below}
use Rattle.mk_epoch.proofs.AnswerLaws.{promise_answered, promise_lacking, promise_old, promise_done, le_holds, le_fails}
use Rattle.mk_epoch.proofs.replicas.Replicas.check_promise.Goals as goal

pub returns-then-lacks-clause-answer : goal.returns-then-lacks-clause-answer
returns-then-lacks-clause-answer g c state h =
    ap Some (sym (promise_answered g.B.Keeping.stands c.args.self.now state h c.args.epoch c.args.replica c.replica-replica.result.now c.replica-replica.ensures
    ∙ promise_lacking _ _ _ c.args.epoch (sym c.if-not-is_asked.ensures) (sym c.if-lacks.ensures)))

pub returns-then-epoch-replica-clause-answer : goal.returns-then-epoch-replica-clause-answer
returns-then-epoch-replica-clause-answer g c state h =
    ap Some (sym (promise_answered g.B.Keeping.stands c.args.self.now state h c.args.epoch c.args.replica c.replica-replica.result.now c.replica-replica.ensures
    ∙ promise_old _ _ _ c.args.epoch (sym c.if-not-is_asked.ensures) (sym c.if-lacks.ensures) (le_holds c.args.epoch c.replica-replica.result.now.word c.if-epoch-replica.true)))

pub returns-clause-answer : goal.returns-clause-answer
returns-clause-answer g c state h =
    ap Some (sym (promise_answered g.B.Keeping.stands c.args.self.now state h c.args.epoch c.args.replica c.replica-replica.result.now c.replica-replica.ensures
    ∙ promise_done _ _ _ c.args.epoch (sym c.if-not-is_asked.ensures) (sym c.if-lacks.ensures) (le_fails c.args.epoch c.replica-replica.result.now.word c.if-epoch-replica.false)))

pub returns-clause-row : goal.returns-clause-row
returns-clause-row g c = asked-below c.args.self.now.changes c.args.epoch (sym c.if-not-is_asked.ensures)
