use Rattle.std.proofs.Common.{ap, sym, ◌∙◌, Some}
use Rattle.mk_epoch.proofs.RowLaws.{made-below}
use Rattle.mk_epoch.proofs.AnswerLaws.{adopt_answered, adopt_old, adopt_done, some_made}
use Rattle.mk_epoch.proofs.replicas.Replicas.check_adopt.Goals as goal

pub returns-then-is_past-clause-answer : goal.returns-then-is_past-clause-answer
returns-then-is_past-clause-answer g c state h =
    ap Some (sym (adopt_answered g.B.Keeping.stands c.args.self.now state h c.args.epoch c.args.replica c.replica-replica.result.now c.replica-replica.ensures
    ∙ adopt_old _ _ _ _ c.args.epoch (some_made c.made_base.result _ c.if-is_none.ensures c.made_base.ensures) (sym c.if-is_past.ensures)))

pub returns-clause-answer : goal.returns-clause-answer
returns-clause-answer g c state h =
    ap Some (sym (adopt_answered g.B.Keeping.stands c.args.self.now state h c.args.epoch c.args.replica c.replica-replica.result.now c.replica-replica.ensures
    ∙ adopt_done _ _ _ _ c.args.epoch (some_made c.made_base.result _ c.if-is_none.ensures c.made_base.ensures) (sym c.if-is_past.ensures)))

pub returns-clause-row : goal.returns-clause-row
returns-clause-row g c = made-below c.args.self.now.changes c.args.epoch (some_made c.made_base.result _ c.if-is_none.ensures c.made_base.ensures)
