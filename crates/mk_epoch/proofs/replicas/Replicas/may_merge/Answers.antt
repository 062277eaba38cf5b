use Rattle.std.proofs.Common.{ap, sym, ◌∙◌, Some, length, arith}
use Rattle.mk_epoch.specs.Changes.{change_for}
use Rattle.mk_epoch.specs.Standing.{ReplicasView}
use Rattle.mk_epoch.proofs.KeptLaws.{few_promises}
use Rattle.mk_epoch.proofs.AnswerLaws.{too_few, not_led, can, enough-below, leader_lacks, leader_past, leader_may}
use Rattle.mk_epoch.proofs.replicas.Replicas.may_merge.Goals.{then-not-is_enough-via-then-not-is_enough, then-not-is_enough-via-else-not-is_enough+then-not-is_led}
use Rattle.mk_epoch.proofs.replicas.Replicas.may_merge.Goals as goal

pub overflow_cast-result : goal.overflow_cast-result
overflow_cast-result g c =
    omega (arith, few_promises _ c.self.invariant c.args.epoch, ap (λ (v : ReplicasView g.row.B.Denot). length (change_for c.args.epoch v.changes).promises) c.self.view_is, ap (λ ps. length ps) c.promises-promises.ensures)

pub returns-then-not-is_enough-clause-err : goal.returns-then-not-is_enough-clause-err
returns-then-not-is_enough-clause-err g c state h =
    ap Some (elim c.then-not-is_enough.branch [
      | then-not-is_enough-via-then-not-is_enough w ↦ too_few g.B.Keeping.stands c.args.self.now _ c.args.epoch (ap (λ (v : ReplicasView g.row.B.Denot). v.faults) c.self.view_is) _ c.promises-promises.ensures c.requires.made (sym c.is_enough.ensures ∙ w.if-not-is_enough.true) state h
      | then-not-is_enough-via-else-not-is_enough+then-not-is_led w ↦ not_led g.B.Keeping.stands c.args.self.now _ c.args.epoch (ap (λ (v : ReplicasView g.row.B.Denot). v.faults) c.self.view_is) _ c.promises-promises.ensures c.requires.made (sym w.is_led.ensures ∙ w.if-not-is_led.true) state h
    ])

pub returns-then-lacks-clause-err : goal.returns-then-lacks-clause-err
returns-then-lacks-clause-err g c state h =
    ap Some (leader_lacks g.B.Keeping.stands c.args.self.now _ c.args.epoch (ap (λ (v : ReplicasView g.row.B.Denot). v.faults) c.self.view_is) _ c.promises-promises.ensures
    (sym c.if-not-is_enough.ensures) (sym c.if-not-is_led.ensures) c.requires.made c.n.result c.n.ensures c.replica.result.now c.replica.ensures (sym c.if-lacks.ensures) state h)

pub returns-then-epoch-word-clause-err : goal.returns-then-epoch-word-clause-err
returns-then-epoch-word-clause-err g c state h =
    ap Some (leader_past g.B.Keeping.stands c.args.self.now _ c.args.epoch (ap (λ (v : ReplicasView g.row.B.Denot). v.faults) c.self.view_is) _ c.promises-promises.ensures
    (sym c.if-not-is_enough.ensures) (sym c.if-not-is_led.ensures) c.requires.made c.n.result c.n.ensures c.replica.result.now c.replica.ensures
    c.args.word c.requires.word (sym c.if-lacks.ensures) c.if-epoch-word.true state h)

pub returns-clause-ok : goal.returns-clause-ok
returns-clause-ok g c state h = (
  can g.B.Keeping.stands c.args.self.now _ c.args.epoch (ap (λ (v : ReplicasView g.row.B.Denot). v.faults) c.self.view_is) _ c.promises-promises.ensures
      (sym c.if-not-is_enough.ensures) (sym c.if-not-is_led.ensures) state h,
  leader_may g.B.Keeping.stands c.args.self.now _ c.args.epoch (ap (λ (v : ReplicasView g.row.B.Denot). v.faults) c.self.view_is) _ c.promises-promises.ensures
      (sym c.if-not-is_enough.ensures) (sym c.if-not-is_led.ensures) c.requires.made c.n.result c.n.ensures c.replica.result.now c.replica.ensures
      c.args.word c.requires.word (sym c.if-lacks.ensures) c.if-epoch-word.false state h,
)

pub returns-clause-row : goal.returns-clause-row
returns-clause-row g c =
    enough-below g.B.Keeping.stands c.args.self.now _ c.args.epoch (ap (λ (v : ReplicasView g.row.B.Denot). v.faults) c.self.view_is) _ c.promises-promises.ensures
    (sym c.if-not-is_enough.ensures) (sym c.if-not-is_led.ensures)
