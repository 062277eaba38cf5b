use Rattle.std.proofs.Common.{sym, ap, ◌∙◌}
use Rattle.mk_words.specs.declared.Body.TheVariants.{Moved as MovedBody}
use Rattle.mk_model.specs.Replicas.{answering}
use Rattle.mk_column.proofs.ReplicaLaws.{moved-decide, moved-other}
use Rattle.mk_column.proofs.replica.moved.Goals as goal

pub returns-then-is_decide : goal.returns-then-is_decide
returns-then-is_decide c =
    λ held. c.nothing.ensures held c.args.msg.now ∙ sym (moved-decide c.args.view.now held c.args.msg.now c.args.msg.now.body (sym c.if-is_decide.ensures))

pub returns : goal.returns
returns c = λ held.
    c.answering.ensures held c.args.msg.now
    ∙ ap (λ fate. answering held c.args.msg.now (MovedBody (record { to = c.args.view.now.epoch; fate = fate }))) c.fate.ensures
    ∙ sym (moved-other c.args.view.now held c.args.msg.now c.args.msg.now.body (sym c.if-is_decide.ensures))
