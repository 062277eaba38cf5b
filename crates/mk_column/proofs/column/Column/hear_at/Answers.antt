use Rattle.std.proofs.Common.{◌<◌, sym, ap, subst, ◌∙◌}
use Rattle.mk_model.proofs.Parts.{takeover_answered-id}
use Rattle.mk_quorum.specs.Sizes.{members}
use Rattle.mk_column.specs.contracts.column.Column.{the_view}
use Rattle.mk_model.specs.Answers.{takeover_answered}
use Rattle.mk_model.specs.ColumnState.{change_takeover}
use Rattle.mk_column.specs.TakeoversByCode.{takeovers_of}
use Rattle.mk_column.specs.ColumnByCode.{ColumnView}
use Rattle.mk_column.proofs.KeptSteps.{IsKept-takeover_changed}
use Rattle.mk_column.proofs.TakeoverLaws.{backup-there, takeovers-changed, backup-sized}
use Rattle.mk_column.proofs.column.Column.hear_at.Goals as goal

pub answer-requires : goal.answer-requires
answer-requires c =
    backup-sized c.self.inside.size c.args.msg.now.replica
    (record { id = c.args.msg.now.id; view = c.args.msg.now.view }) c.self.inside.parts.takeovers c.self.invariant.takeovers
    (subst (λ (column : ColumnView). c.args.msg.now.replica < members column.setting.faults) (sym c.self.view_is) c.requires.replica)
    (backup-there (record { id = c.args.msg.now.id; view = c.args.msg.now.view }) c.self.inside.parts.takeovers c.args.self.now.state (ap (λ column. column.state.takeovers) (sym c.self.view_is)) c.requires.there)

pub invariant_of-self : goal.invariant_of-self
invariant_of-self c =
    IsKept-takeover_changed _ (record { id = c.args.msg.now.id; view = c.args.msg.now.view })
    (takeover_answered c.args.msg.now.replica c.args.msg.now.body) _ _ _
    (takeover_answered-id c.args.msg.now.replica c.args.msg.now.body) c.answer.ensures c.self.invariant

pub returns : goal.returns
returns c =
    let old = the_view c.self.inside in
    let msg = c.args.msg.now in
    ap (λ all. record old { state = record old.state { takeovers = all } })
    (ap takeovers_of c.answer.ensures ∙ takeovers-changed (record { id = msg.id; view = msg.view }) (takeover_answered msg.replica msg.body) c.self.inside.parts.takeovers)
    ∙ ap (λ (column : ColumnView). record column { state = change_takeover msg.id msg.view (takeover_answered msg.replica msg.body) column.state }) c.self.view_is
