use Rattle.std.proofs.Common.{◌++◌, IsSome, sym, ap, subst, ◌∙◌}
use Rattle.mk_words.specs.declared.Body.TheVariants.{Ask}
use Rattle.mk_model.specs.ColumnState.{to_all}
use Rattle.mk_column.specs.TakeoversByCode.{backup_of, view_id_of}
use Rattle.mk_column.specs.AttemptsByCode.{begun_of}
use Rattle.mk_column.proofs.StepLaws.{begun-there}
use Rattle.mk_column.proofs.KeptSteps.{IsKept-takes_over, IsKept-tells}
use Rattle.mk_column.proofs.TakeoverLaws.{backup-none}
use Rattle.mk_column.proofs.column.Column.begin_takeover.Goals as goal

pub push-requires : goal.push-requires
push-requires c =
    ap (λ b. backup_of (view_id_of b) c.self.inside.parts.takeovers) c.begin.ensures
    ∙ backup-none c.args.view_id c.self.inside.parts.takeovers c.args.self.now.state (ap (λ column. column.state.takeovers) (sym c.self.view_is)) c.requires.none

pub invariant_of-self-2 : goal.invariant_of-self-2
invariant_of-self-2 c =
    let there : IsSome (begun_of c.args.view_id.id c.self.inside.parts.attempts) =
    begun-there c.args.view_id.id c.self.inside.parts.attempts c.args.self.now.state
    (ap (λ column. column.state.attempts) (sym c.self.view_is)) c.requires.known in
    let known : IsSome (begun_of c.begin.result.of.id c.self.inside.parts.attempts) =
    subst (λ b. IsSome (begun_of b.of.id c.self.inside.parts.attempts)) (sym c.begin.ensures) there in
    let msgs = to_all c.self.inside.size c.args.epoch c.args.view_id.id c.args.view_id.view Ask in
    IsKept-tells c.self.inside.size c.args.epoch c.args.view_id.id c.args.view_id.view Ask _ _ _
    (c.send_to_all.ensures ∙ ap (λ all. all ++ msgs) c.reserve.ensures.same) (λ e. cc e)
    (IsKept-takes_over c.self.inside.size c.begin.result _ _ _ c.in_ok-push.ensures.ok (ap (λ b. b.faults) c.begin.ensures) known c.self.invariant)
