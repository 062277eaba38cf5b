use Rattle.std.proofs.Common.{◌≡◌, None, sym, subst, ◌∙◌, ◌∷◌, ◌++◌, []}
use Rattle.mk_model.specs.Conditions.{blocked as blocked_by}
use Rattle.mk_column.specs.ColumnByCode.{ColumnView}
use Rattle.mk_column.specs.Growing.{HasGrown}
use Rattle.mk_column.proofs.GrownSteps.{step-grown}
use Rattle.mk_column.proofs.column.Column.step.Goals as goal

pub returns-clause-grown : goal.returns-clause-grown
returns-clause-grown c =
    let old : ColumnView = c.args.self.now in
    let free : blocked_by old.setting old.state c.args.step ≡ None = sym c.blocked.ensures ∙ c.in_default.is in
    subst (HasGrown old) (sym c.in_ok-do_and_log.ensures.ok)
    (step-grown old (old.log ++ c.args.step ∷ []) c.args.step free c.in_ok-do_and_log.ensures.unstamped)
