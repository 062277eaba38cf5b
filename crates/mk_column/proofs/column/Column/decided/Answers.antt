use Rattle.std.proofs.Common.{◌≡◌, Some, None, sym, ap, ◌∙◌, rules}
use Rattle.std.specs.Prelude.{option_copied}
use Rattle.mk_column.specs.AttemptsByCode.{begun_of}
use Rattle.mk_model.specs.Learnings.{decided}
use Rattle.mk_column.proofs.ColumnLaws.{fits-found}
use Rattle.mk_column.proofs.column.Column.decided.Goals as goal

pub returns-in_err-find : goal.returns-in_err-find
returns-in_err-find c =
    let none : begun_of c.args.id c.self.inside.parts.attempts ≡ None = sym c.find.ensures ∙ ap option_copied c.in_err-find.was in
    let left : c.from_residual.result ≡ None = search rules in
    left
    ∙ sym (c.self.invariant.decisions c.args.id none)
    ∙ ap (λ column. decided column.state c.args.id) c.self.view_is

pub returns : goal.returns
returns c =
    let found : begun_of c.args.id c.self.inside.parts.attempts ≡ Some c.in_ok-find.field-0.now = sym c.find.ensures ∙ ap option_copied c.in_ok-find.was in
    c.decided.ensures
    ∙ fits-found _ _ _ c.args.id c.self.inside.parts.attempts c.in_ok-find.field-0.now c.self.invariant.attempts found
    ∙ ap (λ column. decided column.state c.args.id) c.self.view_is
