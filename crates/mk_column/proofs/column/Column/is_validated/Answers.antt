use Rattle.std.proofs.Common.{◌≡◌, Some, None, sym, ap, ◌∙◌}
use Rattle.std.specs.Prelude.{option_copied}
use Rattle.std.specs.List.{list_any}
use Rattle.mk_column.specs.AttemptsByCode.{begun_of}
use Rattle.mk_model.specs.Conditions.{is_validate_of}
use Rattle.mk_column.proofs.ColumnLaws.{validated-found}
use Rattle.mk_column.proofs.column.Column.is_validated.Goals as goal

pub returns-in-Some : goal.returns-in-Some
returns-in-Some c =
    let found : begun_of c.args.id c.self.inside.parts.attempts ≡ Some c.in-Some.begun.now = sym c.find.ensures ∙ ap option_copied c.in-Some.is in
    c.is_validated.ensures
    ∙ validated-found _ _ _ c.args.id c.self.inside.parts.attempts c.in-Some.begun.now c.self.invariant.attempts found
    ∙ ap (λ column. list_any (is_validate_of c.args.id) column.state.link) c.self.view_is

pub returns-in-None : goal.returns-in-None
returns-in-None c =
    let none : begun_of c.args.id c.self.inside.parts.attempts ≡ None = sym c.find.ensures ∙ ap option_copied c.in-None.is in
    sym (c.self.invariant.validates c.args.id none)
    ∙ ap (λ column. list_any (is_validate_of c.args.id) column.state.link) c.self.view_is
