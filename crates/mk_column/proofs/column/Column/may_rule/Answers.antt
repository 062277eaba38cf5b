use Rattle.std.proofs.Common.{◌≡◌, Some, None, sym, ap, ◌∙◌}
use Rattle.std.specs.Prelude.{option_copied}
use Rattle.mk_words.specs.Rulings.{ruling}
use Rattle.mk_column.specs.AttemptsByCode.{begun_of}
use Rattle.mk_model.specs.Conditions.{acts_on, on_attempt}
use Rattle.mk_column.proofs.ColumnLaws.{ruling-found, ruling-none}
use Rattle.mk_column.proofs.column.Column.may_rule.Goals as goal

pub returns-in-Some : goal.returns-in-Some
returns-in-Some c =
    let found : begun_of c.args.id c.self.inside.parts.attempts ≡ Some c.in-Some.begun.now = sym c.find.ensures ∙ ap option_copied c.in-Some.is in
    c.acts_on.ensures ∙ ap acts_on c.ruling.ensures
    ∙ sym (ruling-found _ _ _ c.args.id c.self.inside.parts.attempts c.in-Some.begun.now c.self.invariant.attempts found)
    ∙ ap (λ column. on_attempt column.state c.args.id (λ a. acts_on (ruling column.setting.faults a.coord))) c.self.view_is

pub returns-in-None : goal.returns-in-None
returns-in-None c =
    let none : begun_of c.args.id c.self.inside.parts.attempts ≡ None = sym c.find.ensures ∙ ap option_copied c.in-None.is in
    sym (ruling-none c.self.inside.size c.args.id c.self.inside.parts.attempts none)
    ∙ ap (λ column. on_attempt column.state c.args.id (λ a. acts_on (ruling column.setting.faults a.coord))) c.self.view_is
