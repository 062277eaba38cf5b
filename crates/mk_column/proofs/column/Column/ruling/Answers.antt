use Rattle.std.proofs.Common.{◌≡◌, Some, None, sym, ap, subst, ◌∙◌}
use Rattle.std.proofs.lemmas.Bool.{false≢true}
use Rattle.std.specs.Prelude.{option_map, option_copied, IsSome}
use Rattle.mk_words.specs.Rulings.{ruling}
use Rattle.mk_model.specs.ColumnState.{attempt_of, AttemptState}
use Rattle.mk_column.specs.AttemptsByCode.{BegunView, begun_of}
use Rattle.mk_column.proofs.ColumnLaws.{attempt-found, ruling-some}
use Rattle.mk_column.proofs.column.Column.ruling.Goals as goal

pub unreachable-requires : goal.unreachable-requires
unreachable-requires c =
    let none : begun_of c.args.id c.self.inside.parts.attempts ≡ None = sym c.find.ensures ∙ ap option_copied c.in-None.is in
    let away : attempt_of c.args.self.now.state c.args.id ≡ None =
    ap (λ column. attempt_of column.state c.args.id) (sym c.self.view_is) ∙ attempt-found c.args.id c.self.inside.parts.attempts
    ∙ ap (option_map (λ (begun : BegunView). begun.state)) none in
    false≢true (subst IsSome away c.requires)

pub returns : goal.returns
returns c =
    let found : begun_of c.args.id c.self.inside.parts.attempts ≡ Some c.in-Some.begun.now = sym c.find.ensures ∙ ap option_copied c.in-Some.is in
    ap (λ column. option_map (λ (a : AttemptState). ruling column.setting.faults a.coord) (attempt_of column.state c.args.id)) (sym c.self.view_is)
    ∙ ruling-some _ _ _ c.args.id c.self.inside.parts.attempts c.in-Some.begun.now c.self.invariant.attempts found
    ∙ ap Some (sym c.ruling.ensures)
