use Rattle.std.proofs.Common.{sym, ap, ◌∙◌}
use Rattle.std.specs.Prelude.{option_map}
use Rattle.mk_model.specs.ColumnState.{attempt_of}
use Rattle.mk_column.specs.AttemptsByCode.{BegunView}
use Rattle.mk_column.proofs.ColumnLaws.{attempt-found}
use Rattle.mk_column.proofs.column.Column.begun.Goals as goal

pub returns : goal.returns
returns c =
    ap (option_map (λ (begun : BegunView). begun.state)) c.find.ensures
    ∙ sym (attempt-found c.args.id c.self.inside.parts.attempts)
    ∙ ap (λ column. attempt_of column.state c.args.id) c.self.view_is
