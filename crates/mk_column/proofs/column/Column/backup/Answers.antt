use Rattle.std.proofs.Common.{sym, ap, ◌∙◌}
use Rattle.std.specs.Prelude.{option_map}
use Rattle.mk_model.specs.ColumnState.{takeover_of}
use Rattle.mk_column.specs.TakeoversByCode.{BackupView}
use Rattle.mk_column.proofs.ColumnLaws.{takeover-found}
use Rattle.mk_column.proofs.column.Column.backup.Goals as goal

pub returns : goal.returns
returns c =
    ap (option_map (λ (backup : BackupView). backup.of)) c.find.ensures
    ∙ sym (takeover-found c.args.id c.args.view c.self.inside.parts.takeovers)
    ∙ ap (λ column. takeover_of column.state c.args.id c.args.view) c.self.view_is
