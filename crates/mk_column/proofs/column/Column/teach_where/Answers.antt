use Rattle.std.proofs.Common.{sym, ap, ◌∙◌}
use Rattle.mk_txn.specs.declared.Outcome.{Outcome}
use Rattle.std.specs.Prelude.{Option}
use Rattle.mk_column.specs.StepsByCode.{taught_in}
use Rattle.mk_column.specs.ColumnByCode.{way_of}
use Rattle.mk_column.proofs.HearLaws.{untaught-state}
use Rattle.mk_column.proofs.column.Column.teach_where.Goals as goal

pub returns-in-None-clause-ok : goal.returns-in-None-clause-ok
returns-in-None-clause-ok c =
    ap (λ state. record c.args.self.now { state = state })
    (untaught-state c.args.id (way_of c.args.way) c.args.self.now.state ∙ ap (λ (o : Option Outcome). taught_in c.args.id (way_of c.args.way) o c.args.self.now.state) (sym c.in-None.is))
