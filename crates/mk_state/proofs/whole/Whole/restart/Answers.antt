use Rattle.std.proofs.Common.{refl}
use Rattle.mk_state.specs.Cells.{states_of}
use Rattle.mk_state.proofs.LineLaws.{restart-is, cells-set}
use Rattle.mk_state.proofs.whole.Whole.restart.Goals as goal

pub returns : goal.returns
returns g c =
    restart-is _ _ _ c.args.replica (states_of c.args.cells.items) c.self.view_is refl refl c.reset_columns.ensures
    (cells-set (λ row. states_of row.items) c.self.inside.cells.items c.args.replica c.args.cells) refl
