-- The columns so far are reset.
use Rattle.std.proofs.Common.{◌≡◌, ◌++◌, take, drop, map}
use Rattle.mk_state.specs.Handing.{column_reset}
use Rattle.mk_state.proofs.handing.reset_columns.Given as goal

abbrev pub invariant-loop-column : goal.invariant-loop-column
invariant-loop-column l = l.column-items ≡ map (column_reset l.replica) (take l.column-index l.fn.columns.items) ++ drop l.column-index l.fn.columns.items
