-- The round has begun in the columns so far.
use Rattle.std.proofs.Common.{◌≡◌, ◌++◌, take, drop, map}
use Rattle.mk_state.specs.Beginning.{column_begun}
use Rattle.mk_state.proofs.beginning.begin_columns.Given as goal

abbrev pub invariant-loop-column : goal.invariant-loop-column
invariant-loop-column l = l.column-items ≡ map (column_begun l.views) (take l.column-index l.fn.columns.items) ++ drop l.column-index l.fn.columns.items
