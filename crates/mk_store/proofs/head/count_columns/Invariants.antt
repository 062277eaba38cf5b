-- The columns so far.
use Rattle.std.proofs.Common.{◌≡◌, take}
use Rattle.mk_history.specs.Shape.{columns_of}
use Rattle.mk_store.proofs.head.count_columns.Given as goal

abbrev pub invariant-loop-column : goal.invariant-loop-column
invariant-loop-column l = l.count ≡ columns_of (take l.column-index l.columns)
