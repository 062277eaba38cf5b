use Rattle.std.proofs.Common.{◌+◌, [], take, replicate}
use Rattle.mk_workers.specs.Seating.{locks_of, HasSeats}
use Rattle.mk_workers.proofs.Dealings.{RowsWhile}
use Rattle.mk_workers.proofs.dealing.take_column.Given as goal

abbrev pub invariant-loop-row : goal.invariant-loop-row
invariant-loop-row l = record {
  rows : RowsWhile (locks_of l._locks) (replicate l._column []) (replicate (l._column + 1) []) l.row-index l.rows;
  seats : HasSeats (take l.row-index (locks_of l._locks)) l._column [] l.seats.items;
}
