use Rattle.std.proofs.Common.{length}
use Rattle.std.specs.Prelude.{vec_len}
use Rattle.mk_workers.specs.Seating.{locks_of, RowsFit}
use Rattle.mk_workers.proofs.Crewing.{IsStarting}
use Rattle.mk_workers.proofs.round.start_all.Given as goal

abbrev pub invariant-loop-column : goal.invariant-loop-column
invariant-loop-column g l = record {
  starting : IsStarting (locks_of l.locks) l.fn.crew.columns.items l.fn.crew.drivers.items l.fn.crew.outlets.items l.columns.items l.drivers.items l.outlets.items l.workers.items;
  rows : RowsFit (locks_of l.locks) (length l.columns.items) l.rows;
}

abbrev pub decreases-loop-column : goal.decreases-loop-column
decreases-loop-column g l = vec_len l.columns
