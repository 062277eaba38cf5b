use Rattle.std.specs.Prelude.{vec_len}
use Rattle.mk_workers.specs.Seating.{locks_of, RowsHold}
use Rattle.mk_workers.specs.Worked.{logs_of}
use Rattle.mk_workers.proofs.Crewing.{IsEndingSome}
use Rattle.mk_workers.proofs.round.end_all.Given as goal

abbrev pub invariant-loop-worker : goal.invariant-loop-worker
invariant-loop-worker g l = record {
  ending : IsEndingSome l.fn.workers.items l.workers.items l.columns.items l.drivers.items l.outlets.items;
  rows : RowsHold (locks_of l.locks) (logs_of l.columns.items) l.rows;
}

abbrev pub decreases-loop-worker : goal.decreases-loop-worker
decreases-loop-worker g l = vec_len l.workers
