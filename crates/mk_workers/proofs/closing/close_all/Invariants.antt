use Rattle.std.proofs.Common.{◌≡◌, ◌+◌, ◌*◌, List, length}
use Rattle.std.specs.Vec.Iter.{into_iter_items, into_iter_len}
use Rattle.mk_words.specs.Cells.{CellState}
use Rattle.mk_workers.specs.Closing.{AreLeft, IsClosedRow}
use Rattle.mk_workers.specs.Pairs.{Pairs}
use Rattle.mk_workers.specs.Seating.{locks_of, AreOpened}
use Rattle.mk_workers.specs.Worked.{logs_of}
use Rattle.mk_workers.proofs.closing.close_all.Given as goal

abbrev pub invariant-loop-replica : goal.invariant-loop-replica
invariant-loop-replica l = record {
  left : AreLeft l.fn.size.1 (logs_of l._columns) (l.replica * l.fn.size.1) (locks_of (into_iter_items l.locks)) (into_iter_items l.rows);
  locks_long : into_iter_len l.locks + l.replica * l.fn.size.1 ≡ l.fn.size.0 * l.fn.size.1;
  rows_long : into_iter_len l.rows + l.replica * l.fn.size.1 ≡ l.fn.size.0 * l.fn.size.1;
  long : length l.cells.items ≡ l.replica;
  closed : (before : List (List CellState)) → AreOpened before (locks_of l.fn.made.locks.items) →
      AreOpened before (locks_of (into_iter_items l.locks)) × Pairs (IsClosedRow l.fn.size.1 (logs_of l._columns) before) l.cells.items l.journals.items;
}
