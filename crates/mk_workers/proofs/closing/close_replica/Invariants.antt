use Rattle.std.proofs.Common.{◌≡◌, ◌+◌, ◌*◌, List, length}
use Rattle.std.specs.Vec.Iter.{into_iter_items, into_iter_len}
use Rattle.mk_words.specs.Cells.{CellState}
use Rattle.mk_workers.specs.Closing.{AreLeft, AreClosedAt}
use Rattle.mk_workers.specs.Seating.{locks_of, AreOpened}
use Rattle.mk_workers.specs.Worked.{logs_of}
use Rattle.mk_workers.proofs.closing.close_replica.Given as goal

abbrev pub invariant-loop-key : goal.invariant-loop-key
invariant-loop-key l = record {
  left : AreLeft l.fn.place.1 (logs_of l._columns) (l.fn.place.0 * l.fn.place.1 + l._key) (locks_of (into_iter_items l.locks)) (into_iter_items l.rows);
  locks_long : into_iter_len l.locks + l._key ≡ into_iter_len l.fn.locks;
  rows_long : into_iter_len l.rows + l._key ≡ into_iter_len l.fn.rows;
  long : length l.cells.items ≡ l._key;
  closed : (before : List (List CellState)) → AreOpened before (locks_of (into_iter_items l.fn.locks)) →
      AreOpened before (locks_of (into_iter_items l.locks)) × AreClosedAt l.fn.place.0 (logs_of l._columns) before l.cells.items l.journals.items;
}
