use Rattle.std.proofs.Common.{◌≡◌, ◌∙◌, ℕ, ◌+◌, ◌*◌, ◌∷◌, List, [], length, length-append, sym, ap, subst, arith}
use Rattle.std.specs.Global.{Vec}
use Rattle.std.specs.Vec.Iter.{into_iter_items}
use Rattle.mk_words.specs.declared.JournalEntry.{JournalEntry}
use Rattle.mk_words.specs.Cells.{CellView}
use Rattle.mk_lock.specs.Seats.{LockView, AreSeatsOf, IsJournalOf}
use Rattle.mk_workers.specs.Closing.{AreLeft, AreClosedAt}
use Rattle.mk_workers.specs.Seating.{locks_of}
use Rattle.mk_workers.specs.Worked.{logs_of}
use Rattle.mk_workers.proofs.Closings.{left_here, opened_here, closed_one, closed_more, closed_none}
use Rattle.mk_workers.proofs.Matches.{are_seats}
use Rattle.mk_workers.proofs.closing.close_replica.Goals as goal

plus_zero : (k : ℕ) → k ≡ k + 0
plus_zero k = omega arith

plus_one : (k m : ℕ) → k + m + 1 ≡ k + (m + 1)
plus_one k m = omega arith

pub loop-key-init : goal.loop-key-init
loop-key-init c =
    let place = c.args.place in
    let first = place.0 * place.1 in
    let logs = logs_of c.args._columns.now in
    record {
      left = subst (λ k. AreLeft place.1 logs k (locks_of (into_iter_items c.args.locks.now)) (into_iter_items c.args.rows.now)) (plus_zero first) c.requires.left;
      locks_long = omega arith;
      rows_long = omega arith;
      long = ap length c.new-cells.ensures.items;
      closed = λ before opened. (opened, closed_none place.0 logs before c.new-cells.result.items c.new-journals.result.items c.new-cells.ensures.items c.new-journals.ensures.items);
    }

pub unreachable-requires : goal.unreachable-requires
unreachable-requires c =
    let was = c.loop-key.invariant in
    let long = c.requires.long.0 in
    let count = was.locks_long in
    let none = c.in_default.ensures.cases.0 in omega (arith, long, count, none)

pub close-cell-requires : goal.close-cell-requires
close-cell-requires c =
    let was = c.loop-key.invariant in
    let place = c.args.place in
    let here = left_here place.1 (logs_of c.args._columns.now) (place.0 * place.1 + c.loop-key._key) (into_iter_items c.loop-key.locks) c.in-Some.lock (into_iter_items c.next.new.self)
    (into_iter_items c.loop-key.rows) c.in-Some-next.seats (into_iter_items c.next-in-loop-key.new.self) was.left c.in-Some.ensures.cases.0 c.in-Some-next.ensures.cases.0 in
    let left = here.0 in
    subst (λ (l : LockView). AreSeatsOf l.name l.seats c.in-Some-next.seats.items) (sym c.into_inner.ensures) (are_seats _ (logs_of c.args._columns.now) c.in-Some-next.seats.items left.seats left.columns)

pub loop-key-preserved : goal.loop-key-preserved
loop-key-preserved c =
    let was = c.loop-key.invariant in
    let place = c.args.place in
    let logs = logs_of c.args._columns.now in
    let first = place.0 * place.1 in
    let key = c.loop-key._key in
    let locks_are = c.in-Some.ensures.cases.0 in
    let rows_are = c.in-Some-next.ensures.cases.0 in
    let here = left_here place.1 logs (first + key) (into_iter_items c.loop-key.locks) c.in-Some.lock (into_iter_items c.next.new.self)
    (into_iter_items c.loop-key.rows) c.in-Some-next.seats (into_iter_items c.next-in-loop-key.new.self) was.left locks_are rows_are in
    let below = c.loop-key-test.true in
    let fewer = c.in-Some.ensures.cases.1 in
    let fewer_rows = c.in-Some-next.ensures.cases.1 in
    let locks_long = was.locks_long in
    let rows_long = was.rows_long in
    let cells = c.in_ok-push.ensures.items in
    let journals = c.in_ok-push-2.ensures.items in
    let cell = c.close-cell.result.0 in
    let journal = c.close-cell.result.1 in
    let is = subst (λ (l : LockView). IsJournalOf l.opening cell.state c.in-Some-next.seats.items journal.items) c.into_inner.ensures c.close-cell.ensures in
    let longer = ap length cells in
    let more = length-append c.loop-key.cells.items (cell ∷ []) in
    let long = was.long in
    record {
      left = subst (λ k. AreLeft place.1 logs k (locks_of (into_iter_items c.next.new.self)) (into_iter_items c.next-in-loop-key.new.self)) (plus_one first key) here.1;
      locks_long = omega (arith, fewer, locks_long);
      rows_long = omega (arith, fewer_rows, rows_long);
      long = omega (arith, longer, more, long);
      closed = λ before opened.
          let both = was.closed before opened in
          let opening = opened_here before (into_iter_items c.loop-key.locks) c.in-Some.lock (into_iter_items c.next.new.self) both.0 locks_are in (
            opening.1,
            subst (λ (z : List CellView × List (Vec JournalEntry)). AreClosedAt place.0 logs before z.0 z.1) (λ i. (sym cells i, sym journals i))
                (closed_more place.0 key logs before c.loop-key.cells.items c.loop-key.journals.items cell journal both.1 long
                (closed_one place.1 logs before place.0 key _ c.in-Some-next.seats cell.state journal.items here.0 below opening.0 is)),
          );
    }

pub returns : goal.returns
returns c =
    let was = c.loop-key.invariant in
    let place = c.args.place in
    let logs = logs_of c.args._columns.now in
    let first = place.0 * place.1 in
    let locks_long = was.locks_long in
    let rows_long = was.rows_long in
    let end : c.loop-key._key ≡ place.1 = omega arith in
    record {
      left = subst (λ k. AreLeft place.1 logs (first + k) (locks_of (into_iter_items c.loop-key.locks)) (into_iter_items c.loop-key.rows)) end was.left;
      long = (omega (arith, locks_long, end), omega (arith, rows_long, end));
      closed = λ before opened. let both = was.closed before opened in (both.0, record { all = was.long ∙ end; each = both.1 });
    }
