use Rattle.std.proofs.Common.{◌≡◌, ◌∙◌, ℕ, zero, suc, ◌+◌, ◌*◌, ◌<◌, ◌≤◌, ◌∷◌, List, [], length, length-append, sym, ap, subst, arith, add-one}
use Rattle.std.specs.Global.{Vec}
use Rattle.std.specs.Vec.Iter.{into_iter_items}
use Rattle.std.proofs.lemmas.List.{length-map}
use Rattle.crossbeam_utils.specs.declared.cache_padded.CachePadded.{CachePadded}
use Rattle.crossbeam_utils.specs.Padded.{padded_value}
use Rattle.mk_words.specs.declared.JournalEntry.{JournalEntry}
use Rattle.mk_words.specs.Cells.{CellView}
use Rattle.mk_column.specs.ColumnByCode.{ColumnView}
use Rattle.mk_lock.specs.Seats.{SeatView, LockView}
use Rattle.mk_workers.specs.ByKey.{states_of}
use Rattle.mk_workers.specs.Closing.{AreLeft, IsClosedRow}
use Rattle.mk_workers.specs.Pairs.{Pairs}
use Rattle.mk_workers.specs.Seating.{locks_of, AreOpened, AreSeated}
use Rattle.mk_workers.specs.Worked.{AreWorked, logs_of}
use Rattle.mk_workers.proofs.Closings.{all_worked, left_all, rows_more, rows_none}
use Rattle.mk_workers.proofs.closing.close_all.Goals as goal

enough : (r n keys len : ℕ) → r < n → len + r * keys ≡ n * keys → keys ≤ len
enough zero zero keys len below e = absurd (omega (arith, below))
enough zero (suc n) keys len below e = omega (arith, e)
enough (suc r) zero keys len below e = absurd (omega (arith, below))
enough (suc r) (suc n) keys len below e = enough r n keys len (omega (arith, below)) (omega (arith, e))

row_more : (r keys : ℕ) → (r + 1) * keys ≡ r * keys + keys
row_more r keys = ap (λ n. n * keys) (add-one r) ∙ one r
  where
    one : (r : ℕ) → suc r * keys ≡ r * keys + keys
    one r = omega arith

pub loop-replica-init : goal.loop-replica-init
loop-replica-init c =
    let keys = c.args.size.1 in
    let logs = logs_of c.args._columns.now in
    let locks_are = c.into_iter-locks.ensures.rest in
    let rows_are = c.into_iter-rows.ensures.rest in
    let seated = subst (λ n. AreSeated n (locks_of c.args.made.locks.items)) (sym (length-map c.args._columns.now (λ (column : ColumnView). column.log))) c.requires.seated in
    let locks_len = c.into_iter-locks.ensures.len in
    let rows_len = c.into_iter-rows.ensures.len in
    let all = c.requires.locks.all in
    let as_many = c.requires.rows.all in
    let long = length-map c.args.made.locks.items (λ (l : CachePadded LockView). padded_value {T = LockView} l) in
    record {
      left = subst (λ (z : List (CachePadded LockView) × List (Vec SeatView)). AreLeft keys logs (0 * keys) (locks_of z.0) z.1) (λ i. (sym locks_are i, sym rows_are i))
          (left_all c.args.size.0 keys logs (locks_of c.args.made.locks.items) c.args.made.rows.items c.requires.locks seated c.requires.rows);
      locks_long = omega (arith, locks_len, all, long);
      rows_long = omega (arith, rows_len, as_many, all);
      long = ap length c.new-cells.ensures.items;
      closed = λ before opened. (
        subst (λ (z : List (CachePadded LockView)). AreOpened before (locks_of z)) (sym locks_are) opened,
        rows_none keys logs before c.new-cells.result.items c.new-journals.result.items c.new-cells.ensures.items c.new-journals.ensures.items,
      );
    }

pub close_replica-requires : goal.close_replica-requires
close_replica-requires c =
    let was = c.loop-replica.invariant in
    let size = c.args.size in
    let below = c.loop-replica-test.true in
    record {
      left = was.left;
      long = (enough c.loop-replica.replica size.0 size.1 _ below was.locks_long, enough c.loop-replica.replica size.0 size.1 _ below was.rows_long);
    }

pub loop-replica-preserved : goal.loop-replica-preserved
loop-replica-preserved c =
    let was = c.loop-replica.invariant in
    let keys = c.args.size.1 in
    let logs = logs_of c.args._columns.now in
    let r = c.loop-replica.replica in
    let done = c.in_ok-row.ensures in
    let more = row_more r keys in
    let locks_long = was.locks_long in
    let rows_long = was.rows_long in
    let fewer = done.long.0 in
    let fewer_rows = done.long.1 in
    let cells = c.in_ok-push.ensures.items in
    let journals = c.in_ok-push-2.ensures.items in
    let longer = ap length cells in
    let one = length-append c.loop-replica.cells.items (c.in_ok-row.row ∷ []) in
    let long = was.long in
    record {
      left = subst (λ n. AreLeft keys logs n (locks_of (into_iter_items c.close_replica.new.locks)) (into_iter_items c.close_replica.new.rows)) (sym more) done.left;
      locks_long = omega (arith, more, locks_long, fewer);
      rows_long = omega (arith, more, rows_long, fewer_rows);
      long = omega (arith, longer, one, long);
      closed = λ before opened.
          let both = was.closed before opened in
          let now = done.closed before both.0 in (
            now.0,
            subst (λ (z : List (Vec CellView) × List (Vec (Vec JournalEntry))). Pairs (IsClosedRow keys logs before) z.0 z.1) (λ i. (sym cells i, sym journals i))
                (rows_more r keys logs before c.loop-replica.cells.items c.loop-replica.journals.items c.in_ok-row.row c.in_ok-row.listed both.1 long now.1),
          );
    }

pub returns : goal.returns
returns c =
    let was = c.loop-replica.invariant in
    let size = c.args.size in
    let logs = logs_of c.args._columns.now in
    let end : c.loop-replica.replica ≡ size.0 = omega arith in
    λ before opened.
    subst (AreWorked size.0 size.1 logs before (states_of c.loop-replica.cells.items)) (sym c.of.ensures)
    (all_worked size.0 size.1 logs before c.loop-replica.cells.items c.loop-replica.journals.items (was.long ∙ end) (was.closed before opened).1)
