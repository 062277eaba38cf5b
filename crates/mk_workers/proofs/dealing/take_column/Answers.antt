use Rattle.std.proofs.Common.{◌∙◌, ◌+◌, [], length, take, refl, sym, ap, subst, arith}
use Rattle.std.specs.Global.{Vec}
use Rattle.std.proofs.lemmas.Option.{slice_get_read}
use Rattle.mk_lock.specs.Seats.{SeatView}
use Rattle.mk_workers.specs.Seating.{locks_of, HasSeats}
use Rattle.mk_workers.proofs.PairLaws.{until_first, until_past}
use Rattle.mk_workers.proofs.Dealings.{has_last, taken_more, taken_all, taken_none}
use Rattle.mk_workers.proofs.dealing.take_column.Goals as goal

pub loop-row-init : goal.loop-row-init
loop-row-init c = record {
  rows = until_first _ _ (locks_of c.args._locks.now) c.args.rows.now c.requires;
  seats = taken_none (locks_of c.args._locks.now) c.args._column c.new-seats.result.items c.new-seats.ensures.items;
}

pub unreachable-requires : goal.unreachable-requires
unreachable-requires c =
    let here = slice_get_read c.loop-row.rows (length c.loop-row.rows) c.loop-row.row-index c.row-item.result refl (omega arith) c.row-item.is in
    let some = has_last (locks_of c.args._locks.now) c.args._column c.loop-row.row-index c.loop-row.rows c.row-item.result c.loop-row.invariant.rows here in
    let zero = c.in_default.ensures.cases.0 in
    let is = ap (λ (row : Vec SeatView). row.len) c.row-item.is in
    omega (arith, zero, is, some)

pub loop-row-preserved : goal.loop-row-preserved
loop-row-preserved c =
    let here = slice_get_read c.loop-row.rows (length c.loop-row.rows) c.loop-row.row-index c.row-item.result refl (omega arith) c.row-item.is in
    let both = taken_more (locks_of c.args._locks.now) c.args._column c.loop-row.row-index c.loop-row.rows c.loop-row.seats.items c.row-item.result c.pop.new.self c.in-Some.seat
    c.loop-row.invariant.rows c.loop-row.invariant.seats here (ap (λ (row : Vec SeatView). row.items) c.row-item.is ∙ c.in-Some.ensures.items) in
    record {
      rows = both.0;
      seats = subst (HasSeats (take (c.loop-row.row-index + 1) (locks_of c.args._locks.now)) c.args._column []) (sym c.in_ok-push.ensures.items) both.1;
    }

pub returns : goal.returns
returns c =
    let rows = c.loop-row.invariant.rows in
    let same = rows.all in
    record {
      rows = until_past _ _ (locks_of c.args._locks.now) c.loop-row.rows c.loop-row.row-index (omega (arith, same)) rows;
      column = taken_all (locks_of c.args._locks.now) c.args._column c.loop-row.row-index c.loop-row.seats.items (omega (arith, same)) c.loop-row.invariant.seats;
    }
