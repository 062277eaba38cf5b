use Rattle.std.proofs.Common.{◌≡◌, ◌∙◌, ℕ, ◌+◌, ◌++◌, ◌∷◌, [], length, length-append, refl, sym, ap, subst, arith}
use Rattle.std.proofs.lemmas.List.{length-map}
use Rattle.std.specs.Global.{Vec}
use Rattle.std.specs.Prelude.{slice_set}
use Rattle.std.proofs.lemmas.Option.{slice_get_read, slice_get_within}
use Rattle.mk_column.specs.ColumnByCode.{ColumnView}
use Rattle.mk_lock.specs.Seats.{SeatView}
use Rattle.mk_workers.specs.Seating.{locks_of, HasSeats}
use Rattle.mk_workers.specs.Worked.{logs_of}
use Rattle.mk_workers.proofs.PairLaws.{until_none, until_whole}
use Rattle.mk_workers.proofs.Dealings.{RowsWhile, given_more, still_there, last_there}
use Rattle.mk_workers.proofs.dealing.give_column.Goals as goal

one_more : (old place new : ℕ) → old ≡ new + 1 → place ≡ new → old ≡ place + 1
one_more old place new h e = omega (arith, h, e)

pub loop-seat-init : goal.loop-seat-init
loop-seat-init c =
    let count = c.requires.seats.all in
    record {
      within = λ k s at. at;
      rows = until_whole _ _ (locks_of c.args._locks.now) c.args.rows.now (length c.args.seats.items) (omega (arith, count)) c.requires.rows;
    }

pub loop-seat-preserved : goal.loop-seat-preserved
loop-seat-preserved c =
    let was = c.loop-seat.invariant in
    let popped = c.in-Some.ensures.items in
    let longer = ap length popped in
    let more = length-append c.pop.new.self.items (c.in-Some.seat ∷ []) in
    let locks = locks_of c.args._locks.now in
    let logs = logs_of c.args._given.now in
    let log = c.args._column.now.log in
    let place = c.len.result in
    let len = c.len.ensures in
    let here : place ≡ length c.pop.new.self.items = omega (arith, len) in
    let seat_at = was.within place c.in-Some.seat (last_there c.loop-seat.seats.items c.pop.new.self.items c.in-Some.seat place popped here) in
    let inside = slice_get_within c.args.seats.items place c.in-Some.seat seat_at in
    let seats_all = c.requires.seats.all in
    let rows_all = was.rows.all in
    let row_at = slice_get_read c.loop-seat.rows (length c.loop-seat.rows) place c.index-rows-len.result refl (omega (arith, inside, seats_all, rows_all)) c.index-rows-len.is in
    let was_rows : RowsWhile locks logs (logs ++ log ∷ []) (place + 1) c.loop-seat.rows =
    subst (λ n. RowsWhile locks logs (logs ++ log ∷ []) n c.loop-seat.rows) (one_more (length c.loop-seat.seats.items) place (length c.pop.new.self.items) (longer ∙ more) here) was.rows in
    let has = subst (λ n. HasSeats locks n log c.args.seats.items) (sym (length-map c.args._given.now (λ (column : ColumnView). column.log))) c.requires.seats in
    let rows = given_more locks logs log place c.loop-seat.rows c.args.seats.items c.index-rows-len.result c.push.new.self c.in-Some.seat was_rows has seat_at row_at
    (c.in_ok-push.ensures.items ∙ ap (λ (row : Vec SeatView). row.items ++ c.in-Some.seat ∷ []) (sym c.index-rows-len.is)) in
    record {
      within = λ k s at. was.within k s (still_there c.loop-seat.seats.items c.pop.new.self.items c.in-Some.seat popped k s at);
      rows = subst (λ n. RowsWhile locks logs (logs ++ log ∷ []) n (slice_set c.loop-seat.rows place c.push.new.self)) here rows;
    }

pub returns : goal.returns
returns c =
    let locks = locks_of c.args._locks.now in
    let logs = logs_of c.args._given.now in
    let log = c.args._column.now.log in
    let zero = c.in_default.ensures.cases.0 in
    let none : length c.loop-seat.seats.items ≡ 0 = omega (arith, zero) in
    until_none _ _ locks c.loop-seat.rows (subst (λ n. RowsWhile locks logs (logs ++ log ∷ []) n c.loop-seat.rows) none c.loop-seat.invariant.rows)
