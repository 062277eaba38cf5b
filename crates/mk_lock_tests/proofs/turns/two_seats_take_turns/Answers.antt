use Rattle.std.proofs.Common.{arith}
use Rattle.std.proofs.lemmas.Grind.{common_steps}
use Rattle.mk_lock_tests.proofs.SeatUse.{seats_set}
use Rattle.mk_lock_tests.proofs.turns.two_seats_take_turns.Goals as goal

pub close-cell-requires : goal.close-cell-requires
close-cell-requires g c =
    let are = c.in_ok-lock.ensures.seats in
    let count = c.in_ok-lock.ensures.lock.0 in
    seats_set _ _ _ 1 c.index_mut-2.result.now _ (seats_set _ _ _ 0 c.index_mut.result.now _ (rw count are) (grind (arith, common_steps)) c.act.ensures.seat.0 c.act.ensures.seat.1) (grind (arith, common_steps)) c.act-2.ensures.seat.0 c.act-2.ensures.seat.1
