use Rattle.std.proofs.Common.{◌+◌, ◌*◌, arith}
use Rattle.std.proofs.lemmas.Option.{slice_get-get_or}
use Rattle.std.proofs.lemmas.Result.{on_ok_weaker}
use Rattle.mk_workers.specs.Seating.{locks_of}
use Rattle.mk_workers.proofs.KeyPlaces.{index_there, lock_here, lock_read}
use Rattle.mk_workers.proofs.SeatSteps.{seats_done}
use Rattle.mk_workers.proofs.turning.key_step.Goals as goal

pub act-requires : goal.act-requires
act-requires g c =
    let shared = c.args.shared.now in
    let locks = locks_of shared.locks.now in
    let call = c.args.call in
    let place = call.replica * shared.keys + call.key in
    let inside = index_there shared.replicas shared.keys locks call.replica call.key c.requires.locks c.requires.there.0 c.requires.there.1 in
    let at = lock_read shared.locks.now place c.index-shared-place.result c.deref-lock.result.now inside c.deref-lock.ensures in
    let as_many = c.requires.seats.all in
    let seat_at = slice_get-get_or c.args.seats.now place c.index-seats-place.result (omega (arith, inside, as_many)) in
    (c.requires.seats.each place c.deref-lock.result.now _ at seat_at).lock

pub returns-clause-seats : goal.returns-clause-seats
returns-clause-seats g c =
    let shared = c.args.shared.now in
    let locks = locks_of shared.locks.now in
    let call = c.args.call in
    let place = call.replica * shared.keys + call.key in
    let inside = index_there shared.replicas shared.keys locks call.replica call.key c.requires.locks c.requires.there.0 c.requires.there.1 in
    let at = lock_read shared.locks.now place c.index-shared-place.result c.deref-lock.result.now inside c.deref-lock.ensures in
    let as_many = c.requires.seats.all in
    let seat_at = slice_get-get_or c.args.seats.now place c.index-seats-place.result (omega (arith, inside, as_many)) in
    let here = lock_here shared.replicas shared.keys locks call.replica call.key c.deref-lock.result.now c.requires.locks c.requires.there.1 at in
    on_ok_weaker c.take_step.result
    (seats_done shared.replicas shared.keys locks c.args.column.now c.take_step.new.column c.args.seats.now place c.deref-lock.result.now _ c.act.new.seat call c.in_ok-answer.answer
    c.requires.locks c.requires.seats at seat_at here c.act.ensures.seat.0 c.act.ensures.seat.1 c.in_ok-answer.ensures.ok)
    c.take_step.ensures.done
