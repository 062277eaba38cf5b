use Rattle.std.proofs.Common.{◌≡◌, ◌+◌, arith, length, take, vec_len, length-take, length-take-le}
use Rattle.std.proofs.lemmas.Result.{err_from_is_err_and}
use Rattle.mk_io.proofs.WholeLaws.{TakesCount-after_two}
use Rattle.mk_io.proofs.whole.read_whole.Goals as goal
use Rattle.mk_io.proofs.whole.read_whole.Goals.{then-room-lt-CHUNK, else-room-lt-CHUNK}

pub returns-then-count-room-clause-too_long : goal.returns-then-count-room-clause-too_long
returns-then-count-room-clause-too_long g c =
    let count = c.in_ok-count.count in
    let part = length-take-le count c.read.new.buf c.in_ok-count.ensures.bound in
    let size = length-take c.if-room-lt-CHUNK.size c.loop-size.buf in
    let total : length c.loop-size.bytes.items + length (take count c.read.new.buf) ≡ c.args.limit + 1 =
    elim c.if-room-lt-CHUNK.branch [
      | then-room-lt-CHUNK w ↦ omega (arith, part, size, c.loop-size.bytes.ok, c.in_ok-count.ensures.bound)
      | else-room-lt-CHUNK w ↦ omega (arith, part, size, c.loop-size.bytes.ok, c.in_ok-count.ensures.bound)
    ]
    in
    λ _. TakesCount-after_two _ _ _ c.loop-size.bytes.items (take count c.read.new.buf) _ c.loop-size.invariant.1 c.in_ok-count.ensures.bytes.0 total

pub returns-in_err-extend_from_slice-clause-not_too_long :
    goal.returns-in_err-extend_from_slice-clause-not_too_long
returns-in_err-extend_from_slice-clause-not_too_long g c =
    let p = err_from_is_err_and c.from_residual-in_err-extend_from_slice.result c.from_residual-in_err-extend_from_slice.ensures.1 in
    let count = c.in_ok-count.count in
    let part = length-take-le count c.read.new.buf c.in_ok-count.ensures.bound in
    let total : length c.loop-size.bytes.items + length (take count c.read.new.buf) ≡ vec_len c.loop-size.bytes + count =
    omega (arith, part, c.loop-size.bytes.ok)
    in
    rw p.1 (λ _. (vec_len c.loop-size.bytes + count, omega (arith, c.if-count-room.false), TakesCount-after_two _ _ _ c.loop-size.bytes.items (take count c.read.new.buf) _ c.loop-size.invariant.1 c.in_ok-count.ensures.bytes.0 total))
