use Rattle.std.proofs.Common.{◌≡◌, ◌∙◌, ◌+◌, ◌++◌, ℕ, List, arith, take, drop, subst, length-take, length-take-le}
use Rattle.std.proofs.lemmas.List.{take-append-le}
use Rattle.mk_tool.specs.Streams.{IsAllJudged}
use Rattle.mk_tool.proofs.StreamLaws.{so_far_more, taken_so_far, taken_with}
use Rattle.mk_tool.proofs.stream.Stream.read.Goals as goal
use Rattle.mk_tool.proofs.stream.Stream.read.Goals.{then-room-lt-CHUNK, else-room-lt-CHUNK}

pub returns-in_err-count-clause-not_too_long : goal.returns-in_err-count-clause-not_too_long
returns-in_err-count-clause-not_too_long g c = λ _.
    (c.loop-size.taken, c.loop-size.invariant.0, taken_so_far _ _ _ _ _ _ c.loop-size.invariant.1 c.in_err-count.ensures.bytes)

pub returns-then-count-eq0-clause-not_too_long : goal.returns-then-count-eq0-clause-not_too_long
returns-then-count-eq0-clause-not_too_long g c =
    let count = c.in_ok-count.count in
    let part = length-take-le count c.read.new.buf c.in_ok-count.ensures.bound in
    let none : c.loop-size.taken + count ≡ c.loop-size.taken = omega (arith, c.if-count-eq0.true) in
    λ _. (c.loop-size.taken, c.loop-size.invariant.0, taken_with _ _ _ _ count _ _ _ (take count c.read.new.buf) c.loop-size.invariant.1 c.in_ok-count.ensures.bytes.0 part none)

pub returns-then-count-room-clause-too_long : goal.returns-then-count-room-clause-too_long
returns-then-count-room-clause-too_long g c =
    let count = c.in_ok-count.count in
    let part = length-take-le count c.read.new.buf c.in_ok-count.ensures.bound in
    let size = length-take c.if-room-lt-CHUNK.size c.loop-size.buf in
    let total : c.loop-size.taken + count ≡ 67108865 =
    elim c.if-room-lt-CHUNK.branch [
      | then-room-lt-CHUNK w ↦ omega (arith, part, size, c.loop-size.invariant.0, c.in_ok-count.ensures.bound)
      | else-room-lt-CHUNK w ↦ omega (arith, part, size, c.loop-size.invariant.0, c.in_ok-count.ensures.bound)
    ]
    in
    λ _. taken_with _ _ _ _ count _ _ _ (take count c.read.new.buf) c.loop-size.invariant.1 c.in_ok-count.ensures.bytes.0 part total

pub loop-size-preserved : goal.loop-size-preserved
loop-size-preserved g c =
    let count = c.in_ok-count.count in
    let part = length-take-le count c.read.new.buf c.in_ok-count.ensures.bound in
    let inv = c.loop-size.invariant in
    let piece = take-append-le count c.read.new.buf (drop c.if-room-lt-CHUNK.size c.loop-size.buf) c.in_ok-count.ensures.bound in
    let judged = subst (λ (bytes : List ℕ). IsAllJudged c.take.new.self.reader c.take.new.self.judge (inv.1.text ++ bytes)) piece (c.in-Ok.ensures inv.1.text inv.1.judged) in (
      omega (arith, inv.0, c.if-count-room.false),
      so_far_more _ _ _ _ count _ _ _ _ (take count c.read.new.buf) inv.1 c.in_ok-count.ensures.bytes.0 part judged,
      c.in_ok-count.ensures.no_fault ∙ inv.2,
    )

pub returns-in-Err-clause-not_too_long : goal.returns-in-Err-clause-not_too_long
returns-in-Err-clause-not_too_long g c =
    let count = c.in_ok-count.count in
    let part = length-take-le count c.read.new.buf c.in_ok-count.ensures.bound in
    let inv = c.loop-size.invariant in
    λ _. (c.loop-size.taken + count, omega (arith, inv.0, c.if-count-room.false), taken_with _ _ _ _ count _ _ _ (take count c.read.new.buf) inv.1 c.in_ok-count.ensures.bytes.0 part (omega arith))
