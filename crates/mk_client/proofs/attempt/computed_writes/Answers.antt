use Rattle.std.proofs.Common.{arith}
use Rattle.mk_client.proofs.BufferLaws.{writes_of-done}
use Rattle.mk_client.specs.DistinctKeys.{are_distinct-writes_of, length-writes_of}
use Rattle.mk_client.proofs.attempt.computed_writes.Goals as goal

pub returns-clause-distinct : goal.returns-clause-distinct
returns-clause-distinct g c =
    let items = c.args.items.now in
    let reads = c.args.reads.now in
    let done = writes_of-done items reads c.loop-item.buffer c.loop-item.item-index c.loop-item.invariant.0 c.loop-item-test.false in
    rw (c.into_writes.ensures, ← done) (are_distinct-writes_of items reads)

pub returns-clause-few : goal.returns-clause-few
returns-clause-few g c =
    let items = c.args.items.now in
    let reads = c.args.reads.now in
    let done = writes_of-done items reads c.loop-item.buffer c.loop-item.item-index c.loop-item.invariant.0 c.loop-item-test.false in
    let few = rw (done, ← c.into_writes.ensures) at (length-writes_of items reads) in
    omega (arith, few, c.into_writes.result.ok, c.requires)
