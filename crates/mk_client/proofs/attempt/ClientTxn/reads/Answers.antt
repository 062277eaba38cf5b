use Rattle.std.proofs.Common.{arith}
use Rattle.mk_client.specs.DistinctKeys.{are_distinct-fetched}
use Rattle.mk_client.proofs.ReadOrder.{length-fetched}
use Rattle.mk_client.proofs.attempt.ClientTxn.reads.Goals as goal

pub returns-clause-distinct : goal.returns-clause-distinct
returns-clause-distinct c =
    let order = rw c.self.invariant.0 at c.self.invariant.2 in
    rw (c.deref.ensures.value, order) (are_distinct-fetched c.self.inside.items.items c.self.inside.reads.len)

pub returns-clause-few : goal.returns-clause-few
returns-clause-few c =
    let order = rw c.self.invariant.0 at c.self.invariant.2 in
    let few = length-fetched c.self.inside.items.items c.self.inside.reads.items c.self.inside.reads.len order in
    rw c.deref.ensures.value (omega (arith, few, c.self.inside.items.ok))
