use Rattle.std.proofs.Common.{◌≡◌, false, sym}
use Rattle.mk_txn.specs.MarkMaps.{covers}
use Rattle.mk_trim.proofs.InOrder.{AreInIdOrder-put, Each-put}
use Rattle.mk_trim.proofs.kept.Kept.put.Goals as goal

pub invariant_of-self-2 : goal.invariant_of-self-2
invariant_of-self-2 c =
    record {
      in_order = rw c.in_ok-put.ensures.ok (AreInIdOrder-put c.args.id c.args.outcome c.self.inside.outcomes.items c.self.invariant.in_order);
      uncovered = rw c.in_ok-put.ensures.ok (Each-put (λ outcome. covers c.self.inside.marks outcome.0 ≡ false) c.args.id c.args.outcome c.self.inside.outcomes.items (sym c.if-covers.ensures) c.self.invariant.uncovered);
    }
