use Rattle.mk_trim.proofs.InOrder.{AreInIdOrder-filter, Each-not_covered}
use Rattle.mk_trim.proofs.kept.Kept.cover.Goals as goal

pub invariant_of-self-2 : goal.invariant_of-self-2
invariant_of-self-2 c =
    record {
      in_order = rw c.drop_covered.ensures (AreInIdOrder-filter _ c.self.inside.outcomes.items c.self.invariant.in_order);
      uncovered = rw c.drop_covered.ensures (Each-not_covered c.join.new.self c.self.inside.outcomes.items);
    }
