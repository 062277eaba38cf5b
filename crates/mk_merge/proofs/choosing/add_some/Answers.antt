use Rattle.std.proofs.Common.{arith}
use Rattle.mk_merge.proofs.ChoosingLaws.{some-add, states-push, same_lead}
use Rattle.mk_merge.proofs.choosing.add_some.Goals as goal

pub loop-promise-preserved : goal.loop-promise-preserved
loop-promise-preserved g c =
    some-add _ _ _ _ _ c.promise-item.result _ _ _ _ c.loop-promise-test.true c.promise-item.is (same_lead _ _ c.if-promise-leader.false) (omega (arith, c.if-room-eq0.false)) (states-push _ _ _ c.in_ok-push.ensures.items) c.loop-promise.invariant
