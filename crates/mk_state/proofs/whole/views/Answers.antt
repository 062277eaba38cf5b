use Rattle.std.proofs.Common.{◌∙◌, ◌≤◌, arith, length}
use Rattle.mk_state.proofs.ViewLaws.{view-next, views-all}
use Rattle.mk_state.proofs.whole.views.Goals as goal

pub loop-replica-preserved : goal.loop-replica-preserved
loop-replica-preserved g c state stands =
    let has = c.base.ensures state stands in
    c.in_ok-push.ensures.items
    ∙ view-next state c.loop-replica.replica c.loop-replica.views.items c.phase.result c.adopted.result c.in_ok-fates.fates has.0 has.1 (c.phase.ensures state stands)
    (c.adopted.ensures state stands) (c.in_ok-fates.ensures.value ∙ c.fates.ensures has.0.base has.2) (c.loop-replica.invariant state stands)

pub returns : goal.returns
returns g c state stands count =
    let over : length state.replicas ≤ c.loop-replica.replica = omega (arith, count, c.loop-replica-test.false, c.n-replica-end.ensures) in
    views-all state c.loop-replica.replica c.loop-replica.views.items over (c.loop-replica.invariant state stands)
