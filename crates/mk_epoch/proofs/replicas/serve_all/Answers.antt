use Rattle.std.proofs.Common.{sym, ◌∙◌, ap, subst, length, ◌≤◌, if◌then◌else◌}
use Rattle.mk_epoch.specs.Standing.{waits_for, now_serving}
use Rattle.mk_epoch.proofs.RowLaws.{change-more, change-end}
use Rattle.mk_epoch.proofs.replicas.serve_all.Goals as goal

pub loop-replica-preserved : goal.loop-replica-preserved
loop-replica-preserved g c =
    change-more (waits_for c.args.epoch) now_serving c.deref_mut-replica-items.result.now c.loop-replica.replica-items c.args.replicas.now.items c.loop-replica.replica-index c.replica-item.result c.serve.new.self
    c.deref_mut-replica-items.ensures.value c.loop-replica-test.true c.loop-replica.invariant c.replica-item.is
    (c.serve.ensures ∙ sym (ap (λ r. if waits_for c.args.epoch r then now_serving r else r) c.replica-item.is))

pub returns : goal.returns
returns g c =
    change-end (waits_for c.args.epoch) now_serving c.args.replicas.now.items c.loop-replica.replica-items c.args.replicas.now.len c.loop-replica.replica-index
    c.args.replicas.now.ok.0 (c.loop-replica.auto.replica-items ∙ ap (λ rs. length rs) c.deref_mut-replica-items.ensures.value)
    (subst (λ rs. length rs ≤ c.loop-replica.replica-index) c.deref_mut-replica-items.ensures.value c.loop-replica-test.false) c.loop-replica.invariant
