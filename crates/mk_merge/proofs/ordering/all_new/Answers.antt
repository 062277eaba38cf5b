use Rattle.mk_merge_laws.specs.Adding.{is_new}
use Rattle.mk_merge.proofs.OrderLaws.{entered-next}
use Rattle.mk_merge.proofs.ordering.all_new.Goals as goal

pub loop-promise-preserved : goal.loop-promise-preserved
loop-promise-preserved c =
    entered-next (λ txn. is_new c.args.kept.now txn.id) c.args.promises.now c.loop-promise.promise-index c.promise-item.result c.entries.result.now _ _ _ c.loop-promise-test.true c.promise-item.is c.entries.ensures c.in_ok-add_new.ensures c.loop-promise.invariant
