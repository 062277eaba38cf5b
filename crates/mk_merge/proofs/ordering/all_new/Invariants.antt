use Rattle.std.proofs.Common.{◌≡◌, ◌++◌, map, filter, drop}
use Rattle.mk_merge_laws.specs.Adding.{is_new, entered_txns}
use Rattle.mk_merge.proofs.ordering.all_new.Given as goal

abbrev pub invariant-loop-promise : goal.invariant-loop-promise
invariant-loop-promise l =
    map (λ t. t.now) l.txns.items ++ filter (λ txn. is_new l.kept txn.id) (entered_txns (drop l.promise-index l.promises))
    ≡ filter (λ txn. is_new l.kept txn.id) (entered_txns l.promises)
