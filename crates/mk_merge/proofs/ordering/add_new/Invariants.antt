use Rattle.std.proofs.Common.{◌≡◌, ◌++◌, map, filter, drop}
use Rattle.mk_merge_laws.specs.Adding.{is_new}
use Rattle.mk_merge.proofs.ordering.add_new.Given as goal

abbrev pub invariant-loop-entry : goal.invariant-loop-entry
invariant-loop-entry l =
    map (λ t. t.now) l.txns.items ++ filter (λ txn. is_new l.kept txn.id) (map (λ e. e.txn) (drop l.entry-index l.entries))
    ≡ map (λ t. t.now) l.fn.txns.items ++ filter (λ txn. is_new l.kept txn.id) (map (λ e. e.txn) l.entries)
