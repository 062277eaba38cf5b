use Rattle.std.proofs.Common.{◌≡◌, ◌++◌, map}
use Rattle.mk_words.specs.Bases.{in_stamp_order}
use Rattle.mk_words.proofs.StampTables.{txns_at}
use Rattle.mk_merge.proofs.ordering.in_stamp_order.Given as goal

-- with the transactions that are left it comes to all of them
abbrev pub invariant-loop-txn : goal.invariant-loop-txn
invariant-loop-txn l = map (λ t. t.now) l.ordered.items ++ txns_at l.txn-iterator ≡ in_stamp_order (map (λ t. t.now) l.txns)
