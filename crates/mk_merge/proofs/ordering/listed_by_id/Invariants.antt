use Rattle.std.proofs.Common.{◌≡◌, ◌++◌, map}
use Rattle.mk_merge.proofs.OrderLaws.{txns_in}
use Rattle.mk_merge.proofs.ordering.listed_by_id.Given as goal

-- with the transactions that are left it comes to all of them
abbrev pub invariant-loop-txn : goal.invariant-loop-txn
invariant-loop-txn l = map (λ t. t.now) l.txns.items ++ txns_in l.txn-iterator ≡ txns_in l.table.entries
