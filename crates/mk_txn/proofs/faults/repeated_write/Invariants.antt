use Rattle.std.proofs.Common.{◌≡◌, drop}
use Rattle.mk_txn.specs.Transactions.{write_keys}
use Rattle.mk_txn.specs.TxnFaults.{repeated_key}
use Rattle.mk_txn.proofs.faults.repeated_write.Given as goal

-- no key before this place is repeated
abbrev pub invariant-loop-i : goal.invariant-loop-i
invariant-loop-i l = repeated_key (write_keys (drop l.i l.writes)) ≡ repeated_key (write_keys l.writes)
