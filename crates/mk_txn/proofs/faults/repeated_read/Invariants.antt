use Rattle.std.proofs.Common.{◌≡◌, drop}
use Rattle.mk_txn.specs.Transactions.{read_keys}
use Rattle.mk_txn.specs.TxnFaults.{repeated_key}
use Rattle.mk_txn.proofs.faults.repeated_read.Given as goal

-- no key before this place is repeated
abbrev pub invariant-loop-i : goal.invariant-loop-i
invariant-loop-i l = repeated_key (read_keys (drop l.i l.reads)) ≡ repeated_key (read_keys l.reads)
