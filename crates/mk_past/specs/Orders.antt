-- The lines that say commit, in a table by stamp.
use Rattle.std.specs.Prelude.{List, map}
use Rattle.std.specs.Borrow.{Bor}
use Rattle.mk_txn.specs.declared.Stamp.{Stamp}
use Rattle.mk_txn.specs.Transactions.{Transaction}
use Rattle.mk_run.specs.declared.line.AttemptLine.{AttemptLine}

-- the transaction that a line tells, with its stamp
abbrev pub told_at : Stamp × Bor AttemptLine → Transaction
told_at entry = record { id = entry.1.now.id; stamp = entry.0; reads = entry.1.now.reads; writes = entry.1.now.writes }

-- the transactions of a table, in its order
abbrev pub txns_told : List (Stamp × Bor AttemptLine) → List Transaction
txns_told entries = map told_at entries
