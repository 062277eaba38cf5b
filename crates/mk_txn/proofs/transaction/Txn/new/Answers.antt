use Rattle.std.proofs.Common.{sym}
use Rattle.mk_txn.proofs.FaultLaws.{IsTransaction-from_no_fault}
use Rattle.mk_txn.proofs.transaction.Txn.new.Goals as goal

pub invariant_of-result : goal.invariant_of-result
invariant_of-result c = rw (c.in_ok-reads.ensures.items, c.in_ok-writes.ensures.items)
    (IsTransaction-from_no_fault c.args.id c.args.stamp c.args.reads.now c.args.writes.now (sym c.in_default.ensures))

pub returns-clause-fits : goal.returns-clause-fits
returns-clause-fits c = invariant_of-result c
