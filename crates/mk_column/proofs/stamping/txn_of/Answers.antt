use Rattle.std.proofs.Common.{◌≡◌, None, sym, ap, subst, ◌∙◌}
use Rattle.mk_txn.specs.declared.faults.TxnError.TheVariants.{NoMemory}
use Rattle.mk_txn.specs.Transactions.{is_above_reads}
use Rattle.mk_txn.specs.TxnFaults.{txn_fault}
use Rattle.mk_column.specs.Readings.{ReadsFit}
use Rattle.mk_column.proofs.ReadingLaws.{none-faulty, only-memory}
use Rattle.mk_column.proofs.stamping.txn_of.Goals as goal

pub unreachable-requires-in-Err-Repeated : goal.unreachable-requires-in-Err-Repeated
unreachable-requires-in-Err-Repeated c =
    let seen : c.as_slice.result.now ≡ c.args.reads.now = c.as_slice.ensures.value ∙ c.reads.view_is in
    let none : txn_fault c.args.stamp c.as_slice.result.now c.args.writes.now ≡ None =
    none-faulty c.args.stamp c.as_slice.result.now c.args.writes.now (subst ReadsFit (sym c.as_slice.ensures.value) c.reads.invariant)
    (ap (is_above_reads c.args.stamp) seen ∙ c.requires.above) c.requires.few c.requires.distinct in
    let memory : c.in-Err-Repeated.field-0 ≡ NoMemory =
    only-memory c.in-Err-Repeated.field-0 c.args.stamp c.as_slice.result.now c.args.writes.now none c.in-Err-Repeated.ensures.err in
    cc (memory, c.in-Err-Repeated.field-0-is)

pub unreachable-requires-in-Err-NotAbove : goal.unreachable-requires-in-Err-NotAbove
unreachable-requires-in-Err-NotAbove c =
    let seen : c.as_slice.result.now ≡ c.args.reads.now = c.as_slice.ensures.value ∙ c.reads.view_is in
    let none : txn_fault c.args.stamp c.as_slice.result.now c.args.writes.now ≡ None =
    none-faulty c.args.stamp c.as_slice.result.now c.args.writes.now (subst ReadsFit (sym c.as_slice.ensures.value) c.reads.invariant)
    (ap (is_above_reads c.args.stamp) seen ∙ c.requires.above) c.requires.few c.requires.distinct in
    let memory : c.in-Err-NotAbove.field-0 ≡ NoMemory =
    only-memory c.in-Err-NotAbove.field-0 c.args.stamp c.as_slice.result.now c.args.writes.now none c.in-Err-NotAbove.ensures.err in
    cc (memory, c.in-Err-NotAbove.field-0-is)
