use Rattle.std.proofs.Common.{◌≡◌}
use Rattle.mk_txn.specs.declared.faults.TxnError.TheVariants.{NoMemory}
use Rattle.mk_report.proofs.WholeCommits.{not_faulty, fitting}
use Rattle.mk_report.proofs.run_report.copy_txn.Goals as goal

pub unreachable-requires-in-Err-Repeated : goal.unreachable-requires-in-Err-Repeated
unreachable-requires-in-Err-Repeated c =
    let line = c.args.line.now in
    let reads = c.as_slice-reads.result.now in
    let writes = c.as_slice-writes.result.now in
    let whole = fitting line.id c.args.stamp reads line.reads writes line.writes c.as_slice-reads.ensures c.as_slice-writes.ensures c.requires in
    let memory : c.in-Err-Repeated.field-0 ≡ NoMemory = not_faulty c.in-Err-Repeated.field-0 line.id c.args.stamp reads writes whole c.in-Err-Repeated.ensures.err in
    cc (memory, c.in-Err-Repeated.field-0-is)

pub unreachable-requires-in-Err-NotAbove : goal.unreachable-requires-in-Err-NotAbove
unreachable-requires-in-Err-NotAbove c =
    let line = c.args.line.now in
    let reads = c.as_slice-reads.result.now in
    let writes = c.as_slice-writes.result.now in
    let whole = fitting line.id c.args.stamp reads line.reads writes line.writes c.as_slice-reads.ensures c.as_slice-writes.ensures c.requires in
    let memory : c.in-Err-NotAbove.field-0 ≡ NoMemory = not_faulty c.in-Err-NotAbove.field-0 line.id c.args.stamp reads writes whole c.in-Err-NotAbove.ensures.err in
    cc (memory, c.in-Err-NotAbove.field-0-is)
