use Rattle.std.proofs.Common.{◌∙◌, ◌++◌, ◌+◌, ◌-◌, List, ap}
use Rattle.mk_run.specs.declared.line.AttemptLine.{AttemptLine}
use Rattle.mk_run.specs.Attempts.{lines_from}
use Rattle.mk_run.specs.Lines.{first_told}
use Rattle.mk_run.proofs.LineLaws.{lines-next}
use Rattle.mk_run.proofs.lines.push_client.Goals as goal

pub loop-seq-preserved : goal.loop-seq-preserved
loop-seq-preserved c =
    let column = c.args.column.now in
    let told = first_told c.args.firsts.now in
    let seq = c.loop-seq.seq in
    let end = c.next_seq-seq-end.result in
    let later = lines_from column.setting.faults told column.state c.args.client (seq + 1) (end - (seq + 1)) in
    ap (λ (xs : List AttemptLine). xs ++ later) c.in_ok-push_line.ensures
    ∙ lines-next column.setting.faults told column.state c.args.client seq end c.loop-seq.lines.items c.loop-seq-test.true
    ∙ c.loop-seq.invariant
