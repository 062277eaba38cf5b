use Rattle.std.proofs.Common.{◌∙◌, ◌+◌, ◌-◌, ap, arith}
use Rattle.mk_model.specs.ColumnState.{attempt_of}
use Rattle.mk_run.specs.declared.line.Tally.{Tally}
use Rattle.mk_run.specs.Attempts.{lines_from}
use Rattle.mk_run.specs.Counting.{total_of, plus_lines}
use Rattle.mk_run.specs.Firsts.{first_in}
use Rattle.mk_run.specs.Lines.{first_told}
use Rattle.mk_run.proofs.CountLaws.{counted-next, counted-few}
use Rattle.mk_run.proofs.line.Tally.count_client.Goals as goal

pub loop-seq-preserved : goal.loop-seq-preserved
loop-seq-preserved c =
    let column = c.args.column.now in
    let firsts = c.args.firsts.now in
    let client = c.args.client in
    let seq = c.loop-seq.seq in
    let end = c.next_seq-seq-end.result in
    let later = lines_from column.setting.faults (first_told firsts) column.state client (seq + 1) (end - (seq + 1)) in
    record {
      counted = ap (λ (t : Tally). plus_lines t later) c.count_at.ensures
          ∙ counted-next column.setting.faults firsts column.state client seq end c.loop-seq.self c.loop-seq-test.true
          ∙ c.loop-seq.invariant.counted;
      few = omega (arith, ap total_of c.count_at.ensures, counted-few (attempt_of column.state (record { client = client; seq = seq })) (first_in (record { client = client; seq = seq }) firsts) c.loop-seq.self, c.loop-seq.invariant.few);
    }
