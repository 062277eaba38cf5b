use Rattle.std.proofs.Common.{◌≡◌, ◌+◌, ◌-◌, ◌≤◌}
use Rattle.mk_run.specs.Attempts.{lines_from}
use Rattle.mk_run.specs.Counting.{total_of, plus_lines}
use Rattle.mk_run.specs.Lines.{first_told}
use Rattle.mk_run.proofs.line.Tally.count_client.Given as goal

abbrev pub invariant-loop-seq : goal.invariant-loop-seq
invariant-loop-seq l = record {
  counted : plus_lines l.self (lines_from l.column.setting.faults (first_told l.firsts) l.column.state l.client l.seq (l.seq-end - l.seq))
      ≡ plus_lines l.fn.self (lines_from l.column.setting.faults (first_told l.firsts) l.column.state l.client 1 (l.seq-end - 1));
  few : total_of l.self + 1 ≤ total_of l.fn.self + l.seq;
}
