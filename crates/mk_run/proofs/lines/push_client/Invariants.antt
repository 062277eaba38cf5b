use Rattle.std.proofs.Common.{◌≡◌, ◌++◌, ◌-◌}
use Rattle.mk_run.specs.Attempts.{lines_from}
use Rattle.mk_run.specs.Lines.{first_told}
use Rattle.mk_run.proofs.lines.push_client.Given as goal

abbrev pub invariant-loop-seq : goal.invariant-loop-seq
invariant-loop-seq l =
    l.lines.items ++ lines_from l.column.setting.faults (first_told l.firsts) l.column.state l.client l.seq (l.seq-end - l.seq)
    ≡ l.initial.lines.items ++ lines_from l.column.setting.faults (first_told l.firsts) l.column.state l.client 1 (l.seq-end - 1)
