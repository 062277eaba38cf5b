use Rattle.std.proofs.Common.{◌≡◌, ◌+◌, ◌*◌, ◌^◌, ◌≤◌, drop}
use Rattle.mk_run.specs.Attempts.{tally_of}
use Rattle.mk_run.specs.Counting.{total_of, plus_lines}
use Rattle.mk_run.specs.Lines.{lines_of_views}
use Rattle.mk_run.proofs.counting.tally.Given as goal

abbrev pub invariant-loop-place : goal.invariant-loop-place
invariant-loop-place l = record {
  counted : plus_lines l.tally (lines_of_views l.firsts l.columns (l.place + 1) (drop l.place l.client_columns)) ≡ tally_of (lines_of_views l.firsts l.columns 1 l.client_columns);
  few : total_of l.tally ≤ l.place * 2 ^ 32;
}
