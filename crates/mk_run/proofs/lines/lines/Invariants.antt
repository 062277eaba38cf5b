use Rattle.std.proofs.Common.{◌≡◌, ◌++◌, ◌+◌, drop}
use Rattle.mk_run.specs.Lines.{lines_of_views}
use Rattle.mk_run.proofs.lines.lines.Given as goal

abbrev pub invariant-loop-place : goal.invariant-loop-place
invariant-loop-place l = l.lines.items ++ lines_of_views l.firsts l.columns (l.place + 1) (drop l.place l.client_columns) ≡ lines_of_views l.firsts l.columns 1 l.client_columns
