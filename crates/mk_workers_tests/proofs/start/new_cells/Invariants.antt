use Rattle.std.proofs.Common.{◌≡◌, length}
use Rattle.mk_workers_tests.proofs.start.new_cells.Given as goal

-- so many cells so far
abbrev pub invariant-loop-key : goal.invariant-loop-key
invariant-loop-key l = length l.row.items ≡ l._key
