use Rattle.std.proofs.Common.{◌≡◌, length}
use Rattle.std.specs.Global.{Vec}
use Rattle.mk_lists.specs.Among.{Each}
use Rattle.mk_words.specs.Cells.{CellView}
use Rattle.mk_workers_tests.proofs.start.all_cells.Given as goal

-- so many rows so far
abbrev pub invariant-loop-replica : goal.invariant-loop-replica
invariant-loop-replica l = (length l.rows.items ≡ l._replica) × Each (λ (row : Vec CellView). length row.items ≡ l.keys) l.rows.items
