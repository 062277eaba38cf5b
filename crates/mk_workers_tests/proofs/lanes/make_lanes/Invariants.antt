use Rattle.std.proofs.Common.{◌≡◌, length}
use Rattle.mk_workers_tests.specs.Lanes.{AreLanes}
use Rattle.mk_workers_tests.proofs.lanes.make_lanes.Given as goal

-- so many lanes so far
abbrev pub invariant-loop-number : goal.invariant-loop-number
invariant-loop-number l = record {
  many : l.number ≡ length l.lanes.columns.items;
  told : length l.lanes.outlets.items ≡ length l.lanes.columns.items;
  lanes : AreLanes l.script l.lanes.drivers.items l.lanes.columns.items;
}
