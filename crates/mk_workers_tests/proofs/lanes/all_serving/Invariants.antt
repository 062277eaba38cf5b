use Rattle.std.proofs.Common.{◌≡◌}
use Rattle.std.specs.Prelude.{length}
use Rattle.mk_workers_tests.proofs.lanes.all_serving.Given as goal

-- so many views so far
abbrev pub invariant-loop-replica : goal.invariant-loop-replica
invariant-loop-replica l = length l.views.items ≡ l._replica
