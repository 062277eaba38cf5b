use Rattle.std.proofs.Common.{◌≡◌}
use Rattle.std.specs.Prelude.{replicate}
use Rattle.mk_model.specs.Replicas.{nothing_held}
use Rattle.mk_column.proofs.column.empty_replicas.Given as goal

-- so many replicas so far
abbrev pub invariant-loop-replica : goal.invariant-loop-replica
invariant-loop-replica l = l.replicas.items ≡ replicate l._replica nothing_held
