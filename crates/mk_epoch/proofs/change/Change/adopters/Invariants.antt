use Rattle.std.proofs.Common.{◌≡◌, ◌≤◌}
use Rattle.mk_quorum.specs.Counts.{count_below}
use Rattle.mk_quorum.specs.ReplicaSets.{has_replica}
use Rattle.mk_epoch.proofs.change.Change.adopters.Given as goal

abbrev pub invariant-loop-replica : goal.invariant-loop-replica
invariant-loop-replica g l = (l.count ≡ count_below l.replica (has_replica l.self.adopters)) × (l.count ≤ l.replica)
