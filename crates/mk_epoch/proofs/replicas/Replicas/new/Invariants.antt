use Rattle.std.proofs.Common.{◌≡◌, length}
use Rattle.mk_lists.specs.Among.{Each}
use Rattle.mk_model.specs.EpochState.{first_replica}
use Rattle.mk_epoch.specs.Standing.{ReplicaStands}
use Rattle.mk_epoch.proofs.replicas.Replicas.new.Given as goal

-- so many replicas, each as at the start
abbrev pub invariant-loop : goal.invariant-loop
invariant-loop g l = (length l.replicas.items ≡ l.counter) × Each (λ r. ReplicaStands g.B.Keeping.stands r first_replica) l.replicas.items
