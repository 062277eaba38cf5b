use Rattle.std.proofs.Common.{◌≡◌, ◌++◌, take, drop}
use Rattle.mk_lists.specs.Changed.{change}
use Rattle.mk_epoch.specs.Standing.{waits_for, now_serving}
use Rattle.mk_epoch.proofs.replicas.serve_all.Given as goal

-- those so far serve, and the others are as they were
abbrev pub invariant-loop-replica : goal.invariant-loop-replica
invariant-loop-replica g l = l.replica-items ≡ change (waits_for l.epoch) now_serving (take l.replica-index l.fn.replicas.items) ++ drop l.replica-index l.fn.replicas.items
