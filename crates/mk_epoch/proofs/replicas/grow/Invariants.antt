use Rattle.std.proofs.Common.{◌≡◌, ◌++◌, replicate}
use Rattle.mk_epoch.specs.Changes.{no_change}
use Rattle.mk_epoch.proofs.replicas.grow.Given as goal

-- so many changes more, and room for the rest
abbrev pub invariant-loop : goal.invariant-loop
invariant-loop g l = (l.changes.items ≡ l.initial.changes.items ++ replicate l.counter no_change)
