-- Places are added up to the one that is wanted, for which there is room.
use Rattle.std.proofs.Common.{◌≡◌, ◌≤◌, ◌-◌, ◌++◌, length, None}
use Rattle.std.specs.Prelude.{replicate, vec_capacity}
use Rattle.mk_driver.proofs.Trials.make_place.Given as goal

abbrev pub invariant-loop-self : goal.invariant-loop-self
invariant-loop-self l =
    (l.self-inside.list.items ++ replicate (l.places - length l.self-inside.list.items) None ≡ l.fn.self ++ replicate (l.places - length l.fn.self) None)
    × (l.places ≤ vec_capacity l.self-inside.list)

abbrev pub decreases-loop-self : goal.decreases-loop-self
decreases-loop-self l = l.places - length l.self-inside.list.items
