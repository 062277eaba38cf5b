use Rattle.std.proofs.Common.{◌-◌, ◌≤◌, length}
use Rattle.mk_cell.specs.Searching.{place_above}
use Rattle.mk_cell.proofs.StepLaws.{AreHalved}
use Rattle.mk_cell.proofs.places.first_above.Given as goal

-- the place is between the two bounds, and each step halves what is left
abbrev pub invariant-loop-low : goal.invariant-loop-low
invariant-loop-low g l =
    (l.low ≤ place_above l.stamp (g.P.Places.places l.places)) × (place_above l.stamp (g.P.Places.places l.places) ≤ l.high)
    × (l.high ≤ length (g.P.Places.places l.places))
    × AreHalved l.fn.steps l.steps (l.high - l.low) (length (g.P.Places.places l.places))

abbrev pub decreases-loop-low : goal.decreases-loop-low
decreases-loop-low g l = l.high - l.low
