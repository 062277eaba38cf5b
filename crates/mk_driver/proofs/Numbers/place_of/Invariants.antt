-- The numbers from the place on are above the new one.
use Rattle.std.proofs.Common.{◌≡◌, ◌<◌, ◌≤◌, ℕ, true, length, slice_index, nat_lt}
use Rattle.mk_driver.proofs.Numbers.place_of.Given as goal

abbrev pub invariant-loop-at : goal.invariant-loop-at
invariant-loop-at l =
    ((k : ℕ) → l.at ≤ k → k < length l.self-inside.list.items → nat_lt l.number (slice_index l.self-inside.list.items k) ≡ true)
    × (l.at ≤ length l.self-inside.list.items)

abbrev pub decreases-loop-at : goal.decreases-loop-at
decreases-loop-at l = l.at
