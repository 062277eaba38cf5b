-- The clients below have lower numbers, and those above higher ones.
use Rattle.std.proofs.Common.{◌<◌, ◌≤◌, ◌-◌, ℕ, length, slice_index}
use Rattle.mk_driver.specs.Keeping.{numbers_of}
use Rattle.mk_driver.proofs.Callers.place_of.Given as goal

abbrev pub invariant-loop-low : goal.invariant-loop-low
invariant-loop-low l =
    (l.high ≤ length l.self)
    × ((k : ℕ) → k < l.low → slice_index (numbers_of l.self) k < l.number)
    × ((k : ℕ) → l.high ≤ k → k < length l.self → l.number < slice_index (numbers_of l.self) k)

abbrev pub decreases-loop-low : goal.decreases-loop-low
decreases-loop-low l = l.high - l.low
