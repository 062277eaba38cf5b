-- The outlets so far.
use Rattle.std.proofs.Common.{◌≡◌, length}
use Rattle.mk_round.proofs.beginning.no_outlets.Given as goal

abbrev pub invariant-loop-outlet : goal.invariant-loop-outlet
invariant-loop-outlet l = length l.outlets.items ≡ l._outlet
