-- The drivers so far have begun.
use Rattle.mk_round.specs.Begun.{HasBegun}
use Rattle.mk_round.proofs.Loops.{AreChanging}
use Rattle.mk_round.proofs.beginning.begin_drivers.Given as goal

abbrev pub invariant-loop-driver : goal.invariant-loop-driver
invariant-loop-driver l = AreChanging HasBegun l.driver-index l.fn.drivers.items l.driver-items
