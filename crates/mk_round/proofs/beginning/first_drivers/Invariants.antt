-- The drivers so far.
use Rattle.mk_round.specs.Begun.{AreFirst}
use Rattle.mk_round.proofs.beginning.first_drivers.Given as goal

abbrev pub invariant-loop-column : goal.invariant-loop-column
invariant-loop-column l = AreFirst l.script l.column l.drivers.items
