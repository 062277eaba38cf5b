-- The rounds so far, and those to come, have all lines.
use Rattle.std.proofs.Common.{◌≡◌, ◌++◌, drop, map}
use Rattle.mk_driver.specs.Driven.{lines_of}
use Rattle.mk_driver.proofs.starting.rounds_of.Given as goal

abbrev pub invariant-loop-round : goal.invariant-loop-round
invariant-loop-round l = l.lines.items ++ map (lines_of l.retry) (drop l.round-index l.rounds) ≡ map (lines_of l.retry) l.rounds
