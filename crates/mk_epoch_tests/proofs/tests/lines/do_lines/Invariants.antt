use Rattle.std.proofs.Common.{◌≡◌}
use Rattle.mk_epoch_tests.specs.Reached.{StandsReached}
use Rattle.mk_epoch_tests.proofs.tests.lines.do_lines.Given as goal

abbrev pub invariant-loop-line : goal.invariant-loop-line
invariant-loop-line g l = StandsReached g.B.Keeping.stands l.replicas × (l.replicas.faults ≡ l.size)
