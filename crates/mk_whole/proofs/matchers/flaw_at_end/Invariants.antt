-- The columns so far are matched.
use Rattle.std.proofs.Common.{◌≡◌, drop}
use Rattle.mk_whole.specs.Matchers.{flaw_at_end}
use Rattle.mk_whole.proofs.matchers.flaw_at_end.Given as goal

abbrev pub invariant-loop-column : goal.invariant-loop-column
invariant-loop-column l = flaw_at_end l.replica l.key 0 l.matchers ≡ flaw_at_end l.replica l.key l.column (drop l.column l.matchers)
