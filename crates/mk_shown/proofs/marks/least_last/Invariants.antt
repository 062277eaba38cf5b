use Rattle.std.proofs.Common.{◌≡◌, drop}
use Rattle.mk_shown.specs.Marks.{least_last}
use Rattle.mk_shown.proofs.marks.least_last.Given as goal

-- that of the members from a place on
abbrev pub invariant-each : goal.invariant-each
invariant-each l = l.least ≡ least_last l.stamped (drop l.place l.clients)
