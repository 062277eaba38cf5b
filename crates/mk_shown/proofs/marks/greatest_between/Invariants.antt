use Rattle.std.proofs.Common.{◌≡◌, drop}
use Rattle.mk_shown.specs.Marks.{greatest_between}
use Rattle.mk_shown.proofs.marks.greatest_between.Given as goal

-- that of the members from a place on
abbrev pub invariant-each : goal.invariant-each
invariant-each l = l.greatest ≡ greatest_between l.first l.last (drop l.place l.stamped)
