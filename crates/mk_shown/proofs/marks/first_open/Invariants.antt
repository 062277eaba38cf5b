use Rattle.std.proofs.Common.{◌≡◌, drop}
use Rattle.mk_shown.specs.Marks.{first_open}
use Rattle.mk_shown.proofs.marks.first_open.Given as goal

-- that of the members from a place on
abbrev pub invariant-each : goal.invariant-each
invariant-each l = l.first ≡ first_open (drop l.place l.stamped)
