use Rattle.std.proofs.Common.{◌≡◌, ◌++◌, drop}
use Rattle.mk_shown.specs.Gathering.{closed_by, gathered}
use Rattle.mk_shown.proofs.gathering.gathered.Given as goal

-- with those of the clients that are left it comes to all of them
abbrev pub invariant-each : goal.invariant-each
invariant-each l =
    l.stamped.items ++ gathered (closed_by l.walk l.column.state) l.column.state (drop l.client-index l.clients)
    ≡ gathered (closed_by l.walk l.column.state) l.column.state l.clients
