use Rattle.std.proofs.Common.{◌≡◌, ◌++◌, ◌-◌}
use Rattle.mk_shown.specs.Gathering.{closed_by, gathered_from}
use Rattle.mk_shown.proofs.gathering.push_client.Given as goal

-- with the attempts that are left it comes to all of the client's
abbrev pub invariant-each : goal.invariant-each
invariant-each l =
    l.stamped.items ++ gathered_from (closed_by l.walk l.column.state) l.column.state l.client l.seq (l.seq-end - l.seq)
    ≡ l.initial.stamped.items ++ gathered_from (closed_by l.walk l.column.state) l.column.state l.client 1 (l.seq-end - 1)
