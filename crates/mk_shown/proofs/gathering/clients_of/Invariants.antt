-- The clients so far, and those to come.
use Rattle.std.proofs.Common.{◌≡◌, ◌++◌, ◌+◌, drop}
use Rattle.mk_history.specs.Histories.{clients_of}
use Rattle.mk_shown.proofs.gathering.clients_of.Given as goal

abbrev pub invariant-each : goal.invariant-each
invariant-each l = clients_of l.column 1 l.client_columns ≡ l.clients.items ++ clients_of l.column (l.place + 1) (drop l.place l.client_columns)
