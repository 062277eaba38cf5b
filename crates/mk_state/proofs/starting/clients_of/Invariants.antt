-- The clients so far, and those to come.
use Rattle.std.proofs.Common.{◌≡◌, ◌++◌, ◌+◌, drop}
use Rattle.mk_history.specs.Histories.{clients_of}
use Rattle.mk_state.proofs.starting.clients_of.Given as goal

abbrev pub invariant-loop-place : goal.invariant-loop-place
invariant-loop-place l = clients_of l.column 1 l.client_columns ≡ l.clients.items ++ clients_of l.column (l.place + 1) (drop l.place l.client_columns)
