-- The clients so far, and those to come, are all of the column.
use Rattle.std.proofs.Common.{◌≡◌, ◌+◌, ◌++◌, drop}
use Rattle.mk_driver.specs.Driven.{callers_from}
use Rattle.mk_driver.proofs.starting.callers_of.Given as goal

abbrev pub invariant-loop-client : goal.invariant-loop-client
invariant-loop-client l =
    (l.number ≡ l.client-index + 1)
    × (l.callers.items ++ callers_from l.column l.number (drop l.client-index l.clients) ≡ callers_from l.column 1 l.clients)
