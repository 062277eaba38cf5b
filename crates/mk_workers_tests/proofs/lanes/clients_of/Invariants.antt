-- The clients so far, and those to come, are all of the column.
use Rattle.std.proofs.Common.{◌≡◌, ◌+◌, ◌++◌, drop, map}
use Rattle.mk_script.specs.declared.lines.ClientLine.{ClientLine}
use Rattle.mk_history.specs.Histories.{clients_of}
use Rattle.mk_workers_tests.proofs.lanes.clients_of.Given as goal

abbrev pub invariant-loop-client : goal.invariant-loop-client
invariant-loop-client l =
    (l.number ≡ l.client-index + 1)
    × (l.numbers.items ++ clients_of l.column l.number (map (λ (line : ClientLine). line.column) (drop l.client-index l.clients))
    ≡ clients_of l.column 1 (map (λ (line : ClientLine). line.column) l.clients))
