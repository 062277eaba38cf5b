-- The columns so far, and those to come.
use Rattle.std.proofs.Common.{◌≡◌, ◌++◌, drop, map}
use Rattle.mk_script.specs.declared.lines.ClientLine.{ClientLine}
use Rattle.mk_store.proofs.head.columns_by_client.Given as goal

abbrev pub invariant-loop-line : goal.invariant-loop-line
invariant-loop-line l = l.columns.items ++ map (λ (line : ClientLine). line.column) (drop l.line-index l.clients) ≡ map (λ (line : ClientLine). line.column) l.clients
