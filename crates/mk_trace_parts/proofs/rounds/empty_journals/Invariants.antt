use Rattle.std.proofs.Common.{◌≡◌, map, replicate, []}
use Rattle.mk_trace_parts.proofs.rounds.empty_journals.Given as goal

abbrev pub invariant-each : goal.invariant-each
invariant-each l = map (λ replica. map (λ key. key.items) replica.items) l.made.items ≡ replicate l.counter (replicate l.keys [])
