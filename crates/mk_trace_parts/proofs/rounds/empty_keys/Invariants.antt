use Rattle.std.proofs.Common.{◌≡◌, map, replicate, []}
use Rattle.mk_trace_parts.proofs.rounds.empty_keys.Given as goal

abbrev pub invariant-each : goal.invariant-each
invariant-each l = map (λ key. key.items) l.made.items ≡ replicate l.counter []
