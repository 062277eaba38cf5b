use Rattle.std.proofs.Common.{◌≡◌, map, replicate, []}
use Rattle.mk_trace_parts.proofs.rounds.empty_logs.Given as goal

abbrev pub invariant-each : goal.invariant-each
invariant-each l = map (λ log. log.items) l.logs.items ≡ replicate l.counter []
