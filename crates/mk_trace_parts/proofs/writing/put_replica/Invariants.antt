use Rattle.std.proofs.Common.{◌≡◌, ◌++◌, take, map}
use Rattle.std.specs.String.{string_bytes}
use Rattle.mk_trace_lines.specs.TraceLines.{text_of}
use Rattle.mk_trace_text.specs.Traces.{replica_lines}
use Rattle.mk_trace_parts.proofs.writing.put_replica.Given as goal

abbrev pub invariant-each : goal.invariant-each
invariant-each l =
    string_bytes l.out ≡ string_bytes l.fn.out ++ text_of l.clients.names l.keys.names (replica_lines l.replica 0 (map (λ key. key.items) (take l.key l.journals)))
