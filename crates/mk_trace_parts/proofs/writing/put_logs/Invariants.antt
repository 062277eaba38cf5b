use Rattle.std.proofs.Common.{◌≡◌, ◌++◌, take, map}
use Rattle.std.specs.String.{string_bytes}
use Rattle.mk_trace_lines.specs.TraceLines.{text_of}
use Rattle.mk_trace_text.specs.Begun.{begun_in}
use Rattle.mk_trace_text.specs.Traces.{logs_lines}
use Rattle.mk_trace_parts.proofs.writing.put_logs.Given as goal

abbrev pub invariant-each : goal.invariant-each
invariant-each l =
    (string_bytes l.out ≡ string_bytes l.fn.out ++ text_of l.clients.names l.keys.names (logs_lines l.fn.begun.items 0 (map (λ log. log.items) (take l.column l.logs))))
    × (l.begun.items ≡ begun_in l.fn.begun.items (map (λ log. log.items) (take l.column l.logs)))
