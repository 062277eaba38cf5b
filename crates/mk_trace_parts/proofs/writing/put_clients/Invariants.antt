use Rattle.std.proofs.Common.{◌≡◌, ◌++◌, take}
use Rattle.std.specs.String.{string_bytes}
use Rattle.mk_trace_lines.specs.TraceLines.{text_of}
use Rattle.mk_trace_text.specs.Traces.{client_lines}
use Rattle.mk_trace_parts.proofs.writing.put_clients.Given as goal

abbrev pub invariant-each : goal.invariant-each
invariant-each l =
    string_bytes l.out ≡ string_bytes l.fn.out ++ text_of l.clients.names l.keys.names (client_lines l.clients.names 0 (take l.place l.columns))
