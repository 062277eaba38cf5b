use Rattle.std.proofs.Common.{◌≡◌, ◌++◌, take, map}
use Rattle.std.specs.String.{string_bytes}
use Rattle.mk_trace_lines.specs.TraceLines.{text_of}
use Rattle.mk_trace_text.specs.Traces.{key_line}
use Rattle.mk_trace_parts.proofs.writing.put_keys.Given as goal

abbrev pub invariant-each : goal.invariant-each
invariant-each l =
    string_bytes l.out ≡ string_bytes l.fn.out ++ text_of l.clients.names l.keys.names (map key_line (take l.number l.keys.names))
