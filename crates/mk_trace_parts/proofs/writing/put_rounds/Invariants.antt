use Rattle.std.proofs.Common.{◌≡◌, ◌++◌, take}
use Rattle.std.specs.String.{string_bytes}
use Rattle.mk_trace_lines.specs.TraceLines.{text_of}
use Rattle.mk_trace_text.specs.Traces.{rounds_lines}
use Rattle.mk_trace_text.proofs.LinesMore.{begun_by}
use Rattle.mk_trace_parts.proofs.writing.put_rounds.Given as goal

abbrev pub invariant-each : goal.invariant-each
invariant-each l =
    (string_bytes l.out ≡ string_bytes l.fn.out ++ text_of l.clients.names l.keys.names (rounds_lines l.fn.begun.items 0 (take l.place l.rounds)))
    × (l.begun.items ≡ begun_by l.fn.begun.items (take l.place l.rounds))
