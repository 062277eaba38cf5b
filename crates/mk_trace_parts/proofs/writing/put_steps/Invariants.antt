use Rattle.std.proofs.Common.{◌≡◌, ◌++◌, take}
use Rattle.std.specs.String.{string_bytes}
use Rattle.mk_trace_lines.specs.TraceLines.{text_of}
use Rattle.mk_trace_text.specs.Begun.{begun_through}
use Rattle.mk_trace_text.specs.Traces.{step_lines}
use Rattle.mk_trace_parts.proofs.writing.put_steps.Given as goal

abbrev pub invariant-each : goal.invariant-each
invariant-each l =
    (string_bytes l.out ≡ string_bytes l.fn.out ++ text_of l.clients.names l.keys.names (step_lines l.fn.begun.items (take l.step-index l.steps)))
    × (l.begun.items ≡ begun_through l.fn.begun.items (take l.step-index l.steps))
