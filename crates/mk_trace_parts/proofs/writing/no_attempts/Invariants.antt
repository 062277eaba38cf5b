use Rattle.std.proofs.Common.{◌≡◌, take}
use Rattle.mk_trace_text.specs.Traces.{zeros}
use Rattle.mk_trace_parts.proofs.writing.no_attempts.Given as goal

abbrev pub invariant-each : goal.invariant-each
invariant-each l = l.begun.items ≡ zeros (take l.index l.columns)
