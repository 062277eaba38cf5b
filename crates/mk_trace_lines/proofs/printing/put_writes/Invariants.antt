use Rattle.std.proofs.Common.{◌≡◌, ◌++◌, take}
use Rattle.std.specs.List.{flat_map}
use Rattle.std.specs.String.{string_bytes}
use Rattle.mk_trace_lines.specs.TraceLines.{spaced_write}
use Rattle.mk_trace_lines.proofs.printing.put_writes.Given as goal

abbrev pub invariant-each : goal.invariant-each
invariant-each l = string_bytes l.out ≡ string_bytes l.fn.out ++ flat_map (spaced_write l.keys.names) (take l.item-index l.writes)
