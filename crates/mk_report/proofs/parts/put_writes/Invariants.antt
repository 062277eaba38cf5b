use Rattle.std.proofs.Common.{◌≡◌, ◌++◌, take}
use Rattle.std.specs.List.{flat_map}
use Rattle.std.specs.String.{string_bytes}
use Rattle.mk_report.specs.ReportTexts.{write_text}
use Rattle.mk_report.proofs.parts.put_writes.Given as goal

abbrev pub invariant-each : goal.invariant-each
invariant-each l = string_bytes l.out ≡ string_bytes l.fn.out ++ flat_map (write_text l.keys.names) (take l.item-index l.writes)
