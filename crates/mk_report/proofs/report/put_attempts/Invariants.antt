use Rattle.std.proofs.Common.{◌≡◌, ◌++◌, take}
use Rattle.std.specs.List.{flat_map}
use Rattle.std.specs.String.{string_bytes}
use Rattle.mk_report.specs.ReportTexts.{attempt_text}
use Rattle.mk_report.proofs.report.put_attempts.Given as goal

abbrev pub invariant-each : goal.invariant-each
invariant-each l =
    string_bytes l.out ≡ string_bytes l.fn.out ++ flat_map (attempt_text l.clients.names l.keys.names) (take l.line-index l.lines)
