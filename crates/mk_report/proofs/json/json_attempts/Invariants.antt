use Rattle.std.proofs.Common.{◌≡◌, map, take}
use Rattle.serde_json.specs.View.{view}
use Rattle.mk_report.specs.JsonValues.{attempt_data}
use Rattle.mk_report.proofs.json.json_attempts.Given as goal

abbrev pub invariant-each : goal.invariant-each
invariant-each l = map view l.list.items ≡ map (attempt_data l.clients.names l.keys.names) (take l.line-index l.lines)
