use Rattle.std.proofs.Common.{◌≡◌, map, take}
use Rattle.serde_json.specs.View.{view}
use Rattle.mk_report.specs.JsonValues.{write_data}
use Rattle.mk_report.proofs.json.json_writes.Given as goal

abbrev pub invariant-each : goal.invariant-each
invariant-each l = map view l.list.items ≡ map (write_data l.keys.names) (take l.item-index l.writes)
