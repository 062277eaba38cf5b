use Rattle.std.proofs.Common.{◌≡◌, map, take}
use Rattle.std.specs.List.{flat_map}
use Rattle.serde_json.specs.View.{view}
use Rattle.mk_report.specs.JsonValues.{round_data}
use Rattle.mk_report.proofs.json.json_globals.Given as goal

abbrev pub invariant-each : goal.invariant-each
invariant-each l = map view l.list.items ≡ flat_map round_data (take l.round-index l.rounds)
