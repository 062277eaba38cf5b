use Rattle.std.proofs.Common.{◌≡◌, ◌++◌, map, take}
use Rattle.serde_json.specs.View.{view}
use Rattle.mk_report.specs.JsonValues.{global_data}
use Rattle.mk_report.proofs.json.push_globals.Given as goal

abbrev pub invariant-each : goal.invariant-each
invariant-each l = map view l.list.items ≡ map view l.fn.list.items ++ map global_data (take l.entry-index l.entries)
