use Rattle.std.proofs.Common.{◌≡◌, ◌++◌, map}
use Rattle.std.specs.List.{flat_map}
use Rattle.serde_json.specs.View.{view}
use Rattle.mk_report.specs.Seen.{seen_entry}
use Rattle.mk_report.specs.JsonValues.{entry_data, stores_data}
use Rattle.mk_report.proofs.json.json_stores.Given as goal

-- with those of the entries that are left it comes to all of them
abbrev pub invariant-each : goal.invariant-each
invariant-each l =
    map view l.list.items ++ flat_map (entry_data l.copy) (map seen_entry l.name-iterator) ≡ stores_data l.keys.names l.copy
