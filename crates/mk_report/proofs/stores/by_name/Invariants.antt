use Rattle.std.proofs.Common.{◌≡◌, drop, map}
use Rattle.mk_report.specs.Seen.{seen_entry}
use Rattle.mk_report.specs.StoreTexts.{with_names, by_name}
use Rattle.mk_report.proofs.stores.by_name.Given as goal

abbrev pub invariant-each : goal.invariant-each
invariant-each l = with_names l.number (drop l.number l.names.names) (map seen_entry l.table.entries) ≡ by_name l.names.names
