use Rattle.std.proofs.Common.{◌≡◌, ◌++◌, map}
use Rattle.std.specs.List.{flat_map}
use Rattle.std.specs.String.{string_bytes}
use Rattle.mk_report.specs.Seen.{seen_entry}
use Rattle.mk_report.specs.StoreTexts.{entry_text, stores_text}
use Rattle.mk_report.proofs.stores.put_stores.Given as goal

-- with the lines of the entries that are left it comes to all lines
abbrev pub invariant-each : goal.invariant-each
invariant-each l =
    string_bytes l.out ++ flat_map (entry_text l.copy) (map seen_entry l.name-iterator) ≡ string_bytes l.fn.out ++ stores_text l.keys.names l.copy
