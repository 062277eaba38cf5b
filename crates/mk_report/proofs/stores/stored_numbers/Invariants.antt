use Rattle.std.proofs.Common.{◌≡◌, ◌++◌, map}
use Rattle.std.specs.List.{flat_map}
use Rattle.mk_report.specs.Seen.{seen_entry}
use Rattle.mk_report.specs.StoreTexts.{entry_number, stored_numbers}
use Rattle.mk_report.proofs.stores.stored_numbers.Given as goal

-- with the numbers of the entries that are left it comes to all of them
abbrev pub invariant-each : goal.invariant-each
invariant-each l =
    l.numbers.items ++ flat_map (entry_number l.copy) (map seen_entry l.number-iterator) ≡ stored_numbers l.keys.names l.copy
