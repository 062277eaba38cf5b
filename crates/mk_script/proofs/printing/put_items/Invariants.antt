use Rattle.std.proofs.Common.{◌≡◌, ◌++◌, take}
use Rattle.std.specs.List.{flat_map}
use Rattle.std.specs.String.{string_bytes}
use Rattle.mk_script.specs.Printed.{item_text}
use Rattle.mk_script.proofs.printing.put_items.Given as goal

abbrev pub invariant-each : goal.invariant-each
invariant-each l = string_bytes l.out ≡ string_bytes l.fn.out ++ flat_map (item_text l.keys.names) (take l.item-index l.items)
