use Rattle.std.proofs.Common.{◌≡◌, ◌++◌, take}
use Rattle.std.specs.List.{flat_map}
use Rattle.std.specs.String.{string_bytes}
use Rattle.mk_script.specs.Printed.{text_of, next_lines}
use Rattle.mk_script.proofs.printing.put_next_rounds.Given as goal

abbrev pub invariant-each : goal.invariant-each
invariant-each l = string_bytes l.out ≡ string_bytes l.fn.out ++ text_of (flat_map (next_lines l.clients l.keys.names) (take l.round-index l.rounds))
