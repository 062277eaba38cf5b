use Rattle.std.proofs.Common.{◌≡◌, ◌++◌, take, map}
use Rattle.std.specs.String.{string_bytes}
use Rattle.mk_script.specs.Printed.{text_of, stop_line}
use Rattle.mk_script.proofs.printing.put_stops.Given as goal

abbrev pub invariant-each : goal.invariant-each
invariant-each l = string_bytes l.out ≡ string_bytes l.fn.out ++ text_of (map (stop_line l.clients) (take l.stop-index l.stops))
