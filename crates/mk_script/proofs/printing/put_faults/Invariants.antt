use Rattle.std.proofs.Common.{◌≡◌, ◌++◌, take, map}
use Rattle.std.specs.String.{string_bytes}
use Rattle.mk_script.specs.Printed.{text_of, fault_line}
use Rattle.mk_script.proofs.printing.put_faults.Given as goal

abbrev pub invariant-each : goal.invariant-each
invariant-each l = string_bytes l.out ≡ string_bytes l.fn.out ++ text_of (map (fault_line l.clients) (take l.fault-index l.faults))
