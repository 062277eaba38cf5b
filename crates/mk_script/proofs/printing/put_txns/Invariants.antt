use Rattle.std.proofs.Common.{◌≡◌, ◌++◌, take, map}
use Rattle.std.specs.String.{string_bytes}
use Rattle.mk_script.specs.Printed.{text_of, txn_line}
use Rattle.mk_script.proofs.printing.put_txns.Given as goal

abbrev pub invariant-each : goal.invariant-each
invariant-each l = string_bytes l.out ≡ string_bytes l.fn.out ++ text_of (map (txn_line l.clients l.keys.names) (take l.txn-index l.txns))
