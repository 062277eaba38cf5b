-- Writes that were read, and those that are left.
use Rattle.std.specs.Prelude.{List, ◌++◌, Result, Ok, Err}
use Rattle.mk_spelling.specs.declared.fault.TextFault.{TextFault}
use Rattle.mk_txn.specs.declared.WriteItem.{WriteItem}

-- writes in front of those that a text gives
abbrev pub behind : List WriteItem → Result (List WriteItem) TextFault → Result (List WriteItem) TextFault
behind front (Ok items) = Ok (front ++ items)
behind front (Err fault) = Err fault
