use Rattle.std.proofs.Common.{◌≡◌}
use Rattle.mk_column.specs.ClientsByCode.{not_reading}
use Rattle.mk_column.proofs.EachMapped.{first_mapped}
use Rattle.mk_column.proofs.clients.end_reading.Given as goal

-- the clients so far read no more
abbrev pub invariant-loop-client : goal.invariant-loop-client
invariant-loop-client l = l.clients ≡ first_mapped not_reading l.client-index l.initial.clients
