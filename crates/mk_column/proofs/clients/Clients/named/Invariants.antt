use Rattle.std.proofs.Common.{◌≡◌, take}
use Rattle.std.specs.Prelude.{map}
use Rattle.mk_column.specs.ClientsByCode.{fresh_client}
use Rattle.mk_column.proofs.clients.Clients.named.Given as goal

-- the clients so far are there
abbrev pub invariant-loop-number : goal.invariant-loop-number
invariant-loop-number l = l.clients ≡ map fresh_client (take l.number-index l.numbers)
