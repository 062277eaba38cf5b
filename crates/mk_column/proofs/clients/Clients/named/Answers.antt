use Rattle.std.proofs.Common.{◌<◌, length, arith}
use Rattle.mk_column.proofs.FreshClients.{fresh-none}
use Rattle.mk_column.proofs.clients.Clients.named.Goals as goal

pub push-requires : goal.push-requires
push-requires c =
    let within : c.loop-number.number-index < length c.args.numbers.now = omega arith in
    rw c.loop-number.invariant (fresh-none c.loop-number.number-index c.args.numbers.now within c.requires)
