use Rattle.std.proofs.Common.{◌≡◌, length, arith, refl, false}
use Rattle.mk_column.specs.ClientsByCode.{not_reading}
use Rattle.mk_column.proofs.EachMapped.{first_mapped-step, first_mapped-end}
use Rattle.mk_column.proofs.clients.end_reading.Goals as goal

pub loop-client-preserved : goal.loop-client-preserved
loop-client-preserved c =
    first_mapped-step not_reading c.loop-client.client-index c.args.clients.now c.loop-client.clients
    (record { number = 0; last_time = 0; next_seq = 0; heard = 0; reading = false }) _ c.loop-client.invariant refl

pub returns : goal.returns
returns c =
    let all : c.loop-client.client-index ≡ length c.args.clients.now = omega arith in
    first_mapped-end not_reading c.loop-client.client-index c.args.clients.now c.loop-client.clients c.loop-client.invariant all
