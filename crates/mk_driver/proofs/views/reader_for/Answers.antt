use Rattle.std.proofs.Common.{◌∙◌, ◌+◌, ◌%◌, arith}
use Rattle.std.specs.Prelude.{slice_get}
use Rattle.mk_quorum.specs.Sizes.{members}
use Rattle.mk_quorum.specs.Slots.{passes}
use Rattle.mk_model.specs.Conditions.{heard_by, serves_from}
use Rattle.mk_driver.proofs.Reading.{find-over}
use Rattle.mk_driver.proofs.views.reader_for.Goals as goal

pub loop-places-preserved : goal.loop-places-preserved
loop-places-preserved c =
    let column = c.args.column.now in
    c.loop-places.invariant
    ∙ find-over (λ r. passes (serves_from (heard_by column.state c.args.client)) (slice_get column.setting.views r))
    (λ i. (c.args.home + i) % members c.args.size) c.loop-places.places (members c.args.size)
    (omega (arith, c.loop-places-test.true, c.n-places-end.ensures))
    (rw (← c.replica_after-replica.ensures, ← c.serves_client.ensures) c.if-serves_client.false)
