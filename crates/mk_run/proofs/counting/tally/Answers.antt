use Rattle.std.proofs.Common.{◌∙◌, arith}
use Rattle.mk_run.proofs.CountLaws.{plus_next}
use Rattle.mk_run.proofs.counting.tally.Goals as goal

pub loop-place-preserved : goal.loop-place-preserved
loop-place-preserved c = record {
  counted = plus_next c.args.firsts.now c.args.columns.now c.args.client_columns.now c.loop-place.place c.loop-place.tally c.count_client_at.new.self c.loop-place-test.true c.count_client_at.ensures.counted
      ∙ c.loop-place.invariant.counted;
  few = omega (arith, c.count_client_at.ensures.few, c.loop-place.invariant.few);
}
