use Rattle.std.proofs.Common.{◌∙◌, arith}
use Rattle.mk_model.specs.OneCopy.{version_in}
use Rattle.mk_report.specs.StoreTexts.{is_written}
use Rattle.mk_past.specs.Pasts.{copy_at}
use Rattle.mk_shown.proofs.FollowLaws.{written-next}
use Rattle.mk_shown.proofs.follow.written_at.Goals as goal

pub each-preserved : goal.each-preserved
each-preserved c = record {
  counted = λ commits past.
      written-next (λ key. is_written (version_in (copy_at c.args.stamp commits) key)) c.each.count c.written_once-count.result c.each.key c.args.keys c.each-test.true
      (c.written_once-count.ensures.is commits past)
      ∙ c.each.invariant.counted commits past;
  few = omega (arith, c.written_once-count.ensures.few, c.each.invariant.few);
}
