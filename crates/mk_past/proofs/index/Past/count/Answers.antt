use Rattle.std.proofs.Common.{ap, ◌∙◌}
use Rattle.mk_past.specs.Indexes.{PastView}
use Rattle.mk_past.proofs.IndexLaws.{count-holds}
use Rattle.mk_past.proofs.index.Past.count.Goals as goal

pub returns : goal.returns
returns c commits past =
    count-holds c.args.self.now commits c.args.stamp c.as_slice.result.now c.stamps_upto.result past
    (c.as_slice.ensures.value ∙ ap (λ (p : PastView). p.stamps) c.self.view_is) c.stamps_upto.ensures.part c.stamps_upto.ensures.bound
