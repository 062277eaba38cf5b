use Rattle.std.proofs.Common.{◌-◌, ◌≤◌, ◌∙◌, ap, sym, subst, not, length, count_by}
use Rattle.mk_feed_words.specs.Feed.{is_upto}
use Rattle.mk_follow.specs.Commits.{CommitsState}
use Rattle.mk_follow.specs.Orders.{count_upto}
use Rattle.mk_follow.proofs.CommitLaws.{above-is}
use Rattle.mk_follow.proofs.commits.Commits.above.Goals as goal

pub overflow_sub-result : goal.overflow_sub-result
overflow_sub-result c =
    let s = c.self.inside in
    let is = above-is c.args.stamp s.received.items s.order.items c.self.invariant.all in
    subst (λ n. c.upto.result ≤ n) (sym (c.len.ensures ∙ s.received.ok.0))
    (subst (λ n. n ≤ length s.received.items) (sym (c.upto.ensures.value ∙ ap (count_upto c.args.stamp) c.as_slice.ensures.value)) is.0)

pub returns : goal.returns
returns c =
    let s = c.self.inside in
    let is = above-is c.args.stamp s.received.items s.order.items c.self.invariant.all in
    (λ i. (c.len.ensures ∙ s.received.ok.0) i - (c.upto.ensures.value ∙ ap (count_upto c.args.stamp) c.as_slice.ensures.value) i)
    ∙ is.1
    ∙ ap (λ (v : CommitsState). count_by (λ r. not (is_upto c.args.stamp r)) v.commits) c.self.view_is
