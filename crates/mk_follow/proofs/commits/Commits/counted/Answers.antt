use Rattle.std.proofs.Common.{◌<◌, ◌∙◌, ap, sym, subst}
use Rattle.mk_feed_words.specs.Feed.{counted}
use Rattle.mk_follow.specs.Commits.{CommitsState}
use Rattle.mk_follow.specs.Orders.{IsAscending, count_upto}
use Rattle.mk_follow.proofs.CommitLaws.{read-map}
use Rattle.mk_follow.proofs.commits.Commits.counted.Goals as goal

pub upto-requires : goal.upto-requires
upto-requires c =
    let here = read-map c.self.inside.columns.items (λ column. column.items) c.args.column c.index.result.now (subst (λ (v : CommitsState). c.args.column < v.columns) (sym c.self.view_is) c.requires) c.index.ensures in
    subst IsAscending (sym c.as_slice.ensures.value) (c.self.invariant.each c.args.column c.index.result.now.items here).ascending

pub returns : goal.returns
returns c =
    let here = read-map c.self.inside.columns.items (λ column. column.items) c.args.column c.index.result.now (subst (λ (v : CommitsState). c.args.column < v.columns) (sym c.self.view_is) c.requires) c.index.ensures in
    c.upto.ensures.value
    ∙ ap (count_upto c.args.stamp) c.as_slice.ensures.value
    ∙ (c.self.invariant.each c.args.column c.index.result.now.items here).counts c.args.stamp
    ∙ ap (λ (v : CommitsState). counted c.args.column c.args.stamp v.commits) c.self.view_is
