use Rattle.mk_past.proofs.ListedLaws.{listed}
use Rattle.mk_past.proofs.laws.commits_are_listed.Goals as goal

pub returns : goal.returns
returns c run shape legal =
    listed c.columns_hold.ensures.ids c.ends_join.ensures.ends_join c.moments_are_of_runs.ensures.moments_of_rounds c.columns_hold.ensures.facts
    c.commits_are_explained.ensures.known c.commits_are_explained.ensures.only c.commits_are_explained.ensures.distinct c.learnings_agree.ensures.agree run shape legal
    (c.commits_are_distinct.ensures run shape legal)
