use Rattle.mk_report.proofs.SameCommits.{one_copy-told}
use Rattle.mk_report.proofs.laws.commits_are_told.Goals as goal

pub returns : goal.returns
returns c run shape legal =
    one_copy-told c.columns_hold.ensures.ids c.ends_join.ensures.ends_join c.moments_are_of_runs.ensures.moments_of_rounds c.columns_hold.ensures.facts
    c.commits_are_explained.ensures.known c.commits_are_explained.ensures.only c.commits_are_explained.ensures.distinct c.learnings_agree.ensures.agree run shape legal
