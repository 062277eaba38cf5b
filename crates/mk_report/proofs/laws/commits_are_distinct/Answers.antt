use Rattle.mk_report.proofs.DistinctCommits.{commits_in-distinct}
use Rattle.mk_report.proofs.laws.commits_are_distinct.Goals as goal

pub returns : goal.returns
returns c run shape legal =
    commits_in-distinct c.columns_hold.ensures.ids c.ends_join.ensures.ends_join c.moments_are_of_runs.ensures.moments_of_rounds run shape legal
