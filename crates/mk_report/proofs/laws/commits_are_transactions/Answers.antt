use Rattle.mk_report.proofs.WholeCommits.{commits-whole}
use Rattle.mk_report.proofs.laws.commits_are_transactions.Goals as goal

pub returns : goal.returns
returns c run shape legal =
    commits-whole c.columns_hold.ensures.items c.columns_hold.ensures.ids c.ends_join.ensures.ends_join c.moments_are_of_runs.ensures.moments_of_rounds run shape legal
