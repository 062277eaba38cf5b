use Rattle.mk_cases.proofs.ClashingCommits.{commits_clash}
use Rattle.mk_cases.proofs.made_commits_can_clash.Goals as goal

pub returns : goal.returns
returns c = commits_clash c.decisions_stand.ensures.no_clash
