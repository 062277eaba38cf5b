use Rattle.mk_run_laws.proofs.Voted.{clashing_votes}
use Rattle.mk_run_laws.proofs.votes_clash.Goals as goal

pub returns : goal.returns
returns c =
    clashing_votes c.runs_reach_moments.ensures.teaching_stays c.runs_reach_moments.ensures.runs_reach_moments c.columns_hold.ensures.facts c.columns_hold.ensures.acts
    c.columns_hold.ensures.ids c.key_acts_have_origins.ensures.stamp_released c.tenures_hold.ensures.tenures_match c.tenures_hold.ensures.clashes_give_up
