use Rattle.mk_past.proofs.ReasonLaws.{reasoned}
use Rattle.mk_past.proofs.laws.lines_are_reasoned.Goals as goal

pub returns : goal.returns
returns c run shape legal line m =
    reasoned c.columns_hold.ensures.ids c.columns_hold.ensures.ids_are_of_columns c.ends_join.ensures.ends_join c.ends_join.ensures.columns_are_numbered c.moments_are_of_runs.ensures.moments_of_rounds
    c.columns_hold.ensures.facts c.runs_reach_moments.ensures.teaching_stays c.runs_reach_moments.ensures.runs_reach_moments c.attempts_stand_once.ensures.found run shape legal
    (c.learnings_are_named.ensures run shape legal) line m
