use Rattle.mk_past.proofs.LineLaws.{line-has, has-line}
use Rattle.mk_past.proofs.laws.attempts_have_lines.Goals as goal

pub returns-clause-there : goal.returns-clause-there
returns-clause-there c run shape legal id has =
    has-line c.columns_hold.ensures.ids c.ends_join.ensures.ends_join c.moments_are_of_runs.ensures.moments_of_rounds run shape legal c.ends_join.ensures.columns_are_numbered
    c.runs_reach_moments.ensures.teaching_stays c.runs_reach_moments.ensures.runs_reach_moments c.attempts_stand_once.ensures.found id has

pub returns-clause-only : goal.returns-clause-only
returns-clause-only c run shape legal line m =
    line-has c.columns_hold.ensures.ids c.ends_join.ensures.ends_join c.moments_are_of_runs.ensures.moments_of_rounds run shape legal c.ends_join.ensures.columns_are_numbered line m
