use Rattle.mk_shown.proofs.WatermarkLaws.{watermarks-shown}
use Rattle.mk_shown.proofs.laws.watermarks_are_shown.Goals as goal

pub returns : goal.returns
returns c =
    watermarks-shown c.attempts_stand_once.ensures.found c.runs_reach_moments.ensures.teaching_stays c.runs_reach_moments.ensures.runs_reach_moments c.columns_hold.ensures.ids
    c.moments_are_of_runs.ensures.moments_of_rounds c.ends_join.ensures.ends_join
