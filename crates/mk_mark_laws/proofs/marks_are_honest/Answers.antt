use Rattle.mk_mark_laws.proofs.Closed.{ColumnLaws, closed_below_marks}
use Rattle.mk_mark_laws.proofs.Counted as laws
use Rattle.mk_mark_laws.proofs.Counted.{RunLaws}
use Rattle.mk_run_laws.proofs.Reaching.{happens_all}
use Rattle.mk_mark_laws.specs.Honest.{ClosedBelowMarks}
use Rattle.mk_mark_laws.proofs.marks_are_honest.Goals as goal

pub returns : goal.returns
returns c =
    let columns : ColumnLaws = record {
      moves = c.events_are_sorted.ensures.events_move;
      grow = c.events_are_sorted.ensures.columns_grow;
      facts = c.events_are_sorted.ensures.facts_hold;
      ids = c.stamps_name_attempts.ensures.ids_once;
      found = c.attempts_stand_once.ensures.found;
    } in
    let runs : RunLaws = record {
      happen =
          λ run legal k lt. happens_all run legal k lt c.words_hold.ensures.phase_and_word c.bases_hold.ensures.bases_held c.bases_hold.ensures.bases_stay c.bases_hold.ensures.serving_was_entered;
      teaching = c.runs_reach_moments.ensures.teaching_stays;
      reach = c.runs_reach_moments.ensures.runs_reach_moments;
      moments = c.moments_are_of_runs.ensures.moments_of_rounds;
      ids = c.columns_hold.ensures.ids_are_of_columns;
      logs = c.learnings_have_sources.ensures.logs_are_learnt;
      known = c.commits_are_explained.ensures.known;
      agree = c.learnings_agree.ensures.agree;
      grow = c.events_are_sorted.ensures.columns_grow;
    } in
    let closed : ClosedBelowMarks = closed_below_marks columns in
    record { closed = closed; honest = laws.marks_are_honest runs closed; decided = laws.decided_are_commits runs }
