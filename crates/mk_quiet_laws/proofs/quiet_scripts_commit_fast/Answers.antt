use Rattle.mk_quiet_laws.proofs.Lower.{Lower}
use Rattle.mk_quiet_laws.proofs.Quietly.{keys_are_clients, quiet_checks_are_okay, quiet_commits_fast}
use Rattle.mk_quiet_laws.proofs.quiet_scripts_commit_fast.Goals as goal

pub returns : goal.returns
returns c =
    let laws : Lower = record {
      provenance = c.cells_remember.ensures.provenance;
      reads = c.cells_remember.ensures.read_refusals;
      writes = c.cells_remember.ensures.write_refusals;
      stamps_rise = c.cells_remember.ensures.stamps_rise;
      origins = c.key_acts_have_origins.ensures.acts_have_origin;
      checks = c.key_acts_have_origins.ensures.checks_of_stamp;
      commits = c.key_acts_have_origins.ensures.commits_of_final;
      no_check = c.key_acts_have_origins.ensures.no_check_after_commit;
      refusal = c.key_acts_have_origins.ensures.refusal_of_abort;
      ids = c.stamps_name_attempts.ensures.ids_once;
      names = c.stamps_name_attempts.ensures.stamps_name;
      got = c.stamps_name_attempts.ensures.reads_were_got;
      voted = c.messages_are_true.ensures.voted_true;
      final_sent = c.messages_are_true.ensures.final_was_sent;
      record_past = c.events_are_sorted.ensures.record_is_past;
      found = c.attempts_stand_once.ensures.found;
      done = c.commits_are_done.ensures;
      listed = c.learnings_are_listed.ensures.listed;
      first_hand = c.learnings_are_listed.ensures.first;
      ends = c.ends_join.ensures.ends_join;
      columns = c.ends_join.ensures.columns_are_numbered;
      logs_learnt = c.learnings_have_sources.ensures.logs_are_learnt;
      in_order = c.learnings_have_sources.ensures.columns_list_in_order;
      moments = c.moments_are_of_runs.ensures.moments_of_rounds;
      ids_of = c.columns_hold.ensures.ids_are_of_columns;
      ranges = c.moments_are_of_runs.ensures.acts_in_range;
      teaching = c.runs_reach_moments.ensures.teaching_stays;
      reach = c.runs_reach_moments.ensures.runs_reach_moments;
      path_own = c.firsts_have_paths.ensures.own;
      come_first = c.has_come_goes_on.ensures.at_first;
      come_step = c.has_come_goes_on.ensures.after_step;
    } in
    record { keys = keys_are_clients laws; okay = quiet_checks_are_okay laws; fast = quiet_commits_fast laws }
