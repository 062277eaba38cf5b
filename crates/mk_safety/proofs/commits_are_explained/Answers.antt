use Rattle.mk_cause_laws.proofs.Lower.{Lower}
use Rattle.mk_safety.proofs.CommitLaws.{CommitLaws}
use Rattle.mk_safety.proofs.Committed.{commits_are_known, known_are_commits}
use Rattle.mk_safety.proofs.Distinct.{commits_are_distinct}
use Rattle.mk_safety.proofs.Versions.{versions_were_committed}
use Rattle.mk_safety.proofs.OneCopies.{none_between, commits_are_explained}
use Rattle.mk_safety.proofs.commits_are_explained.Goals as goal

pub returns : goal.returns
returns c =
    let below : Lower = record {
      provenance = c.cells_remember.ensures.provenance;
      reads = c.cells_remember.ensures.read_refusals;
      writes = c.cells_remember.ensures.write_refusals;
      write_is = c.latest_commits_stand.ensures.write_is;
      read_is = c.latest_commits_stand.ensures.read_is;
      names = c.stamps_name_attempts.ensures.stamps_name;
      checks = c.key_acts_have_origins.ensures.checks_of_stamp;
      commits = c.key_acts_have_origins.ensures.commits_of_final;
      no_check = c.key_acts_have_origins.ensures.no_check_after_commit;
      made = c.bases_hold.ensures.bases_made;
      held = c.bases_hold.ensures.bases_held;
      grows = c.bases_hold.ensures.kept_grows;
      lines = c.rounds_join.ensures.lines_are_turns;
      split = c.rounds_join.ensures.rounds_split;
      teaching = c.runs_reach_moments.ensures.teaching_stays;
      reach = c.runs_reach_moments.ensures.runs_reach_moments;
      facts = c.columns_hold.ensures.facts;
      ids = c.columns_hold.ensures.ids_are_of_columns;
      moments = c.moments_are_of_runs.ensures.moments_of_rounds;
      ranges = c.moments_are_of_runs.ensures.acts_in_range;
      seats = c.moments_are_of_runs.ensures.seats_in_range;
      journals = c.moments_are_of_runs.ensures.tenures_are_journals;
      ends = c.ends_join.ensures.ends_join;
      columns = c.ends_join.ensures.columns_are_numbered;
      replay = c.tenures_hold.ensures.tenures_replay;
      matches = c.tenures_hold.ensures.tenures_match;
      follow = c.tenures_hold.ensures.tenures_follow;
      members = c.bases_have_members.ensures.members;
    } in
    let laws : CommitLaws = record {
      below = below;
      copy = c.latest_commits_stand.ensures.copy_holds;
      write_found = c.latest_commits_stand.ensures.write_found;
      write_none = c.latest_commits_stand.ensures.write_none;
      in_order = c.fates_are_composed.ensures.in_order;
      distinct = c.attempts_stand_once.ensures.distinct;
      found = c.attempts_stand_once.ensures.found;
      unread = c.attempts_stand_once.ensures.unread;
      listed = c.learnings_are_listed.ensures.listed;
      got = c.columns_hold.ensures.reads;
      identity = c.columns_hold.ensures.ids;
      items = c.columns_hold.ensures.items;
      apart = c.columns_hold.ensures.stamps_name_columns;
      served = c.epochs_are_dated.ensures.served_was;
      servers = c.epochs_are_dated.ensures.servers_entered;
      in_force = c.bases_have_reasons.ensures.entered_in_force;
      epochs = c.ends_join.ensures.epochs_join;
      rest = c.learnings_agree.ensures.rest;
      logs = c.learnings_have_sources.ensures.logs_are_learnt;
      bases = c.learnings_have_sources.ensures.bases_are_learnt;
      marks = c.votes_fit_bases.ensures.base_marks;
      backed = c.decisions_stand.ensures.backed_rests;
      stand = c.decisions_stand.ensures.rests_stand;
      fit = c.decisions_stand.ensures.commits_fit;
    } in
    record {
      known = commits_are_known laws;
      only = known_are_commits laws;
      distinct = commits_are_distinct laws;
      versions = versions_were_committed laws;
      between = none_between laws;
      explained = commits_are_explained laws;
    }
