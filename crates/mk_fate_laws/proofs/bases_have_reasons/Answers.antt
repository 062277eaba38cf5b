use Rattle.mk_fate_laws.proofs.Placing.{ColumnSide}
use Rattle.mk_fate_laws.proofs.Dating.{DateSide}
use Rattle.mk_fate_laws.proofs.Joining.{JoinSide}
use Rattle.mk_fate_laws.proofs.Fates.{FateSide}
use Rattle.mk_fate_laws.proofs.Reasons as laws
use Rattle.mk_fate_laws.proofs.bases_have_reasons.Goals as goal

pub returns : goal.returns
returns c =
    let columns : ColumnSide = record {
      stays = c.runs_reach_moments.ensures.teaching_stays;
      reach = c.runs_reach_moments.ensures.runs_reach_moments;
      moments = c.moments_are_of_runs.ensures.moments_of_rounds;
      settings = c.moments_are_of_runs.ensures.moments_have_settings;
      facts = c.events_are_sorted.ensures.facts_hold;
      one_proposal = c.messages_are_true.ensures.one_proposal;
      voted_true = c.messages_are_true.ensures.voted_true;
      accepted_true = c.messages_are_true.ensures.accepted_true;
      fast_grounds = c.views_agree.ensures.fast_grounds;
      views_agree = c.views_agree.ensures.views_agree;
      fast_forbids = c.views_agree.ensures.fast_forbids;
      one_decision = c.views_agree.ensures.one_decision;
      support = c.views_agree.ensures.commit_support;
      backed = c.learnings_are_backed.ensures.learned_backed;
    } in
    let dates : DateSide = record {
      columns = columns;
      lines = c.rounds_join.ensures.lines_are_turns;
      splits = c.rounds_join.ensures.rounds_split;
      entered = c.epochs_are_dated.ensures.entered_was;
      served = c.epochs_are_dated.ensures.served_was;
      servers = c.epochs_are_dated.ensures.servers_entered;
      made_was = c.epochs_are_dated.ensures.made_was;
      made_first = c.epochs_are_dated.ensures.made_first;
      grow = c.bases_hold.ensures.kept_grows;
      order = c.epochs_follow.ensures.force_in_order;
      give = c.bases_give.ensures.force_gives;
      reads = c.stamps_name_attempts.ensures.reads_were_got;
      unread = c.attempts_stand_once.ensures.unread;
      attempts = c.ends_join.ensures.attempts_join;
      adds = c.bases_have_members.ensures.add_their_source;
    } in
    let join : JoinSide = record {
      dates = dates;
      mutual_conflict = c.candidates_give_way.ensures.conflict_is_mutual;
      count = c.bases_give.ensures.promisers_count;
      stay = c.bases_hold.ensures.bases_stay;
      joined = c.rounds_join.ensures.rounds_join;
      ids = c.columns_hold.ensures.ids_are_of_columns;
      epochs = c.ends_join.ensures.epochs_join;
      had = c.epochs_are_dated.ensures.servers_had;
      taught = c.runs_reach_moments.ensures.taught_means;
      freeze = c.promises_freeze.ensures.freeze;
      promised = c.promises_freeze.ensures.promised;
      support = c.promises_freeze.ensures.support;
      members = c.bases_have_members.ensures.members;
      fit = c.votes_fit_bases.ensures.fit;
      clash = c.votes_clash.ensures;
    } in
    let side : FateSide = record {
      join = join;
      made = c.bases_hold.ensures.bases_made;
      composed = c.bases_give.ensures.outcomes_in_bases;
      fit = c.bases_give.ensures.taken_fit_in_bases;
      bases = c.bases_give.ensures.bases_are_composed;
      say = c.outcomes_are_composed.ensures.bases_say;
      exactly = c.runs_reach_moments.ensures.taught_exactly;
    } in
    let finals = c.decisions_stand.ensures.final_in_force in
    record {
      entered_in_force = laws.entered_in_force dates;
      outcomes_in_force = laws.outcomes_in_force side finals;
      base_aborts = laws.base_aborts_are_caused side finals c.epochs_follow.ensures.paths_keep c.causes_are_true.ensures;
      backed_aborts = laws.backed_aborts_are_caused side finals c.epochs_follow.ensures.paths_keep c.causes_are_true.ensures;
    }
