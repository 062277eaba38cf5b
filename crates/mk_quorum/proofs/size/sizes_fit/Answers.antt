use Rattle.mk_quorum.proofs.Meeting as meeting
use Rattle.mk_quorum.proofs.size.sizes_fit.Goals as goal

pub returns : goal.returns
returns c =
    record {
      majorities_meet = meeting.majorities_meet;
      fast_meets_majority = meeting.fast_meets_majority;
      fast_leaves_hint = meeting.fast_leaves_hint;
      hints_meet = meeting.hints_meet;
      block_stops_fast = meeting.block_stops_fast;
      ascend = meeting.sizes_ascend;
      fast_leaves_few_others = meeting.fast_leaves_few_others;
    }
