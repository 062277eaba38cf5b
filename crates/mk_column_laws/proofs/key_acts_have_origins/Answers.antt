use Rattle.mk_column_laws.proofs.RoundActs as laws
use Rattle.mk_column_laws.proofs.ActStamps as stamps
use Rattle.mk_column_laws.proofs.OrderedActs as order
use Rattle.mk_column_laws.proofs.key_acts_have_origins.Goals as goal

pub returns : goal.returns
returns c =
    record {
      acts_hold = laws.acts_hold;
      acts_have_origin = laws.acts_have_origin;
      checks_of_ok = laws.checks_of_ok;
      refusal_of_abort = laws.refusal_of_abort;
      releases_of_ok = laws.releases_of_ok;
      stamp_released = stamps.stamp_released;
      commits_of_final = stamps.commits_of_final;
      checks_of_stamp = stamps.checks_of_stamp;
      no_check_after_commit = order.no_check_after_commit;
    }
