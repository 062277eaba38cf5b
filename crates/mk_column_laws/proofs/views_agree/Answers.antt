use Rattle.mk_column_laws.proofs.TheLaws as laws
use Rattle.mk_column_laws.proofs.views_agree.Goals as goal

pub returns : goal.returns
returns c =
    record {
      own_grounds = laws.own_grounds;
      fast_grounds = laws.fast_grounds;
      takeover_grounds = laws.takeover_grounds;
      views_agree = laws.views_agree;
      fast_forbids = laws.fast_forbids;
      one_decision = laws.one_decision;
      commit_support = laws.commit_support;
    }
