use Rattle.mk_merge.proofs.ReportLaws.{view-next}
use Rattle.mk_merge.proofs.reporting.highest_accepted.Goals as goal

pub loop-r-preserved : goal.loop-r-preserved
loop-r-preserved c = view-next _ _ _ _ _ _ _ c.loop-r-test.true c.accepted_at.ensures c.higher-best.ensures c.loop-r.invariant
