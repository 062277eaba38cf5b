use Rattle.std.proofs.Common.{sym, ◌∙◌}
use Rattle.mk_merge.proofs.ReportLaws.{last-next}
use Rattle.mk_merge.proofs.reporting.first_last.Goals as goal

pub loop-r-preserved : goal.loop-r-preserved
loop-r-preserved c = last-next _ _ _ _ c.loop-r-test.true (sym c.in_default.is ∙ c.last_at.ensures) c.loop-r.invariant
