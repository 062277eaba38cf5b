use Rattle.mk_merge.proofs.ReportLaws.{ComesToHighestView}
use Rattle.mk_merge.proofs.reporting.highest_accepted.Given as goal

abbrev pub invariant-loop-r : goal.invariant-loop-r
invariant-loop-r l = ComesToHighestView l.promises l.id l.r l.r-end l.best
