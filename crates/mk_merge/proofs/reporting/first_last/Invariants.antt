use Rattle.mk_merge.proofs.ReportLaws.{ComesToLast}
use Rattle.mk_merge.proofs.reporting.first_last.Given as goal

abbrev pub invariant-loop-r : goal.invariant-loop-r
invariant-loop-r l = ComesToLast l.promises l.id l.r l.r-end
