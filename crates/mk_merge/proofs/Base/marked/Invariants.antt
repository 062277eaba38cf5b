use Rattle.std.proofs.Common.{drop}
use Rattle.mk_merge.proofs.KeptLaws.{ComesToKept}
use Rattle.mk_merge.proofs.Base.marked.Given as goal

abbrev pub invariant-loop-fated : goal.invariant-loop-fated
invariant-loop-fated l = ComesToKept l.fated-items l.marks (drop l.fated-index l.fated-items) l.kept
