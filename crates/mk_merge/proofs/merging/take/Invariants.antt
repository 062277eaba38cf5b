use Rattle.mk_merge.proofs.FateLaws.{ComesToTaken}
use Rattle.mk_merge.proofs.merging.take.Given as goal

abbrev pub invariant-loop-txn : goal.invariant-loop-txn
invariant-loop-txn l = ComesToTaken l.candidates l.txn-index l.fn.entered l.commits
