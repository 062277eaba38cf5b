use Rattle.mk_txn.specs.Outcomes.{is_commit}
use Rattle.mk_quorum.specs.Slots.{passes}
use Rattle.mk_merge_laws.specs.Adding.{entered_fate}
use Rattle.mk_merge.proofs.FateLaws.{ComesToPassing}
use Rattle.mk_merge.proofs.merging.entered_commits.Given as goal

abbrev pub invariant-loop-txn : goal.invariant-loop-txn
invariant-loop-txn l = ComesToPassing (λ txn. passes is_commit (entered_fate l.size l.promises txn.id)) l.txns l.txn-index l.found
