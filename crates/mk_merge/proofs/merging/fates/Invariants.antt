use Rattle.mk_words.specs.Bases.{fated}
use Rattle.mk_words.specs.Merging.{fate_by}
use Rattle.mk_merge_laws.specs.Adding.{entered_fate}
use Rattle.mk_merge.proofs.FateLaws.{ComesToFates}
use Rattle.mk_merge.proofs.merging.fates.Given as goal

abbrev pub invariant-loop-txn : goal.invariant-loop-txn
invariant-loop-txn l = ComesToFates (λ txn. fated txn (fate_by l.epoch txn l.commits (entered_fate l.size l.promises txn.id))) l.txns l.txn-index l.list.items
