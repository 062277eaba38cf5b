use Rattle.std.specs.Prelude.{is_none, nat_le, ◌&&◌}
use Rattle.mk_quorum.specs.Sizes.{hint_of}
use Rattle.mk_words.specs.Merging.{ok_reports}
use Rattle.mk_merge_laws.specs.Adding.{entered_fate}
use Rattle.mk_merge.proofs.FateLaws.{ComesToFiltered}
use Rattle.mk_merge.proofs.merging.candidates.Given as goal

abbrev pub invariant-loop-txn : goal.invariant-loop-txn
invariant-loop-txn l = ComesToFiltered (λ txn. is_none (entered_fate l.size l.promises txn.id) && nat_le (hint_of l.size) (ok_reports l.size l.promises txn.id)) l.txns l.txn-index l.found.items
