use Rattle.std.proofs.Common.{ap, sym, ◌∙◌, subst}
use Rattle.mk_txn.specs.Transactions.{AreCoherent}
use Rattle.mk_merge.proofs.FateLaws.{nows}
use Rattle.mk_merge_laws.proofs.Adding.{new-coherent}
use Rattle.mk_merge.proofs.ordering.new_txns.Goals as goal

pub by_id-requires : goal.by_id-requires
by_id-requires c = subst AreCoherent (sym (ap nows c.as_slice.ensures.value ∙ c.in_ok-all.ensures)) (new-coherent c.args.kept.now c.args.promises.now c.requires)
