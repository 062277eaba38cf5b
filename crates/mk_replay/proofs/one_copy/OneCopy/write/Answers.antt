use Rattle.std.proofs.Common.{◌∙◌}
use Rattle.mk_txn.specs.declared.Value.TheVariants.{Number}
use Rattle.mk_txn.specs.declared.WriteItem.{WriteItem}
use Rattle.mk_model.proofs.Copies.{with_writes-at}
use Rattle.mk_replay.proofs.one_copy.OneCopy.write.Goals as goal

past_end : WriteItem
past_end = record { key = 0; value = Number 0 }

pub loop-item-preserved : goal.loop-item-preserved
unfolding past_end
loop-item-preserved c = with_writes-at c.args.stamp c.args.writes.now c.loop-item.item-index past_end c.loop-item.self-inside.versions.entries c.insert.new.self.entries c.loop-item-test.true c.in_ok-insert.ensures.entries ∙ c.loop-item.invariant
