use Rattle.std.proofs.Common.{◌∙◌, sym}
use Rattle.mk_txn.specs.declared.Value.TheVariants.{Number}
use Rattle.mk_txn.specs.declared.WriteItem.{WriteItem}
use Rattle.mk_txn.proofs.FaultLaws.{repeated_key-at}
use Rattle.mk_txn.proofs.faults.repeated_write.Goals as goal

past_end : WriteItem
past_end = record { key = 0; value = Number 0 }

pub loop-i-preserved : goal.loop-i-preserved
unfolding past_end
loop-i-preserved c =
    sym (repeated_key-at (λ item. item.key) c.args.writes.now c.loop-i.i past_end _ c.loop-i-test.true (sym c.is_written.ensures ∙ c.if-is_written.false))
    ∙ c.loop-i.invariant

pub returns-then-is_written : goal.returns-then-is_written
unfolding past_end
returns-then-is_written c =
    sym (repeated_key-at (λ item. item.key) c.args.writes.now c.loop-i.i past_end _ c.loop-i-test.true (sym c.is_written.ensures ∙ c.if-is_written.true))
    ∙ c.loop-i.invariant
