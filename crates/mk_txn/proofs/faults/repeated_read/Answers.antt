use Rattle.std.proofs.Common.{◌∙◌, sym}
use Rattle.mk_txn.specs.declared.Value.TheVariants.{Number}
use Rattle.mk_txn.specs.declared.ReadItem.{ReadItem}
use Rattle.mk_txn.proofs.FaultLaws.{repeated_key-at}
use Rattle.mk_txn.proofs.faults.repeated_read.Goals as goal

past_end : ReadItem
past_end = record { key = 0; version = record { time = 0; client = 0 }; value = Number 0 }

pub loop-i-preserved : goal.loop-i-preserved
unfolding past_end
loop-i-preserved c =
    sym (repeated_key-at (λ item. item.key) c.args.reads.now c.loop-i.i past_end _ c.loop-i-test.true (sym c.is_read.ensures ∙ c.if-is_read.false))
    ∙ c.loop-i.invariant

pub returns-then-is_read : goal.returns-then-is_read
unfolding past_end
returns-then-is_read c =
    sym (repeated_key-at (λ item. item.key) c.args.reads.now c.loop-i.i past_end _ c.loop-i-test.true (sym c.is_read.ensures ∙ c.if-is_read.true))
    ∙ c.loop-i.invariant
