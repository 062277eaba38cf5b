use Rattle.mk_merge.proofs.FateLaws.{fate-taken, fate-aborted}
use Rattle.mk_merge.proofs.merging.fate.Goals as goal

pub returns-then-has : goal.returns-then-has
returns-then-has c = fate-taken c.args.epoch c.args.txn.now _ _ _ _ c.in-None.is c.id.ensures c.has.ensures c.if-has.true

pub returns-else-has : goal.returns-else-has
returns-else-has c = fate-aborted c.args.epoch c.args.txn.now _ _ _ _ c.in-None.is c.id.ensures c.has.ensures c.if-has.false
