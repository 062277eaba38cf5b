use Rattle.mk_words.proofs.StampTables.{AreInTable}
use Rattle.mk_replay.proofs.order.by_stamp.Given as goal

abbrev pub invariant-loop-place : goal.invariant-loop-place
invariant-loop-place l = AreInTable l.txns l.place l.ordered.entries
