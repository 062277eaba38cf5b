use Rattle.mk_words.proofs.StampTables.{txns_at}
use Rattle.mk_replay.proofs.ExplainedReads.{ExplainsDone}
use Rattle.mk_replay.proofs.explaining.unexplained.Given as goal

abbrev pub invariant-loop-txn : goal.invariant-loop-txn
invariant-loop-txn l = ExplainsDone l.commits l.copy (txns_at l.txn-iterator)
