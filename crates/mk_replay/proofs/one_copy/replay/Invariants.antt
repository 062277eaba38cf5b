use Rattle.std.proofs.Common.{◌≡◌}
use Rattle.mk_model.specs.OneCopy.{replayed, one_copy}
use Rattle.mk_words.proofs.StampTables.{txns_at}
use Rattle.mk_replay.proofs.one_copy.replay.Given as goal

-- with the transactions that are left it comes to the one copy
abbrev pub invariant-loop-txn : goal.invariant-loop-txn
invariant-loop-txn l = replayed l.copy (txns_at l.txn-iterator) ≡ one_copy l.commits
