use Rattle.std.proofs.Common.{◌≡◌, max, drop}
use Rattle.mk_txn.specs.Stamps.{fresh_time, time_above_reads}
use Rattle.mk_txn.proofs.stamping.next_stamp.Given as goal

-- with the reads that are left it comes to the fresh time
abbrev pub invariant-loop-item : goal.invariant-loop-item
invariant-loop-item l = max l.time (time_above_reads (drop l.item-index l.reads)) ≡ fresh_time l.last l.clock l.reads
