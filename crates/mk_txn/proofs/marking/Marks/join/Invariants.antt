use Rattle.std.proofs.Common.{◌≡◌}
use Rattle.mk_txn.specs.MarkMaps.{joined_marks}
use Rattle.mk_txn.proofs.marking.Marks.join.Given as goal

-- with the marks that are left it comes to the join
abbrev pub invariant-loop-client : goal.invariant-loop-client
invariant-loop-client l = joined_marks l.all l.client-iterator ≡ joined_marks l.initial.all l.more
