use Rattle.mk_txn.proofs.MarkLaws.{unwrap_or-lookup}
use Rattle.std.proofs.Common.{arith}
use Rattle.mk_txn.proofs.marking.Marks.get.Goals as goal

pub returns-clause-value : goal.returns-clause-value
returns-clause-value c = grind (arith, unwrap_or-lookup)
