use Rattle.std.proofs.Common.{rules}
use Rattle.std.proofs.lemmas.List.Sorted.{IsPartitionPoint-from_clause}
use Rattle.mk_txn.specs.Transactions.{id_before}
use Rattle.mk_trim.proofs.InOrder.{IsPartitionedBy-id, place_of-unique}
use Rattle.mk_trim.proofs.outcomes.place.Goals as goal

pub returns-clause-value : goal.returns-clause-value
returns-clause-value c =
    place_of-unique c.args.id c.args.outcomes.now c.partition_point.result c.partition_point.ensures.bound
    (IsPartitionPoint-from_clause (λ outcome. id_before outcome.0 c.args.id) c.args.outcomes.now c.partition_point.result c.partition_point.ensures.partitioned (IsPartitionedBy-id c.args.id c.args.outcomes.now c.requires) (λ a r f' h. search rules))
