use Rattle.std.proofs.Common.{rules}
use Rattle.std.proofs.lemmas.List.Sorted.{IsPartitionPoint-from_clause}
use Rattle.mk_txn.specs.declared.Stamp.{Stamp}
use Rattle.mk_txn.specs.declared.Value.{Value}
use Rattle.mk_past.specs.Pasts.{is_upto}
use Rattle.mk_past.proofs.IndexLaws.{taken-pass}
use Rattle.mk_past.proofs.index.versions_upto.Goals as goal

pub returns-clause-part : goal.returns-clause-part
returns-clause-part c parted =
    taken-pass (λ (version : Stamp × Value). is_upto c.args.stamp version.0) c.args.versions.now c.partition_point.result
    (IsPartitionPoint-from_clause (λ (version : Stamp × Value). is_upto c.args.stamp version.0) c.args.versions.now c.partition_point.result c.partition_point.ensures.partitioned parted (λ a r f' h. search rules))
