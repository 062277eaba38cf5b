use Rattle.std.proofs.Common.{rules}
use Rattle.std.proofs.lemmas.List.Sorted.{IsPartitionPoint-from_clause}
use Rattle.mk_past.specs.Pasts.{is_upto}
use Rattle.mk_past.proofs.IndexLaws.{taken-pass}
use Rattle.mk_past.proofs.index.stamps_upto.Goals as goal

pub returns-clause-part : goal.returns-clause-part
returns-clause-part c parted =
    taken-pass (is_upto c.args.stamp) c.args.stamps.now c.partition_point.result
    (IsPartitionPoint-from_clause (is_upto c.args.stamp) c.args.stamps.now c.partition_point.result c.partition_point.ensures.partitioned parted (λ a r f' h. search rules))
