use Rattle.std.proofs.Common.{rules}
use Rattle.std.proofs.lemmas.List.Sorted.{IsPartitionPoint-from_clause}
use Rattle.mk_txn.specs.Stamps.{is_before}
use Rattle.mk_merge.proofs.AscendingLaws.{before-parts}
use Rattle.mk_merge.proofs.spanning.end_before.Goals as goal

pub returns-clause-split : goal.returns-clause-split
returns-clause-split c =
    IsPartitionPoint-from_clause (λ span. is_before span.version c.args.stamp) c.args.spans.now c.partition_point.result c.partition_point.ensures.partitioned (before-parts (λ span. span.version) c.args.stamp c.args.spans.now c.requires) (λ a r f' h. search rules)
