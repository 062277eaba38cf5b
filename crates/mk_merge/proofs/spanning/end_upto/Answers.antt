use Rattle.std.proofs.Common.{rules, not}
use Rattle.std.proofs.lemmas.List.Sorted.{IsPartitionPoint-from_clause}
use Rattle.mk_txn.specs.Stamps.{is_before}
use Rattle.mk_merge.proofs.AscendingLaws.{not_after-parts, parts-plainly}
use Rattle.mk_merge.proofs.spanning.end_upto.Goals as goal

pub returns-clause-split : goal.returns-clause-split
returns-clause-split c =
    parts-plainly (λ span. is_before c.args.stamp span.reader) c.args.spans.now c.partition_point.result
    (IsPartitionPoint-from_clause (λ span. not (is_before c.args.stamp span.reader)) c.args.spans.now c.partition_point.result c.partition_point.ensures.partitioned (not_after-parts (λ span. span.reader) c.args.stamp c.args.spans.now c.requires) (λ a r f' h. search rules))
