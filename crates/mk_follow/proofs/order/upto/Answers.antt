use Rattle.std.proofs.Common.{sym, rules, arith}
use Rattle.std.proofs.lemmas.List.Sorted.{IsPartitionPoint-from_clause}
use Rattle.mk_follow.proofs.Counting.{count-front}
use Rattle.mk_follow.proofs.OrderLaws.{is_low, IsPartitionedBy-low}
use Rattle.mk_follow.proofs.order.upto.Goals as goal

pub returns-clause-value : goal.returns-clause-value
returns-clause-value c =
    let low = is_low c.args.stamp in
    let at = IsPartitionPoint-from_clause low c.args.order.now c.partition_point.result c.partition_point.ensures.partitioned (IsPartitionedBy-low c.args.stamp c.args.order.now c.requires) (λ a r f' h. search rules) in
    sym (count-front low c.args.order.now c.partition_point.result c.partition_point.ensures.bound (λ k d lt. at.0 k d (omega arith) lt) (λ k d le lt. at.1 k d le lt))
