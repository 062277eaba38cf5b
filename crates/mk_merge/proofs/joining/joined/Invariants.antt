use Rattle.std.proofs.Common.{◌≡◌, ◌≤◌, ◌+◌, ◌-◌, ◌++◌, length, drop}
use Rattle.mk_merge_laws.specs.Adding.{with_fated}
use Rattle.mk_merge.proofs.joining.joined.Given as goal

abbrev pub invariant-loop-at : goal.invariant-loop-at
invariant-loop-at l = (l.at ≤ length l.list) × (l.next ≤ length l.more) × (l.all.items ++ with_fated (drop l.next l.more) (drop l.at l.list) ≡ with_fated l.more l.list)

abbrev pub decreases-loop-at : goal.decreases-loop-at
decreases-loop-at l = (length l.list - l.at) + (length l.more - l.next)
