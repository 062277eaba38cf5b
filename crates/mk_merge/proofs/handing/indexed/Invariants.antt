use Rattle.std.proofs.Common.{◌≤◌, length, drop}
use Rattle.mk_merge.specs.Handing.{IsIndexed}
use Rattle.mk_merge.proofs.handing.indexed.Given as goal

-- the entries from a place on stand in the index
abbrev pub invariant-loop-left : goal.invariant-loop-left
invariant-loop-left l = (l.left ≤ length l.entries) × IsIndexed (drop l.left l.entries) l.index.entries

abbrev pub decreases-loop-left : goal.decreases-loop-left
decreases-loop-left l = l.left
