use Rattle.std.proofs.Common.{◌≡◌, drop}
use Rattle.mk_follow.specs.Lanes.{reached_out_of}
use Rattle.mk_follow.proofs.lane.reached_of.Given as goal

-- with the marks that are left the stamp comes to that of all of them
abbrev pub invariant-loop-mark : goal.invariant-loop-mark
invariant-loop-mark l = reached_out_of l.commits.commits l.reached (drop l.mark-index l.waiting) ≡ reached_out_of l.commits.commits l.fn.stamp l.waiting
