use Rattle.std.proofs.Common.{◌-◌, ◌<◌, ◌≤◌, ◌^◌}
use Rattle.mk_trim.specs.Runs.{AllFollow}
use Rattle.mk_trim.proofs.runs.run_end.Given as goal

-- all up to here are among them
abbrev pub invariant-loop-end : goal.invariant-loop-end
invariant-loop-end l = (l.id.seq ≤ l.end) × (l.end < 2 ^ 32) × AllFollow l.ids.keys l.id l.end

abbrev pub decreases-loop-end : goal.decreases-loop-end
decreases-loop-end l = 2 ^ 32 - l.end
