use Rattle.std.proofs.Common.{◌≡◌, ◌-◌, ◌≤◌}
use Rattle.mk_tool.specs.Checked.{trace_limit}
use Rattle.mk_tool.proofs.StreamLaws.{IsSoFar}
use Rattle.mk_tool.proofs.stream.Stream.read.Given as goal

-- the bytes so far came from the source, and were judged
abbrev pub invariant-loop-size : goal.invariant-loop-size
invariant-loop-size g l =
    (l.taken ≤ trace_limit) × IsSoFar (g.S.Source.left l.initial.source) (g.S.Source.left l.source) l.taken l.self.reader l.self.judge
    × (g.S.Source.faults l.source ≡ g.S.Source.faults l.initial.source)

abbrev pub decreases-loop-size : goal.decreases-loop-size
decreases-loop-size g l = trace_limit - l.taken
