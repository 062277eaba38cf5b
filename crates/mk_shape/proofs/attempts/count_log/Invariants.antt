use Rattle.std.proofs.Common.{take}
use Rattle.std.specs.Prelude.{count_by}
use Rattle.mk_history.specs.Shape.{begins_of}
use Rattle.mk_shape.specs.AttemptCounts.{Adds}
use Rattle.mk_shape.proofs.attempts.count_log.Given as goal

-- the steps so far are counted
abbrev pub invariant-loop-step : goal.invariant-loop-step
invariant-loop-step l = Adds l.fn.counts l.counts (λ client. count_by (begins_of client) (take l.step-index l.log))
