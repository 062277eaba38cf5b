use Rattle.std.proofs.Common.{take, map}
use Rattle.std.specs.Prelude.{count_by, sum}
use Rattle.mk_history.specs.Shape.{begins_of}
use Rattle.mk_shape.specs.AttemptCounts.{Adds}
use Rattle.mk_shape.proofs.attempts.count_round.Given as goal

-- the logs so far are counted
abbrev pub invariant-loop-log : goal.invariant-loop-log
invariant-loop-log l = Adds l.fn.counts l.counts (λ client. sum (map (count_by (begins_of client)) (map (λ log. log.items) (take l.log-index l.logs))))
