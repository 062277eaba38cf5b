use Rattle.std.proofs.Common.{◌≡◌}
use Rattle.mk_model.specs.Logs.{not_reading}
use Rattle.mk_column.specs.AttemptsByCode.{on_state}
use Rattle.mk_column.proofs.EachMapped.{first_mapped}
use Rattle.mk_column.proofs.attempts.end_reading.Given as goal

-- the attempts so far read no more
abbrev pub invariant-loop-begun : goal.invariant-loop-begun
invariant-loop-begun l = l.attempts ≡ first_mapped (on_state not_reading) l.begun-index l.initial.attempts
