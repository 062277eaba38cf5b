use Rattle.std.proofs.Common.{◌≡◌, length, arith}
use Rattle.mk_model.specs.Logs.{not_reading}
use Rattle.mk_column.specs.AttemptsByCode.{on_state}
use Rattle.mk_column.proofs.EachMapped.{first_mapped-step, first_mapped-end}
use Rattle.mk_column.proofs.attempts.end_reading.Goals as goal

pub loop-begun-preserved : goal.loop-begun-preserved
loop-begun-preserved c =
    first_mapped-step
    (on_state not_reading) c.loop-begun.begun-index c.args.attempts.now c.loop-begun.attempts c.begun-item.result c.end_reading.new.self c.loop-begun.invariant c.end_reading.ensures

pub returns : goal.returns
returns c =
    let all : c.loop-begun.begun-index ≡ length c.args.attempts.now = omega arith in
    first_mapped-end (on_state not_reading) c.loop-begun.begun-index c.args.attempts.now c.loop-begun.attempts c.loop-begun.invariant all
