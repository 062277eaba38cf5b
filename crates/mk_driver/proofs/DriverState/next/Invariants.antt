-- What the tasks and parts that are left name is what all of them name.
use Rattle.std.proofs.Common.{◌≡◌, length}
use Rattle.std.specs.Prelude.{None}
use Rattle.mk_model.specs.Conditions.{wanted}
use Rattle.mk_driver.specs.Turns.{in_agenda, in_parts}
use Rattle.mk_driver.proofs.DriverState.next.Given as goal

abbrev pub invariant-loop-step : goal.invariant-loop-step
invariant-loop-step g l =
    (wanted l.fn.column.state.work ≡ None)
    × (in_agenda l.fn.rules l.fn.column.setting l.fn.column.state
    (in_parts l.fn.rules l.fn.column.setting l.fn.column.state l.fn.self.parts) l.fn.self.agenda l.fn.self
    ≡ in_agenda l.rules l.column.setting l.column.state
    (in_parts l.rules l.column.setting l.column.state l.self.parts) l.self.agenda l.self)

abbrev pub decreases-loop-step : goal.decreases-loop-step
decreases-loop-step g l = length l.self.parts
