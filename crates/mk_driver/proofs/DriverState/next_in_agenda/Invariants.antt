-- What the tasks that are left name is what all of them name.
use Rattle.std.proofs.Common.{◌≡◌, length}
use Rattle.mk_driver.specs.declared.DriverState.{DriverState}
use Rattle.mk_driver.specs.Turns.{in_agenda, Choice}
use Rattle.mk_driver.proofs.DriverState.next_in_agenda.Given as goal

abbrev pub invariant-loop-task : goal.invariant-loop-task
invariant-loop-task g l =
    ((end : DriverState → Choice) →
    in_agenda l.fn.rules l.fn.column.setting l.fn.column.state end l.fn.self.agenda l.fn.self
    ≡ in_agenda l.rules l.column.setting l.column.state end l.self.agenda l.self)
    × (l.self.parts ≡ l.fn.self.parts)

abbrev pub decreases-loop-task : goal.decreases-loop-task
decreases-loop-task g l = length l.self.agenda
