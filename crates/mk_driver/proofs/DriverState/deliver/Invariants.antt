-- The messages before this one are dealt with, and the first task says so.
use Rattle.std.proofs.Common.{◌≡◌, ◌-◌, ◌∷◌}
use Rattle.mk_driver.specs.declared.Task.TheVariants.{Deliver}
use Rattle.mk_driver.specs.Delivery.{delivering_from}
use Rattle.mk_driver.specs.Turns.{with_agenda}
use Rattle.mk_driver.specs.Passing.{after_first}
use Rattle.mk_driver.proofs.DriverState.deliver.Given as goal

abbrev pub invariant-loop-number : goal.invariant-loop-number
invariant-loop-number l =
    (l.self.agenda ≡ Deliver l.number l.upto ∷ after_first l.fn.self.agenda)
    × (l.self.parts ≡ l.fn.self.parts)
    × (delivering_from l.fn.rules l.fn.column.state l.fn.first l.fn.upto (with_agenda (after_first l.fn.self.agenda) l.fn.self)
    ≡ delivering_from l.rules l.column.state l.number l.upto (with_agenda (after_first l.fn.self.agenda) l.self))

abbrev pub decreases-loop-number : goal.decreases-loop-number
decreases-loop-number l = l.upto - l.number
