-- The rest of the pass comes to what the whole comes to.
use Rattle.std.proofs.Common.{◌≡◌, ◌-◌, Bool, length}
use Rattle.mk_model.specs.ColumnState.{numbers_from}
use Rattle.mk_driver.specs.declared.DriverState.{DriverState}
use Rattle.mk_driver.specs.Agenda.{Worked}
use Rattle.mk_driver.specs.Passes.{in_pass}
use Rattle.mk_driver.specs.Passing.{without_first}
use Rattle.mk_driver.specs.Turns.{Choice, or_next}
use Rattle.mk_driver.proofs.DriverState.one_pass.Given as goal

abbrev pub invariant-loop-at : goal.invariant-loop-at
invariant-loop-at l =
    ((after : Bool → DriverState → Worked) (end : DriverState → Choice) →
    or_next (in_pass l.fn.column.setting l.fn.column.state after (numbers_from l.fn.place (length l.fn.self.callers - l.fn.place)) l.fn.did (without_first l.fn.self)) end
    ≡ or_next (in_pass l.column.setting l.column.state after (numbers_from l.at (length l.self.callers - l.at)) l.done (without_first l.self)) end)
    × (l.self.agenda ≡ l.fn.self.agenda)
    × (l.self.parts ≡ l.fn.self.parts)
    × (length l.self.callers ≡ length l.fn.self.callers)

abbrev pub decreases-loop-at : goal.decreases-loop-at
decreases-loop-at l = length l.self.callers - l.at
