-- The rest of this pass and the passes left come to what all come to, and so do the rest of this pass and two more.
use Rattle.std.proofs.Common.{◌≡◌, ◌-◌, length}
use Rattle.mk_model.specs.ColumnState.{numbers_from}
use Rattle.mk_driver.specs.declared.DriverState.{DriverState}
use Rattle.mk_driver.specs.Passes.{in_pass, after_passes, turns}
use Rattle.mk_driver.specs.Passing.{without_first}
use Rattle.mk_driver.specs.Turns.{Choice, or_next}
use Rattle.mk_driver.proofs.DriverState.go_through.Given as goal

abbrev pub invariant-loop-pass : goal.invariant-loop-pass
invariant-loop-pass l =
    ((end : DriverState → Choice) →
    or_next (turns l.fn.column.setting l.fn.column.state l.fn.place l.fn.did (without_first l.fn.self)) end
    ≡ or_next (in_pass l.column.setting l.column.state (after_passes (2 - l.pass) l.column.setting l.column.state) (numbers_from l.at (length l.self.callers - l.at)) l.done (without_first l.self)) end)
    × ((end : DriverState → Choice) →
    or_next (turns l.fn.column.setting l.fn.column.state l.fn.place l.fn.did (without_first l.fn.self)) end
    ≡ or_next (turns l.column.setting l.column.state l.at l.done (without_first l.self)) end)
    × (l.self.agenda ≡ l.fn.self.agenda)
    × (l.self.parts ≡ l.fn.self.parts)
