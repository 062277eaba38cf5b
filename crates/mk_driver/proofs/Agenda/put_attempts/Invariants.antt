-- The clients before this place, before what was put, are all.
use Rattle.std.proofs.Common.{◌≡◌, ◌≤◌, ◌++◌, length, take}
use Rattle.std.specs.Prelude.{flat_map}
use Rattle.mk_driver.specs.Turns.{attempt_tasks}
use Rattle.mk_driver.proofs.Agenda.put_attempts.Given as goal

abbrev pub invariant-loop-place : goal.invariant-loop-place
invariant-loop-place l =
    (l.place ≤ length l.callers)
    × (flat_map (λ caller. attempt_tasks l.column.state l.part caller.number) l.callers ++ l.fn.self
    ≡ flat_map (λ caller. attempt_tasks l.column.state l.part caller.number) (take l.place l.callers) ++ l.self)

abbrev pub decreases-loop-place : goal.decreases-loop-place
decreases-loop-place l = l.place
