-- The messages before this place, before what was put, are all.
use Rattle.std.proofs.Common.{◌≡◌, ◌≤◌, ◌++◌, length, take, map}
use Rattle.mk_driver.specs.declared.Task.TheVariants.{Take}
use Rattle.mk_driver.proofs.Agenda.put_takes.Given as goal

abbrev pub invariant-loop-place : goal.invariant-loop-place
invariant-loop-place l =
    (l.place ≤ length l.numbers)
    × (map (λ number. Take number) l.numbers ++ l.fn.self ≡ map (λ number. Take number) (take l.place l.numbers) ++ l.self)

abbrev pub decreases-loop-place : goal.decreases-loop-place
decreases-loop-place l = l.place
