-- The lines before this place, before what was put, are all.
use Rattle.std.proofs.Common.{◌≡◌, ◌≤◌, ◌++◌, ◌∷◌, [], length, take}
use Rattle.std.specs.Prelude.{flat_map}
use Rattle.mk_driver.specs.declared.Task.TheVariants.{Takeover}
use Rattle.mk_driver.proofs.Agenda.put_takeovers.Given as goal

abbrev pub invariant-loop-place : goal.invariant-loop-place
invariant-loop-place l =
    (l.place ≤ length l.takeovers)
    × (flat_map (λ line. Takeover line.id line.view ∷ []) l.takeovers ++ l.fn.self
    ≡ flat_map (λ line. Takeover line.id line.view ∷ []) (take l.place l.takeovers) ++ l.self)

abbrev pub decreases-loop-place : goal.decreases-loop-place
decreases-loop-place l = l.place
