-- What it means that a step is enabled: each of its conditions holds.
use Rattle.std.proofs.Common.{◌≡◌, ℕ, ◌+◌, Bool, true, false, refl, List, [], ◌∷◌, None}
use Rattle.mk_model.specs.Conditions.{first_failing}
use Rattle.mk_model.proofs.Frames.{AllTrue}

pub none_fails : (k : ℕ) (tests : List Bool) → AllTrue tests → first_failing k tests ≡ None
none_fails k [] h = refl
none_fails k (true ∷ tests) h = none_fails (k + 1) tests h.1
none_fails k (false ∷ tests) h = absurd (cc h.0)
