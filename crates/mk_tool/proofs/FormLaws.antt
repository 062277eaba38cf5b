-- Lists of as many words as no form has.
use Rattle.std.proofs.Common.{◌≡◌, ◌≤◌, ℕ, List, [], ◌∷◌, map, None, length, refl, arith}
use Rattle.mk_tool.specs.Asking.{asked_of}

pub many_are_none : {X : Type 0} (text : X → List ℕ) (words : List X) → 3 ≤ length words → None ≡ asked_of (map text words)
many_are_none text [] a = absurd (omega arith)
many_are_none text (u ∷ []) a = absurd (omega arith)
many_are_none text (u ∷ v ∷ []) a = absurd (omega arith)
many_are_none text (u ∷ v ∷ w ∷ words) a = refl
