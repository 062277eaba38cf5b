-- Lists of as many words as no form has.
use Rattle.std.proofs.Common.{◌≡◌, ◌≤◌, ◌<◌, ℕ, List, [], ◌∷◌, map, None, length, refl, arith}
use Rattle.mk_top.specs.Forms.{form_of}

module _ {X : Type 0} where
  -- three or four words
  pub few_are_none : (text : X → List ℕ) (words : List X) → 3 ≤ length words → length words < 5 → None ≡ form_of (map text words)
  few_are_none text [] a b = absurd (omega arith)
  few_are_none text (v ∷ []) a b = absurd (omega arith)
  few_are_none text (v ∷ w ∷ []) a b = absurd (omega arith)
  few_are_none text (v ∷ w ∷ x ∷ []) a b = refl
  few_are_none text (v ∷ w ∷ x ∷ y ∷ []) a b = refl
  few_are_none text (v ∷ w ∷ x ∷ y ∷ z ∷ words) a b = absurd (omega arith)

  -- six words or more
  pub many_are_none : (text : X → List ℕ) (words : List X) → 6 ≤ length words → None ≡ form_of (map text words)
  many_are_none text [] a = absurd (omega arith)
  many_are_none text (u ∷ []) a = absurd (omega arith)
  many_are_none text (u ∷ v ∷ []) a = absurd (omega arith)
  many_are_none text (u ∷ v ∷ w ∷ []) a = absurd (omega arith)
  many_are_none text (u ∷ v ∷ w ∷ x ∷ []) a = absurd (omega arith)
  many_are_none text (u ∷ v ∷ w ∷ x ∷ y ∷ []) a = absurd (omega arith)
  many_are_none text (u ∷ v ∷ w ∷ x ∷ y ∷ z ∷ words) a = refl
