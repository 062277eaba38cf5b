-- How many members pass a test.
use Rattle.std.proofs.Common.{◌≡◌, ◌∙◌, ◌≤◌, Bool, true, false, cond, ap, arith, List, [], ◌∷◌, ◌++◌, length}
use Rattle.std.specs.Prelude.{filter}
use Rattle.std.specs.List.{list_any}
use Rattle.std.proofs.lemmas.List.Elements.{filter-append}
use Rattle.std.proofs.lemmas.List.{append-nil}

module _ {X : Type 0} (p : X → Bool) where
  pub length-filter_at_most : (xs : List X) → length (filter p xs) ≤ length xs
  length-filter_at_most [] = omega arith
  length-filter_at_most (x ∷ xs) = by (p x) (length-filter_at_most xs)
    where
      by : (b : Bool) → length (filter p xs) ≤ length xs → length (cond b (x ∷ filter p xs) (filter p xs)) ≤ length (x ∷ xs)
      by true e = omega (arith, e)
      by false e = omega (arith, e)

  pub length-filter_some : (xs : List X) → list_any p xs ≡ true → 1 ≤ length (filter p xs)
  length-filter_some [] e = absurd (cc e)
  length-filter_some (x ∷ xs) e = grind (arith, length-filter_some xs)
