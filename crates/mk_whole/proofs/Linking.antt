-- Lists gone through together, by number, as the definitions of runs go through them.
use Rattle.std.proofs.Common.{◌≡◌, ℕ, zero, suc, ◌+◌, refl, sym, ap, ◌∙◌, arith, List, [], ◌∷◌, length, Option, Some}
use Rattle.std.specs.Prelude.{slice_get}
use Rattle.std.specs.Option.{option_or}
use Rattle.mk_verdict.specs.Flaws.{first_from}
use Rattle.mk_whole.specs.Pairs.{first_in}

-- f gives the members of the list, by number from k on
pub record IsPart {Y : Type 0} (f : ℕ → Y) (k : ℕ) (ys : List Y) : Type 0 where
  pub at : (i : ℕ) (y : Y) → slice_get ys i ≡ Some y → f (k + i) ≡ y

module _ {Y : Type 0} (f : ℕ → Y) (k : ℕ) (y : Y) (ys : List Y) (part : IsPart f k (y ∷ ys)) where
  pub part-head : f k ≡ y
  part-head = (let e : k ≡ k + 0 = omega arith in ap f e ∙ part.at 0 y refl)

  pub part-tail : IsPart f (k + 1) ys
  part-tail = record { at = λ i z e. (let same : k + 1 + i ≡ k + suc i = omega arith in ap f same ∙ part.at (suc i) z e) }

-- what is found at a place of both lists is what is found at its number
module _ {X Y Z : Type 0} (g : ℕ → X → Y → Option Z) (f : ℕ → X) (h : ℕ → Y) where
  pub in-from : (k : ℕ) (xs : List X) (ys : List Y) (n : ℕ) → length xs ≡ n → length ys ≡ n → IsPart f k xs → IsPart h k ys →
      first_in g k xs ys ≡ first_from (λ i. g i (f i) (h i)) k n
  in-from k [] [] zero a b p q = refl
  in-from k [] [] (suc n) a b p q = absurd (omega (arith, a))
  in-from k [] (y ∷ ys) n a b p q = absurd (omega (arith, a, b))
  in-from k (x ∷ xs) [] n a b p q = absurd (omega (arith, a, b))
  in-from k (x ∷ xs) (y ∷ ys) zero a b p q = absurd (omega (arith, a))
  in-from k (x ∷ xs) (y ∷ ys) (suc n) a b p q =
      let rest = in-from (k + 1) xs ys n (omega (arith, a)) (omega (arith, b)) (part-tail f k x xs p) (part-tail h k y ys q) in
      ap (λ o. option_or (g k x y) o) rest
      ∙ ap (λ z. option_or (g k z y) (first_from (λ i. g i (f i) (h i)) (k + 1) n)) (sym (part-head f k x xs p))
      ∙ ap (λ z. option_or (g k (f k) z) (first_from (λ i. g i (f i) (h i)) (k + 1) n)) (sym (part-head h k y ys q))
