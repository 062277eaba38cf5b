-- Lists each of whose members is changed, one after another.
use Rattle.std.proofs.Common.{◌≡◌, ℕ, zero, suc, ◌+◌, refl, sym, subst, ap, ◌∙◌, add-one, List, [], ◌∷◌, length, get_or}
use Rattle.std.specs.Prelude.{map, slice_set, replicate}

-- a list whose first members are changed, so many
abbrev pub first_mapped : {X : Type 0} → (X → X) → ℕ → List X → List X
first_mapped f zero xs = xs
first_mapped f (suc n) [] = []
first_mapped f (suc n) (x ∷ xs) = f x ∷ first_mapped f n xs

module _ {X : Type 0} (f : X → X) where
  -- one more is changed
  pub first_mapped-next : (n : ℕ) (xs : List X) (d : X) → slice_set (first_mapped f n xs) n (f (get_or (first_mapped f n xs) n d)) ≡ first_mapped f (suc n) xs
  first_mapped-next zero [] d = refl
  first_mapped-next zero (x ∷ xs) d = refl
  first_mapped-next (suc n) [] d = refl
  first_mapped-next (suc n) (x ∷ xs) d = ap (λ ys. f x ∷ ys) (first_mapped-next n xs d)

  pub first_mapped-step : (n : ℕ) (xs ys : List X) (d new : X) → ys ≡ first_mapped f n xs → new ≡ f (get_or ys n d)
      → slice_set ys n new ≡ first_mapped f (n + 1) xs
  first_mapped-step n xs ys d new same is =
      ap (slice_set ys n) is
      ∙ subst (λ zs. slice_set zs n (f (get_or zs n d)) ≡ first_mapped f (n + 1) xs) (sym same) (first_mapped-next n xs d ∙ ap (λ k. first_mapped f k xs) (sym (add-one n)))

  -- all are changed
  pub first_mapped-all : (xs : List X) → first_mapped f (length xs) xs ≡ map f xs
  first_mapped-all [] = refl
  first_mapped-all (x ∷ xs) = ap (λ ys. f x ∷ ys) (first_mapped-all xs)

  pub first_mapped-end : (n : ℕ) (xs ys : List X) → ys ≡ first_mapped f n xs → n ≡ length xs → ys ≡ map f xs
  first_mapped-end n xs ys same is = same ∙ ap (λ k. first_mapped f k xs) is ∙ first_mapped-all xs

-- a map of a map
pub map-both : {X Y Z : Type 0} (g : Y → Z) (f : X → Y) (h : X → Z) → ((x : X) → g (f x) ≡ h x) → (xs : List X) → map g (map f xs) ≡ map h xs
map-both g f h same [] = refl
map-both g f h same (x ∷ xs) = ap (λ z. z ∷ map g (map f xs)) (same x) ∙ ap (λ zs. h x ∷ zs) (map-both g f h same xs)

pub map-replicate : {X Y : Type 0} (f : X → Y) (n : ℕ) (x : X) → map f (replicate n x) ≡ replicate n (f x)
map-replicate f zero x = refl
map-replicate f (suc n) x = ap (λ ys. f x ∷ ys) (map-replicate f n x)
