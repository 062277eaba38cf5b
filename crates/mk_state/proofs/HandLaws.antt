-- What columns have at a replica, and their reset, as far as one has come.
use Rattle.std.proofs.Common.{◌≡◌, ◌<◌, ◌≤◌, ℕ, zero, suc, ◌+◌, refl, sym, ap, ◌∙◌, arith, add-one, List, [], ◌∷◌, ◌++◌, length, map, take, drop, get_or}
use Rattle.std.specs.Prelude.{slice_set}

module _ {X : Type 0} (f : X → X) where
  mid-read : (old : List X) (i : ℕ) (d : X) → i < length old → get_or (map f (take i old) ++ drop i old) i d ≡ get_or old i d
  mid-read [] i d within = absurd (omega (arith, within))
  mid-read (x ∷ old) zero d within = refl
  mid-read (x ∷ old) (suc i) d within = mid-read old i d (omega (arith, within))

  mid-set : (old : List X) (i : ℕ) (d : X) → i < length old → slice_set (map f (take i old) ++ drop i old) i (f (get_or old i d)) ≡ map f (take (suc i) old) ++ drop (suc i) old
  mid-set [] i d within = absurd (omega (arith, within))
  mid-set (x ∷ old) zero d within = refl
  mid-set (x ∷ old) (suc i) d within = ap (λ xs. f x ∷ xs) (mid-set old i d (omega (arith, within)))

  mid-end : (old : List X) (i : ℕ) → length old ≤ i → map f (take i old) ++ drop i old ≡ map f old
  mid-end [] zero over = refl
  mid-end [] (suc i) over = refl
  mid-end (x ∷ old) zero over = absurd (omega (arith, over))
  mid-end (x ∷ old) (suc i) over = ap (λ xs. f x ∷ xs) (mid-end old i (omega (arith, over)))

  module _ (old items : List X) (i : ℕ) (so_far : items ≡ map f (take i old) ++ drop i old) where
    module _ (x d : X) (within : i < length old) (is : x ≡ get_or items i d) where
      pub changed-here : x ≡ get_or old i d
      changed-here = is ∙ ap (λ xs. get_or xs i d) so_far ∙ mid-read old i d within

      pub changed-more : (new : X) → new ≡ f x → slice_set items i new ≡ map f (take (i + 1) old) ++ drop (i + 1) old
      changed-more new new_is =
          ap (λ xs. slice_set xs i new) so_far
          ∙ ap (slice_set (map f (take i old) ++ drop i old) i) (new_is ∙ ap f changed-here)
          ∙ mid-set old i d within
          ∙ ap (λ k. map f (take k old) ++ drop k old) (sym (add-one i))

    pub changed-all : length old ≤ i → items ≡ map f old
    changed-all over = so_far ∙ mid-end old i over
