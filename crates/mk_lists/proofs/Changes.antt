-- What changing the members that pass a test in place leaves as it is, and what it turns.
use Rattle.std.proofs.Common.{◌≡◌, ◌⊎◌, ◌∙◌, ℕ, zero, suc, Bool, true, false, cond, refl, sym, ap, arith, inl, inr, List, [], ◌∷◌, Some, None, length, map, if◌then◌else◌, ◌||◌}
use Rattle.std.specs.Prelude.{option_map, find, slice_get}
use Rattle.std.specs.List.{list_any}
use Rattle.std.proofs.lemmas.Bool.{cond_both}
use Rattle.std.proofs.lemmas.Option.{same_Some, none-some}
use Rattle.mk_lists.specs.Changed.{change}

module _ {X : Type 0} where
  pub length-change : (p : X → Bool) (f : X → X) (xs : List X) → length (change p f xs) ≡ length xs
  length-change p f [] = refl
  length-change p f (x ∷ xs) = ap suc (length-change p f xs)

  -- where none passes, nothing changes
  pub change-none : (p : X → Bool) (f : X → X) (xs : List X) → find p xs ≡ None → change p f xs ≡ xs
  change-none p f [] e = refl
  change-none p f (x ∷ xs) e = by (p x) (change-none p f xs) e
    where
      by : (b : Bool) → (find p xs ≡ None → change p f xs ≡ xs) → cond b (Some x) (find p xs) ≡ None → cond b (f x) x ∷ change p f xs ≡ x ∷ xs
      by true again e = absurd (none-some x (sym e))
      by false again e = ap (λ ys. x ∷ ys) (again e)

  pub find-change : (p : X → Bool) (f : X → X) (xs : List X) → ((x : X) → p (f x) ≡ p x) → find p (change p f xs) ≡ option_map f (find p xs)
  find-change p f [] same = refl
  find-change p f (x ∷ xs) same = grind (arith, same x, find-change p f xs same)

  pub find-change_other : (p q : X → Bool) (f : X → X) (xs : List X) → ((x : X) → p x ≡ true → q x ≡ false) → ((x : X) → q (f x) ≡ q x) → find q (change p f xs) ≡ find q xs
  find-change_other p q f [] apart same = refl
  find-change_other p q f (x ∷ xs) apart same = grind (arith, apart x, same x, find-change_other p q f xs apart same)

  -- what the change keeps of each member, it keeps of the list
  pub map-change : {Y : Type 0} (k : X → Y) (p : X → Bool) (f : X → X) → ((x : X) → k (f x) ≡ k x) → (xs : List X) → map k (change p f xs) ≡ map k xs
  map-change k p f same [] = refl
  map-change {Y} k p f same (x ∷ xs) =
      let here : k (cond (p x) (f x) x) ≡ k x = cond_both (p x) (f x) x (λ (y : X). k y ≡ k x) (λ _. same x) (λ _. refl) in
      let rest = map-change k p f same xs in
      λ i. here i ∷ rest i

  pub slice_get-change : (p : X → Bool) (f : X → X) (xs : List X) (i : ℕ) (x : X) → slice_get xs i ≡ Some x → (y : X) × (slice_get (change p f xs) i ≡ Some y)
  slice_get-change p f [] i x e = absurd (none-some x e)
  slice_get-change p f (y ∷ xs) zero x e = (cond (p y) (f y) y, refl)
  slice_get-change p f (y ∷ xs) (suc i) x e = slice_get-change p f xs i x e

  pub slice_get-from_change : (p : X → Bool) (f : X → X) (xs : List X) (i : ℕ) (y : X) → slice_get (change p f xs) i ≡ Some y →
      (x : X) × (slice_get xs i ≡ Some x) × ((x ≡ y) ⊎ ((p x ≡ true) × (f x ≡ y)))
  slice_get-from_change p f [] i y e = absurd (none-some y e)
  slice_get-from_change p f (x ∷ xs) zero y e = by (p x) refl e
    where
      by : (b : Bool) → p x ≡ b → Some (cond b (f x) x) ≡ Some y → (u : X) × (Some x ≡ Some u) × ((u ≡ y) ⊎ ((p u ≡ true) × (f u ≡ y)))
      by true k e = (x, refl, inr (k, same_Some (f x) y e))
      by false k e = (x, refl, inl (same_Some x y e))
  slice_get-from_change p f (x ∷ xs) (suc i) y e = slice_get-from_change p f xs i y e

-- what a function keeps of each member, it keeps of the list
pub map-map_same : {X Y : Type 0} (k : X → Y) (f : X → X) → ((x : X) → k (f x) ≡ k x) → (xs : List X) → map k (map f xs) ≡ map k xs
map-map_same k f same [] = refl
map-map_same k f same (x ∷ xs) = let here = same x in let rest = map-map_same k f same xs in λ i. here i ∷ rest i
