-- What stands at a place of a list after another change of the list.
use Rattle.std.proofs.Common.{◌≡◌, ◌⊎◌, ◌∙◌, ◌<◌, ◌+◌, ℕ, zero, suc, refl, sym, ap, subst, arith, inl, inr, List, [], ◌∷◌, ◌++◌, Some, length, get_or, take, drop, replicate}
use Rattle.std.specs.Prelude.{slice_get, slice_set}
use Rattle.std.proofs.lemmas.Bool.{cases_eq}
use Rattle.std.proofs.lemmas.Option.{same_Some, none-some, slice_get_within, get_or_from_slice_get}
use Rattle.std.proofs.lemmas.List.{drop_more, take_more}

module _ {X : Type 0} where
  pub slice_get-set_same : (xs : List X) (i : ℕ) (y : X) → i < length xs → slice_get (slice_set xs i y) i ≡ Some y
  slice_get-set_same [] i y h = absurd (omega arith)
  slice_get-set_same (z ∷ xs) zero y h = refl
  slice_get-set_same (z ∷ xs) (suc i) y h = slice_get-set_same xs i y (omega arith)

  pub slice_get-set_other : (xs : List X) (i j : ℕ) (y : X) → (j ≡ i → ⊥) → slice_get (slice_set xs i y) j ≡ slice_get xs j
  slice_get-set_other [] i j y ne = refl
  slice_get-set_other (z ∷ xs) zero zero y ne = absurd (ne refl)
  slice_get-set_other (z ∷ xs) zero (suc j) y ne = refl
  slice_get-set_other (z ∷ xs) (suc i) zero y ne = refl
  slice_get-set_other (z ∷ xs) (suc i) (suc j) y ne = slice_get-set_other xs i j y (λ e. ne (ap suc e))

  -- what stands at a place after one place was set: the new value at that place, and what was there at others
  pub slice_get-set : (xs : List X) (i j : ℕ) (x y t : X) → slice_get xs i ≡ Some x → slice_get (slice_set xs i y) j ≡ Some t →
      ((j ≡ i) × (y ≡ t)) ⊎ ((j ≡ i → ⊥) × (slice_get xs j ≡ Some t))
  slice_get-set xs i j x y t at e = elim (cases_eq j i) [
    | inl same ↦ inl (same, same_Some y t (sym (slice_get-set_same xs i y (slice_get_within xs i x at)) ∙ subst (λ (n : ℕ). slice_get (slice_set xs i y) n ≡ Some t) same e))
    | inr apart ↦ inr (apart, sym (slice_get-set_other xs i j y apart) ∙ e)
  ]

  -- a place that was taken stays so
  pub slice_get-set_some : (xs : List X) (i j : ℕ) (x y t : X) → slice_get xs i ≡ Some x → slice_get xs j ≡ Some t →
      (u : X) × (slice_get (slice_set xs i y) j ≡ Some u)
  slice_get-set_some xs i j x y t at e = elim (cases_eq j i) [
    | inl same ↦ (y, subst (λ (n : ℕ). slice_get (slice_set xs i y) n ≡ Some y) (sym same) (slice_get-set_same xs i y (slice_get_within xs i x at)))
    | inr apart ↦ (t, slice_get-set_other xs i j y apart ∙ e)
  ]

  pub slice_get-append_left : (xs ys : List X) (i : ℕ) → i < length xs → slice_get (xs ++ ys) i ≡ slice_get xs i
  slice_get-append_left [] ys i h = absurd (omega arith)
  slice_get-append_left (x ∷ xs) ys zero h = refl
  slice_get-append_left (x ∷ xs) ys (suc i) h = slice_get-append_left xs ys i (omega arith)

  pub slice_get_push : (xs : List X) (y : X) (i : ℕ) → i ≡ length xs → slice_get (xs ++ y ∷ []) i ≡ Some y
  slice_get_push [] y zero e = refl
  slice_get_push [] y (suc i) e = absurd (omega (arith, e))
  slice_get_push (x ∷ xs) y zero e = absurd (omega (arith, e))
  slice_get_push (x ∷ xs) y (suc i) e = slice_get_push xs y i (omega (arith, e))

  pub slice_get-replicate : (n i : ℕ) (x : X) → i < n → slice_get (replicate n x) i ≡ Some x
  slice_get-replicate zero i x h = absurd (omega arith)
  slice_get-replicate (suc n) zero x h = refl
  slice_get-replicate (suc n) (suc i) x h = slice_get-replicate n i x (omega arith)

  pub slice_get-from_replicate : (n : ℕ) (x y : X) (i : ℕ) → slice_get (replicate n x) i ≡ Some y → x ≡ y
  slice_get-from_replicate zero x y i e = absurd (none-some y e)
  slice_get-from_replicate (suc n) x y zero e = same_Some x y e
  slice_get-from_replicate (suc n) x y (suc i) e = slice_get-from_replicate n x y i e

  -- what is left from a place on, where its member was read
  pub drop_read : (xs : List X) (i : ℕ) (x : X) → i < length xs → x ≡ get_or xs i x → drop i xs ≡ x ∷ drop (i + 1) xs
  drop_read xs i x h e = drop_more xs i x h ∙ ap (λ y. y ∷ drop (i + 1) xs) (sym e)
