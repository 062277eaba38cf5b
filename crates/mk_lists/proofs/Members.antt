-- Members of lists that are made of other lists.
use Rattle.std.proofs.Common.{◌≡◌, ◌∙◌, ◌<◌, ℕ, zero, suc, Bool, true, false, cond, refl, sym, ap, subst, arith, inl, inr, List, [], ◌∷◌, Some, length, map, take, get_or}
use Rattle.std.specs.Prelude.{slice_get, filter, flat_map}
use Rattle.std.proofs.lemmas.Option.{same_Some, none-some}
use Rattle.mk_lists.specs.Among.{Among, Among-append, Among-append_left, Among-append_right}

module _ {X Y : Type 0} (f : X → Y) where
  pub Among-map : (x : X) (xs : List X) → Among x xs → Among (f x) (map f xs)
  Among-map x [] a = absurd a
  Among-map x (y ∷ xs) (inl e) = inl (ap f e)
  Among-map x (y ∷ xs) (inr a) = inr (Among-map x xs a)

  pub Among-from_map : (y : Y) (xs : List X) → Among y (map f xs) → (x : X) × Among x xs × (f x ≡ y)
  Among-from_map y [] a = absurd a
  Among-from_map y (x ∷ xs) (inl e) = (x, inl refl, e)
  Among-from_map y (x ∷ xs) (inr a) = let k = Among-from_map y xs a in (k.0, inr k.1, k.2)

module _ {X Y : Type 0} (f : X → List Y) where
  pub Among-flat_map : (y : Y) (x : X) (xs : List X) → Among x xs → Among y (f x) → Among y (flat_map f xs)
  Among-flat_map y x [] a b = absurd a
  Among-flat_map y x (z ∷ xs) (inl same) b = Among-append_left y (f z) (flat_map f xs) (subst (λ (w : X). Among y (f w)) (sym same) b)
  Among-flat_map y x (z ∷ xs) (inr a) b = Among-append_right y (f z) (flat_map f xs) (Among-flat_map y x xs a b)

  pub Among-from_flat_map : (y : Y) (xs : List X) → Among y (flat_map f xs) → (x : X) × Among x xs × Among y (f x)
  Among-from_flat_map y [] a = absurd a
  Among-from_flat_map y (x ∷ xs) a = elim (Among-append y (f x) (flat_map f xs) a) [
    | inl here ↦ (x, inl refl, here)
    | inr there ↦ let k = Among-from_flat_map y xs there in (k.0, inr k.1, k.2)
  ]

module _ {X : Type 0} (p : X → Bool) where
  pub Among-filter : (x : X) (xs : List X) → Among x xs → p x ≡ true → Among x (filter p xs)
  Among-filter x [] a e = absurd a
  Among-filter x (y ∷ ys) a e = by (λ b. Among-filter x ys b e) (p y) refl a
    where
      by : (Among x ys → Among x (filter p ys)) → (b : Bool) → p y ≡ b → Among x (y ∷ ys) → Among x (cond b (y ∷ filter p ys) (filter p ys))
      by again true k (inl same) = inl same
      by again true k (inr b) = inr (again b)
      by again false k (inl same) = absurd (cc (sym k ∙ subst (λ (z : X). p z ≡ true) (sym same) e))
      by again false k (inr b) = again b

  pub Among-from_filter : (x : X) (xs : List X) → Among x (filter p xs) → Among x xs × (p x ≡ true)
  Among-from_filter x [] a = absurd a
  Among-from_filter x (y ∷ ys) a = by (Among-from_filter x ys) (p y) refl a
    where
      by : (Among x (filter p ys) → Among x ys × (p x ≡ true)) → (b : Bool) → p y ≡ b → Among x (cond b (y ∷ filter p ys) (filter p ys)) → Among x (y ∷ ys) × (p x ≡ true)
      by again true e (inl same) = (inl same, subst (λ (z : X). p z ≡ true) same e)
      by again true e (inr rest) = let k = again rest in (inr k.0, k.1)
      by again false e rest = let k = again rest in (inr k.0, k.1)

module _ {X : Type 0} where
  pub Among-from_take : (x : X) (n : ℕ) (xs : List X) → Among x (take n xs) → Among x xs
  Among-from_take x zero xs a = absurd a
  Among-from_take x (suc n) [] a = absurd a
  Among-from_take x (suc n) (y ∷ ys) (inl e) = inl e
  Among-from_take x (suc n) (y ∷ ys) (inr a) = inr (Among-from_take x n ys a)

  pub Among-get_or : (xs : List X) (i : ℕ) (d : X) → i < length xs → Among (get_or xs i d) xs
  Among-get_or [] i d h = absurd (omega arith)
  Among-get_or (x ∷ xs) zero d h = inl refl
  Among-get_or (x ∷ xs) (suc i) d h = inr (Among-get_or xs i d (omega arith))

  pub Among-slice_get : (xs : List X) (i : ℕ) (x : X) → slice_get xs i ≡ Some x → Among x xs
  Among-slice_get [] i x e = absurd (none-some x e)
  Among-slice_get (y ∷ xs) zero x e = inl (same_Some y x e)
  Among-slice_get (y ∷ xs) (suc i) x e = inr (Among-slice_get xs i x e)

  -- each member has a place
  pub slice_get-from_Among : (x : X) (xs : List X) → Among x xs → (i : ℕ) × (slice_get xs i ≡ Some x)
  slice_get-from_Among x [] a = absurd a
  slice_get-from_Among x (y ∷ xs) (inl e) = (0, ap Some e)
  slice_get-from_Among x (y ∷ xs) (inr a) = let k = slice_get-from_Among x xs a in (suc k.0, k.1)
