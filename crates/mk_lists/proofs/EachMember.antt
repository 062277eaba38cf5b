-- What each member of a list has.
use Rattle.std.proofs.Common.{◌≡◌, ◌<◌, ℕ, zero, suc, Bool, true, false, cond, refl, subst, arith, inl, inr, List, [], ◌∷◌, ◌++◌, Some, length, map, take, drop, get_or}
use Rattle.std.specs.Prelude.{slice_get, filter, find}
use Rattle.std.proofs.lemmas.Option.{same_Some, none-some}
use Rattle.mk_lists.specs.Among.{Among, Each}

module _ {X : Type 0} (P : X → Type 0) where
  pub Each-from_Among : (xs : List X) → ((x : X) → Among x xs → P x) → Each P xs
  Each-from_Among [] f = tt
  Each-from_Among (x ∷ xs) f = (f x (inl refl), Each-from_Among xs (λ y a. f y (inr a)))

  pub Each-append_left : (xs ys : List X) → Each P (xs ++ ys) → Each P xs
  Each-append_left [] ys h = tt
  Each-append_left (x ∷ xs) ys h = (h.0, Each-append_left xs ys h.1)

  pub Each-filter : (p : X → Bool) (xs : List X) → Each P xs → Each P (filter p xs)
  Each-filter p [] h = tt
  Each-filter p (x ∷ xs) h = by (p x) (Each-filter p xs h.1)
    where
      by : (b : Bool) → Each P (filter p xs) → Each P (cond b (x ∷ filter p xs) (filter p xs))
      by true k = (h.0, k)
      by false k = k

  pub Each-find : (p : X → Bool) (xs : List X) (x : X) → Each P xs → find p xs ≡ Some x → P x
  Each-find p [] x h e = absurd (none-some x e)
  Each-find p (y ∷ xs) x h e = by (p y) (Each-find p xs x h.1) e
    where
      by : (b : Bool) → (find p xs ≡ Some x → P x) → cond b (Some y) (find p xs) ≡ Some x → P x
      by true again e = subst P (same_Some y x e) h.0
      by false again e = again e

module _ {X Y : Type 0} where
  -- what each member has, each image has where the function turns it so
  pub Each-map : (P : X → Type 0) (Q : Y → Type 0) (f : X → Y) → ((x : X) → P x → Q (f x)) → (xs : List X) → Each P xs → Each Q (map f xs)
  Each-map P Q f step [] h = tt
  Each-map P Q f step (x ∷ xs) h = (step x h.0, Each-map P Q f step xs h.1)
