-- The first member that passes a test.
use Rattle.std.proofs.Common.{◌≡◌, ◌⊎◌, ◌∙◌, Bool, true, false, cond, refl, sym, ap, subst, arith, inl, inr, List, [], ◌∷◌, ◌++◌, Option, Some, None, map}
use Rattle.std.specs.Prelude.{option_map, find, filter, is_some}
use Rattle.std.specs.List.{list_any}
use Rattle.std.specs.Option.{option_or}
use Rattle.std.proofs.lemmas.Option.{same_Some, none-some}
use Rattle.std.proofs.lemmas.List.Folds.{find-append}
use Rattle.mk_lists.specs.Among.{Among}

module _ {X : Type 0} (p : X → Bool) where
  -- what is found is a member, and passes
  pub find_tells : (xs : List X) (x : X) → find p xs ≡ Some x → Among x xs × (p x ≡ true)
  find_tells [] x e = absurd (none-some x e)
  find_tells (y ∷ xs) x e = by (p y) refl (find_tells xs x) e
    where
      by : (b : Bool) → p y ≡ b → (find p xs ≡ Some x → Among x xs × (p x ≡ true)) → cond b (Some y) (find p xs) ≡ Some x → Among x (y ∷ xs) × (p x ≡ true)
      by true k again e = let same = same_Some y x e in (inl same, subst (λ (z : X). p z ≡ true) same k)
      by false k again e = let more = again e in (inr more.0, more.1)

  pub Among-find : (xs : List X) (x : X) → find p xs ≡ Some x → Among x xs
  Among-find xs x e = (find_tells xs x e).0

  pub find-passes : (xs : List X) (x : X) → find p xs ≡ Some x → p x ≡ true
  find-passes xs x e = (find_tells xs x e).1

  -- where a member passes, one is found
  pub find-from_Among : (xs : List X) (x : X) → Among x xs → p x ≡ true → (y : X) × (find p xs ≡ Some y)
  find-from_Among [] x a k = absurd a
  find-from_Among (y ∷ xs) x a k = by (λ m. find-from_Among xs x m k) (p y) refl a
    where
      by : (Among x xs → (z : X) × (find p xs ≡ Some z)) → (b : Bool) → p y ≡ b → Among x (y ∷ xs) → (z : X) × (cond b (Some y) (find p xs) ≡ Some z)
      by again true e a = (y, refl)
      by again false e (inl same) = absurd (cc (sym e ∙ subst (λ (z : X). p z ≡ true) (sym same) k))
      by again false e (inr a) = again a

  pub list_any-find : (xs : List X) → list_any p xs ≡ is_some (find p xs)
  list_any-find [] = refl
  list_any-find (x ∷ xs) = grind (arith, list_any-find xs)

  pub find-append_some : (xs ys : List X) (x : X) → find p xs ≡ Some x → find p (xs ++ ys) ≡ Some x
  find-append_some xs ys x e = find-append p xs ys ∙ ap (λ o. option_or o (find p ys)) e

  pub find-append_none : (xs ys : List X) → find p xs ≡ None → find p (xs ++ ys) ≡ find p ys
  find-append_none xs ys e = find-append p xs ys ∙ ap (λ o. option_or o (find p ys)) e

  -- a new member that passes is found where none was
  pub find_push : (xs : List X) (y : X) → find p xs ≡ None → p y ≡ true → find p (xs ++ y ∷ []) ≡ Some y
  find_push xs y e t = find-append_none xs (y ∷ []) e ∙ ap (λ b. cond b (Some y) None) t

  -- one that fails is not found
  pub find_push_other : (xs : List X) (y : X) → p y ≡ false → find p (xs ++ y ∷ []) ≡ find p xs
  find_push_other [] y t = ap (λ b. cond b (Some y) None) t
  find_push_other (x ∷ xs) y t = grind (arith, find_push_other xs y t)

  -- a new member is found only where none was
  pub find_push_cases : (xs : List X) (y z : X) → find p (xs ++ y ∷ []) ≡ Some z → (find p xs ≡ Some z) ⊎ ((find p xs ≡ None) × ((y ≡ z) × (p y ≡ true)))
  find_push_cases xs y z e = by (find p xs) refl (p y) refl
    where
      by : (o : Option X) → find p xs ≡ o → (b : Bool) → p y ≡ b → (find p xs ≡ Some z) ⊎ ((find p xs ≡ None) × ((y ≡ z) × (p y ≡ true)))
      by (Some x) k b t = inl (k ∙ sym (find-append_some xs (y ∷ []) x k) ∙ e)
      by None k true t = inr (k, (same_Some y z (sym (find_push xs y k t) ∙ e), t))
      by None k false t = inl (sym (find_push_other xs y t) ∙ e)

  -- what is found among images is the image of what is found
  pub find-map : {Y : Type 0} (f : Y → X) (ys : List Y) → find p (map f ys) ≡ option_map f (find (λ y. p (f y)) ys)
  find-map f [] = refl
  find-map f (y ∷ ys) = by (p (f y)) (find-map f ys)
    where
      by : (b : Bool) → find p (map f ys) ≡ option_map f (find (λ y. p (f y)) ys) → cond b (Some (f y)) (find p (map f ys)) ≡ option_map f (cond b (Some y) (find (λ y. p (f y)) ys))
      by true again = refl
      by false again = again

  -- what is found first, and passes another test, is found first among those that pass it
  pub find-filter : (q : X → Bool) (x : X) (xs : List X) → find p xs ≡ Some x → q x ≡ true → find p (filter q xs) ≡ Some x
  find-filter q x [] e k = absurd (none-some x e)
  find-filter q x (y ∷ xs) e k = by (find-filter q x xs) (p y) refl (q y) refl e
    where
      by : (find p xs ≡ Some x → q x ≡ true → find p (filter q xs) ≡ Some x) → (a : Bool) → p y ≡ a → (b : Bool) → q y ≡ b → cond a (Some y) (find p xs) ≡ Some x →
          find p (cond b (y ∷ filter q xs) (filter q xs)) ≡ Some x
      by again true i true j e = ap (λ (a : Bool). cond a (Some y) (find p (filter q xs))) i ∙ e
      by again true i false j e = absurd (cc (sym j ∙ ap q (same_Some y x e) ∙ k))
      by again false i true j e = ap (λ (a : Bool). cond a (Some y) (find p (filter q xs))) i ∙ again e k
      by again false i false j e = again e k

-- tests with the same answers find the same
pub find-same : {X : Type 0} (p q : X → Bool) → ((x : X) → p x ≡ q x) → (xs : List X) → find p xs ≡ find q xs
find-same p q h [] = refl
find-same p q h (x ∷ xs) = grind (arith, h x, find-same p q h xs)
