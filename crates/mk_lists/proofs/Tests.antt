-- Tests on two answers, and tests that some or all members of a list pass.
use Rattle.std.proofs.Common.{◌≡◌, ◌∙◌, Bool, true, false, refl, sym, ap, subst, arith, inl, inr, List, [], ◌∷◌, ◌++◌, map, ◌||◌}
use Rattle.std.specs.List.{list_any, list_all}
use Rattle.std.proofs.lemmas.Bool.{and_parts, and_from, or_left, or_right}
use Rattle.std.proofs.lemmas.List.Folds.{list_any-append, list_all-append}
use Rattle.mk_lists.specs.Among.{Among, Each}

-- two tests agree where each follows from the other
pub same-from_tests : (a b : Bool) → (a ≡ true → b ≡ true) → (b ≡ true → a ≡ true) → a ≡ b
same-from_tests true b to back = sym (to refl)
same-from_tests false true to back = absurd (cc (back refl))
same-from_tests false false to back = refl

module _ {X : Type 0} (p : X → Bool) where
  pub list_any-none : (xs : List X) → Each (λ x. p x ≡ false) xs → list_any p xs ≡ false
  list_any-none [] h = refl
  list_any-none (x ∷ xs) h = ap (λ b. b || list_any p xs) h.0 ∙ list_any-none xs h.1

  pub list_any-from_Among : (xs : List X) (x : X) → Among x xs → p x ≡ true → list_any p xs ≡ true
  list_any-from_Among [] x a t = absurd a
  list_any-from_Among (y ∷ xs) x (inl e) t = grind (arith, t, e)
  list_any-from_Among (y ∷ xs) x (inr a) t = or_right (p y) (list_any p xs) (list_any-from_Among xs x a t)

  pub Among-from_list_any : (xs : List X) → list_any p xs ≡ true → (x : X) × Among x xs × (p x ≡ true)
  Among-from_list_any [] e = absurd (cc e)
  Among-from_list_any (x ∷ xs) e = head (Among-from_list_any xs) (p x) refl e
    where
      head : (list_any p xs ≡ true → (y : X) × Among y xs × (p y ≡ true)) → (b : Bool) → p x ≡ b → (b || list_any p xs) ≡ true → (y : X) × Among y (x ∷ xs) × (p y ≡ true)
      head again true t r = (x, inl refl, t)
      head again false t r = let m = again r in (m.0, inr m.1, m.2)

  pub list_any-append_left : (xs ys : List X) → list_any p xs ≡ true → list_any p (xs ++ ys) ≡ true
  list_any-append_left xs ys e = list_any-append p xs ys ∙ or_left (list_any p xs) (list_any p ys) e

  pub list_any-push : (xs : List X) (y : X) → list_any p (xs ++ y ∷ []) ≡ (list_any p xs || p y)
  list_any-push xs y = list_any-append p xs (y ∷ []) ∙ ap (λ b. list_any p xs || b) (last (p y))
    where
      last : (b : Bool) → (b || false) ≡ b
      last true = refl
      last false = refl

  pub list_all-among : (xs : List X) (x : X) → list_all p xs ≡ true → Among x xs → p x ≡ true
  list_all-among [] x e a = absurd a
  list_all-among (y ∷ xs) x e (inl same) = subst (λ (z : X). p z ≡ true) same (and_parts (p y) (list_all p xs) e).0
  list_all-among (y ∷ xs) x e (inr a) = list_all-among xs x (and_parts (p y) (list_all p xs) e).1 a

  pub list_all-from_Among : (xs : List X) → ((x : X) → Among x xs → p x ≡ true) → list_all p xs ≡ true
  list_all-from_Among [] h = refl
  list_all-from_Among (x ∷ xs) h = and_from (p x) (list_all p xs) (h x (inl refl)) (list_all-from_Among xs (λ y a. h y (inr a)))

  pub list_all-append_left : (xs ys : List X) → list_all p (xs ++ ys) ≡ true → list_all p xs ≡ true
  list_all-append_left xs ys e = (and_parts (list_all p xs) (list_all p ys) (sym (list_all-append p xs ys) ∙ e)).0

  pub list_any-map : {Y : Type 0} (f : Y → X) (ys : List Y) → list_any p (map f ys) ≡ list_any (λ y. p (f y)) ys
  list_any-map f [] = refl
  list_any-map f (y ∷ ys) = ap (λ b. p (f y) || b) (list_any-map f ys)
