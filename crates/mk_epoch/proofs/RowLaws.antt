-- Rows of a list by their place, the changes by epoch, and lists that grow by one at the end.
use Rattle.std.proofs.Math.Seq.{take-append_seam}
use Rattle.std.proofs.lemmas.Bool.Decides.{nat_tests}
use Rattle.std.proofs.Common.{◌≡◌, ◌≤◌, ◌<◌, ℕ, zero, suc, ◌+◌, ◌-◌, Bool, true, false, refl, arith, inl, inr, sym, ap, ◌∙◌, List, [], ◌∷◌, ◌++◌, Some, None, subst, cond, length}
use Rattle.std.specs.Prelude.{◌⊎◌, slice_get, slice_set, slice_index_or, take, drop, filter, find, replicate, unwrap_or, is_some, ◌==◌, ◌||◌, if◌then◌else◌}
use Rattle.std.specs.List.{list_any}
use Rattle.mk_lists.specs.Changed.{change}
use Rattle.mk_lists.proofs.Places.{slice_get-set_same, slice_get-set_other}
use Rattle.mk_epoch.specs.Changes.{ChangeView, no_change, change_for, grown_to}

pub same_or_not : (a b : ℕ) → (a ≡ b) ⊎ (a ≡ b → ⊥)
same_or_not a b = grind arith

pub eqb-same : (a b : ℕ) → a ≡ b → (a == b) ≡ true
eqb-same a b e = grind (arith, nat_tests)

pub eqb-apart : (a b : ℕ) → (a ≡ b → ⊥) → (a == b) ≡ false
eqb-apart a b ne = grind (arith, nat_tests)

module _ {X : Type 0} where
  pub length-set_at : (xs : List X) (i : ℕ) (y : X) → length (slice_set xs i y) ≡ length xs
  length-set_at [] i y = refl
  length-set_at (x ∷ xs) zero y = refl
  length-set_at (x ∷ xs) (suc i) y = grind (arith, length-set_at xs i y)

  pub get-below : (xs : List X) (i : ℕ) (x : X) → slice_get xs i ≡ Some x → i < length xs
  get-below [] i x e = absurd (cc e)
  get-below (y ∷ xs) zero x e = omega arith
  get-below (y ∷ xs) (suc i) x e = omega (arith, get-below xs i x e)

  get-past : (xs : List X) (i : ℕ) → length xs ≤ i → slice_get xs i ≡ None
  get-past [] i h = refl
  get-past (x ∷ xs) zero h = absurd (omega arith)
  get-past (x ∷ xs) (suc i) h = get-past xs i (omega arith)

  or-same : (n i : ℕ) (x : X) → unwrap_or (slice_get (replicate n x) i) x ≡ x
  or-same zero i x = refl
  or-same (suc n) zero x = refl
  or-same (suc n) (suc i) x = or-same n i x

  -- behind a list stands what is meant there anyway
  or-more : (xs : List X) (n i : ℕ) (x : X) → unwrap_or (slice_get (xs ++ replicate n x) i) x ≡ unwrap_or (slice_get xs i) x
  or-more [] n i x = or-same n i x
  or-more (y ∷ xs) n zero x = refl
  or-more (y ∷ xs) n (suc i) x = or-more xs n i x

  pub length-append : (xs ys : List X) → length (xs ++ ys) ≡ length xs + length ys
  length-append [] ys = omega arith
  length-append (x ∷ xs) ys = grind (arith, length-append xs ys)

  pub length-same : (n : ℕ) (x : X) → length (replicate n x) ≡ n
  length-same zero x = refl
  length-same (suc n) x = grind (arith, length-same n x)

  pub any_with : (p : X → Bool) (xs : List X) (x : X) → list_any p (xs ++ x ∷ []) ≡ (list_any p xs || p x)
  any_with p [] x = by (p x)
    where
      by : (b : Bool) → (b || false) ≡ b
      by true = refl
      by false = refl
  any_with p (y ∷ xs) x = by (p y) (any_with p xs x)
    where
      by : (b : Bool) → list_any p (xs ++ x ∷ []) ≡ (list_any p xs || p x) → (b || list_any p (xs ++ x ∷ [])) ≡ ((b || list_any p xs) || p x)
      by true k = refl
      by false k = k

  pub filter_with : (p : X → Bool) (xs : List X) (x : X) → p x ≡ true → filter p (xs ++ x ∷ []) ≡ filter p xs ++ x ∷ []
  filter_with p [] x e = grind (arith, e)
  filter_with p (y ∷ xs) x e = by (p y) (filter_with p xs x e)
    where
      by : (b : Bool) → filter p (xs ++ x ∷ []) ≡ filter p xs ++ x ∷ [] → cond b (y ∷ filter p (xs ++ x ∷ [])) (filter p (xs ++ x ∷ [])) ≡ cond b (y ∷ filter p xs) (filter p xs) ++ x ∷ []
      by true k = ap (λ zs. y ∷ zs) k
      by false k = k

  pub filter_without : (p : X → Bool) (xs : List X) (x : X) → p x ≡ false → filter p (xs ++ x ∷ []) ≡ filter p xs
  filter_without p [] x e = grind (arith, e)
  filter_without p (y ∷ xs) x e = by (p y) (filter_without p xs x e)
    where
      by : (b : Bool) → filter p (xs ++ x ∷ []) ≡ filter p xs → cond b (y ∷ filter p (xs ++ x ∷ [])) (filter p (xs ++ x ∷ [])) ≡ cond b (y ∷ filter p xs) (filter p xs)
      by true k = ap (λ zs. y ∷ zs) k
      by false k = k

  pub find_last : (p : X → Bool) (xs : List X) (x : X) → find p xs ≡ None → p x ≡ true → find p (xs ++ x ∷ []) ≡ Some x
  find_last p [] x none e = grind (arith, e)
  find_last p (y ∷ xs) x none e = by (p y) (λ n. find_last p xs x n e) none
    where
      by : (b : Bool) → (find p xs ≡ None → find p (xs ++ x ∷ []) ≡ Some x) → cond b (Some y) (find p xs) ≡ None → cond b (Some y) (find p (xs ++ x ∷ [])) ≡ Some x
      by true k n = absurd (cc n)
      by false k n = k n

  pub find_other : (p : X → Bool) (xs : List X) (x : X) → p x ≡ false → find p (xs ++ x ∷ []) ≡ find p xs
  find_other p [] x e = grind (arith, e)
  find_other p (y ∷ xs) x e = by (p y) (find_other p xs x e)
    where
      by : (b : Bool) → find p (xs ++ x ∷ []) ≡ find p xs → cond b (Some y) (find p (xs ++ x ∷ [])) ≡ cond b (Some y) (find p xs)
      by true k = refl
      by false k = k

  -- a test that the new member passes if the old one did counts no less
  pub reached-risen : (p : X → Bool) (xs : List X) (i : ℕ) (x y : X) → slice_get xs i ≡ Some x → (p x ≡ true → p y ≡ true) →
      length (filter p xs) ≤ length (filter p (slice_set xs i y))
  reached-risen p [] i x y at h = omega arith
  reached-risen p (z ∷ xs) zero x y at h = by (p z) refl (p y) refl
    where
      same : z ≡ x
      same = cc at

      by : (b : Bool) → p z ≡ b → (c : Bool) → p y ≡ c → length (cond b (z ∷ filter p xs) (filter p xs)) ≤ length (cond c (y ∷ filter p xs) (filter p xs))
      by true e true k = omega arith
      by true e false k = absurd (cc (sym (h (subst (λ (w : X). p w ≡ true) same e)) ∙ k))
      by false e true k = omega arith
      by false e false k = omega arith
  reached-risen p (z ∷ xs) (suc i) x y at h = by (p z) (reached-risen p xs i x y at h)
    where
      by : (b : Bool) → length (filter p xs) ≤ length (filter p (slice_set xs i y)) → length (cond b (z ∷ filter p xs) (filter p xs)) ≤ length (cond b (z ∷ filter p (slice_set xs i y)) (filter p (slice_set xs i y)))
      by true k = omega (arith, k)
      by false k = k

  -- one that passes in the place of one that did not counts once more
  pub reached-one : (p : X → Bool) (xs : List X) (i : ℕ) (x y : X) → slice_get xs i ≡ Some x → p x ≡ false → p y ≡ true →
      length (filter p (slice_set xs i y)) ≡ suc (length (filter p xs))
  reached-one p [] i x y at f t = absurd (cc at)
  reached-one p (z ∷ xs) zero x y at f t = by (p z) (subst (λ (w : X). p w ≡ false) (sym same) f) (p y) t
    where
      same : z ≡ x
      same = cc at

      by : (b : Bool) → b ≡ false → (c : Bool) → c ≡ true → length (cond c (y ∷ filter p xs) (filter p xs)) ≡ suc (length (cond b (z ∷ filter p xs) (filter p xs)))
      by true e c k = absurd (cc e)
      by false e true k = refl
      by false e false k = absurd (cc k)
  reached-one p (z ∷ xs) (suc i) x y at f t = by (p z) (reached-one p xs i x y at f t)
    where
      by : (b : Bool) → length (filter p (slice_set xs i y)) ≡ suc (length (filter p xs)) → length (cond b (z ∷ filter p (slice_set xs i y)) (filter p (slice_set xs i y))) ≡ suc (length (cond b (z ∷ filter p xs) (filter p xs)))
      by true k = ap suc k
      by false k = k

  pub reached-changed : (p q : X → Bool) (f : X → X) → ((x : X) → p (f x) ≡ p x) → (xs : List X) → length (filter p (change q f xs)) ≡ length (filter p xs)
  reached-changed p q f h [] = refl
  reached-changed p q f h (x ∷ xs) = by (q x) (p x) refl (reached-changed p q f h xs)
    where
      last : (u : X) → p u ≡ p x → length (filter p (change q f xs)) ≡ length (filter p xs) → length (cond (p u) (u ∷ filter p (change q f xs)) (filter p (change q f xs))) ≡ length (cond (p x) (x ∷ filter p xs) (filter p xs))
      last u e k = inner (p u) (p x) e
        where
          inner : (b c : Bool) → b ≡ c → length (cond b (u ∷ filter p (change q f xs)) (filter p (change q f xs))) ≡ length (cond c (x ∷ filter p xs) (filter p xs))
          inner true true e = ap suc k
          inner false false e = k
          inner true false e = absurd (cc e)
          inner false true e = absurd (cc e)

      by : (b c : Bool) → p x ≡ c → length (filter p (change q f xs)) ≡ length (filter p xs) → length (filter p ((if b then f x else x) ∷ change q f xs)) ≡ length (filter p (x ∷ xs))
      by true c e k = last (f x) (h x) k
      by false c e k = last x refl k

  pub reached-few : (p : X → Bool) (xs : List X) → length (filter p xs) ≤ length xs
  reached-few p [] = omega arith
  reached-few p (x ∷ xs) = by (p x) (reached-few p xs)
    where
      by : (b : Bool) → length (filter p xs) ≤ length xs → length (cond b (x ∷ filter p xs) (filter p xs)) ≤ length (x ∷ xs)
      by true k = omega (arith, k)
      by false k = omega (arith, k)

-- a list whose members are changed one by one from the front
module _ {X : Type 0} (p : X → Bool) (f : X → X) where
  change-next : (xs : List X) (i : ℕ) (x y : X) → i < length xs → x ≡ slice_index_or (change p f (take i xs) ++ drop i xs) i x → y ≡ (if p x then f x else x) →
      slice_set (change p f (take i xs) ++ drop i xs) i y ≡ change p f (take (suc i) xs) ++ drop (suc i) xs
  change-next [] i x y h at e = absurd (omega (arith, h))
  change-next (z ∷ xs) zero x y h at e = ap (λ w. w ∷ xs) (e ∙ ap (λ w. if p w then f w else w) at)
  change-next (z ∷ xs) (suc i) x y h at e = ap (λ ws. (if p z then f z else z) ∷ ws) (change-next xs i x y (omega (arith, h)) at e)

  pub change-more : (all items xs : List X) (i : ℕ) (x y : X) → all ≡ xs → i < length all → items ≡ change p f (take i xs) ++ drop i xs → x ≡ slice_index_or items i x → y ≡ (if p x then f x else x) →
      slice_set items i y ≡ change p f (take (i + 1) xs) ++ drop (i + 1) xs
  change-more all items xs i x y same h is at e =
      ap (λ ws. slice_set ws i y) is
      ∙ change-next xs i x y (subst (λ ws. i < length ws) same h) (subst (λ ws. x ≡ slice_index_or ws i x) is at) e
      ∙ ap (λ n. change p f (take n xs) ++ drop n xs) next
    where
      next : suc i ≡ i + 1
      next = omega arith

  pub change-all : (xs : List X) (i : ℕ) → length xs ≤ i → change p f (take i xs) ++ drop i xs ≡ change p f xs
  change-all [] i h = by i
    where
      by : (i : ℕ) → change p f (take i []) ++ drop i [] ≡ []
      by zero = refl
      by (suc i) = refl
  change-all (x ∷ xs) zero h = absurd (omega (arith, h))
  change-all (x ∷ xs) (suc i) h = ap (λ ws. (if p x then f x else x) ∷ ws) (change-all xs i (omega (arith, h)))

  -- what a list that is written back holds
  pub change-end : (xs items : List X) (n i : ℕ) → n ≡ length xs → length items ≡ length xs → length xs ≤ i → items ≡ change p f (take i xs) ++ drop i xs →
      take n (items ++ drop (length items) xs) ≡ change p f xs
  change-end xs items n i all same h is =
      ap (λ k. take k (items ++ drop (length items) xs)) (all ∙ sym same) ∙ take-append_seam items (drop (length items) xs) ∙ is ∙ change-all xs i h

module _ {B : Type 0} where
  pub row_is : (changes : List (ChangeView B)) (epoch : ℕ) → epoch < length changes → slice_get changes epoch ≡ Some (change_for epoch changes)
  row_is [] epoch h = absurd (omega arith)
  row_is (c ∷ changes) zero h = refl
  row_is (c ∷ changes) (suc epoch) h = row_is changes epoch (omega arith)

  pub change_for-set_same : (changes : List (ChangeView B)) (epoch : ℕ) (c : ChangeView B) → epoch < length changes → change_for epoch (slice_set changes epoch c) ≡ c
  change_for-set_same changes epoch c h = ap (λ o. unwrap_or o no_change) (slice_get-set_same changes epoch c h)

  pub change_for-set_other : (changes : List (ChangeView B)) (epoch e : ℕ) (c : ChangeView B) → (e ≡ epoch → ⊥) → change_for e (slice_set changes epoch c) ≡ change_for e changes
  change_for-set_other changes epoch e c ne = ap (λ o. unwrap_or o no_change) (slice_get-set_other changes epoch e c ne)

  pub change_for-more : (changes : List (ChangeView B)) (n e : ℕ) → change_for e (changes ++ replicate n no_change) ≡ change_for e changes
  change_for-more changes n e = or-more changes n e no_change

  pub grown-length : (changes : List (ChangeView B)) (epoch : ℕ) → epoch < length (grown_to epoch changes)
  grown-length changes epoch =
      omega (arith, length-append changes (replicate (epoch + 1 - length changes) no_change), length-same (epoch + 1 - length changes) (no_change {B = B}))

  -- of an epoch behind the list nothing is known
  pub row_past : (changes : List (ChangeView B)) (epoch : ℕ) → length changes ≤ epoch → change_for epoch changes ≡ no_change
  row_past changes epoch h = ap (λ o. unwrap_or o no_change) (get-past changes epoch h)

  within : (changes : List (ChangeView B)) (epoch : ℕ) → (change_for epoch changes ≡ no_change → ⊥) → epoch < length changes
  within changes epoch ne = elim (lower epoch (length changes)) [ inl h ↦ h | inr h ↦ absurd (ne (row_past changes epoch h)) ]
    where
      lower : (a b : ℕ) → (a < b) ⊎ (b ≤ a)
      lower a b = grind arith

  pub asked-below : (changes : List (ChangeView B)) (epoch : ℕ) → (change_for epoch changes).asked ≡ true → epoch < length changes
  asked-below changes epoch e = within changes epoch (λ k. absurd (cc (sym e ∙ ap (λ (c : ChangeView B). c.asked) k)))

  pub made-below : (changes : List (ChangeView B)) (epoch : ℕ) → is_some (change_for epoch changes).made ≡ true → epoch < length changes
  made-below changes epoch e = within changes epoch (λ k. absurd (cc (sym e ∙ ap (λ (c : ChangeView B). is_some c.made) k)))

  pub promised-below : (changes : List (ChangeView B)) (epoch : ℕ) → 0 < length (change_for epoch changes).promises → epoch < length changes
  promised-below changes epoch h = within changes epoch (λ k. short (ap (λ (c : ChangeView B). length c.promises) k))
    where
      short : length (change_for epoch changes).promises ≡ 0 → ⊥
      short e = absurd (omega (arith, h, e))
