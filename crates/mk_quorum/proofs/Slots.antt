-- What stands in the slots of replicas once one of them is filled, and what a test of a slot tells.
use Rattle.std.proofs.Common.{◌≡◌, ◌⊎◌, ◌∙◌, ◌<◌, ℕ, zero, suc, Bool, true, refl, sym, ap, arith, inl, inr, List, [], ◌∷◌, Option, Some, None, length, slice_set}
use Rattle.std.specs.Prelude.{is_some}
use Rattle.std.proofs.lemmas.List.{length-set}
use Rattle.std.proofs.lemmas.Option.{same_Some, none-some}
use Rattle.mk_quorum.specs.Slots.{empty_slots, slot, keep_first, filled, passes}

-- ---- tests

module _ {X : Type 0} (p : X → Bool) where
  pub passes-some : (o : Option X) → passes p o ≡ true → (x : X) × (o ≡ Some x) × (p x ≡ true)
  passes-some None e = absurd (cc e)
  passes-some (Some x) e = (x, refl, e)

  -- a test that passed on an option, at the value that it is known to have
  pub passes-at : (o : Option X) (x : X) → o ≡ Some x → passes p o ≡ true → p x ≡ true
  passes-at o x e t = sym (ap (passes p) e) ∙ t

  pub is_some-passes : (o : Option X) → passes p o ≡ true → is_some o ≡ true
  is_some-passes None e = absurd (cc e)
  is_some-passes (Some x) e = refl

-- ---- slots

module _ {X : Type 0} where
  pub slot-empty : (n r : ℕ) → slot {X = X} (empty_slots n) r ≡ None
  slot-empty zero r = refl
  slot-empty (suc n) zero = refl
  slot-empty (suc n) (suc r) = slot-empty n r

  pub slot-set : (slots : List (Option X)) (r q : ℕ) (x y : X) → slot (slice_set slots r (Some x)) q ≡ Some y → (slot slots q ≡ Some y) ⊎ ((q ≡ r) × (x ≡ y))
  slot-set [] r q x y e = inl e
  slot-set (s ∷ slots) zero zero x y e = inr (refl, same_Some x y e)
  slot-set (s ∷ slots) zero (suc q) x y e = inl e
  slot-set (s ∷ slots) (suc r) zero x y e = inl e
  slot-set (s ∷ slots) (suc r) (suc q) x y e = elim (slot-set slots r q x y e) [ inl k ↦ inl k | inr k ↦ inr (ap suc k.0, k.1) ]

  pub slot-filled : (slots : List (Option X)) (r q : ℕ) (x y : X) → slot (filled slots r x) q ≡ Some y → (slot slots q ≡ Some y) ⊎ ((q ≡ r) × (x ≡ y))
  slot-filled slots r q x y e = by (slot slots r) e
    where
      by : (o : Option X) → slot (keep_first slots r x o) q ≡ Some y → (slot slots q ≡ Some y) ⊎ ((q ≡ r) × (x ≡ y))
      by None e = slot-set slots r q x y e
      by (Some z) e = inl e

  -- what is there stays where another slot or the same is filled
  pub filled-keeps : (slots : List (Option X)) (r q : ℕ) (x y : X) → slot slots q ≡ Some y → slot (filled slots r x) q ≡ Some y
  filled-keeps slots r q x y e = by (slot slots r) refl
    where
      set : (l : List (Option X)) (n k : ℕ) → slot l n ≡ None → slot l k ≡ Some y → slot (slice_set l n (Some x)) k ≡ Some y
      set [] n k none is = is
      set (z ∷ l) zero zero none is = absurd (none-some y (sym none ∙ is))
      set (z ∷ l) zero (suc k) none is = is
      set (z ∷ l) (suc n) zero none is = is
      set (z ∷ l) (suc n) (suc k) none is = set l n k none is

      by : (o : Option X) → slot slots r ≡ o → slot (keep_first slots r x o) q ≡ Some y
      by None none = set slots r q none e
      by (Some z) there = e
