-- A member that is found in a list of members with keys, where one of them is changed.
use Rattle.std.proofs.Common.{◌≡◌, ◌⊎◌, ◌∙◌, Bool, true, false, refl, sym, ap, inl, inr, List, Option, Some, None}
use Rattle.std.specs.Prelude.{option_map, find}
use Rattle.std.proofs.lemmas.Option.{same_Some}
use Rattle.mk_lists.specs.Changed.{change}
use Rattle.mk_lists.proofs.Changes.{find-change, find-change_other}

module _ {X K : Type 0} (is : K → X → Bool) (k : K) (f : X → X) (keeps : (n : K) (x : X) → is n (f x) ≡ is n x)
    (decide : (n : K) → (n ≡ k) ⊎ ((x : X) → is k x ≡ true → is n x ≡ false)) where
  -- there, as it was or changed
  abbrev pub Was : K → X → X → Type 0
  Was n x y = (y ≡ x) ⊎ ((n ≡ k) × (y ≡ f x))

  at_key : (xs : List X) (n : K) (o : Option X) → n ≡ k → find (is n) xs ≡ o → find (is n) (change (is k) f xs) ≡ option_map f o
  at_key xs n o same e =
      (λ i. find (is (same i)) (change (is k) f xs)) ∙ find-change (is k) f xs (keeps k) ∙ ap (option_map f) ((λ i. find (is (sym same i)) xs) ∙ e)

  pub kept : (xs : List X) (n : K) (x : X) → find (is n) xs ≡ Some x → (y : X) × (find (is n) (change (is k) f xs) ≡ Some y) × Was n x y
  kept xs n x e = elim (decide n) [
    | inl same ↦ (f x, at_key xs n (Some x) same e, inr (same, refl))
    | inr apart ↦ (x, find-change_other (is k) (is n) f xs apart (keeps n) ∙ e, inl refl)
  ]

  pub back : (xs : List X) (n : K) (y : X) → find (is n) (change (is k) f xs) ≡ Some y → (x : X) × (find (is n) xs ≡ Some x) × Was n x y
  back xs n y e = by (find (is n) xs) refl
    where
      none : find (is n) xs ≡ None → find (is n) (change (is k) f xs) ≡ None
      none q = elim (decide n) [ inl same ↦ at_key xs n None same q | inr apart ↦ find-change_other (is k) (is n) f xs apart (keeps n) ∙ q ]

      moved : (x z : X) → z ≡ y → Was n x z → Was n x y
      moved x z q (inl s) = inl (sym q ∙ s)
      moved x z q (inr s) = inr (s.0, sym q ∙ s.1)

      by : (o : Option X) → find (is n) xs ≡ o → (x : X) × (find (is n) xs ≡ Some x) × Was n x y
      by None q = absurd (let p = none q in cc (p, e))
      by (Some x) q = let z = kept xs n x q in (x, q, moved x z.0 (same_Some z.0 y (sym z.1 ∙ e)) z.2)
