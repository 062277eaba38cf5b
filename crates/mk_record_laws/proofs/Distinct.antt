-- Members with different attempts.
use Rattle.std.proofs.Common.{◌≡◌, ◌⊎◌, ◌∙◌, Bool, true, false, refl, inl, inr, sym, ap, subst, List, [], ◌∷◌, ◌++◌, Some, None, map, cond}
use Rattle.std.specs.Prelude.{find}
use Rattle.mk_lists.specs.Among.{Among, AllDistinct}
use Rattle.mk_lists.proofs.Members.{Among-map}
use Rattle.mk_txn.specs.declared.TxnId.{TxnId}
use Rattle.mk_txn.specs.Transactions.{same_id}
use Rattle.mk_txn.proofs.IdOrder.{same_id-itself, same_id-tells}

module _ {X : Type 0} (g : X → TxnId) where
  none_head : (id : TxnId) (x : X) (xs : List X) → find (λ (y : X). same_id (g y) id) (x ∷ xs) ≡ None → (same_id (g x) id ≡ false) × (find (λ (y : X). same_id (g y) id) xs ≡ None)
  none_head id x xs = by (same_id (g x) id)
    where
      by : (b : Bool) → cond b (Some x) (find (λ (y : X). same_id (g y) id) xs) ≡ None → (b ≡ false) × (find (λ (y : X). same_id (g y) id) xs ≡ None)
      by true e = absurd (cc e)
      by false e = (refl, e)

  pushed_among : (y : TxnId) (xs : List X) (new : X) → Among y (map g (xs ++ new ∷ [])) → Among y (map g xs) ⊎ (g new ≡ y)
  pushed_among y [] new (inl e) = inr e
  pushed_among y [] new (inr none) = absurd none
  pushed_among y (x ∷ xs) new (inl e) = inl (inl e)
  pushed_among y (x ∷ xs) new (inr a) = elim (pushed_among y xs new a) [ inl k ↦ inl (inr k) | inr k ↦ inr k ]

  -- one more, of an attempt that none is of
  pub distinct_push : (id : TxnId) (xs : List X) (new : X) → g new ≡ id → find (λ (y : X). same_id (g y) id) xs ≡ None → AllDistinct (map g xs) → AllDistinct (map g (xs ++ new ∷ []))
  distinct_push id [] new named none d = ((λ a. a), tt)
  distinct_push id (x ∷ xs) new named none d =
      let k = none_head id x xs none in
      (λ a. elim (pushed_among (g x) xs new a) [ inl there ↦ d.0 there | inr e ↦ not_id (g x) (sym e ∙ named) k.0 ], distinct_push id xs new named k.1 d.1)
    where
      not_id : (y : TxnId) → y ≡ id → same_id y id ≡ false → ⊥
      not_id y same apart = let itself : same_id y id ≡ true = subst (λ (z : TxnId). same_id z id ≡ true) (sym same) (same_id-itself id) in cc (itself, apart)

  -- then each member is the one that is found
  pub found_of : (xs : List X) → AllDistinct (map g xs) → (x : X) → Among x xs → find (λ (y : X). same_id (g y) (g x)) xs ≡ Some x
  found_of [] d x a = absurd a
  found_of (y ∷ xs) d x a = by (same_id (g y) (g x)) refl a (λ b. found_of xs d.1 x b)
    where
      by : (b : Bool) → same_id (g y) (g x) ≡ b → (y ≡ x) ⊎ Among x xs → (Among x xs → find (λ (z : X). same_id (g z) (g x)) xs ≡ Some x) → cond b (Some y) (find (λ (z : X). same_id (g z) (g x)) xs) ≡ Some x
      by true t (inl e) rest = ap Some e
      by true t (inr b) rest = absurd (d.0 (subst (λ (z : TxnId). Among z (map g xs)) (sym (same_id-tells (g y) (g x) t)) (Among-map g x xs b)))
      by false t (inl e) rest = absurd (let itself : same_id (g y) (g x) ≡ true = ap (λ (z : X). same_id (g z) (g x)) e ∙ same_id-itself (g x) in cc (itself, t))
      by false t (inr b) rest = rest b
