-- What is found in a list after each change, and tests on what is found.
use Rattle.std.proofs.Common.{◌≡◌, ◌⊎◌, ◌∙◌, inl, inr, map, if◌then◌else◌, ℕ, zero, suc, Bool, true, false, refl, sym, subst, ap, arith, List, [], ◌∷◌, ◌++◌, Option, Some, None, cond, ◌&&◌, ◌||◌, not}
use Rattle.std.specs.Prelude.{option_map, find, slice_get, ◌==◌}
use Rattle.std.specs.List.{list_any}
use Rattle.std.proofs.lemmas.Bool.Decides.{nat_tests}
use Rattle.std.proofs.lemmas.Option.{same_Some}
use Rattle.std.proofs.lemmas.List.Folds.{list_any-append}
use Rattle.mk_txn.specs.declared.TxnId.{TxnId}
use Rattle.mk_txn.specs.Transactions.{same_id}
use Rattle.mk_lists.specs.Changed.{change}
use Rattle.mk_lists.specs.Among.{Each}
use Rattle.mk_quorum.specs.Slots.{passes}

pub passes-from_some : {X : Type 0} (p : X → Bool) (o : Option X) (x : X) → o ≡ Some x → p x ≡ true → passes p o ≡ true
passes-from_some {X} p o x e t = subst (λ (y : Option X). passes p y ≡ true) (sym e) t

pub any-right : {X : Type 0} (p : X → Bool) (xs ys : List X) → list_any p ys ≡ true → list_any p (xs ++ ys) ≡ true
any-right p xs ys e = let h = list_any-append p xs ys in by (list_any p xs) (list_any p ys) (list_any p (xs ++ ys)) h e
  where
    by : (a b c : Bool) → c ≡ (a || b) → b ≡ true → c ≡ true
    by true b c h k = h
    by false b c h k = h ∙ k

pub any-neither : {X : Type 0} (p : X → Bool) (xs ys : List X) → list_any p xs ≡ false → list_any p ys ≡ false → list_any p (xs ++ ys) ≡ false
any-neither p xs ys e f = let h = list_any-append p xs ys in grind (arith, e, f, h)

-- what is found in a changed list comes of what was found
pub changed_from : {X : Type 0} (p q : X → Bool) (f : X → X) (xs : List X) (y : X) → ((x : X) → q (f x) ≡ q x) → find q (change p f xs) ≡ Some y →
    (x : X) × (find q xs ≡ Some x) × ((y ≡ x) ⊎ (y ≡ f x))
changed_from p q f [] y same e = absurd (cc e)
changed_from {X} p q f (x ∷ xs) y same e = by (changed_from p q f xs y same) (q x) refl (p x) e
  where
    Result : Bool → Type 0
    Result b = (z : X) × (cond b (Some x) (find q xs) ≡ Some z) × ((y ≡ z) ⊎ (y ≡ f z))

    by_head : (find q (change p f xs) ≡ Some y → (z : X) × (find q xs ≡ Some z) × ((y ≡ z) ⊎ (y ≡ f z))) → (b : Bool) → q x ≡ b → (t : Bool) → (w : X) → (w ≡ (if t then f x else x)) → q w ≡ b →
        cond (q w) (Some w) (find q (change p f xs)) ≡ Some y → Result b
    by_head again true j true w v r z = (x, refl, inr (same_Some y (f x) (sym z ∙ ap (λ (b : Bool). cond b (Some w) (find q (change p f xs))) r ∙ ap (λ (u : X). Some u) v)))
    by_head again true j false w v r z = (x, refl, inl (same_Some y x (sym z ∙ ap (λ (b : Bool). cond b (Some w) (find q (change p f xs))) r ∙ ap (λ (u : X). Some u) v)))
    by_head again false j t w v r z = again (sym (ap (λ (b : Bool). cond b (Some w) (find q (change p f xs))) r) ∙ z)

    by : (find q (change p f xs) ≡ Some y → (z : X) × (find q xs ≡ Some z) × ((y ≡ z) ⊎ (y ≡ f z))) → (b : Bool) → q x ≡ b → (t : Bool) →
        cond (q (if t then f x else x)) (Some (if t then f x else x)) (find q (change p f xs)) ≡ Some y → Result b
    by again b j true z = by_head again b j true (f x) refl (same x ∙ j) z
    by again b j false z = by_head again b j false x refl j z

-- where nothing was found, nothing is found in the changed list
pub none_changed : {X : Type 0} (p q : X → Bool) (f : X → X) (xs : List X) → ((x : X) → q (f x) ≡ q x) → find q xs ≡ None → find q (change p f xs) ≡ None
none_changed p q f [] same e = refl
none_changed p q f (x ∷ xs) same e = grind (arith, same x, none_changed p q f xs same)

pub each_map : {X Y : Type 0} (P : Y → Type 0) (g : X → Y) → ((x : X) → P (g x)) → (xs : List X) → Each P (map g xs)
each_map P g h [] = tt
each_map P g h (x ∷ xs) = (h x, each_map P g h xs)

pub member-slice_get : {X : Type 0} (P : X → Type 0) (xs : List X) (k : ℕ) (x : X) → Each P xs → slice_get xs k ≡ Some x → P x
member-slice_get P [] k x h e = absurd (cc e)
member-slice_get {X} P (y ∷ ys) zero x h e = let same : y ≡ x = cc e in subst P same h.0
member-slice_get P (y ∷ ys) (suc k) x h e = member-slice_get P ys k x h.1 e
