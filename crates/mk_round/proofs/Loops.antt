-- Lists that are made or changed place by place.
use Rattle.std.proofs.Common.{◌≡◌, ◌<◌, ◌≤◌, ℕ, zero, suc, ◌+◌, refl, arith, inl, inr, sym, ap, subst, ◌∙◌, List, [], ◌∷◌, ◌++◌, Some, length, map, take, drop, add-one}
use Rattle.std.specs.Prelude.{slice_get, slice_set}
use Rattle.std.proofs.lemmas.Bool.{cases_eq}
use Rattle.std.proofs.lemmas.List.{length-set}
use Rattle.std.proofs.lemmas.Option.{same_Some, slice_get_within}
use Rattle.mk_lists.proofs.Places.{slice_get-set_same, slice_get-set_other}

module _ {X : Type 0} where
  -- what each place has, and the place behind the last, each has with one member more
  pub push_places : (P : ℕ → X → Type 0) (xs : List X) (x : X) → ((c : ℕ) (y : X) → slice_get xs c ≡ Some y → P c y) → P (length xs) x →
      (c : ℕ) (y : X) → slice_get (xs ++ x ∷ []) c ≡ Some y → P c y
  push_places P [] x has new zero y at = subst (P 0) (same_Some x y at) new
  push_places P [] x has new (suc c) y at = absurd (cc at)
  push_places P (z ∷ xs) x has new zero y at = has 0 y at
  push_places P (z ∷ xs) x has new (suc c) y at = push_places (λ k. P (suc k)) xs x (λ k w a. has (suc k) w a) new c y at

  -- a list whose members before this place were changed
  pub record AreChanging (R : X → X → Type 0) (i : ℕ) (olds news : List X) : Type 0 where
    pub all : length news ≡ length olds
    pub before : (k : ℕ) (old new : X) → k < i → slice_get olds k ≡ Some old → slice_get news k ≡ Some new → R old new
    pub after : (k : ℕ) → i ≤ k → slice_get news k ≡ slice_get olds k

  module _ (R : X → X → Type 0) where
    pub changing_first : (xs : List X) → AreChanging R 0 xs xs
    changing_first xs = record { all = refl; before = λ k old new lt. absurd (omega (arith, lt)); after = λ k le. refl }

    -- the next member is as it was
    pub changing_here : (i : ℕ) (olds news : List X) (x : X) → AreChanging R i olds news → slice_get news i ≡ Some x → slice_get olds i ≡ Some x
    changing_here i olds news x h at = sym (h.after i (omega arith)) ∙ at

    -- and is changed
    pub changing_more : (i : ℕ) (olds news : List X) (x y : X) → AreChanging R i olds news → i < length news → slice_get news i ≡ Some x → R x y → AreChanging R (i + 1) olds (slice_set news i y)
    changing_more i olds news x y h within at step =
        record {
          all = length-set news i y ∙ h.all;
          before = λ k old new lt here there. elim (cases_eq k i) [
            | inl same ↦ (
                let old_is : Some x ≡ Some old = sym (changing_here i olds news x h at) ∙ ap (slice_get olds) (sym same) ∙ here in
                let new_is : Some y ≡ Some new = sym (slice_get-set_same news i y within) ∙ ap (slice_get (slice_set news i y)) (sym same) ∙ there in
                subst (λ o. R o new) (same_Some x old old_is) (subst (R x) (same_Some y new new_is) step)
                )
            | inr apart ↦ h.before k old new (omega (arith, lt, apart)) here (sym (slice_get-set_other news i k y apart) ∙ there)
          ];
          after = λ k le. slice_get-set_other news i k y (λ same. omega (arith, le, same)) ∙ h.after k (omega (arith, le));
        }

    -- in the end all are
    pub changing_all : (i : ℕ) (olds news : List X) → AreChanging R i olds news → length olds ≤ i → (k : ℕ) (old new : X) →
        slice_get olds k ≡ Some old → slice_get news k ≡ Some new → R old new
    changing_all i olds news h past k old new here there =
        let within = slice_get_within olds k old here in
        h.before k old new (omega (arith, within, past)) here there

  -- a list of which all was handed back
  pub whole_again : (olds news : List X) (n : ℕ) → length news ≡ length olds → n ≡ length olds → take n (news ++ drop (length news) olds) ≡ news
  whole_again [] [] zero same count = refl
  whole_again [] [] (suc n) same count = refl
  whole_again [] (new ∷ news) n same count = absurd (omega (arith, same))
  whole_again (old ∷ olds) [] n same count = absurd (omega (arith, same))
  whole_again (old ∷ olds) (new ∷ news) zero same count = absurd (omega (arith, count))
  whole_again (old ∷ olds) (new ∷ news) (suc n) same count = ap (λ (xs : List X). new ∷ xs) (whole_again olds news n (omega (arith, same)) (omega (arith, count)))

  -- one member more is taken
  pub take_next : (xs : List X) (i : ℕ) (x : X) → slice_get xs i ≡ Some x → take (i + 1) xs ≡ take i xs ++ x ∷ []
  take_next xs i x at = ap (λ k. take k xs) (add-one i) ∙ by xs i at
    where
      by : (ys : List X) (k : ℕ) → slice_get ys k ≡ Some x → take (suc k) ys ≡ take k ys ++ x ∷ []
      by [] k at = absurd (cc at)
      by (y ∷ ys) zero at = ap (λ (z : X). z ∷ []) (same_Some y x at)
      by (y ∷ ys) (suc k) at = ap (λ (zs : List X). y ∷ zs) (by ys k at)

  -- members that are images are those of a map
  pub as_map : (f : X → X) (olds news : List X) → length news ≡ length olds → ((k : ℕ) (old new : X) → slice_get olds k ≡ Some old → slice_get news k ≡ Some new → new ≡ f old) →
      news ≡ map f olds
  as_map f [] [] same each = refl
  as_map f [] (new ∷ news) same each = absurd (omega (arith, same))
  as_map f (old ∷ olds) [] same each = absurd (omega (arith, same))
  as_map f (old ∷ olds) (new ∷ news) same each =
      let here : new ≡ f old = each 0 old new refl refl in
      let rest : news ≡ map f olds = as_map f olds news (omega (arith, same)) (λ k o n a b. each (suc k) o n a b) in
      λ i. here i ∷ rest i
