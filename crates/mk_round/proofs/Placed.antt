-- Members of lists by place.
use Rattle.std.proofs.Common.{◌≡◌, ◌<◌, ℕ, zero, suc, ◌+◌, refl, arith, sym, ap, subst, ◌∙◌, List, [], ◌∷◌, Some, length, map}
use Rattle.std.specs.Prelude.{slice_get, slice_index_or}
use Rattle.std.proofs.lemmas.Option.{same_Some, slice_get_within}
use Rattle.mk_lists.specs.Among.{Each}
use Rattle.mk_model.specs.ColumnState.{numbers_from}
use Rattle.mk_column.specs.ColumnByCode.{ColumnView}
use Rattle.mk_run_laws.proofs.Joined.{slice_get-numbers}
use Rattle.mk_workers.specs.Crews.{AreNumbered}

module _ {X : Type 0} where
  -- there is a member at each place below the length
  pub place_of : (xs : List X) (c : ℕ) → c < length xs → (x : X) × (slice_get xs c ≡ Some x)
  place_of [] c lt = absurd (omega (arith, lt))
  place_of (x ∷ xs) zero lt = (x, refl)
  place_of (x ∷ xs) (suc c) lt = place_of xs c (omega (arith, lt))

  pub each_placed : (P : X → Type 0) (xs : List X) → ((c : ℕ) (x : X) → slice_get xs c ≡ Some x → P x) → Each P xs
  each_placed P [] has = tt
  each_placed P (x ∷ xs) has = (has 0 x refl, each_placed P xs (λ c y at. has (suc c) y at))

  pub each_here : (P : X → Type 0) (xs : List X) (c : ℕ) (x : X) → Each P xs → slice_get xs c ≡ Some x → P x
  each_here P [] c x each at = absurd (cc at)
  each_here P (y ∷ ys) zero x each at = subst P (same_Some y x at) each.0
  each_here P (y ∷ ys) (suc c) x each at = each_here P ys c x each.1 at

module _ {X Y : Type 0} (f : X → Y) where
  -- an image is that of the member at its place
  pub from_image : (xs : List X) (c : ℕ) (y : Y) → slice_get (map f xs) c ≡ Some y → (x : X) × (slice_get xs c ≡ Some x) × (y ≡ f x)
  from_image [] c y at = absurd (cc at)
  from_image (x ∷ xs) zero y at = (x, refl, cc at)
  from_image (x ∷ xs) (suc c) y at = from_image xs c y at

  pub to_image : (xs : List X) (c : ℕ) (x : X) → slice_get xs c ≡ Some x → slice_get (map f xs) c ≡ Some (f x)
  to_image [] c x at = absurd (cc at)
  to_image (y ∷ ys) zero x at = ap (λ (z : X). Some (f z)) (same_Some y x at)
  to_image (y ∷ ys) (suc c) x at = to_image ys c x at

  pub image_at : (xs : List X) (c : ℕ) (x : X) (d : Y) → slice_get xs c ≡ Some x → slice_index_or (map f xs) c d ≡ f x
  image_at [] c x d at = absurd (cc at)
  image_at (y ∷ ys) zero x d at = ap f (same_Some y x at)
  image_at (y ∷ ys) (suc c) x d at = image_at ys c x d at

-- numbers that count up from the first
pub numbers_placed : (k n : ℕ) (xs : List ℕ) → length xs ≡ n → ((c x : ℕ) → slice_get xs c ≡ Some x → x ≡ k + c) → xs ≡ numbers_from k n
numbers_placed k zero [] same each = refl
numbers_placed k (suc n) [] same each = absurd (omega (arith, same))
numbers_placed k zero (x ∷ xs) same each = absurd (omega (arith, same))
numbers_placed k (suc n) (x ∷ xs) same each =
    let first = each 0 x refl in
    let here : x ≡ k = omega (arith, first) in
    let rest : xs ≡ numbers_from (k + 1) n =
    numbers_placed (k + 1) n xs (omega (arith, same)) (λ c y at. let e = each (suc c) y at in omega (arith, e)) in
    λ i. here i ∷ rest i

-- columns whose numbers count up are numbered by place
pub numbered_as : (columns : List ColumnView) (n : ℕ) → map (λ (x : ColumnView). x.number) columns ≡ numbers_from 0 n → AreNumbered columns
numbered_as columns n numbers c column at =
    let number : slice_get (numbers_from 0 n) c ≡ Some column.number =
    ap (λ (ns : List ℕ). slice_get ns c) (sym numbers) ∙ to_image (λ (x : ColumnView). x.number) columns c column at in
    let below : c < n = subst (λ m. c < m) (numbers_length 0 n) (slice_get_within (numbers_from 0 n) c column.number number) in
    let same : Some column.number ≡ Some (0 + c) = sym number ∙ slice_get-numbers n 0 c below in
    let plain : column.number ≡ 0 + c = cc same in
    omega (arith, plain)
  where
    numbers_length : (k m : ℕ) → length (numbers_from k m) ≡ m
    numbers_length k zero = refl
    numbers_length k (suc m) = let e = numbers_length (k + 1) m in omega (arith, e)
