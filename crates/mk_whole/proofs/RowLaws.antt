-- Tables of rows of one length.
use Rattle.std.proofs.Common.{◌≡◌, ◌<◌, ◌≤◌, ℕ, zero, suc, sym, ap, ◌∙◌, arith, List, [], ◌∷◌, ◌++◌, length, map, get_or}
use Rattle.std.specs.Prelude.{slice_set, slice_index_or}
use Rattle.std.proofs.lemmas.List.{map-set}
use Rattle.mk_lists.specs.Among.{Each}
use Rattle.mk_whole.specs.Journals.{AreEven}
use Rattle.mk_whole.proofs.PairLaws.{mapped-at}

pub Each-at : {X : Type 0} (P : X → Type 0) (xs : List X) (i : ℕ) (d : X) → Each P xs → i < length xs → P (get_or xs i d)
Each-at P [] i d h within = absurd (omega (arith, within))
Each-at P (x ∷ xs) zero d h within = h.0
Each-at P (x ∷ xs) (suc i) d h within = Each-at P xs i d h.1 (omega (arith, within))

module _ {X Y : Type 0} (rows : List (List X)) (others : List (List Y)) (h : AreEven rows others) (i : ℕ) (row : List X) (other : List Y)
    (here : i < length rows) (there : i < length others) (row_is : row ≡ get_or rows i row) (other_is : other ≡ get_or others i other) where
  row_length : length row ≡ h.keys
  row_length = ap (λ (r : List X). length r) row_is ∙ Each-at (λ (r : List X). length r ≡ h.keys) rows i row h.each here

  other_length : length other ≡ h.keys
  other_length = ap (λ (r : List Y). length r) other_is ∙ Each-at (λ (r : List Y). length r ≡ h.keys) others i other h.other there

  pub row_few : length row ≤ 256
  row_few = omega (arith, row_length, h.few)

  pub row_same : length other ≡ length row
  row_same = other_length ∙ sym row_length

-- a row that was changed at one place, seen as its images
module _ {V X : Type 0} (items : V → List X) (vs : List V) (i : ℕ) (v d new : V) where
  pub push-at : (more : List X) → i < length vs → v ≡ get_or vs i d → items new ≡ items v ++ more →
      map items (slice_set vs i new) ≡ slice_set (map items vs) i (slice_index_or (map items vs) i [] ++ more)
  push-at more within v_is is =
      map-set items vs i new
      ∙ ap (slice_set (map items vs) i) (is ∙ ap (λ xs. xs ++ more) (sym (mapped-at items vs i v d [] within v_is)))
