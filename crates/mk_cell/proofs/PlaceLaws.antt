-- Where the search for a stamp ends, and what stands there.
use Rattle.std.proofs.Common.{◌≡◌, ℕ, zero, suc, ◌<◌, ◌≤◌, Bool, true, false, refl, subst, arith, List, [], ◌∷◌, length, Some, None}
use Rattle.std.specs.Prelude.{slice_get, insert, remove}
use Rattle.mk_txn.specs.declared.Stamp.{Stamp}
use Rattle.mk_txn.specs.Stamps.{is_before, same_stamp}
use Rattle.mk_txn.proofs.StampOrder.{same_stamp-tells, is_before-itself, is_before-through, is_before-not_back}
use Rattle.mk_lists.specs.Among.{Each}
use Rattle.mk_words.proofs.PendingLaws.{below-through}
use Rattle.mk_words.specs.Pending.{joined, without, has_stamp, IsAscending, least_below, least_above}
use Rattle.mk_cell.specs.Searching.{place_above}

some_is : (x y : Stamp) → Some x ≡ Some y → x ≡ y
some_is x y e = cc

Each-at : (P : Stamp → Type 0) (x : Stamp) (xs : List Stamp) (k : ℕ) → Each P xs → slice_get xs k ≡ Some x → P x
Each-at P x [] k h e = absurd (cc e)
Each-at P x (y ∷ ys) zero h e = subst P (some_is y x e) h.0
Each-at P x (y ∷ ys) (suc k) h e = Each-at P x ys k h.1 e

pub place_above-within : (s : Stamp) (xs : List Stamp) → place_above s xs ≤ length xs
place_above-within s [] = grind arith
place_above-within s (x ∷ xs) = grind (arith, place_above-within s xs)

-- a later stamp stands at the place, or after it
pub place_above-until : (s x : Stamp) (xs : List Stamp) (k : ℕ) → slice_get xs k ≡ Some x → is_before s x ≡ true → place_above s xs ≤ k
place_above-until s x [] k e b = absurd (cc e)
place_above-until s x (y ∷ ys) zero e b = grind (arith, e, b)
place_above-until s x (y ∷ ys) (suc k) e b = grind (arith, place_above-until s x ys k e b)

no_earlier : (s x y : Stamp) → is_before s y ≡ true → is_before y x ≡ true → is_before s x ≡ false → ⊥
no_earlier s x y a b n = grind (arith, is_before-through s y x a b, n)

-- any other stamp stands before the place
pub place_above-past : (s x : Stamp) (xs : List Stamp) (k : ℕ) → IsAscending xs → slice_get xs k ≡ Some x → is_before s x ≡ false → k < place_above s xs
place_above-past s x [] k h e b = absurd (cc e)
place_above-past s x (y ∷ ys) zero h e b = grind (arith, e, b)
place_above-past s x (y ∷ ys) (suc k) h e b = grind (arith, place_above-past s x ys k h.1 e b, no_earlier s x y, Each-at (λ z. is_before y z ≡ true) x ys k h.0 e)

pub least_above-at : (s : Stamp) (xs : List Stamp) → least_above s xs ≡ slice_get xs (place_above s xs)
least_above-at s [] = refl
least_above-at s (x ∷ xs) = grind (arith, least_above-at s xs)

none_below : (s x : Stamp) (xs : List Stamp) → is_before x s ≡ false → Each (λ y. is_before x y ≡ true) xs → least_below s xs ≡ None
none_below s x [] b h = refl
none_below s x (y ∷ ys) b h = grind (arith, none_below s x ys b h.1, is_before-through x y s h.0)

-- the first stamp is the least
pub least_below-first : (s x : Stamp) (xs : List Stamp) → slice_get xs 0 ≡ Some x → is_before x s ≡ true → least_below s xs ≡ Some x
least_below-first s x [] e b = absurd (cc e)
least_below-first s x (y ∷ ys) e b = grind (arith, e, b)

pub least_below-none : (s x : Stamp) (xs : List Stamp) → IsAscending xs → slice_get xs 0 ≡ Some x → is_before x s ≡ false → least_below s xs ≡ None
least_below-none s x [] h e b = refl
least_below-none s x (y ∷ ys) h e b = grind (arith, e, b, none_below s y ys)

-- whether a stamp is there is seen at the place before
none_has : (s : Stamp) (xs : List Stamp) → Each (λ y. is_before s y ≡ true) xs → has_stamp s xs ≡ false
none_has s [] h = refl
none_has s (y ∷ ys) h = grind (arith, none_has s ys h.1, same_stamp-tells y s, is_before-itself s, h.0)

pub has_stamp-nowhere : (s : Stamp) (xs : List Stamp) → IsAscending xs → place_above s xs ≡ 0 → has_stamp s xs ≡ false
has_stamp-nowhere s [] h e = refl
has_stamp-nowhere s (x ∷ xs) h e = by (is_before s x) refl
  where
    by : (b : Bool) → is_before s x ≡ b → has_stamp s (x ∷ xs) ≡ false
    by true b = none_has s (x ∷ xs) (b, below-through s x xs b h.0)
    by false b = absurd (grind (arith, e, b))

place_above-first : (s x : Stamp) (xs : List Stamp) → same_stamp x s ≡ true → Each (λ y. is_before x y ≡ true) xs → place_above s xs ≡ 0
place_above-first s x [] e h = refl
place_above-first s x (y ∷ ys) e h = grind (arith, same_stamp-tells x s e, h.0)

pub has_stamp-here : (s x : Stamp) (xs : List Stamp) (k : ℕ) → IsAscending xs → place_above s xs ≡ suc k → slice_get xs k ≡ Some x → has_stamp s xs ≡ same_stamp x s
has_stamp-here s x [] k h p e = absurd (cc e)
has_stamp-here s x (y ∷ ys) zero h p e = grind (arith, p, e, has_stamp-nowhere s ys h.1)
has_stamp-here s x (y ∷ ys) (suc k) h p e = grind (arith, p, e, has_stamp-here s x ys k h.1, place_above-first s y ys)

-- what joining and leaving do, by places
pub joined-there : (s : Stamp) (xs : List Stamp) → IsAscending xs → has_stamp s xs ≡ true → joined s xs ≡ xs
joined-there s [] h e = absurd (cc e)
joined-there s (x ∷ xs) h e = grind (arith, joined-there s xs h.1, e, same_stamp-tells x s, is_before-itself s, is_before-not_back s x, none_has s xs, below-through s x xs)

pub joined-new : (s : Stamp) (xs : List Stamp) → has_stamp s xs ≡ false → joined s xs ≡ insert xs (place_above s xs) s
joined-new s [] e = refl
joined-new s (x ∷ xs) e = grind (arith, joined-new s xs, e)

pub without-none : (s : Stamp) (xs : List Stamp) → has_stamp s xs ≡ false → without s xs ≡ xs
without-none s [] e = refl
without-none s (x ∷ xs) e = grind (arith, without-none s xs, e)

pub without-there : (s : Stamp) (xs : List Stamp) (k : ℕ) → IsAscending xs → place_above s xs ≡ suc k → has_stamp s xs ≡ true → without s xs ≡ remove xs k
without-there s [] k h p e = absurd (cc e)
without-there s (x ∷ xs) zero h p e = grind (arith, p, e, without-none s xs, has_stamp-nowhere s xs h.1)
without-there s (x ∷ xs) (suc k) h p e = grind (arith, p, e, without-there s xs k h.1, place_above-first s x xs)
