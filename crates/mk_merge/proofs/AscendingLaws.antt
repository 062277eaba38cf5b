-- Lists along which stamps ascend: where they part, and what keeps the order.
use Rattle.std.proofs.Common.{◌≡◌, ℕ, zero, suc, ◌<◌, ◌≤◌, Bool, true, false, refl, sym, ap, ◌∙◌, arith, List, [], ◌∷◌, ◌++◌, length, get_or, take, drop, not, ◌||◌}
use Rattle.std.proofs.lemmas.Bool.Decides.{nat_tests}
use Rattle.std.proofs.lemmas.List.Sorted.{IsPermutation-insert, list_any-IsPermutation}
use Rattle.std.specs.List.{list_any, AllWithin, insert}
use Rattle.std.specs.List.Sorted.{IsPartitionedBy, IsPartitionPoint}
use Rattle.mk_lists.specs.Among.{Each, Each-append}
use Rattle.mk_txn.specs.declared.Stamp.{Stamp}
use Rattle.mk_txn.specs.Stamps.{is_before}
use Rattle.mk_merge.specs.Ascending.{AscendsBy}

-- ---- members by place

pub Each-at : {X : Type 0} (P : X → Type 0) (xs : List X) (k : ℕ) (d : X) → Each P xs → k < length xs → P (get_or xs k d)
Each-at P [] k d h lt = absurd (omega (arith, lt))
Each-at P (x ∷ xs) zero d h lt = h.0
Each-at P (x ∷ xs) (suc k) d h lt = Each-at P xs k d h.1 (omega (arith, lt))

Each-taken : {X : Type 0} (P : X → Type 0) (xs : List X) (n : ℕ) → Each P xs → Each P (take n xs)
Each-taken P xs zero h = tt
Each-taken P [] (suc n) h = tt
Each-taken P (x ∷ xs) (suc n) h = (h.0, Each-taken P xs n h.1)

Each-dropped : {X : Type 0} (P : X → Type 0) (xs : List X) (n : ℕ) → Each P xs → Each P (drop n xs)
Each-dropped P xs zero h = h
Each-dropped P [] (suc n) h = tt
Each-dropped P (x ∷ xs) (suc n) h = Each-dropped P xs n h.1

-- what holds up to a place, and from it on
pub Each-front : {X : Type 0} (P : X → Type 0) (xs : List X) (n : ℕ) → AllWithin P xs 0 n → Each P (take n xs)
Each-front P xs zero h = tt
Each-front P [] (suc n) h = tt
Each-front P (x ∷ xs) (suc n) h = (h 0 x (omega arith) (omega arith), Each-front P xs n (λ k d low lt. h (suc k) d (omega arith) (omega (arith, lt))))

pub Each-back : {X : Type 0} (P : X → Type 0) (xs : List X) (n : ℕ) → AllWithin P xs n (length xs) → Each P (drop n xs)
Each-back P [] zero h = tt
Each-back P (x ∷ xs) zero h = (h 0 x (omega arith) (omega arith), Each-back P xs zero (λ k d low lt. h (suc k) d (omega arith) (omega (arith, lt))))
Each-back P [] (suc n) h = tt
Each-back P (x ∷ xs) (suc n) h = Each-back P xs n (λ k d low lt. h (suc k) d (omega (arith, low)) (omega (arith, lt)))

-- ---- where a list parts

-- a test that, with a member, all in front of it pass
pub ascending-parts : {X : Type 0} (stamp_of : X → Stamp) (p : X → Bool) → ((x y : X) → is_before (stamp_of y) (stamp_of x) ≡ false → p y ≡ true → p x ≡ true) → (xs : List X) → AscendsBy stamp_of xs → IsPartitionedBy p xs
ascending-parts stamp_of p closed [] h i j d le within e = absurd (omega (arith, within))
ascending-parts stamp_of p closed (x ∷ xs) h zero zero d le within e = e
ascending-parts stamp_of p closed (x ∷ xs) h zero (suc j) d le within e = closed x (get_or xs j d) (Each-at (λ later. is_before (stamp_of later) (stamp_of x) ≡ false) xs j d h.0 (omega (arith, within))) e
ascending-parts stamp_of p closed (x ∷ xs) h (suc i) zero d le within e = absurd (omega (arith, le))
ascending-parts stamp_of p closed (x ∷ xs) h (suc i) (suc j) d le within e = ascending-parts stamp_of p closed xs h.1 i j d (omega (arith, le)) (omega (arith, within)) e

before-closed : (s a b : Stamp) → is_before b a ≡ false → is_before b s ≡ true → is_before a s ≡ true
before-closed s a b h e = grind (arith, nat_tests)

not_after-closed : (s a b : Stamp) → is_before b a ≡ false → not (is_before s b) ≡ true → not (is_before s a) ≡ true
not_after-closed s a b h e = grind (arith, nat_tests)

pub before-parts : {X : Type 0} (stamp_of : X → Stamp) (s : Stamp) (xs : List X) → AscendsBy stamp_of xs → IsPartitionedBy (λ x. is_before (stamp_of x) s) xs
before-parts stamp_of s xs h = ascending-parts stamp_of (λ x. is_before (stamp_of x) s) (λ x y. before-closed s (stamp_of x) (stamp_of y)) xs h

pub not_after-parts : {X : Type 0} (stamp_of : X → Stamp) (s : Stamp) (xs : List X) → AscendsBy stamp_of xs → IsPartitionedBy (λ x. not (is_before s (stamp_of x))) xs
not_after-parts stamp_of s xs h = ascending-parts stamp_of (λ x. not (is_before s (stamp_of x))) (λ x y. not_after-closed s (stamp_of x) (stamp_of y)) xs h

false-from_not : (b : Bool) → not b ≡ true → b ≡ false
false-from_not true e = absurd (cc e)
false-from_not false e = refl

true-from_not : (b : Bool) → not b ≡ false → b ≡ true
true-from_not true e = refl
true-from_not false e = absurd (cc e)

-- the same place without the negation
pub parts-plainly : {X : Type 0} (p : X → Bool) (xs : List X) (n : ℕ) → IsPartitionPoint (λ x. not (p x) ≡ true) (λ x. not (p x) ≡ false) xs n → IsPartitionPoint (λ x. p x ≡ false) (λ x. p x ≡ true) xs n
parts-plainly p xs n h = (λ k d low lt. false-from_not (p (get_or xs k d)) (h.0 k d low lt), λ k d low lt. true-from_not (p (get_or xs k d)) (h.1 k d low lt))

-- ---- what keeps the order

pub ascends-dropped : {X : Type 0} (stamp_of : X → Stamp) (xs : List X) (n : ℕ) → AscendsBy stamp_of xs → AscendsBy stamp_of (drop n xs)
ascends-dropped stamp_of xs zero h = h
ascends-dropped stamp_of [] (suc n) h = tt
ascends-dropped stamp_of (x ∷ xs) (suc n) h = ascends-dropped stamp_of xs n h.1

-- one in place of those between two places
pub ascends-replaced : {X : Type 0} (stamp_of : X → Stamp) (y : X) (i j : ℕ) (xs : List X) → i ≤ j
    → Each (λ x. is_before (stamp_of y) (stamp_of x) ≡ false) (take i xs) → Each (λ x. is_before (stamp_of x) (stamp_of y) ≡ false) (drop j xs)
    → AscendsBy stamp_of xs → AscendsBy stamp_of (take i xs ++ y ∷ drop j xs)
ascends-replaced stamp_of y zero j xs le low high h = (high, ascends-dropped stamp_of xs j h)
ascends-replaced stamp_of y (suc i) zero xs le low high h = absurd (omega (arith, le))
ascends-replaced stamp_of y (suc i) (suc j) [] le low high h = (tt, tt)
ascends-replaced stamp_of y (suc i) (suc j) (x ∷ xs) le low high h = (
  Each-append (λ later. is_before (stamp_of later) (stamp_of x) ≡ false) (take i xs) (y ∷ drop j xs) (Each-taken _ xs i h.0) (low.0, Each-dropped _ xs j h.0),
  ascends-replaced stamp_of y i j xs (omega (arith, le)) low.1 high h.1,
)

-- ---- what is found

or_turned : (a b : Bool) → (a || b) ≡ (b || a)
or_turned true true = refl
or_turned true false = refl
or_turned false true = refl
or_turned false false = refl

pub any-inserted : {X : Type 0} (p : X → Bool) (y : X) (xs : List X) (i : ℕ) → list_any p (insert xs i y) ≡ (list_any p xs || p y)
any-inserted p y xs i = sym (list_any-IsPermutation p (y ∷ xs) (insert xs i y) (IsPermutation-insert xs i y)) ∙ or_turned (p y) (list_any p xs)

or_within : (a b c : Bool) → (a ≡ true → c ≡ true) → (b || c) ≡ ((a || b) || c)
or_within true true c h = refl
or_within true false c h = h refl
or_within false b c h = refl

or_grouped : (a b c : Bool) → (a || (b || c)) ≡ ((a || b) || c)
or_grouped true b c = refl
or_grouped false b c = refl

-- one in place of those that pass only where it does
pub any-replaced : {X : Type 0} (p : X → Bool) (y : X) (P Q : X → Type 0) → ((x : X) → P x → Q x → p x ≡ true → p y ≡ true) → (i j : ℕ) (xs : List X) → i ≤ j → Each P (drop i xs) → Each Q (take j xs) → list_any p (take i xs ++ y ∷ drop j xs) ≡ (list_any p xs || p y)
any-replaced p y P Q f zero zero xs le h k = or_turned (p y) (list_any p xs)
any-replaced p y P Q f zero (suc j) [] le h k = or_turned (p y) false
any-replaced p y P Q f zero (suc j) (x ∷ xs) le h k = any-replaced p y P Q f zero j xs (omega arith) h.1 k.1 ∙ or_within (p x) (list_any p xs) (p y) (f x h.0 k.0)
any-replaced p y P Q f (suc i) zero xs le h k = absurd (omega (arith, le))
any-replaced p y P Q f (suc i) (suc j) [] le h k = or_turned (p y) false
any-replaced p y P Q f (suc i) (suc j) (x ∷ xs) le h k = ap (λ b. p x || b) (any-replaced p y P Q f i j xs (omega (arith, le)) h k.1) ∙ or_grouped (p x) (list_any p xs) (p y)
