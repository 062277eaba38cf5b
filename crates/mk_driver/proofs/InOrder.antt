-- A number is put into an ascending list before the first that is above it.
use Rattle.std.proofs.Common.{◌≡◌, ℕ, zero, suc, ◌<◌, ◌≤◌, Bool, true, false, List, [], ◌∷◌, ◌++◌, refl, ap, length, take, drop, slice_index, slice_index_or, nat_lt, arith, if◌then◌else◌}
use Rattle.std.proofs.lemmas.Bool.Decides.{nat_tests}
use Rattle.mk_lists.specs.Among.{Each, Each-weaker}
use Rattle.mk_driver.specs.Agenda.{in_order}
use Rattle.mk_driver.specs.Keeping.{IsAscending}

pub in_order_at : (number at : ℕ) (xs : List ℕ) → ((k : ℕ) → k < at → nat_lt number (slice_index xs k) ≡ false) → at ≤ length xs →
    (at < length xs → nat_lt number (slice_index xs at) ≡ true) → in_order number xs ≡ take at xs ++ number ∷ drop at xs
in_order_at number zero [] h k t = refl
in_order_at number (suc at) [] h k t = absurd (omega (arith, k))
in_order_at number zero (x ∷ xs) h k t = rw (t (omega arith)) refl
in_order_at number (suc at) (x ∷ xs) h k t =
    rw (h 0 (omega arith))
    (ap (λ ys. x ∷ ys) (in_order_at number at xs (λ j l. h (suc j) (omega (arith, l))) (omega (arith, k)) (λ l. t (omega (arith, l)))))

from : (number place : ℕ) (xs : List ℕ) → Each (λ other. number ≤ other) xs → place < length xs → number ≤ slice_index xs place
from number place [] h l = absurd (omega (arith, l))
from number zero (x ∷ xs) h l = h.0
from number (suc place) (x ∷ xs) h l = from number place xs h.1 (omega (arith, l))

-- an ascending list ascends from place to place
pub ascending-le : (j k : ℕ) (xs : List ℕ) → IsAscending xs → j ≤ k → k < length xs → slice_index xs j ≤ slice_index xs k
ascending-le j k [] h l m = absurd (omega (arith, m))
ascending-le zero zero (x ∷ xs) h l m = omega arith
ascending-le zero (suc k) (x ∷ xs) h l m = from x k xs h.0 (omega (arith, m))
ascending-le (suc j) zero (x ∷ xs) h l m = absurd (omega (arith, l))
ascending-le (suc j) (suc k) (x ∷ xs) h l m = ascending-le j k xs h.1 (omega (arith, l)) (omega (arith, m))

-- what stands before a number that is not above another is not above it either
pub before-place : (number at k : ℕ) (xs : List ℕ) → IsAscending xs → slice_index xs at ≤ number → at < length xs → k ≤ at → nat_lt number (slice_index xs k) ≡ false
before-place number at k xs h e l m =
    let low : slice_index xs k ≤ slice_index xs at = ascending-le k at xs h m l in
    grind (arith, nat_tests, low, e)

each-in : (low number : ℕ) (xs : List ℕ) → low ≤ number → Each (λ other. low ≤ other) xs → Each (λ other. low ≤ other) (in_order number xs)
each-in low number [] l h = (l, tt)
each-in low number (x ∷ xs) l h = by (nat_lt number x) (each-in low number xs l h.1)
  where
    by : (b : Bool) → Each (λ other. low ≤ other) (in_order number xs) → Each (λ other. low ≤ other) (if b then number ∷ (x ∷ xs) else x ∷ in_order number xs)
    by true k = (l, h)
    by false k = (h.0, k)

-- a number in its place leaves the list ascending
pub in_order-ascending : (number : ℕ) (xs : List ℕ) → IsAscending xs → IsAscending (in_order number xs)
in_order-ascending number [] h = (tt, tt)
in_order-ascending number (x ∷ xs) h = by (nat_lt number x) refl (in_order-ascending number xs h.1)
  where
    by : (b : Bool) → nat_lt number x ≡ b → IsAscending (in_order number xs) → IsAscending (if b then number ∷ (x ∷ xs) else x ∷ in_order number xs)
    by true e k =
        let l : number ≤ x = grind (arith, nat_tests, e) in
        ((l, Each-weaker (λ other. x ≤ other) (λ other. number ≤ other) (λ other m. omega (arith, l, m)) xs h.0), h)
    by false e k = let l : x ≤ number = grind (arith, nat_tests, e) in (each-in x number xs l h.0, k)

-- within the list the default counts for nothing
pub index-or : (place d : ℕ) (xs : List ℕ) → place < length xs → slice_index_or xs place d ≡ slice_index xs place
index-or place d [] l = absurd (omega (arith, l))
index-or zero d (x ∷ xs) l = refl
index-or (suc place) d (x ∷ xs) l = index-or place d xs (omega (arith, l))
