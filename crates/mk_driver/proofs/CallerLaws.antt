-- Clients found and changed by place and by number, where their numbers rise.
use Rattle.std.proofs.Common.{◌≡◌, ◌<◌, ◌≤◌, ℕ, zero, suc, Bool, true, false, ◌≢◌, List, [], ◌∷◌, Some, None, refl, sym, subst, ap, ◌∙◌, arith, length, find, slice_get, slice_set, slice_index, slice_index_or, nat_lt, IsSomeAnd}
use Rattle.std.proofs.lemmas.Bool.Decides.{nat_tests}
use Rattle.mk_lists.specs.Among.{Each}
use Rattle.mk_lists.specs.Changed.{change}
use Rattle.mk_driver.specs.declared.Caller.{Caller}
use Rattle.mk_driver.specs.Agenda.{is_caller}
use Rattle.mk_driver.specs.Keeping.{IsRising, numbers_of}

pub length-numbers : (xs : List Caller) → length (numbers_of xs) ≡ length xs
length-numbers [] = refl
length-numbers (x ∷ xs) = ap suc (length-numbers xs)

-- where none has the number, none is changed
unchanged : (number : ℕ) (f : Caller → Caller) (xs : List Caller) → Each (λ other. number < other) (numbers_of xs) → change (is_caller number) f xs ≡ xs
unchanged number f [] h = refl
unchanged number f (x ∷ xs) h = let e : is_caller number x ≡ false = grind (arith, nat_tests, h.0) in rw e (ap (λ ys. x ∷ ys) (unchanged number f xs h.1))

pub above : (number place : ℕ) (xs : List ℕ) → Each (λ other. number < other) xs → place < length xs → number < slice_index xs place
above number place [] h l = absurd (omega (arith, l))
above number zero (x ∷ xs) h l = h.0
above number (suc place) (x ∷ xs) h l = above number place xs h.1 (omega (arith, l))

-- rising numbers rise from place to place
pub rising-le : (j k : ℕ) (xs : List ℕ) → IsRising xs → j ≤ k → k < length xs → slice_index xs j ≤ slice_index xs k
rising-le j k [] h l m = absurd (omega (arith, m))
rising-le zero zero (x ∷ xs) h l m = omega arith
rising-le zero (suc k) (x ∷ xs) h l m = let low = above x k xs h.0 (omega (arith, m)) in omega (arith, low)
rising-le (suc j) zero (x ∷ xs) h l m = absurd (omega (arith, l))
rising-le (suc j) (suc k) (x ∷ xs) h l m = rising-le j k xs h.1 (omega (arith, l)) (omega (arith, m))

-- the one client of its number is changed in its place
pub change-at : (number place : ℕ) (f : Caller → Caller) (d : Caller) (xs : List Caller) → IsRising (numbers_of xs) → place < length xs →
    slice_index (numbers_of xs) place ≡ number → change (is_caller number) f xs ≡ slice_set xs place (f (slice_index_or xs place d))
change-at number place f d [] h l e = absurd (omega (arith, l))
change-at number zero f d (x ∷ xs) h l e =
    let t : is_caller number x ≡ true = grind (arith, nat_tests, e) in
    let rest : change (is_caller number) f xs ≡ xs = rw (← e) (unchanged x.number f xs h.0) in
    rw (t, rest) refl
change-at number (suc place) f d (x ∷ xs) h l e =
    let low : x.number < slice_index (numbers_of xs) place = above x.number place (numbers_of xs) h.0 (omega (arith, l, length-numbers xs)) in
    let t : is_caller number x ≡ false = grind (arith, nat_tests, low, e) in
    rw t (ap (λ ys. x ∷ ys) (change-at number place f d xs h.1 (omega (arith, l)) e))

-- the same, of a client that stands there
pub change-here : (place : ℕ) (f : Caller → Caller) (caller : Caller) (xs : List Caller) → IsRising (numbers_of xs) → slice_get xs place ≡ Some caller →
    change (is_caller caller.number) f xs ≡ slice_set xs place (f caller)
change-here place f caller [] h e = absurd (cc e)
change-here zero f caller (x ∷ xs) h e =
    let s : x ≡ caller = cc e in
    let t : is_caller x.number x ≡ true = grind (arith, nat_tests) in
    subst (λ c. change (is_caller c.number) f (x ∷ xs) ≡ f c ∷ xs) s (rw t (ap (λ ys. f x ∷ ys) (unchanged x.number f xs h.0)))
change-here (suc place) f caller (x ∷ xs) h e =
    let low : x.number < caller.number = under x.number place caller xs h.0 e in
    let t : is_caller caller.number x ≡ false = grind (arith, nat_tests, low) in
    rw t (ap (λ ys. x ∷ ys) (change-here place f caller xs h.1 e))
  where
    under : (number place : ℕ) (caller : Caller) (xs : List Caller) → Each (λ other. number < other) (numbers_of xs) → slice_get xs place ≡ Some caller → number < caller.number
    under number place caller [] h e = absurd (cc e)
    under number zero caller (x ∷ xs) h e = let s : x ≡ caller = cc e in rw (← s) h.0
    under number (suc place) caller (x ∷ xs) h e = under number place caller xs h.1 e

-- the client of this number is the one that stands there
pub find-at : (number place : ℕ) (d : Caller) (xs : List Caller) → IsRising (numbers_of xs) → place < length xs →
    slice_index (numbers_of xs) place ≡ number → find (is_caller number) xs ≡ Some (slice_index_or xs place d)
find-at number place d [] h l e = absurd (omega (arith, l))
find-at number zero d (x ∷ xs) h l e = let t : is_caller number x ≡ true = grind (arith, nat_tests, e) in rw t refl
find-at number (suc place) d (x ∷ xs) h l e =
    let low : x.number < slice_index (numbers_of xs) place = above x.number place (numbers_of xs) h.0 (omega (arith, l, length-numbers xs)) in
    let t : is_caller number x ≡ false = grind (arith, nat_tests, low, e) in
    rw t (find-at number place d xs h.1 (omega (arith, l)) e)

-- where each place has another number, no client has it
pub find-none : (number : ℕ) (xs : List Caller) → ((k : ℕ) → k < length xs → slice_index (numbers_of xs) k ≢ number) → find (is_caller number) xs ≡ None
find-none number [] h = refl
find-none number (x ∷ xs) h =
    let t : is_caller number x ≡ false = grind (arith, nat_tests, h 0 (omega arith)) in
    rw t (find-none number xs (λ k l. h (suc k) (omega (arith, l))))

-- and none is changed
pub change-none : (number : ℕ) (f : Caller → Caller) (xs : List Caller) → find (is_caller number) xs ≡ None → change (is_caller number) f xs ≡ xs
change-none number f [] e = refl
change-none number f (x ∷ xs) e = by (is_caller number x) refl (change-none number f xs)
  where
    by : (b : Bool) → is_caller number x ≡ b → (find (is_caller number) xs ≡ None → change (is_caller number) f xs ≡ xs) →
        change (is_caller number) f (x ∷ xs) ≡ x ∷ xs
    by true t k = let w : Some x ≡ None = rw t at e in absurd (cc w)
    by false t k = let w : find (is_caller number) xs ≡ None = rw t at e in rw t (ap (λ ys. x ∷ ys) (k w))

-- a client in the place of another of its number leaves the numbers
pub numbers-set : (place : ℕ) (y d : Caller) (xs : List Caller) → place < length xs → y.number ≡ (let old = slice_index_or xs place d in old.number) →
    numbers_of (slice_set xs place y) ≡ numbers_of xs
numbers-set place y d [] l e = absurd (omega (arith, l))
numbers-set zero y d (x ∷ xs) l e = rw e refl
numbers-set (suc place) y d (x ∷ xs) l e = ap (λ ns. x.number ∷ ns) (numbers-set place y d xs (omega (arith, l)) e)

pub rising-set : (place : ℕ) (y d : Caller) (xs : List Caller) → IsRising (numbers_of xs) → place < length xs → y.number ≡ (let old = slice_index_or xs place d in old.number) →
    IsRising (numbers_of (slice_set xs place y))
rising-set place y d xs h l e = rw (numbers-set place y d xs l e) h

pub get-index : (place : ℕ) (d caller : Caller) (xs : List Caller) → slice_get xs place ≡ Some caller → slice_index_or xs place d ≡ caller
get-index place d caller [] e = absurd (cc e)
get-index zero d caller (x ∷ xs) e = cc e
get-index (suc place) d caller (x ∷ xs) e = get-index place d caller xs e

-- what a function of the client at a place gives is put there
pub set-as : (xs ys : List Caller) (place : ℕ) (f : Caller → Caller) (d y : Caller) → xs ≡ ys → d ≡ slice_index_or xs place d → y ≡ f d →
    slice_set xs place y ≡ slice_set ys place (f (slice_index_or ys place d))
set-as xs ys place f d y v e k =
    rw k (subst (λ zs. slice_set xs place (f d) ≡ slice_set zs place (f (slice_index_or zs place d))) v (ap (λ c. slice_set xs place (f c)) e))

-- and so it is changed in the list
pub set-here : (xs ys : List Caller) (place : ℕ) (f : Caller → Caller) (d y caller : Caller) → xs ≡ ys → IsRising (numbers_of xs) → d ≡ slice_index_or xs place d → y ≡ f d →
    slice_get ys place ≡ Some caller → slice_set xs place y ≡ change (is_caller caller.number) f ys
set-here xs ys place f d y caller v h e k g =
    subst (λ zs. slice_get zs place ≡ Some caller → slice_set xs place y ≡ change (is_caller caller.number) f zs) v
    (λ (q : slice_get xs place ≡ Some caller).
    let same : d ≡ caller = e ∙ get-index place d caller xs q in
    rw k (ap (λ c. slice_set xs place (f c)) same ∙ sym (change-here place f caller xs h q))) g

-- a client of the same number in its place
pub rising-as : (xs ys : List Caller) (place : ℕ) (d y : Caller) → xs ≡ ys → IsRising (numbers_of xs) → place < length ys → d ≡ slice_index_or xs place d → y.number ≡ d.number →
    IsRising (numbers_of (slice_set xs place y))
rising-as xs ys place d y v h l e k =
    rising-set place y d xs h (subst (λ zs. place < length zs) (sym v) l) (k ∙ ap (λ (c : Caller). c.number) e)

-- a place is below the lower bound or from the upper one on
pub none-here : (number low high : ℕ) (xs : List Caller) → high ≤ low → ((k : ℕ) → k < low → slice_index (numbers_of xs) k < number) →
    ((k : ℕ) → high ≤ k → k < length xs → number < slice_index (numbers_of xs) k) → find (is_caller number) xs ≡ None
none-here number low high xs h below above = find-none number xs (λ k l. by k l (nat_lt k low) refl)
  where
    by : (k : ℕ) → k < length xs → (b : Bool) → nat_lt k low ≡ b → slice_index (numbers_of xs) k ≢ number
    by k l true e = let m : k < low = grind (arith, nat_tests, e) in λ q. omega (arith, below k m, q)
    by k l false e = let m : high ≤ k = grind (arith, nat_tests, e, h) in λ q. omega (arith, above k m l, q)

pub there-within : (place : ℕ) (xs : List Caller) (P : Caller → Type 0) → IsSomeAnd (slice_get xs place) P → place < length xs
there-within place [] P h = absurd h
there-within zero (x ∷ xs) P h = omega arith
there-within (suc place) (x ∷ xs) P h = omega (arith, there-within place xs P h)
