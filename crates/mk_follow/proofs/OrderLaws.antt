-- Entries in order of stamp: where one goes, and how many lie at or below a stamp.
use Rattle.std.proofs.Common.{◌≡◌, ℕ, zero, suc, ◌+◌, ◌<◌, ◌≤◌, Bool, true, false, cond, not, refl, sym, ap, subst, ◌∙◌, inl, inr, arith, List, [], ◌∷◌, length, get_or, nat_lt}
use Rattle.std.proofs.lemmas.Bool.{not-true}
use Rattle.std.proofs.lemmas.Bool.Decides.{nat_tests}
use Rattle.std.specs.List.{insert}
use Rattle.std.specs.List.Sorted.{IsPartitionedBy}
use Rattle.mk_lists.specs.Among.{Among, Each, Each-among, Each-weaker}
use Rattle.mk_lists.proofs.Members.{Among-get_or}
use Rattle.mk_txn.specs.declared.Stamp.{Stamp}
use Rattle.mk_txn.specs.Stamps.{is_before}
use Rattle.mk_txn.proofs.StampOrder.{not_before-through, is_before-up, is_before-not_back}
use Rattle.mk_follow.specs.Orders.{IsAscending, placed, count_upto}
use Rattle.mk_follow.proofs.Counting.{count-cons, none-more, one-more}

-- an entry lies at or below this stamp
abbrev pub is_low : Stamp → Stamp × ℕ → Bool
is_low stamp entry = not (is_before stamp entry.0)

pub ascending-at : (xs : List (Stamp × ℕ)) (i j : ℕ) (d : Stamp × ℕ) → IsAscending xs → i < j → j < length xs → is_before (get_or xs j d).0 (get_or xs i d).0 ≡ false
ascending-at [] i j d h lt within = absurd (omega (arith, within))
ascending-at (x ∷ xs) i zero d h lt within = absurd (omega (arith, lt))
ascending-at (x ∷ xs) zero (suc j) d h lt within =
    Each-among (λ later. is_before later.0 x.0 ≡ false) (get_or xs j d) xs h.0 (Among-get_or xs j d (omega (arith, within)))
ascending-at (x ∷ xs) (suc i) (suc j) d h lt within = ascending-at xs i j d h.1 (omega (arith, lt)) (omega (arith, within))

low-down : (stamp a b : Stamp) → is_before b a ≡ false → not (is_before stamp b) ≡ true → not (is_before stamp a) ≡ true
low-down stamp a b e low = ap not (not_before-through stamp b a (not-true (is_before stamp b) low) e)

-- those at or below a stamp stand at the front
pub IsPartitionedBy-low : (stamp : Stamp) (xs : List (Stamp × ℕ)) → IsAscending xs → IsPartitionedBy (is_low stamp) xs
IsPartitionedBy-low stamp xs h i j d le within e = by_place (nat_lt i j) refl
  where
    by_place : (b : Bool) → nat_lt i j ≡ b → is_low stamp (get_or xs i d) ≡ true
    by_place true f = low-down stamp (get_or xs i d).0 (get_or xs j d).0 (ascending-at xs i j d h (grind (arith, nat_tests, f)) within) e
    by_place false f = let same : i ≡ j = grind (arith, nat_tests, f, le) in subst (λ k. is_low stamp (get_or xs k d) ≡ true) (sym same) e

-- ---- an entry put at its place

pub Each-placed : (P : Stamp × ℕ → Type 0) (x : Stamp × ℕ) (xs : List (Stamp × ℕ)) → P x → Each P xs → Each P (placed x xs)
Each-placed P x [] px h = (px, tt)
Each-placed P x (y ∷ ys) px h = by (is_before x.0 y.0) (Each-placed P x ys px h.1)
  where
    by : (b : Bool) → Each P (placed x ys) → Each P (cond b (x ∷ (y ∷ ys)) (y ∷ placed x ys))
    by true more = (px, h)
    by false more = (h.0, more)

pub Among-placed : (z x : Stamp × ℕ) (xs : List (Stamp × ℕ)) → Among z xs → Among z (placed x xs)
Among-placed z x [] a = absurd a
Among-placed z x (y ∷ ys) a = by (Among-placed z x ys) (is_before x.0 y.0) a
  where
    by : (Among z ys → Among z (placed x ys)) → (b : Bool) → Among z (y ∷ ys) → Among z (cond b (x ∷ (y ∷ ys)) (y ∷ placed x ys))
    by again true a = inr a
    by again false (inl e) = inl e
    by again false (inr a) = inr (again a)

pub Among-placed_itself : (x : Stamp × ℕ) (xs : List (Stamp × ℕ)) → Among x (placed x xs)
Among-placed_itself x [] = inl refl
Among-placed_itself x (y ∷ ys) = by (Among-placed_itself x ys) (is_before x.0 y.0)
  where
    by : Among x (placed x ys) → (b : Bool) → Among x (cond b (x ∷ (y ∷ ys)) (y ∷ placed x ys))
    by again true = inl refl
    by again false = inr again

pub IsAscending-placed : (x : Stamp × ℕ) (xs : List (Stamp × ℕ)) → IsAscending xs → IsAscending (placed x xs)
IsAscending-placed x [] h = (tt, tt)
IsAscending-placed x (y ∷ ys) h = by (IsAscending-placed x ys h.1) (is_before x.0 y.0) refl
  where
    by : IsAscending (placed x ys) → (b : Bool) → is_before x.0 y.0 ≡ b → IsAscending (cond b (x ∷ (y ∷ ys)) (y ∷ placed x ys))
    by again true e =
        let first : is_before y.0 x.0 ≡ false = is_before-not_back x.0 y.0 e in
        ((first, Each-weaker (λ later. is_before later.0 y.0 ≡ false) (λ later. is_before later.0 x.0 ≡ false) (λ later f. not_before-through later.0 y.0 x.0 f first) ys h.0), h)
    by again false e = (Each-placed (λ later. is_before later.0 y.0 ≡ false) x ys e h.0, again)

-- one more, where it is at or below the stamp
pub count_upto-placed : (stamp : Stamp) (x : Stamp × ℕ) (xs : List (Stamp × ℕ)) → count_upto stamp (placed x xs) ≡ count_upto stamp xs + cond (is_low stamp x) 1 0
count_upto-placed stamp x [] = refl
count_upto-placed stamp x (y ∷ ys) = by (count_upto-placed stamp x ys) (is_before x.0 y.0)
  where
    sums : (a b c : ℕ) → a + (b + c) ≡ (a + b) + c
    sums a b c = omega arith

    swap : (a b : ℕ) → a + b ≡ b + a
    swap a b = omega arith

    by : count_upto stamp (placed x ys) ≡ count_upto stamp ys + cond (is_low stamp x) 1 0 → (b : Bool)
        → count_upto stamp (cond b (x ∷ (y ∷ ys)) (y ∷ placed x ys)) ≡ count_upto stamp (y ∷ ys) + cond (is_low stamp x) 1 0
    by again true = count-cons (is_low stamp) x (y ∷ ys) ∙ swap (cond (is_low stamp x) 1 0) (count_upto stamp (y ∷ ys))
    by again false =
        count-cons (is_low stamp) y (placed x ys)
        ∙ ap (λ n. cond (is_low stamp y) 1 0 + n) again
        ∙ sums (cond (is_low stamp y) 1 0) (count_upto stamp ys) (cond (is_low stamp x) 1 0)
        ∙ ap (λ n. n + cond (is_low stamp x) 1 0) (sym (count-cons (is_low stamp) y ys))

none_low : (stamp : Stamp) (xs : List (Stamp × ℕ)) → Each (λ later. is_before stamp later.0 ≡ true) xs → count_upto stamp xs ≡ 0
none_low stamp [] h = refl
none_low stamp (x ∷ xs) h = count-cons (is_low stamp) x xs ∙ ap (λ b. cond (not b) 1 0 + count_upto stamp xs) h.0 ∙ none-more (count_upto stamp xs) ∙ none_low stamp xs h.1

-- it goes behind all that lie at or below its stamp
pub placed-insert : (x : Stamp × ℕ) (xs : List (Stamp × ℕ)) → IsAscending xs → insert xs (count_upto x.0 xs) x ≡ placed x xs
placed-insert x [] h = refl
placed-insert x (y ∷ ys) h = by (placed-insert x ys h.1) (is_before x.0 y.0) refl
  where
    by : insert ys (count_upto x.0 ys) x ≡ placed x ys → (b : Bool) → is_before x.0 y.0 ≡ b → insert (y ∷ ys) (count_upto x.0 (y ∷ ys)) x ≡ cond b (x ∷ (y ∷ ys)) (y ∷ placed x ys)
    by again true e =
        let all : Each (λ later. is_before x.0 later.0 ≡ true) (y ∷ ys) =
        (e, Each-weaker (λ later. is_before later.0 y.0 ≡ false) (λ later. is_before x.0 later.0 ≡ true) (λ later f. is_before-up x.0 y.0 later.0 e f) ys h.0) in
        ap (λ n. insert (y ∷ ys) n x) (none_low x.0 (y ∷ ys) all)
    by again false e =
        ap (λ n. insert (y ∷ ys) n x) (count-cons (is_low x.0) y ys ∙ ap (λ b. cond (not b) 1 0 + count_upto x.0 ys) e ∙ one-more (count_upto x.0 ys))
        ∙ ap (λ zs. y ∷ zs) again

-- the first of them are those at or below the stamp
pub count-at : (stamp : Stamp) (xs : List (Stamp × ℕ)) (k : ℕ) (d : Stamp × ℕ) → IsAscending xs
    → (k < count_upto stamp xs → is_low stamp (get_or xs k d) ≡ true) × (count_upto stamp xs ≤ k → k < length xs → is_low stamp (get_or xs k d) ≡ false)
count-at stamp [] k d h = ((λ lt. absurd (omega (arith, lt))), (λ le lt. absurd (omega (arith, lt))))
count-at stamp (x ∷ xs) k d h = by (λ j. count-at stamp xs j d h.1) (is_before stamp x.0) refl k
  where
    by : ((j : ℕ) → (j < count_upto stamp xs → is_low stamp (get_or xs j d) ≡ true) × (count_upto stamp xs ≤ j → j < length xs → is_low stamp (get_or xs j d) ≡ false))
        → (b : Bool) → is_before stamp x.0 ≡ b → (k : ℕ) →
        (k < count_upto stamp (x ∷ xs) → is_low stamp (get_or (x ∷ xs) k d) ≡ true) × (count_upto stamp (x ∷ xs) ≤ k → k < length (x ∷ xs) → is_low stamp (get_or (x ∷ xs) k d) ≡ false)
    by again true e k =
        let all : Each (λ later. is_before stamp later.0 ≡ true) (x ∷ xs) =
        (e, Each-weaker (λ later. is_before later.0 x.0 ≡ false) (λ later. is_before stamp later.0 ≡ true) (λ later f. is_before-up stamp x.0 later.0 e f) xs h.0) in
        let none : count_upto stamp (x ∷ xs) ≡ 0 = none_low stamp (x ∷ xs) all in
        ((λ lt. absurd (omega (arith, lt, none))), (λ le lt. ap not (Each-among (λ later. is_before stamp later.0 ≡ true) (get_or (x ∷ xs) k d) (x ∷ xs) all (Among-get_or (x ∷ xs) k d lt))))
    by again false e zero =
        let one : count_upto stamp (x ∷ xs) ≡ 1 + count_upto stamp xs = count-cons (is_low stamp) x xs ∙ ap (λ b. cond (not b) 1 0 + count_upto stamp xs) e in
        ((λ lt. ap not e), (λ le lt. absurd (omega (arith, le, one))))
    by again false e (suc k) =
        let one : count_upto stamp (x ∷ xs) ≡ 1 + count_upto stamp xs = count-cons (is_low stamp) x xs ∙ ap (λ b. cond (not b) 1 0 + count_upto stamp xs) e in
        let rest = again k in
        ((λ lt. rest.0 (omega (arith, lt, one))), (λ le lt. rest.1 (omega (arith, le, one)) (omega (arith, lt))))
