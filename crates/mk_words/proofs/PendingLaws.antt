-- What joining and leaving do to a list of pending stamps.
use Rattle.std.proofs.Common.{◌≡◌, true, false, arith, List, [], ◌∷◌, None}
use Rattle.std.proofs.lemmas.Bool.Decides.{nat_tests}
use Rattle.mk_txn.specs.declared.Stamp.{Stamp}
use Rattle.mk_txn.specs.Stamps.{is_before, same_stamp}
use Rattle.mk_txn.proofs.StampOrder.{same_stamp-tells, same_stamp-itself, is_before-through}
use Rattle.mk_lists.specs.Among.{Each, Each-weaker}
use Rattle.mk_words.specs.Pending.{joined, without, has_stamp, IsAscending, least_below, least_above}

pub has_stamp-joined : (s : Stamp) (list : List Stamp) → has_stamp s (joined s list) ≡ true
has_stamp-joined s [] = grind (arith, same_stamp-itself s)
has_stamp-joined s (x ∷ xs) = grind (arith, has_stamp-joined s xs, same_stamp-itself s)

pub has_stamp-joined_kept : (s t : Stamp) (list : List Stamp) → has_stamp t list ≡ true → has_stamp t (joined s list) ≡ true
has_stamp-joined_kept s t [] h = absurd (cc h)
has_stamp-joined_kept s t (x ∷ xs) h = grind (arith, has_stamp-joined_kept s t xs)

same_stamp-apart : (x s t : Stamp) → same_stamp x s ≡ true → same_stamp t s ≡ false → same_stamp x t ≡ false
same_stamp-apart x s t h k = grind (arith, nat_tests)

-- another stamp stays
pub has_stamp-without : (s t : Stamp) (list : List Stamp) → same_stamp t s ≡ false → has_stamp t list ≡ true → has_stamp t (without s list) ≡ true
has_stamp-without s t [] e h = absurd (cc h)
has_stamp-without s t (x ∷ xs) e h = grind (arith, has_stamp-without s t xs e, same_stamp-apart x s t)

-- where no member lies above, none of the members is one that does
pub least_above-none : (s t : Stamp) (list : List Stamp) → least_above s list ≡ None → has_stamp t list ≡ true → is_before s t ≡ false
least_above-none s t [] e h = absurd (cc h)
least_above-none s t (x ∷ xs) e h = grind (arith, least_above-none s t xs, same_stamp-tells x t)

pub least_below-none : (s t : Stamp) (list : List Stamp) → least_below s list ≡ None → has_stamp t list ≡ true → is_before t s ≡ false
least_below-none s t [] e h = absurd (cc h)
least_below-none s t (x ∷ xs) e h = grind (arith, least_below-none s t xs, same_stamp-tells x t)

-- order
neither_before : (s x : Stamp) → is_before x s ≡ false → same_stamp x s ≡ false → is_before s x ≡ true
neither_before s x h k = grind (arith, nat_tests)

below-joined : (x s : Stamp) (list : List Stamp) → is_before x s ≡ true → Each (λ y. is_before x y ≡ true) list →
    Each (λ y. is_before x y ≡ true) (joined s list)
below-joined x s [] e h = (e, tt)
below-joined x s (y ∷ ys) e h = grind (arith, below-joined x s ys e h.1)

below-without : (x s : Stamp) (list : List Stamp) → Each (λ y. is_before x y ≡ true) list → Each (λ y. is_before x y ≡ true) (without s list)
below-without x s [] h = tt
below-without x s (y ∷ ys) h = grind (arith, below-without x s ys h.1)

pub below-through : (x s : Stamp) (list : List Stamp) → is_before x s ≡ true → Each (λ y. is_before s y ≡ true) list → Each (λ y. is_before x y ≡ true) list
below-through x s list e h = Each-weaker _ _ (λ y k. is_before-through x s y e k) list h

pub IsAscending-joined : (s : Stamp) (list : List Stamp) → IsAscending list → IsAscending (joined s list)
IsAscending-joined s [] h = (tt, tt)
IsAscending-joined s (x ∷ xs) h = grind (arith, IsAscending-joined s xs h.1, below-joined x s xs, below-through s x xs, neither_before s x)

pub IsAscending-without : (s : Stamp) (list : List Stamp) → IsAscending list → IsAscending (without s list)
IsAscending-without s [] h = tt
IsAscending-without s (x ∷ xs) h = grind (arith, IsAscending-without s xs h.1, below-without x s xs h.0)
