-- Counts over slots that stand in a list, and slots of a longer list.
use Rattle.std.proofs.Common.{◌≡◌, ◌∙◌, ◌<◌, ◌+◌, ℕ, Bool, true, false, refl, sym, ap, ◌≤◌, List, ◌∷◌, length, count_by, take, if◌then◌else◌, zero-add}
use Rattle.std.specs.Prelude.{Option, Some, None}
use Rattle.std.proofs.lemmas.List.Recursion.{is_count_by}
use Rattle.std.proofs.Math.Seq.{take-set-lt}
use Rattle.std.proofs.lemmas.List.{get_or-take, take-replicate}
use Rattle.mk_quorum.proofs.Counting.{count_below-first}
use Rattle.mk_quorum.specs.Slots.{slot, empty_slots, passes, count_slots, filled, keep_first}

one_more : {X : Type 0} (p : X → Bool) (x : Option X) (slots : List (Option X)) →
    count_slots (length (x ∷ slots)) p (x ∷ slots) ≡ (if passes p x then 1 + count_slots (length slots) p slots else count_slots (length slots) p slots)
one_more p x slots = by_test (passes p x) (count_slots (length slots) p slots) (count_below-first (length slots) (λ r. passes p (slot (x ∷ slots) r)))
  where
    by_test : {n : ℕ} (b : Bool) (m : ℕ) → n ≡ (if b then 1 else 0) + m → n ≡ (if b then 1 + m else m)
    by_test true m e = e
    by_test false m e = e ∙ zero-add m

-- the count over the numbers is the count over the list
pub count_slots-list : {X : Type 0} (p : X → Bool) (slots : List (Option X)) → count_slots (length slots) p slots ≡ count_by (passes p) slots
count_slots-list p slots = is_count_by (λ list. count_slots (length list) p list) (passes p) refl (one_more p) slots

-- a slot among the first n is the same in the whole list
pub slot-take : {X : Type 0} (n : ℕ) (slots : List (Option X)) (r : ℕ) → r < n → slot (take n slots) r ≡ slot slots r
slot-take n slots r lt = get_or-take n slots r None lt

-- to fill one of the first n slots is to fill it in the whole list
pub filled-take : {X : Type 0} (n : ℕ) (slots : List (Option X)) (r : ℕ) (x : X) → r < n → take n (filled slots r x) ≡ filled (take n slots) r x
filled-take {X = X} n slots r x lt = by_slot (slot slots r) ∙ ap (keep_first (take n slots) r x) (sym (slot-take n slots r lt))
  where
    by_slot : (before : Option X) → take n (keep_first slots r x before) ≡ keep_first (take n slots) r x before
    by_slot None = take-set-lt n slots r (Some x) lt
    by_slot (Some before) = refl

-- nothing stands in the first n of at least n empty slots
pub empty-take : {X : Type 0} (n : ℕ) (slots : List (Option X)) → n ≤ 7 → slots ≡ empty_slots 7 → take n slots ≡ empty_slots n
empty-take n slots le e = ap (take n) e ∙ take-replicate n 7 None le

-- the same where it is known how many slots there are
pub slots_counted : {X : Type 0} (n : ℕ) (p : X → Bool) (slots : List (Option X)) → length slots ≡ n → count_slots n p slots ≡ count_by (passes p) slots
slots_counted n p slots e = ap (λ k. count_slots k p slots) (sym e) ∙ count_slots-list p slots
