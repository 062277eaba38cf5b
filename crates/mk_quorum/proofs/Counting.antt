-- Counts over one more number, over fewer, and over sets of replicas.
use Rattle.std.proofs.Common.{◌≡◌, ◌∙◌, ◌<◌, ◌≤◌, ◌+◌, ℕ, zero, suc, Bool, true, false, refl, sym, ap, arith, List, ◌∷◌, length, count_by, if◌then◌else◌, zero-add}
use Rattle.std.proofs.lemmas.List.Recursion.{is_count_by}
use Rattle.mk_quorum.specs.Counts.{count_below}
use Rattle.mk_quorum.specs.ReplicaSets.{has_replica, number_of}

-- equal tests have equal counts
pub count_below-same : (n : ℕ) (p q : ℕ → Bool) → ((r : ℕ) → r < n → p r ≡ q r) → count_below n p ≡ count_below n q
count_below-same zero p q h = refl
count_below-same (suc n) p q h = grind (arith, count_below-same n p q (λ r lt. h r (omega (arith, lt))), h n (omega arith))

-- a weaker test has no smaller count
pub count_below-weaker : (n : ℕ) (p q : ℕ → Bool) → ((r : ℕ) → r < n → p r ≡ true → q r ≡ true) → count_below n p ≤ count_below n q
count_below-weaker zero p q h = omega arith
count_below-weaker (suc n) p q h = grind (arith, count_below-weaker n p q (λ r lt. h r (omega (arith, lt))), h n (omega arith))

-- the first number apart from the others
pub count_below-first : (n : ℕ) (p : ℕ → Bool) → count_below (suc n) p ≡ (if p 0 then 1 else 0) + count_below n (λ r. p (suc r))
count_below-first zero p = refl
count_below-first (suc n) p = grind (arith, count_below-first n p)

one_more : (present : Bool) (set : List Bool) → count_below (length (present ∷ set)) (has_replica (present ∷ set)) ≡ (if present then 1 + count_below (length set) (has_replica set) else count_below (length set) (has_replica set))
one_more true set = count_below-first (length set) (has_replica (true ∷ set))
one_more false set = count_below-first (length set) (has_replica (false ∷ set)) ∙ zero-add (count_below (length set) (has_replica set))

-- the count over a list that tells of each number is how many of its members are true
pub count_below-list : (set : List Bool) → count_below (length set) (has_replica set) ≡ count_by (λ present. present) set
count_below-list set = is_count_by (λ list. count_below (length list) (has_replica list)) (λ present. present) refl one_more set

-- of a set as the code keeps it
pub number_of-list : (set : List Bool) → length set ≡ 7 → number_of set ≡ count_by (λ present. present) set
number_of-list set e = ap (λ n. count_below n (has_replica set)) (sym e) ∙ count_below-list set
