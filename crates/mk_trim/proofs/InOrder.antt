-- Outcomes in order of attempt: the place of an attempt, what stands there, and what keeps the order.
use Rattle.std.proofs.Common.{◌≡◌, ◌∙◌, ◌<◌, ◌≤◌, ℕ, zero, suc, Bool, true, false, refl, sym, ap, subst, arith, [], ◌∷◌, length, get_or, filter, not, nat_lt, Some, None, if◌then◌else◌}
use Rattle.std.proofs.lemmas.Bool.{false≢true}
use Rattle.std.proofs.lemmas.Bool.Decides.{nat_tests}
use Rattle.std.specs.List.{insert}
use Rattle.std.specs.List.Sorted.{IsPartitionedBy, IsPartitionPoint}
use Rattle.mk_lists.specs.Among.{Each, Each-weaker}
use Rattle.mk_txn.specs.declared.TxnId.{TxnId}
use Rattle.mk_txn.specs.declared.Outcome.{Outcome}
use Rattle.mk_txn.specs.declared.Outcome.TheVariants.{Commit}
use Rattle.mk_txn.specs.Transactions.{same_id, id_before}
use Rattle.mk_txn.specs.MarkMaps.{MarkMap, covers}
use Rattle.mk_txn.proofs.IdOrder.{id_before-through, id_before-not_same, id_before-turned, same_id-tells}
use Rattle.mk_words.specs.KeptOutcomes.{Outcomes, AreInIdOrder, put_outcome, outcome_of, not_covered}
use Rattle.mk_trim.specs.Places.{place_of, has_outcome}

-- ---- by place

Each-at : (P : TxnId × Outcome → Type 0) (xs : Outcomes) (k : ℕ) (d : TxnId × Outcome) → Each P xs → k < length xs → P (get_or xs k d)
Each-at P [] k d h lt = absurd (omega (arith, lt))
Each-at P (x ∷ xs) zero d h lt = h.0
Each-at P (x ∷ xs) (suc k) d h lt = Each-at P xs k d h.1 (omega (arith, lt))

ordered_at : (xs : Outcomes) (i j : ℕ) (d : TxnId × Outcome) → AreInIdOrder xs → i < j → j < length xs → id_before (get_or xs i d).0 (get_or xs j d).0 ≡ true
ordered_at [] i j d h lt within = absurd (omega (arith, within))
ordered_at (x ∷ xs) i zero d h lt within = absurd (omega (arith, lt))
ordered_at (x ∷ xs) zero (suc j) d h lt within = Each-at (λ later. id_before x.0 later.0 ≡ true) xs j d h.0 (omega (arith, within))
ordered_at (x ∷ xs) (suc i) (suc j) d h lt within = ordered_at xs i j d h.1 (omega (arith, lt)) (omega (arith, within))

-- those before an attempt stand at the front
pub IsPartitionedBy-id : (id : TxnId) (xs : Outcomes) → AreInIdOrder xs → IsPartitionedBy (λ outcome. id_before outcome.0 id) xs
IsPartitionedBy-id id xs h i j d le within e = by_place (nat_lt i j) refl
  where
    by_place : (b : Bool) → nat_lt i j ≡ b → id_before (get_or xs i d).0 id ≡ true
    by_place true f = id_before-through (get_or xs i d).0 (get_or xs j d).0 id (ordered_at xs i j d h (grind (arith, nat_tests, f)) within) e
    by_place false f = let same : i ≡ j = grind (arith, nat_tests, f, le) in subst (λ k. id_before (get_or xs k d).0 id ≡ true) (sym same) e

place_of-fits : (id : TxnId) (xs : Outcomes) → place_of id xs ≤ length xs
place_of-fits id [] = omega arith
place_of-fits id (x ∷ xs) = by_order (place_of-fits id xs) (id_before x.0 id)
  where
    by_order : place_of id xs ≤ length xs → (b : Bool) → (if b then suc (place_of id xs) else 0) ≤ suc (length xs)
    by_order more true = omega (arith, more)
    by_order more false = omega arith

before_place : (id : TxnId) (xs : Outcomes) (k : ℕ) (d : TxnId × Outcome) → k < place_of id xs → id_before (get_or xs k d).0 id ≡ true
before_place id [] k d lt = absurd (omega (arith, lt))
before_place id (x ∷ xs) k d lt = by_order k (λ j. before_place id xs j d) (id_before x.0 id) refl lt
  where
    by_order : (k : ℕ) → ((j : ℕ) → j < place_of id xs → id_before (get_or xs j d).0 id ≡ true) → (b : Bool) → id_before x.0 id ≡ b →
        k < (if b then suc (place_of id xs) else 0) → id_before (get_or (x ∷ xs) k d).0 id ≡ true
    by_order zero more true e lt = e
    by_order (suc k) more true e lt = more k (omega (arith, lt))
    by_order zero more false e lt = absurd (omega (arith, lt))
    by_order (suc k) more false e lt = absurd (omega (arith, lt))

at_place : (id : TxnId) (xs : Outcomes) (d : TxnId × Outcome) → place_of id xs < length xs → id_before (get_or xs (place_of id xs) d).0 id ≡ false
at_place id [] d lt = absurd (omega (arith, lt))
at_place id (x ∷ xs) d lt = by_order (at_place id xs d) (id_before x.0 id) refl lt
  where
    by_order : (place_of id xs < length xs → id_before (get_or xs (place_of id xs) d).0 id ≡ false) → (b : Bool) → id_before x.0 id ≡ b →
        (if b then suc (place_of id xs) else 0) < suc (length xs) → id_before (get_or (x ∷ xs) (if b then suc (place_of id xs) else 0) d).0 id ≡ false
    by_order more true e lt = more (omega (arith, lt))
    by_order more false e lt = e

nobody : TxnId × Outcome
nobody = (record { client = 0; seq = 0 }, Commit)

-- the place that a search by halves finds
pub place_of-unique : (id : TxnId) (xs : Outcomes) (r : ℕ) → r ≤ length xs →
    IsPartitionPoint (λ outcome. id_before outcome.0 id ≡ true) (λ outcome. id_before outcome.0 id ≡ false) xs r → r ≡ place_of id xs
place_of-unique id xs r fits h =
    let low : r < place_of id xs → ⊥ =
    λ lt. false≢true (sym (h.1 r nobody (omega arith) (omega (arith, lt, place_of-fits id xs))) ∙ before_place id xs r nobody lt) in
    let high : place_of id xs < r → ⊥ =
    λ lt. false≢true (sym (at_place id xs nobody (omega (arith, lt, fits))) ∙ h.0 (place_of id xs) nobody (omega arith) lt) in
    grind (arith, low, high)

-- ---- what stands at the place

not_after : (id : TxnId) (xs : Outcomes) → Each (λ later. same_id later.0 id ≡ false) xs → outcome_of id xs ≡ None
not_after id [] h = refl
not_after id (x ∷ xs) h = ap (λ b. if b then Some x.1 else outcome_of id xs) h.0 ∙ not_after id xs h.1

-- after an attempt that is not before this one, all are others
others_after : (id : TxnId) (x : TxnId × Outcome) (xs : Outcomes) → id_before x.0 id ≡ false → Each (λ later. id_before x.0 later.0 ≡ true) xs →
    Each (λ later. same_id later.0 id ≡ false) xs
others_after id x xs e h =
    Each-weaker (λ later. id_before x.0 later.0 ≡ true) (λ later. same_id later.0 id ≡ false) (λ later k. other later k (same_id later.0 id) refl) xs h
  where
    other : (later : TxnId × Outcome) → id_before x.0 later.0 ≡ true → (b : Bool) → same_id later.0 id ≡ b → b ≡ false
    other later k true f = absurd (false≢true (sym e ∙ subst (λ other. id_before x.0 other ≡ true) (same_id-tells later.0 id f) k))
    other later k false f = refl

-- ---- an outcome put at its place

put_outcome-has : (id : TxnId) (outcome : Outcome) (xs : Outcomes) →
    put_outcome id outcome xs ≡ (if has_outcome id xs then xs else insert xs (place_of id xs) (id, outcome))
put_outcome-has id outcome [] = refl
put_outcome-has id outcome (x ∷ xs) = by_order (put_outcome-has id outcome xs) (id_before x.0 id)
  where
    by_there : (t : Bool) →
        x ∷ (if t then xs else insert xs (place_of id xs) (id, outcome)) ≡ (if t then x ∷ xs else insert (x ∷ xs) (suc (place_of id xs)) (id, outcome))
    by_there true = refl
    by_there false = refl

    by_same : (c : Bool) → (if c then x ∷ xs else (id, outcome) ∷ x ∷ xs) ≡ (if c then x ∷ xs else insert (x ∷ xs) 0 (id, outcome))
    by_same true = refl
    by_same false = refl

    by_order : put_outcome id outcome xs ≡ (if has_outcome id xs then xs else insert xs (place_of id xs) (id, outcome)) → (b : Bool) → (if b then x ∷ put_outcome id outcome xs else (if same_id x.0 id then x ∷ xs else (id, outcome) ∷ x ∷ xs)) ≡ (if (if b then has_outcome id xs else same_id x.0 id) then x ∷ xs else insert (x ∷ xs) (if b then suc (place_of id xs) else 0) (id, outcome))
    by_order more true = ap (λ ys. x ∷ ys) more ∙ by_there (has_outcome id xs)
    by_order more false = by_same (same_id x.0 id)

has_outcome-at : (id : TxnId) (xs : Outcomes) (d : TxnId × Outcome) → place_of id xs < length xs →
    has_outcome id xs ≡ same_id (get_or xs (place_of id xs) d).0 id
has_outcome-at id [] d lt = absurd (omega (arith, lt))
has_outcome-at id (x ∷ xs) d lt = by_order (has_outcome-at id xs d) (id_before x.0 id) lt
  where
    by_order : (place_of id xs < length xs → has_outcome id xs ≡ same_id (get_or xs (place_of id xs) d).0 id) → (b : Bool) →
        (if b then suc (place_of id xs) else 0) < suc (length xs) →
        (if b then has_outcome id xs else same_id x.0 id) ≡ same_id (get_or (x ∷ xs) (if b then suc (place_of id xs) else 0) d).0 id
    by_order more true lt = more (omega (arith, lt))
    by_order more false lt = refl

has_outcome-past : (id : TxnId) (xs : Outcomes) → length xs ≤ place_of id xs → has_outcome id xs ≡ false
has_outcome-past id [] le = refl
has_outcome-past id (x ∷ xs) le = by_order (has_outcome-past id xs) (id_before x.0 id) le
  where
    by_order : (length xs ≤ place_of id xs → has_outcome id xs ≡ false) → (b : Bool) → suc (length xs) ≤ (if b then suc (place_of id xs) else 0) →
        (if b then has_outcome id xs else same_id x.0 id) ≡ false
    by_order more true le = more (omega (arith, le))
    by_order more false le = absurd (omega (arith, le))

-- the outcome of an attempt that has one, at its place
outcome_of-has : (id : TxnId) (xs : Outcomes) (d : TxnId × Outcome) → AreInIdOrder xs →
    outcome_of id xs ≡ (if has_outcome id xs then Some (get_or xs (place_of id xs) d).1 else None)
outcome_of-has id [] d h = refl
outcome_of-has id (x ∷ xs) d h = by_order (outcome_of-has id xs d h.1) (id_before x.0 id) refl
  where
    by_same : id_before x.0 id ≡ false → (c : Bool) → (if c then Some x.1 else outcome_of id xs) ≡ (if c then Some x.1 else None)
    by_same e true = refl
    by_same e false = not_after id xs (others_after id x xs e h.0)

    by_order : outcome_of id xs ≡ (if has_outcome id xs then Some (get_or xs (place_of id xs) d).1 else None) → (b : Bool) → id_before x.0 id ≡ b → outcome_of id (x ∷ xs) ≡ (if (if b then has_outcome id xs else same_id x.0 id) then Some (get_or (x ∷ xs) (if b then suc (place_of id xs) else 0) d).1 else None)
    by_order more true e = ap (λ b. if b then Some x.1 else outcome_of id xs) (id_before-not_same x.0 id e) ∙ more
    by_order more false e = by_same e (same_id x.0 id)

-- ---- the same, at a number that is the place

pub has_outcome-there : (id : TxnId) (xs : Outcomes) (place : ℕ) (d : TxnId × Outcome) → place ≡ place_of id xs → place < length xs →
    same_id (get_or xs place d).0 id ≡ has_outcome id xs
has_outcome-there id xs place d e lt = ap (λ k. same_id (get_or xs k d).0 id) e ∙ sym (has_outcome-at id xs d (subst (λ k. k < length xs) e lt))

pub has_outcome-none : (id : TxnId) (xs : Outcomes) (place : ℕ) → place ≡ place_of id xs → length xs ≤ place → nat_lt place (length xs) ≡ has_outcome id xs
has_outcome-none id xs place e le =
    let past : nat_lt place (length xs) ≡ false = grind (arith, nat_tests, le) in
    past ∙ sym (has_outcome-past id xs (subst (λ k. length xs ≤ k) e le))

pub outcome_of-there : (id : TxnId) (xs : Outcomes) (place : ℕ) (d : TxnId × Outcome) (b : Bool) → AreInIdOrder xs → place ≡ place_of id xs →
    b ≡ has_outcome id xs → (if b then Some (get_or xs place d).1 else None) ≡ outcome_of id xs
outcome_of-there id xs place d b h e f =
    ap (λ k. if b then Some (get_or xs k d).1 else None) e
    ∙ ap (λ c. if c then Some (get_or xs (place_of id xs) d).1 else None) f
    ∙ sym (outcome_of-has id xs d h)

pub put_outcome-there : (id : TxnId) (outcome : Outcome) (xs : Outcomes) (place : ℕ) (b : Bool) → place ≡ place_of id xs → b ≡ has_outcome id xs →
    (if b then xs else insert xs place (id, outcome)) ≡ put_outcome id outcome xs
put_outcome-there id outcome xs place b e f =
    ap (λ k. if b then xs else insert xs k (id, outcome)) e
    ∙ ap (λ c. if c then xs else insert xs (place_of id xs) (id, outcome)) f
    ∙ sym (put_outcome-has id outcome xs)

-- ---- what keeps the order

pub Each-put : (P : TxnId × Outcome → Type 0) (id : TxnId) (outcome : Outcome) (xs : Outcomes) → P (id, outcome) → Each P xs →
    Each P (put_outcome id outcome xs)
Each-put P id outcome [] p h = (p, tt)
Each-put P id outcome (x ∷ xs) p h = by_order (Each-put P id outcome xs p h.1) (id_before x.0 id) (same_id x.0 id)
  where
    by_order : Each P (put_outcome id outcome xs) → (b c : Bool) →
        Each P (if b then x ∷ put_outcome id outcome xs else (if c then x ∷ xs else (id, outcome) ∷ x ∷ xs))
    by_order more true c = (h.0, more)
    by_order more false true = h
    by_order more false false = (p, h)

pub AreInIdOrder-put : (id : TxnId) (outcome : Outcome) (xs : Outcomes) → AreInIdOrder xs → AreInIdOrder (put_outcome id outcome xs)
AreInIdOrder-put id outcome [] h = (tt, tt)
AreInIdOrder-put id outcome (x ∷ xs) h = by_order (AreInIdOrder-put id outcome xs h.1) (id_before x.0 id) (same_id x.0 id) refl refl
  where
    by_order : AreInIdOrder (put_outcome id outcome xs) → (b c : Bool) → id_before x.0 id ≡ b → same_id x.0 id ≡ c →
        AreInIdOrder (if b then x ∷ put_outcome id outcome xs else (if c then x ∷ xs else (id, outcome) ∷ x ∷ xs))
    by_order more true c e f = (Each-put (λ later. id_before x.0 later.0 ≡ true) id outcome xs e h.0, more)
    by_order more false true e f = h
    by_order more false false e f =
        let first : id_before id x.0 ≡ true = id_before-turned x.0 id e f in
        ((first, Each-weaker (λ later. id_before x.0 later.0 ≡ true) (λ later. id_before id later.0 ≡ true) (λ later k. id_before-through id x.0 later.0 first k) xs h.0), h)

Each-filter : (P : TxnId × Outcome → Type 0) (p : TxnId × Outcome → Bool) (xs : Outcomes) → Each P xs → Each P (filter p xs)
Each-filter P p [] h = tt
Each-filter P p (x ∷ xs) h = by_test (Each-filter P p xs h.1) (p x)
  where
    by_test : Each P (filter p xs) → (b : Bool) → Each P (if b then x ∷ filter p xs else filter p xs)
    by_test more true = (h.0, more)
    by_test more false = more

pub AreInIdOrder-filter : (p : TxnId × Outcome → Bool) (xs : Outcomes) → AreInIdOrder xs → AreInIdOrder (filter p xs)
AreInIdOrder-filter p [] h = tt
AreInIdOrder-filter p (x ∷ xs) h = by_test (AreInIdOrder-filter p xs h.1) (p x)
  where
    by_test : AreInIdOrder (filter p xs) → (b : Bool) → AreInIdOrder (if b then x ∷ filter p xs else filter p xs)
    by_test more true = (Each-filter (λ later. id_before x.0 later.0 ≡ true) p xs h.0, more)
    by_test more false = more

-- what is not covered is not covered
pub Each-not_covered : (marks : MarkMap) (xs : Outcomes) → Each (λ outcome. covers marks outcome.0 ≡ false) (not_covered marks xs)
Each-not_covered marks [] = tt
Each-not_covered marks (x ∷ xs) = by_test (Each-not_covered marks xs) (covers marks x.0) refl
  where
    by_test : Each (λ outcome. covers marks outcome.0 ≡ false) (not_covered marks xs) → (b : Bool) → covers marks x.0 ≡ b →
        Each (λ outcome. covers marks outcome.0 ≡ false) (if not b then x ∷ not_covered marks xs else not_covered marks xs)
    by_test more true e = more
    by_test more false e = (e, more)
