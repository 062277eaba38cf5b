-- Distinct numbers below n are at most n.
use Rattle.std.proofs.Common.{◌≡◌, ℕ, zero, suc, ◌<◌, ◌≤◌, Bool, true, false, cond, eqb, List, [], ◌∷◌, length, refl, ap, subst, inl, inr, arith}
use Rattle.std.proofs.lemmas.Bool.Decides.{nat_tests}
use Rattle.mk_lists.specs.Among.{Among, Each, AllDistinct}

-- the numbers but n
abbrev but : ℕ → List ℕ → List ℕ
but n [] = []
but n (x ∷ xs) = cond (eqb x n) (but n xs) (x ∷ but n xs)

Among-but : (n y : ℕ) (xs : List ℕ) → Among y (but n xs) → Among y xs
Among-but n y [] a = a
Among-but n y (x ∷ xs) a = here (eqb x n) (λ b. Among-but n y xs b) a
  where
    here : (t : Bool) → (Among y (but n xs) → Among y xs) → Among y (cond t (but n xs) (x ∷ but n xs)) → Among y (x ∷ xs)
    here true later b = inr (later b)
    here false later (inl e) = inl e
    here false later (inr b) = inr (later b)

AllDistinct-but : (n : ℕ) (xs : List ℕ) → AllDistinct xs → AllDistinct (but n xs)
AllDistinct-but n [] h = tt
AllDistinct-but n (x ∷ xs) h = here (eqb x n) (AllDistinct-but n xs h.1)
  where
    here : (t : Bool) → AllDistinct (but n xs) → AllDistinct (cond t (but n xs) (x ∷ but n xs))
    here true d = d
    here false d = (λ a. h.0 (Among-but n x xs a), d)

Each-but : (n : ℕ) (xs : List ℕ) → Each (λ x. x < suc n) xs → Each (λ x. x < n) (but n xs)
Each-but n [] h = tt
Each-but n (x ∷ xs) h = here (eqb x n) refl (Each-but n xs h.1)
  where
    here : (t : Bool) → eqb x n ≡ t → Each (λ x. x < n) (but n xs) → Each (λ x. x < n) (cond t (but n xs) (x ∷ but n xs))
    here true e d = d
    here false e d = (let low : x < suc n = h.0 in grind (arith, nat_tests), d)

but_absent : (n : ℕ) (xs : List ℕ) → ¬ Among n xs → but n xs ≡ xs
but_absent n [] h = refl
but_absent n (x ∷ xs) h = here (eqb x n) refl (but_absent n xs (λ a. h (inr a)))
  where
    here : (t : Bool) → eqb x n ≡ t → but n xs ≡ xs → cond t (but n xs) (x ∷ but n xs) ≡ x ∷ xs
    here true e d = let same : x ≡ n = grind (arith, nat_tests) in absurd (h (inl same))
    here false e d = ap (λ (l : List ℕ). x ∷ l) d

length-but : (n : ℕ) (xs : List ℕ) → AllDistinct xs → length xs ≤ suc (length (but n xs))
length-but n [] h = omega arith
length-but n (x ∷ xs) h = here (eqb x n) refl (length-but n xs h.1)
  where
    absent : x ≡ n → ¬ Among n xs
    absent same = subst (λ (y : ℕ). ¬ Among y xs) same h.0

    here : (t : Bool) → eqb x n ≡ t → length xs ≤ suc (length (but n xs)) → suc (length xs) ≤ suc (length (cond t (but n xs) (x ∷ but n xs)))
    here true e d =
        let same : x ≡ n = grind (arith, nat_tests) in
        let whole = ap length (but_absent n xs (absent same)) in
        omega (arith, whole)
    here false e d = omega (arith, d)

pub pigeons : (n : ℕ) (xs : List ℕ) → AllDistinct xs → Each (λ x. x < n) xs → length xs ≤ n
pigeons zero [] h k = omega arith
pigeons zero (x ∷ xs) h k = let low : x < 0 = k.0 in absurd (omega arith)
pigeons (suc n) xs h k =
    let fewer = pigeons n (but n xs) (AllDistinct-but n xs h) (Each-but n xs k) in
    omega (arith, fewer, length-but n xs h)
