-- How many members of a list pass a test.
use Rattle.std.proofs.Common.{◌≡◌, ℕ, zero, suc, ◌+◌, ◌<◌, ◌≤◌, Bool, true, false, cond, not, refl, sym, ap, ◌∙◌, arith, List, [], ◌∷◌, ◌++◌, length, get_or, count_by}
use Rattle.std.proofs.lemmas.List.Sums.{sum_by-cons, fold-append}

pub none-more : (n : ℕ) → 0 + n ≡ n
none-more n = omega arith

pub one-more : (n : ℕ) → 1 + n ≡ suc n
one-more n = omega arith

module _ {X : Type 0} (p : X → Bool) where
  pub count-cons : (x : X) (xs : List X) → count_by p (x ∷ xs) ≡ cond (p x) 1 0 + count_by p xs
  count-cons x xs = sum_by-cons (λ y. cond (p y) 1 0) x xs

  pub count-push : (xs : List X) (x : X) → count_by p (xs ++ x ∷ []) ≡ count_by p xs + cond (p x) 1 0
  count-push xs x = fold-append (λ (n : ℕ) (y : X). n + cond (p y) 1 0) 0 xs (x ∷ [])

  -- as many as stand at the front
  pub count-front : (xs : List X) (n : ℕ) → n ≤ length xs → ((k : ℕ) (d : X) → k < n → p (get_or xs k d) ≡ true)
      → ((k : ℕ) (d : X) → n ≤ k → k < length xs → p (get_or xs k d) ≡ false) → count_by p xs ≡ n
  count-front [] n fits front back = omega (arith, fits)
  count-front (x ∷ xs) zero fits front back =
      let rest : count_by p xs ≡ 0 = count-front xs zero (omega arith) (λ k d lt. absurd (omega (arith, lt))) (λ k d le lt. back (suc k) d (omega arith) (omega (arith, lt))) in
      count-cons x xs ∙ ap (λ b. cond b 1 0 + count_by p xs) (back 0 x (omega arith) (omega arith)) ∙ none-more (count_by p xs) ∙ rest
  count-front (x ∷ xs) (suc n) fits front back =
      let rest : count_by p xs ≡ n =
      count-front xs n (omega (arith, fits)) (λ k d lt. front (suc k) d (omega (arith, lt))) (λ k d le lt. back (suc k) d (omega (arith, le)) (omega (arith, lt))) in
      count-cons x xs ∙ ap (λ b. cond b 1 0 + count_by p xs) (front 0 x (omega arith)) ∙ ap (λ k. 1 + k) rest ∙ one-more n

  -- those that pass, and those that do not
  pub count-both : (xs : List X) → count_by p xs + count_by (λ x. not (p x)) xs ≡ length xs
  count-both [] = refl
  count-both (x ∷ xs) =
      let one : count_by p (x ∷ xs) ≡ cond (p x) 1 0 + count_by p xs = count-cons x xs in
      let other : count_by (λ y. not (p y)) (x ∷ xs) ≡ cond (not (p x)) 1 0 + count_by (λ y. not (p y)) xs = sum_by-cons (λ y. cond (not (p y)) 1 0) x xs in
      (λ i. one i + other i) ∙ sums (p x) (count_by p xs) (count_by (λ y. not (p y)) xs) (length xs) (count-both xs)
    where
      sums : (b : Bool) (m n k : ℕ) → m + n ≡ k → (cond b 1 0 + m) + (cond (not b) 1 0 + n) ≡ suc k
      sums true m n k h = omega (arith, h)
      sums false m n k h = omega (arith, h)

-- tests with the same answers
pub count-same : {X : Type 0} (p q : X → Bool) → ((x : X) → p x ≡ q x) → (xs : List X) → count_by p xs ≡ count_by q xs
count-same p q h [] = refl
count-same p q h (x ∷ xs) = count-cons p x xs ∙ (λ i. cond (h x i) 1 0 + count-same p q h xs i) ∙ sym (count-cons q x xs)
