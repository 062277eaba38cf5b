-- That there is none of something, where it is looked for in order.
use Rattle.std.proofs.Common.{◌≡◌, ◌∙◌, ℕ, ◌+◌, ◌≤◌, ◌<◌, zero, suc, Bool, true, false, refl, inl, inr, sym, ap, arith, List, [], ◌∷◌, Option, Some, None, subst, if◌then◌else◌}
use Rattle.std.proofs.lemmas.Bool.{cases_eq, cases_lt}
use Rattle.std.specs.Option.{option_or}
use Rattle.mk_history.specs.Matching.{Turn}
use Rattle.mk_verdict.specs.Sameness.{same_turn}
use Rattle.mk_verdict.specs.Flaws.{first_from, difference}
use Rattle.mk_verdict.proofs.SameFacts.{same_turn-tells, same_turn-itself}

module _ {X : Type 0} where
  pub option_or-none : (a b : Option X) → option_or a b ≡ None → (a ≡ None) × (b ≡ None)
  option_or-none None b e = (refl, e)
  option_or-none (Some x) b e = absurd (cc e)

  pub option_or-none_from : (a b : Option X) → a ≡ None → b ≡ None → option_or a b ≡ None
  option_or-none_from None b e k = k
  option_or-none_from (Some x) b e k = absurd (cc e)

  pub first_from-none : (f : ℕ → Option X) (k n : ℕ) → first_from f k n ≡ None → (i : ℕ) → k ≤ i → i < k + n → f i ≡ None
  first_from-none f k zero e i low high = absurd (omega (arith, low, high))
  first_from-none f k (suc n) e i low high =
      let parts = option_or-none (f k) (first_from f (k + 1) n) e in
      elim (cases_eq k i) [
        | inl here ↦ subst (λ (m : ℕ). f m ≡ None) here parts.0
        | inr apart ↦ first_from-none f (k + 1) n parts.1 i (above apart) (omega (arith, high))
      ]
    where
      above : (k ≡ i → ⊥) → k + 1 ≤ i
      above apart = elim (cases_lt k i) [ inl below ↦ omega (arith, below) | inr back ↦ absurd (apart (omega (arith, low, back))) ]

  pub first_from-none_from : (f : ℕ → Option X) (k n : ℕ) → ((i : ℕ) → k ≤ i → i < k + n → f i ≡ None) → first_from f k n ≡ None
  first_from-none_from f k zero h = refl
  first_from-none_from f k (suc n) h =
      option_or-none_from (f k) (first_from f (k + 1) n) (h k (omega arith) (omega arith))
      (first_from-none_from f (k + 1) n (λ i low high. h i (omega (arith, low)) (omega (arith, high))))

pub difference-none : (k : ℕ) (xs ys : List Turn) → difference k xs ys ≡ None → xs ≡ ys
difference-none k [] [] e = refl
difference-none k [] (b ∷ bs) e = absurd (cc e)
difference-none k (a ∷ xs) [] e = absurd (cc e)
difference-none k (a ∷ xs) (b ∷ bs) e = same_lists (same_turn a b) refl e (difference-none (k + 1) xs bs)
  where
    same_lists : (t : Bool) → same_turn a b ≡ t → (if t then difference (k + 1) xs bs else Some k) ≡ None → (difference (k + 1) xs bs ≡ None → xs ≡ bs) → (a ∷ xs) ≡ (b ∷ bs)
    same_lists true same none rest =
        let head = same_turn-tells a b same in
        let tail = rest none in
        λ i. head i ∷ tail i
    same_lists false same none rest = absurd (cc none)

pub difference-itself : (k : ℕ) (xs : List Turn) → difference k xs xs ≡ None
difference-itself k [] = refl
difference-itself k (a ∷ xs) = ap (λ t. if t then difference (k + 1) xs xs else Some k) (same_turn-itself a) ∙ difference-itself (k + 1) xs
