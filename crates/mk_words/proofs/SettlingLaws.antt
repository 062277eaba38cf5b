-- The greatest number up to which all numbers pass is one, the greatest of its kind, and known by what passes.
use Rattle.std.proofs.Common.{◌≡◌, ◌∙◌, ◌<◌, ◌≤◌, ℕ, zero, suc, Bool, true, false, refl, sym, subst, arith, nat_lt}
use Rattle.std.proofs.lemmas.Bool.{false≢true, and_parts}
use Rattle.std.proofs.lemmas.Bool.Decides.{nat_tests}
use Rattle.std.specs.Prelude.{if◌then◌else◌}
use Rattle.mk_words.specs.Settling.{all_upto, greatest_upto}

-- all numbers up to the one that is given pass
pub greatest_upto-passes : (p : ℕ → Bool) (most : ℕ) → all_upto p (greatest_upto p most) ≡ true
greatest_upto-passes p zero = refl
greatest_upto-passes p (suc most) = by (greatest_upto-passes p most) (all_upto p (suc most)) refl
  where
    by : all_upto p (greatest_upto p most) ≡ true → (b : Bool) → all_upto p (suc most) ≡ b → all_upto p (if b then suc most else greatest_upto p most) ≡ true
    by again true e = e
    by again false e = again

-- and of those up to `most` it is the greatest up to which all do
pub greatest_upto-greatest : (p : ℕ → Bool) (most m : ℕ) → m ≤ most → all_upto p m ≡ true → m ≤ greatest_upto p most
greatest_upto-greatest p zero m le h = le
greatest_upto-greatest p (suc most) m le h = by (greatest_upto-greatest p most m) (all_upto p (suc most)) refl
  where
    one_less : (m ≡ suc most → ⊥) → m ≤ most
    one_less other = omega (arith, le, other)

    by : (m ≤ most → all_upto p m ≡ true → m ≤ greatest_upto p most) → (b : Bool) → all_upto p (suc most) ≡ b →
        m ≤ (if b then suc most else greatest_upto p most)
    by again true e = le
    by again false e = again (one_less (λ same. false≢true (sym e ∙ subst (λ k. all_upto p k ≡ true) same h))) h

-- each number up to one up to which all pass
pub all_upto-at : (p : ℕ → Bool) (m k : ℕ) → all_upto p m ≡ true → k < m → p (suc k) ≡ true
all_upto-at p zero k e lt = absurd (omega (arith, lt))
all_upto-at p (suc m) k e lt =
    let both = and_parts (p (suc m)) (all_upto p m) e in
    by (all_upto-at p m k both.1) both.0 (nat_lt k m) refl
  where
    by : (k < m → p (suc k) ≡ true) → p (suc m) ≡ true → (b : Bool) → nat_lt k m ≡ b → p (suc k) ≡ true
    by more last true f = more (grind (arith, nat_tests, f))
    by more last false f = let same : k ≡ m = grind (arith, nat_tests, f, lt) in subst (λ n. p (suc n) ≡ true) (sym same) last

-- the other way round
pub all_upto-each : (p : ℕ → Bool) (m : ℕ) → ((k : ℕ) → k ≤ m → p k ≡ true) → all_upto p m ≡ true
all_upto-each p zero h = refl
all_upto-each p (suc m) h = grind (arith, h (suc m) (omega arith), all_upto-each p m (λ k le. h k (omega (arith, le))))

-- a number up to which all pass, where the next does not
pub greatest_upto-is : (p : ℕ → Bool) (m most : ℕ) → ((k : ℕ) → k ≤ m → p k ≡ true) → p (suc m) ≡ false → m ≤ most → greatest_upto p most ≡ m
greatest_upto-is p m most each next le =
    let low : m ≤ greatest_upto p most = greatest_upto-greatest p most m le (all_upto-each p m each) in
    let high : m < greatest_upto p most → ⊥ =
    λ lt. false≢true (sym next ∙ all_upto-at p (greatest_upto p most) m (greatest_upto-passes p most) lt) in
    grind (arith, low, high)
