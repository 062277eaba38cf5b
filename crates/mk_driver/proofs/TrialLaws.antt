-- One place more among the trials.
use Rattle.std.proofs.Common.{◌≡◌, ◌<◌, ℕ, suc, ◌-◌, List, [], ◌∷◌, ◌++◌, Option, None, refl, ap, length, arith}
use Rattle.std.specs.Prelude.{replicate}
use Rattle.mk_driver.specs.declared.Request.{Request}

length-more : (xs : List (Option Request)) → length (xs ++ None ∷ []) ≡ suc (length xs)
length-more [] = refl
length-more (x ∷ xs) = ap suc (length-more xs)

more : (k : ℕ) (xs : List (Option Request)) → (xs ++ None ∷ []) ++ replicate k None ≡ xs ++ replicate (suc k) None
more k [] = refl
more k (x ∷ xs) = ap (λ ys. x ∷ ys) (more k xs)

pub place_more : (n : ℕ) (xs : List (Option Request)) → length xs < n →
    (xs ++ None ∷ []) ++ replicate (n - length (xs ++ None ∷ [])) None ≡ xs ++ replicate (n - length xs) None
place_more n xs l =
    let long : suc (n - suc (length xs)) ≡ n - length xs = omega (arith, l) in
    rw (length-more xs, ← long) (more (n - suc (length xs)) xs)
