-- How many numbers a list of different ones has.
use Rattle.std.proofs.Common.{◌≡◌, ◌<◌, ℕ, zero, suc, ◌+◌, Bool, true, false, refl, arith, List, [], ◌∷◌, subst, ◌||◌, ◌∙◌, zero-add}
use Rattle.std.specs.Prelude.{◌==◌}
use Rattle.std.specs.List.{list_any}
use Rattle.std.proofs.lemmas.Bool.Decides.{nat_tests}
use Rattle.mk_lists.specs.Among.{Among}
use Rattle.mk_lists.proofs.Tests.{Among-from_list_any}
use Rattle.mk_quorum.specs.Counts.{count_below}
use Rattle.mk_quorum.proofs.Counting.{count_below-same}
use Rattle.mk_basic_laws.specs.Meetings.{ListCounts}

-- one more number
count_below-add : (n x : ℕ) (p : ℕ → Bool) → x < n → p x ≡ false → count_below n (λ r. (x == r) || p r) ≡ count_below n p + 1
count_below-add zero x p lt out = absurd (omega arith)
count_below-add (suc n) x p lt out = by (count_below-add n x p) (x == n) refl
  where
    same_below : x ≡ n → count_below n (λ r. (x == r) || p r) ≡ count_below n p
    same_below eq = count_below-same n (λ r. (x == r) || p r) p (λ r l. let k : (x == r) ≡ false = grind (arith, nat_tests, eq, l) in grind (arith, k))

    by : (x < n → p x ≡ false → count_below n (λ r. (x == r) || p r) ≡ count_below n p + 1) → (b : Bool) → (x == n) ≡ b → count_below (suc n) (λ r. (x == r) || p r) ≡ count_below (suc n) p + 1
    by again true e =
        let eq : x ≡ n = grind (arith, nat_tests, e) in
        let out_n : p n ≡ false = subst (λ (m : ℕ). p m ≡ false) eq out in
        grind (arith, e, out_n, same_below eq)
    by again false e =
        let ne : x < n = grind (arith, nat_tests, e) in
        grind (arith, e, again ne out)

not_member : (x : ℕ) (xs : List ℕ) → ¬ (Among x xs) → list_any (λ y. y == x) xs ≡ false
not_member x xs no_x = by (list_any (λ y. y == x) xs) refl
  where
    by : (b : Bool) → list_any (λ y. y == x) xs ≡ b → b ≡ false
    by true e = let m = Among-from_list_any (λ y. y == x) xs e in let eq : m.0 ≡ x = grind (arith, nat_tests, m.2) in absurd (no_x (subst (λ (y : ℕ). Among y xs) eq m.1))
    by false e = refl

pub list_counts : ListCounts
list_counts zero [] d e = refl
list_counts (suc n) [] d e = zero-add (count_below n (λ r. list_any (λ x. x == r) [])) ∙ list_counts n [] d tt
list_counts n (x ∷ xs) d e =
    let again = list_counts n xs d.1 e.1 in
    omega (arith, again, count_below-add n x (λ r. list_any (λ y. y == r) xs) e.0 (not_member x xs d.0))
