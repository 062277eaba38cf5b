-- The words that are numbers.
use Rattle.std.proofs.Common.{◌≡◌, ℕ, zero, suc, ◌+◌, ◌-◌, ◌*◌, ◌<◌, ◌≤◌, ◌^◌, Bool, true, false, cond, eqb, leb, List, [], ◌∷◌, length, get_or, refl, sym, ap, ◌∙◌, arith, le_refl, le_trans, rules, Ok, Err, ◌&&◌, ◌⊎◌, inl, inr}
use Rattle.std.specs.Char.{digit_value}
use Rattle.std.specs.Str.Parse.{digits_value_after}
use Rattle.std.proofs.Math.Nat.{mul-le-mul_left}
use Rattle.std.proofs.lemmas.Bool.Decides.{nat_tests}
use Rattle.std.proofs.lemmas.Str.{digit_value_digit}
use Rattle.std.proofs.lemmas.Str.Parse.{IsNumeralModel, numerals_by_value}
use Rattle.std.proofs.lemmas.Fmt.{decimal-digits_value, digits_decimal, digits_value-decimal, decimal_nonempty, first_decimal, decimal_digit}
use Rattle.std.specs.Fmt.{decimal}
use Rattle.mk_spelling.specs.declared.fault.TextFault.TheVariants.{Large, Number}
use Rattle.mk_spelling.proofs.Cuts.{Lacks, Lacks-from_test}
use Rattle.mk_spelling.specs.Words.{are_digits, is_number, value, number}

pub le-digits_value_after : (radix n : ℕ) (ds : List ℕ) → 1 ≤ radix → n ≤ digits_value_after radix n ds
le-digits_value_after radix n [] h = le_refl n
le-digits_value_after radix n (d ∷ ds) h =
    let step : n ≤ n * radix + digit_value d = omega (arith, mul-le-mul_left n h) in
    le_trans step (le-digits_value_after radix (n * radix + digit_value d) ds h)

pub digit_at : (ds : List ℕ) (i : ℕ) → are_digits ds ≡ true → i < length ds → (48 ≤ get_or ds i 0) × (get_or ds i 0 ≤ 57)
digit_at [] i e lt = absurd (omega arith)
digit_at (d ∷ ds) zero e lt = grind (arith, nat_tests)
digit_at (d ∷ ds) (suc i) e lt =
    let rest : are_digits ds ≡ true = grind (arith, nat_tests) in
    digit_at ds i rest (omega arith)

pub digit_value_at : (ds : List ℕ) (i : ℕ) → are_digits ds ≡ true → i < length ds → digit_value (get_or ds i 0) ≡ get_or ds i 0 - 48
digit_value_at ds i e lt =
    let h = digit_at ds i e lt in
    omega (arith, digit_value_digit (get_or ds i 0) h)

-- the number's text: as std writes it
digits_model : IsNumeralModel (λ ds. are_digits ds ≡ true) value
digits_model = numerals_by_value (λ ds. are_digits ds ≡ true) (search rules)

-- a number is digits
pub all_from_number : (w : List ℕ) → is_number w ≡ true → are_digits w ≡ true
all_from_number [] e = absurd cc
all_from_number (b ∷ []) e = grind (arith, nat_tests)
all_from_number (b ∷ c ∷ bs) e = here (eqb b 48) refl e
  where
    here : (t : Bool) → eqb b 48 ≡ t → cond t (eqb (length (c ∷ bs)) 0) (are_digits (b ∷ c ∷ bs)) ≡ true → are_digits (b ∷ c ∷ bs) ≡ true
    here true t h = grind (arith, nat_tests)
    here false t h = h

first_of_number : (w : List ℕ) → is_number w ≡ true → (0 < length w) × (get_or w 0 0 ≡ 48 → length w ≡ 1)
first_of_number [] e = absurd cc
first_of_number (b ∷ bs) e = (omega arith, λ h. grind (arith, nat_tests))

pub number-back : (low high : ℕ) (w : List ℕ) (n : ℕ) → high < 2 ^ 64 → number low high w ≡ Ok n → (w ≡ decimal n) × (low ≤ n) × (n ≤ high)
number-back low high w n fits e = here (is_number w) refl (leb low (value w)) refl (leb (value w) high) refl e
  where
    here : (t : Bool) → is_number w ≡ t → (a : Bool) → leb low (value w) ≡ a → (b : Bool) → leb (value w) high ≡ b
        → cond t (cond (a && b) (Ok (value w)) (Err Large)) (Err Number) ≡ Ok n → (w ≡ decimal n) × (low ≤ n) × (n ≤ high)
    here true t true a true b h =
        let same : value w ≡ n = cc in
        let first = first_of_number w t in
        let high_enough : low ≤ value w = grind (arith, nat_tests) in
        let low_enough : value w ≤ high = grind (arith, nat_tests) in
        let text : decimal (value w) ≡ w = decimal-digits_value digits_model w (all_from_number w t) first.0 first.1 (omega arith) in
        (sym text ∙ ap decimal same, omega arith, omega arith)
    here true t true a false b h = absurd cc
    here true t false a bb b h = absurd cc
    here false t aa a bb b h = absurd cc

number_from_digits : (w : List ℕ) → are_digits w ≡ true → 0 < length w → (48 < get_or w 0 0) ⊎ (length w ≡ 1) → is_number w ≡ true
number_from_digits [] e some h = absurd (omega arith)
number_from_digits (b ∷ bs) e some (inl h) = grind (arith, nat_tests)
number_from_digits (b ∷ bs) e some (inr h) = grind (arith, nat_tests)

is_number-decimal : (n : ℕ) → n < 2 ^ 64 → is_number (decimal n) ≡ true
is_number-decimal zero fits = rw (decimal_digit 0 (omega arith)) refl
is_number-decimal (suc n) fits =
    number_from_digits (decimal (suc n)) (digits_decimal digits_model (suc n) fits) (decimal_nonempty (suc n) fits) (inl (first_decimal (suc n) (omega arith) fits))

-- a number is digits
pub decimal_digits : (n : ℕ) → n < 2 ^ 64 → are_digits (decimal n) ≡ true
decimal_digits n fits = digits_decimal digits_model n fits

pub number-again : (low high n : ℕ) → high < 2 ^ 64 → low ≤ n → n ≤ high → number low high (decimal n) ≡ Ok n
number-again low high n fits above below =
    let a : leb low n ≡ true = grind (arith, nat_tests) in
    let b : leb n high ≡ true = grind (arith, nat_tests) in
    rw (is_number-decimal n (omega arith), digits_value-decimal digits_model n (omega arith), a, b) refl

pub Lacks-decimal : (n mark : ℕ) → n < 2 ^ 64 → (leb 48 mark && leb mark 57) ≡ false → Lacks mark (decimal n)
Lacks-decimal n mark fits h = Lacks-from_test (λ b. leb 48 b && leb b 57) (decimal n) mark (decimal_digits n fits) h
