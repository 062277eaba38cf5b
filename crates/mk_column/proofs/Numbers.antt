-- That a test of numbers tells whether they are one.
use Rattle.std.proofs.Common.{◌≡◌, ℕ, true, arith}
use Rattle.std.proofs.lemmas.Bool.Decides.{nat_tests}
use Rattle.mk_column.specs.ClientsByCode.{same_number}

pub same_number-tells : (a b : ℕ) → same_number a b ≡ true → a ≡ b
same_number-tells a b h = grind (arith, nat_tests, h)

pub same_number-itself : (a : ℕ) → same_number a a ≡ true
same_number-itself a = grind (arith, nat_tests)
