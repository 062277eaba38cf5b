-- The test for one value, and the fact.
use Rattle.std.proofs.Common.{◌≡◌, true, refl, ap, arith}
use Rattle.std.proofs.lemmas.Bool.Decides.{nat_tests}
use Rattle.mk_txn.specs.declared.Value.{Value}
use Rattle.mk_txn.specs.declared.Value.TheVariants.{Number, Absent}
use Rattle.mk_txn.specs.Transactions.{same_value}

pub same_value-tells : (a b : Value) → same_value a b ≡ true → a ≡ b
same_value-tells (Number a) (Number b) e = ap Number (grind (arith, nat_tests, e))
same_value-tells (Number a) Absent e = absurd (cc e)
same_value-tells Absent (Number b) e = absurd (cc e)
same_value-tells Absent Absent e = refl

pub same_value-itself : (a : Value) → same_value a a ≡ true
same_value-itself (Number a) = grind (arith, nat_tests)
same_value-itself Absent = refl
