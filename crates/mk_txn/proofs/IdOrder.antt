-- Laws of the order of attempts.
use Rattle.std.proofs.Common.{◌≡◌, true, false, arith}
use Rattle.std.proofs.lemmas.Bool.{false_from_ne_true}
use Rattle.std.proofs.lemmas.Bool.Decides.{nat_tests}
use Rattle.std.specs.Cmp.{IsTotalOrder}
use Rattle.std.specs.Ordering.{is_lt, is_eq}
use Rattle.std.proofs.lemmas.Cmp.{nat_cmp_total, on_total, then_total}
use Rattle.mk_txn.specs.declared.TxnId.{TxnId}
use Rattle.mk_txn.specs.Transactions.{same_id, id_before, id_cmp}

pub id_before-itself : (a : TxnId) → id_before a a ≡ false
id_before-itself a = grind (arith, nat_tests)

pub id_before-through : (a b c : TxnId) → id_before a b ≡ true → id_before b c ≡ true → id_before a c ≡ true
id_before-through a b c h k = grind (arith, nat_tests)

pub id_before-not_back : (a b : TxnId) → id_before a b ≡ true → id_before b a ≡ false
id_before-not_back a b h = grind (arith, nat_tests)

pub id_before-not_same : (a b : TxnId) → id_before a b ≡ true → same_id a b ≡ false
id_before-not_same a b h = grind (arith, nat_tests)

-- numbers of which neither is before the other are equal
pub id-from_neither : (a b : TxnId) → id_before a b ≡ false → id_before b a ≡ false → a ≡ b
id-from_neither a b h k =
    let c : a.client ≡ b.client = grind (arith, nat_tests) in
    let s : a.seq ≡ b.seq = grind (arith, nat_tests) in
    λ i. record { client = c i; seq = s i }

pub same_id-tells : (a b : TxnId) → same_id a b ≡ true → a ≡ b
same_id-tells a b h =
    let c : a.client ≡ b.client = grind (arith, nat_tests) in
    let s : a.seq ≡ b.seq = grind (arith, nat_tests) in
    λ i. record { client = c i; seq = s i }

-- of two numbers the other is before, where one is not and they are not equal
pub id_before-turned : (a b : TxnId) → id_before a b ≡ false → same_id a b ≡ false → id_before b a ≡ true
id_before-turned a b h k = grind (arith, nat_tests)

pub id_before-turned_other : (a b : TxnId) → id_before a b ≡ false → (a ≡ b → ⊥) → id_before b a ≡ true
id_before-turned_other a b h ne = id_before-turned a b h (false_from_ne_true (same_id a b) (λ e. ne (same_id-tells a b e)))

pub same_id-itself : (a : TxnId) → same_id a a ≡ true
same_id-itself a = grind (arith, nat_tests)

-- an attempt is not two
pub same_id-apart : (a b c : TxnId) → same_id b c ≡ false → same_id a b ≡ true → same_id a c ≡ false
same_id-apart a b c h k = grind (arith, nat_tests)

-- ---- the comparison of the code

pub id_cmp-less : (a b : TxnId) → is_lt (id_cmp a b) ≡ id_before a b
id_cmp-less a b = grind (arith, nat_tests)

pub id_cmp-equal : (a b : TxnId) → is_eq (id_cmp a b) ≡ same_id a b
id_cmp-equal a b = grind (arith, nat_tests)

pub id_cmp-total : IsTotalOrder id_cmp
id_cmp-total = then_total (on_total (λ (a : TxnId). a.client) nat_cmp_total) (on_total (λ (a : TxnId). a.seq) nat_cmp_total)
