-- Repeated keys one place at a time, and that parts without a fault make a transaction.
use Rattle.std.proofs.Common.{◌≡◌, ◌∙◌, ◌<◌, ℕ, ◌+◌, ◌-◌, Bool, true, false, refl, sym, ap, subst, arith, List, [], ◌∷◌, ◌==◌, ◌||◌, map, length, get_or, take, drop, Option, Some, None, if◌then◌else◌, nat_lt, add-one}
use Rattle.std.specs.List.{list_any}
use Rattle.std.proofs.Math.Seq.{drop-cons}
use Rattle.std.proofs.lemmas.List.{take_rest}
use Rattle.std.proofs.lemmas.Bool.Decides.{nat_tests}
use Rattle.mk_lists.proofs.Tests.{list_any-map}
use Rattle.mk_txn.specs.declared.Stamp.{Stamp}
use Rattle.mk_txn.specs.declared.TxnId.{TxnId}
use Rattle.mk_txn.specs.declared.ReadItem.{ReadItem}
use Rattle.mk_txn.specs.declared.WriteItem.{WriteItem}
use Rattle.mk_txn.specs.declared.faults.TxnError.{TxnError}
use Rattle.mk_txn.specs.declared.faults.TxnError.TheVariants.{TooMany, Repeated, NotAbove}
use Rattle.mk_txn.specs.Transactions.{IsTransaction, read_keys, write_keys, are_distinct, is_above_reads}
use Rattle.mk_txn.specs.TxnFaults.{repeated_key, key_not_above, fault_at, txn_fault}

-- whether the key of this place stands at a later one
pub repeated_key-at : {X : Type 0} (key_of : X → ℕ) (xs : List X) (i : ℕ) (d : X) (b : Bool) → i < length xs →
    list_any (λ y. key_of y == key_of (get_or xs i d)) (take (length xs - (i + 1)) (drop (i + 1) xs)) ≡ b →
    repeated_key (map key_of (drop i xs)) ≡ (if b then Some (key_of (get_or xs i d)) else repeated_key (map key_of (drop (i + 1) xs)))
repeated_key-at {X} key_of xs i d b within later =
    let x : X = get_or xs i d in
    let rest : List X = drop (i + 1) xs in
    let cut : drop i xs ≡ x ∷ rest = subst (λ k. drop i xs ≡ x ∷ drop k xs) (sym (add-one i)) (drop-cons xs i d within) in
    let found : list_any (λ y. key_of y == key_of x) rest ≡ b = subst (λ ys. list_any (λ y. key_of y == key_of x) ys ≡ b) (take_rest xs (i + 1)) later in
    subst (λ ys. repeated_key (map key_of ys) ≡ (if b then Some (key_of x) else repeated_key (map key_of rest))) (sym cut)
    (ap (λ c. if c then Some (key_of x) else repeated_key (map key_of rest)) (list_any-map (λ y. y == key_of x) key_of rest ∙ found))

are_distinct-from_none : (keys : List ℕ) → repeated_key keys ≡ None → are_distinct keys ≡ true
are_distinct-from_none [] e = refl
are_distinct-from_none (key ∷ keys) e = grind (arith, are_distinct-from_none keys, e)

all_below-from_none : (stamp : Stamp) (items : List ReadItem) → key_not_above stamp items ≡ None → is_above_reads stamp items ≡ true
all_below-from_none stamp [] e = refl
all_below-from_none stamp (item ∷ items) e = grind (arith, all_below-from_none stamp items, e)

fault_at-none : (fault : ℕ → TxnError) (key : Option ℕ) (next : Option TxnError) → fault_at fault key next ≡ None → (key ≡ None) × (next ≡ None)
fault_at-none fault None next e = (refl, e)
fault_at-none fault (Some key) next e = absurd (cc e)

-- parts without a fault make a transaction
pub IsTransaction-from_no_fault : (id : TxnId) (stamp : Stamp) (reads : List ReadItem) (writes : List WriteItem) → txn_fault stamp reads writes ≡ None →
    IsTransaction (record { id = id; stamp = stamp; reads = reads; writes = writes })
IsTransaction-from_no_fault id stamp reads writes e = by_number (nat_lt 16 (length reads) || nat_lt 16 (length writes)) refl e
  where
    others : Option TxnError
    others =
        fault_at Repeated (repeated_key (read_keys reads))
        (fault_at Repeated (repeated_key (write_keys writes)) (fault_at NotAbove (key_not_above stamp reads) None))

    by_number : (b : Bool) → (nat_lt 16 (length reads) || nat_lt 16 (length writes)) ≡ b → (if b then Some TooMany else fault_at Repeated (repeated_key (read_keys reads)) (fault_at Repeated (repeated_key (write_keys writes)) (fault_at NotAbove (key_not_above stamp reads) None))) ≡ None → IsTransaction (record { id = id; stamp = stamp; reads = reads; writes = writes })
    by_number true few e = absurd (cc e)
    by_number false few e =
        let first = fault_at-none Repeated (repeated_key (read_keys reads)) (fault_at Repeated (repeated_key (write_keys writes)) (fault_at NotAbove (key_not_above stamp reads) None)) e in
        let second = fault_at-none Repeated (repeated_key (write_keys writes)) (fault_at NotAbove (key_not_above stamp reads) None) first.1 in
        let third = fault_at-none NotAbove (key_not_above stamp reads) None second.1 in
        record {
          few_reads = grind (arith, nat_tests, few);
          few_writes = grind (arith, nat_tests, few);
          distinct_reads = are_distinct-from_none (read_keys reads) first.0;
          distinct_writes = are_distinct-from_none (write_keys writes) second.0;
          above = all_below-from_none stamp reads third.0;
        }
