-- What an attempt read and may write makes a transaction.
use Rattle.std.proofs.Common.{◌≡◌, ◌<◌, ◌≤◌, ◌^◌, ◌⊎◌, inl, inr, ℕ, suc, Bool, true, false, cond, not, refl, sym, ap, subst, ◌∙◌, arith, ◌&&◌, ◌||◌, ◌==◌, nat_lt, nat_le, List, [], ◌∷◌, ◌++◌, length, Some, None}
use Rattle.std.specs.Prelude.{find, option_map}
use Rattle.std.specs.List.{list_any}
use Rattle.std.proofs.lemmas.Bool.{false≢true, and_parts, not-true}
use Rattle.std.proofs.lemmas.Bool.Decides.{nat_tests}
use Rattle.std.proofs.lemmas.Option.{none-some, same_Some}
use Rattle.mk_txn.specs.declared.Stamp.{Stamp}
use Rattle.mk_txn.specs.declared.ReadItem.{ReadItem}
use Rattle.mk_txn.specs.declared.WriteItem.{WriteItem}
use Rattle.mk_txn.specs.declared.faults.TxnError.{TxnError}
use Rattle.mk_txn.specs.declared.faults.TxnError.TheVariants.{NoMemory}
use Rattle.mk_txn.specs.Stamps.{is_before, time_above_reads, fresh_time, next_stamp_of}
use Rattle.mk_txn.specs.Transactions.{are_distinct, is_above_reads, read_keys, write_keys}
use Rattle.mk_txn.specs.TxnFaults.{repeated_key, key_not_above, txn_fault}
use Rattle.mk_model.specs.Conditions.{writes_fit}
use Rattle.mk_column.specs.Readings.{may_join, ReadsFit}

-- ---- one read more

same_turned : (a b : ℕ) → (a == b) ≡ false → (b == a) ≡ false
same_turned a b e = grind (arith, nat_tests, e)

-- a key that is not among the reads is joined to different ones
distinct-joined : (key : ℕ) (reads : List ReadItem) (item : ReadItem) → item.key ≡ key → list_any (λ (i : ReadItem). i.key == key) reads ≡ false
    → are_distinct (read_keys reads) ≡ true → are_distinct (read_keys (reads ++ item ∷ [])) ≡ true
distinct-joined key [] item is none e = refl
distinct-joined key (x ∷ xs) item is none e =
    let parts = and_parts (not (list_any (λ y. y == x.key) (read_keys xs))) (are_distinct (read_keys xs)) e in
    let apart = neither (x.key == key) (list_any (λ (i : ReadItem). i.key == key) xs) none in
    let rest = distinct-joined key xs item is apart.1 parts.1 in
    ap (λ b. not b && are_distinct (read_keys (xs ++ item ∷ [])))
    (not_among x.key xs (not-true _ parts.0) (ap (λ k. k == x.key) is ∙ same_turned x.key key apart.0))
    ∙ rest
  where
    neither : (a b : Bool) → (a || b) ≡ false → (a ≡ false) × (b ≡ false)
    neither false b k = (refl, k)
    neither true b k = absurd (false≢true (sym k))

    not_among : (k : ℕ) (ys : List ReadItem) → list_any (λ y. y == k) (read_keys ys) ≡ false → (item.key == k) ≡ false
        → list_any (λ y. y == k) (read_keys (ys ++ item ∷ [])) ≡ false
    not_among k [] before new = ap (λ b. b || false) new
    not_among k (y ∷ ys) before new =
        let two = neither (y.key == k) (list_any (λ z. z == k) (read_keys ys)) before in
        ap (λ b. b || list_any (λ z. z == k) (read_keys (ys ++ item ∷ []))) two.0 ∙ not_among k ys two.1 new

few-joined : (reads : List ReadItem) (item : ReadItem) → length reads < 16 → length (reads ++ item ∷ []) ≤ 16
few-joined reads item h = subst (λ n. n ≤ 16) (sym (one_more reads)) h
  where
    one_more : (xs : List ReadItem) → length (xs ++ item ∷ []) ≡ suc (length xs)
    one_more [] = refl
    one_more (x ∷ xs) = ap suc (one_more xs)

-- reads that may take an item fit with it
pub ReadsFit-joined : (reads : List ReadItem) (item : ReadItem) → may_join item.key reads ≡ true → ReadsFit reads → ReadsFit (reads ++ item ∷ [])
ReadsFit-joined reads item room h =
    let parts = and_parts (not (list_any (λ (i : ReadItem). i.key == item.key) reads)) (nat_lt (length reads) 16) room in
    record {
      few = few-joined reads item (below (length reads) parts.1);
      distinct = distinct-joined item.key reads item refl (not-true _ parts.0) h.distinct;
    }
  where
    below : (n : ℕ) → nat_lt n 16 ≡ true → n < 16
    below n e = grind (arith, nat_tests, e)

-- ---- the stamp is above the reads

above-all : (client time : ℕ) (reads : List ReadItem) → time_above_reads reads ≤ time → is_above_reads (record { time = time; client = client }) reads ≡ true
above-all client time [] h = refl
above-all client time (item ∷ items) h =
    let here : item.version.time < time = omega (arith, h) in
    let rest : time_above_reads items ≤ time = omega (arith, h) in
    ap (λ b. (b || (item.version.time == time && nat_lt item.version.client client)) && is_above_reads (record { time = time; client = client }) items)
    (is_below item.version.time here)
    ∙ above-all client time items rest
  where
    is_below : (a : ℕ) → a < time → nat_lt a time ≡ true
    is_below a k = grind (arith, nat_tests, k)

-- the next stamp is above what was read
pub next-above : (client last clock : ℕ) (reads : List ReadItem) (stamp : Stamp) → next_stamp_of client last clock reads ≡ Some stamp
    → is_above_reads stamp reads ≡ true
next-above client last clock reads stamp e = by_test (nat_lt (2 ^ 62) (fresh_time last clock reads)) e
  where
    by_test : (t : Bool) → cond t None (Some (record { time = fresh_time last clock reads; client = client })) ≡ Some stamp → is_above_reads stamp reads ≡ true
    by_test true k = absurd (none-some stamp k)
    by_test false k =
        let above : time_above_reads reads ≤ fresh_time last clock reads = omega arith in
        subst (λ (s : Stamp). is_above_reads s reads ≡ true) (same_Some (record { time = fresh_time last clock reads; client = client }) stamp k)
        (above-all client (fresh_time last clock reads) reads above)

-- ---- no fault

none-repeated : (keys : List ℕ) → are_distinct keys ≡ true → repeated_key keys ≡ None
none-repeated [] e = refl
none-repeated (key ∷ keys) e =
    let parts = and_parts (not (list_any (λ later. later == key) keys)) (are_distinct keys) e in
    ap (λ b. cond b (Some key) (repeated_key keys)) (not-true _ parts.0) ∙ none-repeated keys parts.1

none-late : (stamp : Stamp) (reads : List ReadItem) → is_above_reads stamp reads ≡ true → key_not_above stamp reads ≡ None
none-late stamp [] e = refl
none-late stamp (item ∷ items) e = by_test (is_before item.version stamp) e (none-late stamp items)
  where
    by_test : (b : Bool) → (b && is_above_reads stamp items) ≡ true → (is_above_reads stamp items ≡ true → key_not_above stamp items ≡ None)
        → option_map (λ (i : ReadItem). i.key) (cond (not b) (Some item) (find (λ (i : ReadItem). not (is_before i.version stamp)) items)) ≡ None
    by_test true k ih = ih k
    by_test false k ih = absurd (false≢true k)

not_above : (n : ℕ) → n ≤ 16 → nat_lt 16 n ≡ false
not_above n h = grind (arith, nat_tests, h)

-- reads and writes that fit have no fault under a stamp above the reads
pub none-faulty : (stamp : Stamp) (reads : List ReadItem) (writes : List WriteItem) → ReadsFit reads → is_above_reads stamp reads ≡ true → length writes ≤ 16
    → are_distinct (write_keys writes) ≡ true → txn_fault stamp reads writes ≡ None
none-faulty stamp reads writes fits above few distinct =
    let reads_few = not_above (length reads) fits.few in
    let writes_few = not_above (length writes) few in
    let reads_once = none-repeated (read_keys reads) fits.distinct in
    let writes_once = none-repeated (write_keys writes) distinct in
    let no_late = none-late stamp reads above in
    simp (reads_few, writes_few, reads_once, writes_once, no_late)

-- so that only memory fails
pub only-memory : (fault : TxnError) (stamp : Stamp) (reads : List ReadItem) (writes : List WriteItem) → txn_fault stamp reads writes ≡ None
    → (fault ≡ NoMemory) ⊎ (txn_fault stamp reads writes ≡ Some fault) → fault ≡ NoMemory
only-memory fault stamp reads writes none (inl e) = e
only-memory fault stamp reads writes none (inr e) = absurd (none-some fault (sym none ∙ e))

-- what the condition on the writes tells
pub fit-few : (keys : ℕ) (writes : List WriteItem) → writes_fit keys writes ≡ true → length writes ≤ 16
fit-few keys writes e =
    upto (length writes)
    (and_parts (nat_le (length writes) 16) (are_distinct (write_keys writes)) (and_parts (nat_le (length writes) 16 && are_distinct (write_keys writes)) _ e).0).0
  where
    upto : (n : ℕ) → nat_le n 16 ≡ true → n ≤ 16
    upto n k = grind (arith, nat_tests, k)

pub fit-distinct : (keys : ℕ) (writes : List WriteItem) → writes_fit keys writes ≡ true → are_distinct (write_keys writes) ≡ true
fit-distinct keys writes e =
    (and_parts (nat_le (length writes) 16) (are_distinct (write_keys writes)) (and_parts (nat_le (length writes) 16 && are_distinct (write_keys writes)) _ e).0).1
