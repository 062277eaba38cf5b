-- No key is fetched twice, and none is written twice.
use Rattle.std.proofs.Common.{◌≡◌, ℕ, zero, suc, ◌+◌, ◌≤◌, Bool, true, false, ◌||◌, cond, eqb, List, [], ◌∷◌, ◌++◌, length, take, refl, ap, arith}
use Rattle.std.specs.List.{list_any}
use Rattle.std.proofs.lemmas.Bool.Decides.{nat_tests}
use Rattle.std.proofs.lemmas.List.Folds.{list_any-append}
use Rattle.mk_txn.specs.declared.ReadItem.{ReadItem}
use Rattle.mk_txn.specs.declared.Value.{Value}
use Rattle.mk_txn.specs.declared.Value.TheVariants.{Number, Absent}
use Rattle.mk_txn.specs.declared.WriteItem.{WriteItem}
use Rattle.mk_txn.specs.Transactions.{are_distinct, write_keys}
use Rattle.mk_proc.specs.declared.Item.{Item}
use Rattle.mk_proc.specs.declared.Item.TheVariants.{Read, Write, Compute, Delete}
use Rattle.mk_proc.specs.Items.{key_of}
use Rattle.mk_proc.specs.Procedures.{proc_value}
use Rattle.mk_client.specs.Wanted.{has_key, is_fetched, keys_after, wanted_keys}
use Rattle.mk_client.specs.Computed.{Buffer, put, after_item, after_items, empty_buffer, writes_of}

-- whether the key is one of these
abbrev pub is_among : ℕ → List ℕ → Bool
is_among key keys = list_any (λ other. eqb other key) keys

fetched_is_new : (earlier : List Item) (item : Item) (key : ℕ) → has_key key earlier ≡ true → is_fetched earlier item ≡ true
    → eqb (key_of item) key ≡ false
fetched_is_new earlier item key h f = head (eqb (key_of item) key) refl
  where
    head : (b : Bool) → eqb (key_of item) key ≡ b → b ≡ false
    head true e =
        let same : key_of item ≡ key = grind (arith, nat_tests) in
        let there : has_key (key_of item) earlier ≡ true = rw same h in
        grind arith
    head false e = refl

has_key-later : (earlier : List Item) (item : Item) (key : ℕ) → has_key key earlier ≡ true → has_key key (earlier ++ item ∷ []) ≡ true
has_key-later earlier item key h = rw (list_any-append, h)

pub has_key-last : (earlier : List Item) (item : Item) → has_key (key_of item) (earlier ++ item ∷ []) ≡ true
has_key-last earlier item =
    let same : eqb (key_of item) (key_of item) ≡ true = grind (arith, nat_tests) in rw (list_any-append, same) (grind arith)

-- what an earlier item reads or writes is not fetched
not_fetched : (earlier items : List Item) (key : ℕ) → has_key key earlier ≡ true → is_among key (keys_after earlier items) ≡ false
not_fetched earlier [] key h = refl
not_fetched earlier (item ∷ items) key h =
    head (is_fetched earlier item) refl (not_fetched (earlier ++ item ∷ []) items key (has_key-later earlier item key h))
  where
    later : List ℕ
    later = keys_after (earlier ++ item ∷ []) items

    head : (b : Bool) → is_fetched earlier item ≡ b → is_among key (keys_after (earlier ++ item ∷ []) items) ≡ false
        → is_among key (cond b (key_of item ∷ keys_after (earlier ++ item ∷ []) items) (keys_after (earlier ++ item ∷ []) items)) ≡ false
    head true f rest = rw (fetched_is_new earlier item key h f) rest
    head false f rest = rest

are_distinct-keys_after : (earlier items : List Item) → are_distinct (keys_after earlier items) ≡ true
are_distinct-keys_after earlier [] = refl
are_distinct-keys_after earlier (item ∷ items) =
    head (is_fetched earlier item) (not_fetched (earlier ++ item ∷ []) items (key_of item) (has_key-last earlier item)) (are_distinct-keys_after (earlier ++ item ∷ []) items)
  where
    head : (b : Bool) → is_among (key_of item) (keys_after (earlier ++ item ∷ []) items) ≡ false → are_distinct (keys_after (earlier ++ item ∷ []) items) ≡ true
        → are_distinct (cond b (key_of item ∷ keys_after (earlier ++ item ∷ []) items) (keys_after (earlier ++ item ∷ []) items)) ≡ true
    head true new rest = rw new rest
    head false new rest = rest

pub length-keys_after : (earlier items : List Item) → length (keys_after earlier items) ≤ length items
length-keys_after earlier [] = omega arith
length-keys_after earlier (item ∷ items) = head (is_fetched earlier item) (length-keys_after (earlier ++ item ∷ []) items)
  where
    head : (b : Bool) → length (keys_after (earlier ++ item ∷ []) items) ≤ length items
        → length (cond b (key_of item ∷ keys_after (earlier ++ item ∷ []) items) (keys_after (earlier ++ item ∷ []) items)) ≤ length (item ∷ items)
    head true rest = omega arith
    head false rest = omega arith

is_among-take : (key n : ℕ) (keys : List ℕ) → is_among key keys ≡ false → is_among key (take n keys) ≡ false
is_among-take key zero keys h = refl
is_among-take key (suc n) [] h = refl
is_among-take key (suc n) (other ∷ keys) h = grind (arith, is_among-take key n keys)

are_distinct-take : (n : ℕ) (keys : List ℕ) → are_distinct keys ≡ true → are_distinct (take n keys) ≡ true
are_distinct-take zero keys h = refl
are_distinct-take (suc n) [] h = refl
are_distinct-take (suc n) (key ∷ keys) h = grind (arith, is_among-take key n keys, are_distinct-take n keys)

-- the first of the keys that items fetch are different, and no more than the items
pub are_distinct-fetched : (items : List Item) (n : ℕ) → are_distinct (take n (wanted_keys items)) ≡ true
are_distinct-fetched items n = are_distinct-take n (wanted_keys items) (are_distinct-keys_after [] items)

pub length-wanted_keys : (items : List Item) → length (wanted_keys items) ≤ length items
length-wanted_keys items = length-keys_after [] items

pub is_among-put : (key : ℕ) (value : Value) (writes : List WriteItem) (other : ℕ) → eqb key other ≡ false
    → is_among other (write_keys (put key value writes)) ≡ is_among other (write_keys writes)
is_among-put key value [] other e = rw e
is_among-put key value (item ∷ writes) other e = head (eqb item.key key) (is_among-put key value writes other e)
  where
    head : (b : Bool) → is_among other (write_keys (put key value writes)) ≡ is_among other (write_keys writes)
        → is_among other (write_keys (cond b (record item { value = value } ∷ writes) (item ∷ put key value writes))) ≡ is_among other (write_keys (item ∷ writes))
    head true rest = refl
    head false rest = ap (λ b. eqb item.key other || b) rest

pub are_distinct-put : (key : ℕ) (value : Value) (writes : List WriteItem) → are_distinct (write_keys writes) ≡ true
    → are_distinct (write_keys (put key value writes)) ≡ true
are_distinct-put key value [] h = refl
are_distinct-put key value (item ∷ writes) h = head (eqb item.key key) refl (are_distinct-put key value writes)
  where
    head : (b : Bool) → eqb item.key key ≡ b
        → (are_distinct (write_keys writes) ≡ true → are_distinct (write_keys (put key value writes)) ≡ true)
        → are_distinct (write_keys (cond b (record item { value = value } ∷ writes) (item ∷ put key value writes))) ≡ true
    head true e rest = h
    head false e rest =
        let apart : eqb key item.key ≡ false = grind (arith, nat_tests) in
        grind (arith, is_among-put key value writes item.key apart, rest)

pub length-put : (key : ℕ) (value : Value) (writes : List WriteItem) → length (put key value writes) ≤ length writes + 1
length-put key value [] = omega arith
length-put key value (item ∷ writes) = head (eqb item.key key) (length-put key value writes)
  where
    head : (b : Bool) → length (put key value writes) ≤ length writes + 1
        → length (cond b (record item { value = value } ∷ writes) (item ∷ put key value writes)) ≤ length (item ∷ writes) + 1
    head true rest = omega arith
    head false rest = omega arith

-- what a buffer of items keeps: each key is written once, and there are no more writes than items
record IsBuffer (buffer : Buffer) (count : ℕ) : Type 0 where
  distinct : are_distinct (write_keys buffer.writes) ≡ true
  few : length buffer.writes ≤ count

IsBuffer-item : (reads : List ReadItem) (buffer : Buffer) (item : Item) (count : ℕ) → IsBuffer buffer count
    → IsBuffer (after_item reads buffer item) (count + 1)
IsBuffer-item reads buffer (Read key) count h = record { distinct = h.distinct; few = omega (arith, h.few) }
IsBuffer-item reads buffer (Write key value) count h = record {
  distinct = are_distinct-put key (Number value) buffer.writes h.distinct;
  few = omega (arith, h.few, length-put key (Number value) buffer.writes);
}
IsBuffer-item reads buffer (Compute key proc arg) count h = record {
  distinct = are_distinct-put key (Number (proc_value proc buffer.values arg)) buffer.writes h.distinct;
  few = omega (arith, h.few, length-put key (Number (proc_value proc buffer.values arg)) buffer.writes);
}
IsBuffer-item reads buffer (Delete key) count h = record {
  distinct = are_distinct-put key Absent buffer.writes h.distinct;
  few = omega (arith, h.few, length-put key Absent buffer.writes);
}

IsBuffer-items : (reads : List ReadItem) (buffer : Buffer) (items : List Item) (count : ℕ) → IsBuffer buffer count
    → IsBuffer (after_items reads buffer items) (count + length items)
IsBuffer-items reads buffer [] count h = record { distinct = h.distinct; few = omega (arith, h.few) }
IsBuffer-items reads buffer (item ∷ items) count h =
    let rest = IsBuffer-items reads (after_item reads buffer item) items (count + 1) (IsBuffer-item reads buffer item count h) in
    record { distinct = rest.distinct; few = omega (arith, rest.few) }

-- each key is written once
pub are_distinct-writes_of : (items : List Item) (reads : List ReadItem) → are_distinct (write_keys (writes_of items reads)) ≡ true
are_distinct-writes_of items reads =
    let all = IsBuffer-items reads empty_buffer items 0 (record { distinct = refl; few = omega arith }) in all.distinct

-- there are no more writes than items
pub length-writes_of : (items : List Item) (reads : List ReadItem) → length (writes_of items reads) ≤ length items
length-writes_of items reads =
    let all = IsBuffer-items reads empty_buffer items 0 (record { distinct = refl; few = omega arith }) in omega (arith, all.few)
