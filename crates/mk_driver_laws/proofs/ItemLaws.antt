-- The keys that items fetch and write: none twice, no more than the items, and each is an item's key.
use Rattle.std.proofs.Common.{◌≡◌, ◌⊎◌, ◌∙◌, inl, inr, ◌<◌, ◌≤◌, ℕ, ◌+◌, Bool, true, false, refl, sym, subst, ap, arith, List, [], ◌∷◌, ◌++◌, length, Some, not, ◌||◌, if◌then◌else◌}
use Rattle.std.specs.Prelude.{◌==◌, slice_get, nat_lt}
use Rattle.std.specs.List.{list_any, list_all}
use Rattle.std.proofs.lemmas.Bool.Decides.{nat_tests}
use Rattle.std.proofs.lemmas.List.{append_assoc}
use Rattle.std.proofs.lemmas.Bool.{and_from, and_parts, eq-eqb, eqb-true, not-true}
use Rattle.mk_lists.specs.Among.{Among, AllDistinct, Each, Among-append_right}
use Rattle.mk_lists.proofs.Tests.{list_any-append_left}
use Rattle.mk_txn.specs.declared.ReadItem.{ReadItem}
use Rattle.mk_txn.specs.declared.Value.{Value}
use Rattle.mk_txn.specs.declared.Value.TheVariants.{Number, Absent}
use Rattle.mk_txn.specs.declared.WriteItem.{WriteItem}
use Rattle.mk_txn.specs.Transactions.{are_distinct, read_keys, write_keys}
use Rattle.mk_proc.specs.declared.Item.{Item}
use Rattle.mk_proc.specs.declared.Item.TheVariants.{Read, Write, Compute, Delete}
use Rattle.mk_proc.specs.Items.{key_of, is_read}
use Rattle.mk_proc.specs.Procedures.{proc_value}
use Rattle.mk_client.specs.Wanted.{has_key, is_fetched, keys_after, wanted_keys}
use Rattle.mk_client.specs.Computed.{Buffer, put, after_item, after_items, empty_buffer, with_value, with_write, writes_of}
use Rattle.mk_client.specs.DistinctKeys.{has_key-last, length-keys_after, are_distinct-put, length-put}
use Rattle.mk_driver_laws.proofs.Requests.{IsKnown}

-- ---- keys to fetch

-- what an earlier item reads or writes is not fetched
not_fetched : (earlier items : List Item) (key : ℕ) → has_key key earlier ≡ true → Among key (keys_after earlier items) → ⊥
not_fetched earlier [] key h a = a
not_fetched earlier (item ∷ items) key h a =
    by (is_fetched earlier item) refl (not_fetched (earlier ++ item ∷ []) items key (list_any-append_left (λ (x : Item). key_of x == key) earlier (item ∷ []) h)) a
  where
    later : List ℕ
    later = keys_after (earlier ++ item ∷ []) items

    by : (b : Bool) → is_fetched earlier item ≡ b → (Among key later → ⊥) → Among key (if b then key_of item ∷ later else later) → ⊥
    by true f rest (inl e) =
        let new : has_key (key_of item) earlier ≡ false = not-true (has_key (key_of item) earlier) (and_parts (is_read item) (not (has_key (key_of item) earlier)) f).1 in
        let there : has_key (key_of item) earlier ≡ true = subst (λ (k : ℕ). has_key k earlier ≡ true) (sym e) h in
        cc (sym new ∙ there)
    by true f rest (inr a) = rest a
    by false f rest a = rest a

distinct_after : (earlier items : List Item) → AllDistinct (keys_after earlier items)
distinct_after earlier [] = tt
distinct_after earlier (item ∷ items) =
    by (is_fetched earlier item) (not_fetched (earlier ++ item ∷ []) items (key_of item) (has_key-last earlier item)) (distinct_after (earlier ++ item ∷ []) items)
  where
    later : List ℕ
    later = keys_after (earlier ++ item ∷ []) items

    by : (b : Bool) → (Among (key_of item) later → ⊥) → AllDistinct later → AllDistinct (if b then key_of item ∷ later else later)
    by true new rest = (new, rest)
    by false new rest = rest

known_after : (n : ℕ) (earlier items : List Item) → Each (IsKnown n) items → Each (λ (key : ℕ). key < n) (keys_after earlier items)
known_after n earlier [] h = tt
known_after n earlier (item ∷ items) h = by (is_fetched earlier item) (known_after n (earlier ++ item ∷ []) items h.1)
  where
    later : List ℕ
    later = keys_after (earlier ++ item ∷ []) items

    by : (b : Bool) → Each (λ (key : ℕ). key < n) later → Each (λ (key : ℕ). key < n) (if b then key_of item ∷ later else later)
    by true rest = (h.0, rest)
    by false rest = rest

-- these keys are the first of those
abbrev pub IsFirst : List ℕ → List ℕ → Type 0
IsFirst first keys = (rest : List ℕ) × (keys ≡ first ++ rest)

get_past : (first rest : List ℕ) → slice_get (first ++ rest) (length first) ≡ slice_get rest 0
get_past [] rest = refl
get_past (x ∷ first) rest = get_past first rest

-- so are they with the next one
pub first_more : (keys first : List ℕ) (key : ℕ) → IsFirst first keys → slice_get keys (length first) ≡ Some key → IsFirst (first ++ key ∷ []) keys
first_more keys first key h e = by h.0 h.1 (sym (get_past first h.0) ∙ ap (λ (ks : List ℕ). slice_get ks (length first)) (sym h.1) ∙ e)
  where
    by : (rest : List ℕ) → keys ≡ first ++ rest → slice_get rest 0 ≡ Some key → IsFirst (first ++ key ∷ []) keys
    by [] q z = absurd (cc z)
    by (x ∷ rest) q z =
        let same : x ≡ key = cc z in
        (rest, q ∙ ap (λ (k : ℕ). first ++ k ∷ rest) same ∙ sym (append_assoc first (key ∷ []) rest))

apart_from : (first : List ℕ) (key : ℕ) (rest : List ℕ) → AllDistinct (first ++ key ∷ rest) → Among key first → ⊥
apart_from [] key rest h a = a
apart_from (x ∷ first) key rest h (inl e) = h.0 (subst (λ (k : ℕ). Among k (first ++ key ∷ rest)) (sym e) (Among-append_right key first (key ∷ rest) (inl refl)))
apart_from (x ∷ first) key rest h (inr a) = apart_from first key rest h.1 a

each_past : (P : ℕ → Type 0) (first : List ℕ) (key : ℕ) (rest : List ℕ) → Each P (first ++ key ∷ rest) → P key
each_past P [] key rest h = h.0
each_past P (x ∷ first) key rest h = each_past P first key rest h.1

none_read : (key : ℕ) (reads : List ReadItem) → (Among key (read_keys reads) → ⊥) → list_any (λ item. item.key == key) reads ≡ false
none_read key [] h = refl
none_read key (item ∷ reads) h = by (item.key == key) refl (none_read key reads (λ a. h (inr a)))
  where
    by : (b : Bool) → (item.key == key) ≡ b → list_any (λ item. item.key == key) reads ≡ false → (b || list_any (λ item. item.key == key) reads) ≡ false
    by true e rest = absurd (h (inl (eqb-true item.key key e)))
    by false e rest = rest

-- where a key comes next, it was not read before, it is an item's, and fewer were read than there are items
pub record IsNext (n : ℕ) (items : List Item) (reads : List ReadItem) (key : ℕ) : Type 0 where
  pub new : list_any (λ item. item.key == key) reads ≡ false
  pub fewer : length (read_keys reads) < length items
  pub known : key < n

pub is_next : (n : ℕ) (items : List Item) (reads : List ReadItem) (key : ℕ) → Each (IsKnown n) items → IsFirst (read_keys reads ++ key ∷ []) (wanted_keys items) → IsNext n items reads key
is_next n items reads key known first =
    let rest = first.0 in
    let whole : wanted_keys items ≡ read_keys reads ++ key ∷ rest = first.1 ∙ append_assoc (read_keys reads) (key ∷ []) rest in
    record {
      new = none_read key reads (apart_from (read_keys reads) key rest (subst AllDistinct whole (distinct_after [] items)));
      fewer = shorter (read_keys reads) rest whole;
      known = each_past (λ k. k < n) (read_keys reads) key rest (subst (λ (ks : List ℕ). Each (λ (k : ℕ). k < n) ks) whole (known_after n [] items known));
    }
  where
    longer : (xs ys : List ℕ) → length xs < length (xs ++ key ∷ ys)
    longer [] ys = omega arith
    longer (x ∷ xs) ys = let h = longer xs ys in omega (arith, h)

    shorter : (xs ys : List ℕ) → wanted_keys items ≡ xs ++ key ∷ ys → length xs < length items
    shorter xs ys e =
        let few = length-keys_after [] items in
        let same : length (wanted_keys items) ≡ length (xs ++ key ∷ ys) = ap length e in
        let more = longer xs ys in
        omega (arith, few, same, more)

-- ---- keys to write

-- the writes of so many items
pub record WritesFit (n count : ℕ) (writes : List WriteItem) : Type 0 where
  pub distinct : are_distinct (write_keys writes) ≡ true
  pub few : length writes ≤ count
  pub known : list_all (λ item. nat_lt item.key n) writes ≡ true

put_known : (n key : ℕ) (value : Value) (writes : List WriteItem) → nat_lt key n ≡ true → list_all (λ item. nat_lt item.key n) writes ≡ true →
    list_all (λ item. nat_lt item.key n) (put key value writes) ≡ true
put_known n key value [] k h = and_from (nat_lt key n) true k refl
put_known n key value (item ∷ writes) k h = by (item.key == key) (put_known n key value writes k)
  where
    by : (b : Bool) → (list_all (λ item. nat_lt item.key n) writes ≡ true → list_all (λ item. nat_lt item.key n) (put key value writes) ≡ true) →
        list_all (λ item. nat_lt item.key n) (if b then record item { value = value } ∷ writes else item ∷ put key value writes) ≡ true
    by true rest = h
    by false rest =
        let first = (and_parts (nat_lt item.key n) (list_all (λ item. nat_lt item.key n) writes) h).0 in
        let others = rest (and_parts (nat_lt item.key n) (list_all (λ item. nat_lt item.key n) writes) h).1 in
        and_from (nat_lt item.key n) (list_all (λ item. nat_lt item.key n) (put key value writes)) first others

put_fits : (n count key : ℕ) (value : Value) (writes : List WriteItem) → key < n → WritesFit n count writes → WritesFit n (count + 1) (put key value writes)
put_fits n count key value writes k h =
    let there : nat_lt key n ≡ true = grind (arith, nat_tests, k) in
    record {
      distinct = are_distinct-put key value writes h.distinct;
      few = (let before = h.few in let one = length-put key value writes in omega (arith, before, one));
      known = put_known n key value writes there h.known;
    }

item_fits : (n count : ℕ) (reads : List ReadItem) (buffer : Buffer) (item : Item) → key_of item < n → WritesFit n count buffer.writes →
    WritesFit n (count + 1) (let after = after_item reads buffer item in after.writes)
item_fits n count reads buffer (Read key) k h = record { distinct = h.distinct; few = (let few = h.few in omega (arith, few)); known = h.known }
item_fits n count reads buffer (Write key value) k h = put_fits n count key (Number value) buffer.writes k h
item_fits n count reads buffer (Compute key proc arg) k h = put_fits n count key (Number (proc_value proc buffer.values arg)) buffer.writes k h
item_fits n count reads buffer (Delete key) k h = put_fits n count key Absent buffer.writes k h

items_fit : (n count : ℕ) (reads : List ReadItem) (buffer : Buffer) (items : List Item) → Each (IsKnown n) items → WritesFit n count buffer.writes →
    WritesFit n (count + length items) (let after = after_items reads buffer items in after.writes)
items_fit n count reads buffer [] k h = record { distinct = h.distinct; few = (let few = h.few in omega (arith, few)); known = h.known }
items_fit n count reads buffer (item ∷ items) k h =
    let rest = items_fit n (count + 1) reads (after_item reads buffer item) items k.1 (item_fits n count reads buffer item k.0 h) in
    record { distinct = rest.distinct; few = (let few = rest.few in omega (arith, few)); known = rest.known }

pub writes_fit_items : (n : ℕ) (items : List Item) (reads : List ReadItem) → Each (IsKnown n) items → WritesFit n (length items) (writes_of items reads)
writes_fit_items n items reads k =
    let all = items_fit n 0 reads empty_buffer items k (record { distinct = refl; few = omega arith; known = refl }) in
    record { distinct = all.distinct; few = (let few = all.few in omega (arith, few)); known = all.known }

-- ---- something is fetched or written

put_some : (key : ℕ) (value : Value) (writes : List WriteItem) → 0 < length (put key value writes)
put_some key value [] = omega arith
put_some key value (item ∷ writes) = by (item.key == key)
  where
    by : (b : Bool) → 0 < length (if b then record item { value = value } ∷ writes else item ∷ put key value writes)
    by true = omega arith
    by false = omega arith

stays_some : (reads : List ReadItem) (buffer : Buffer) (items : List Item) → 0 < length buffer.writes → 0 < length (let after = after_items reads buffer items in after.writes)
stays_some reads buffer [] h = h
stays_some reads buffer (Read key ∷ items) h = stays_some reads (with_value reads buffer key) items h
stays_some reads buffer (Write key value ∷ items) h = stays_some reads (with_write buffer key (Number value)) items (put_some key (Number value) buffer.writes)
stays_some reads buffer (Compute key proc arg ∷ items) h =
    let value = Number (proc_value proc buffer.values arg) in stays_some reads (with_write buffer key value) items (put_some key value buffer.writes)
stays_some reads buffer (Delete key ∷ items) h = stays_some reads (with_write buffer key Absent) items (put_some key Absent buffer.writes)

pub some_work : (items : List Item) (reads : List ReadItem) → 0 < length items → (0 < length (wanted_keys items)) ⊎ (0 < length (writes_of items reads))
some_work [] reads h = absurd (omega (arith, h))
some_work (Read key ∷ items) reads h = inl (omega arith)
some_work (Write key value ∷ items) reads h = inr (stays_some reads (with_write empty_buffer key (Number value)) items (put_some key (Number value) []))
some_work (Compute key proc arg ∷ items) reads h =
    let value = Number (proc_value proc [] arg) in inr (stays_some reads (with_write empty_buffer key value) items (put_some key value []))
some_work (Delete key ∷ items) reads h = inr (stays_some reads (with_write empty_buffer key Absent) items (put_some key Absent []))
