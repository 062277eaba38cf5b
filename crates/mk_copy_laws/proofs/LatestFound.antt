-- The last write of a key among transactions: whose it is, and which it is.
use Rattle.std.proofs.Common.{◌≡◌, ◌⊎◌, ℕ, Bool, true, false, refl, sym, ap, ◌∙◌, inl, inr, arith, List, [], ◌∷◌, cond, ◌==◌, not, subst}
use Rattle.std.specs.List.{list_any}
use Rattle.std.proofs.lemmas.Bool.Decides.{nat_tests}
use Rattle.std.proofs.lemmas.Bool.{and_parts, eq-eqb, eqb-true, not-true, or_parts}
use Rattle.mk_lists.specs.Among.{Among}
use Rattle.mk_lists.proofs.Tests.{list_any-from_Among}
use Rattle.mk_txn.specs.declared.Stamp.{Stamp}
use Rattle.mk_txn.specs.declared.Value.{Value}
use Rattle.mk_txn.specs.declared.WriteItem.{WriteItem}
use Rattle.mk_txn.specs.Stamps.{is_before, later_stamp, zero_stamp}
use Rattle.mk_txn.specs.Clashes.{writes_key}
use Rattle.mk_txn.specs.Transactions.{Transaction, write_keys, are_distinct}
use Rattle.mk_txn.specs.LatestWrites.{VersionedValue, first_version, after_write, after_writes, latest_write, reads_key, latest_read}
use Rattle.mk_txn.proofs.StampOrder.{is_before-itself, same-from_neither}
use Rattle.mk_model.specs.OneCopy.{stamps_of, HaveDistinctStamps}
use Rattle.mk_copy_laws.specs.LatestLaws.{LatestWriteIs, LatestReadIs, LatestWriteFound, LatestWriteNone}

abbrev written : Stamp → Value → VersionedValue
written stamp value = record { version = stamp; value = value }

-- ---- whose it is

write-is : (key : ℕ) (stamp : Stamp) (latest : VersionedValue) (item : WriteItem) →
    (after_write key stamp latest item ≡ latest) ⊎ ((item.key ≡ key) × (after_write key stamp latest item ≡ written stamp item.value))
write-is key stamp latest item = by (item.key == key) refl (is_before stamp latest.version)
  where
    by : (b : Bool) → (item.key == key) ≡ b → (c : Bool) →
        (cond b (cond c latest (written stamp item.value)) latest ≡ latest) ⊎ ((item.key ≡ key) × (cond b (cond c latest (written stamp item.value)) latest ≡ written stamp item.value))
    by true e true = inl refl
    by true e false = inr (eqb-true item.key key e, refl)
    by false e c = inl refl

-- a write of the key among these items stands
abbrev StandsOf : ℕ → Stamp → List WriteItem → VersionedValue → Type 0
StandsOf key stamp items v = (item : WriteItem) × Among item items × (item.key ≡ key) × (v ≡ written stamp item.value)

writes-is : (key : ℕ) (stamp : Stamp) (latest : VersionedValue) (items : List WriteItem) →
    (after_writes key stamp latest items ≡ latest) ⊎ StandsOf key stamp items (after_writes key stamp latest items)
writes-is key stamp latest [] = inl refl
writes-is key stamp latest (item ∷ items) = elim (writes-is key stamp (after_write key stamp latest item) items) [
  | inl e ↦ elim (write-is key stamp latest item) [
    | inl k ↦ inl (e ∙ k)
    | inr k ↦ inr (item, inl refl, k.0, e ∙ k.1)
  ]
  | inr s ↦ inr (s.0, inr s.1, s.2, s.3)
]

-- a write of the key by one of these transactions stands
abbrev StandsIn : ℕ → List Transaction → VersionedValue → Type 0
StandsIn key txns v = (txn : Transaction) × Among txn txns × StandsOf key txn.stamp txn.writes v

latest-is : (key : ℕ) (latest : VersionedValue) (txns : List Transaction) → (latest_write key latest txns ≡ latest) ⊎ StandsIn key txns (latest_write key latest txns)
latest-is key latest [] = inl refl
latest-is key latest (txn ∷ txns) = elim (latest-is key (after_writes key txn.stamp latest txn.writes) txns) [
  | inl e ↦ elim (writes-is key txn.stamp latest txn.writes) [
    | inl k ↦ inl (e ∙ k)
    | inr s ↦ inr (txn, inl refl, (s.0, s.1, s.2, e ∙ s.3))
  ]
  | inr s ↦ inr (s.0, inr s.1, s.2)
]

pub latest_write_is : LatestWriteIs
latest_write_is key txns = elim (latest-is key first_version txns) [
  | inl e ↦ inl e
  | inr s ↦ inr (record { txn = s.0; item = s.2.0; among = s.1; writes = s.2.1; on_key = s.2.2; stands = s.2.3 })
]

later-is : (a b : Stamp) → (later_stamp a b ≡ a) ⊎ (later_stamp a b ≡ b)
later-is a b = by (is_before a b)
  where
    by : (c : Bool) → (cond c b a ≡ a) ⊎ (cond c b a ≡ b)
    by true = inr refl
    by false = inl refl

-- one of these transactions reads the key, and this is its stamp
abbrev ReadIn : ℕ → List Transaction → Stamp → Type 0
ReadIn key txns v = (txn : Transaction) × Among txn txns × (reads_key key txn ≡ true) × (v ≡ txn.stamp)

read-is : (key : ℕ) (txns : List Transaction) → (latest_read key txns ≡ zero_stamp) ⊎ ReadIn key txns (latest_read key txns)
read-is key [] = inl refl
read-is key (txn ∷ txns) = by (read-is key txns) (reads_key key txn) refl (later-is (latest_read key txns) txn.stamp)
  where
    by : (latest_read key txns ≡ zero_stamp) ⊎ ReadIn key txns (latest_read key txns) → (b : Bool) → reads_key key txn ≡ b →
        (later_stamp (latest_read key txns) txn.stamp ≡ latest_read key txns) ⊎ (later_stamp (latest_read key txns) txn.stamp ≡ txn.stamp) →
        (cond b (later_stamp (latest_read key txns) txn.stamp) (latest_read key txns) ≡ zero_stamp)
        ⊎ ReadIn key (txn ∷ txns) (cond b (later_stamp (latest_read key txns) txn.stamp) (latest_read key txns))
    by again true e (inr k) = inr (txn, inl refl, e, k)
    by (inl z) true e (inl k) = inl (k ∙ z)
    by (inr r) true e (inl k) = inr (r.0, inr r.1, r.2, k ∙ r.3)
    by (inl z) false e k = inl z
    by (inr r) false e k = inr (r.0, inr r.1, r.2, r.3)

pub latest_read_is : LatestReadIs
latest_read_is key txns = elim (read-is key txns) [
  | inl e ↦ inl e
  | inr r ↦ inr (record { txn = r.0; among = r.1; reads = r.2; stands = r.3 })
]

-- ---- which it is

-- who does not write the key leaves it
writes-none : (key : ℕ) (stamp : Stamp) (latest : VersionedValue) (items : List WriteItem) → list_any (λ item. item.key == key) items ≡ false → after_writes key stamp latest items ≡ latest
writes-none key stamp latest [] e = refl
writes-none key stamp latest (item ∷ items) e =
    let k = or_parts (item.key == key) (list_any (λ i. i.key == key) items) e in
    let same : after_write key stamp latest item ≡ latest = ap (λ (b : Bool). cond b (cond (is_before stamp latest.version) latest (written stamp item.value)) latest) k.0 in
    ap (λ (v : VersionedValue). after_writes key stamp v items) same ∙ writes-none key stamp latest items k.1

latest-none : (key : ℕ) (latest : VersionedValue) (txns : List Transaction) → ((other : Transaction) → Among other txns → writes_key key other ≡ false) → latest_write key latest txns ≡ latest
latest-none key latest [] none = refl
latest-none key latest (txn ∷ txns) none =
    ap (λ (v : VersionedValue). latest_write key v txns) (writes-none key txn.stamp latest txn.writes (none txn (inl refl)))
    ∙ latest-none key latest txns (λ other a. none other (inr a))

pub latest_write_none : LatestWriteNone
latest_write_none key txns none = latest-none key first_version txns none

-- who writes before what stands leaves it
writes-before : (key : ℕ) (stamp : Stamp) (latest : VersionedValue) (items : List WriteItem) → is_before stamp latest.version ≡ true → after_writes key stamp latest items ≡ latest
writes-before key stamp latest [] e = refl
writes-before key stamp latest (item ∷ items) e = ap (λ (v : VersionedValue). after_writes key stamp v items) (by (item.key == key)) ∙ writes-before key stamp latest items e
  where
    by : (b : Bool) → cond b (cond (is_before stamp latest.version) latest (written stamp item.value)) latest ≡ latest
    by true = ap (λ (c : Bool). cond c latest (written stamp item.value)) e
    by false = refl

-- of items whose keys differ the one with this key stands, unless something later stood
writes-own : (key : ℕ) (stamp : Stamp) (latest : VersionedValue) (items : List WriteItem) (item : WriteItem) → are_distinct (write_keys items) ≡ true → Among item items → item.key ≡ key →
    is_before stamp latest.version ≡ false → after_writes key stamp latest items ≡ written stamp item.value
writes-own key stamp latest [] item distinct a same low = absurd a
writes-own key stamp latest (first ∷ items) item distinct (inl here) same low =
    let d = and_parts (not (list_any (λ y. y == first.key) (write_keys items))) (are_distinct (write_keys items)) distinct in
    let first_same : first.key ≡ key = ap (λ (i : WriteItem). i.key) here ∙ same in
    let stands : after_write key stamp latest first ≡ written stamp first.value =
    ap (λ (b : Bool). cond b (cond (is_before stamp latest.version) latest (written stamp first.value)) latest) (eq-eqb first.key key first_same)
    ∙ ap (λ (c : Bool). cond c latest (written stamp first.value)) low in
    ap (λ (v : VersionedValue). after_writes key stamp v items) stands
    ∙ writes-none key stamp (written stamp first.value) items (no_more items (subst (λ (n : ℕ). list_any (λ y. y == n) (write_keys items) ≡ false) first_same (not-true (list_any (λ y. y == first.key) (write_keys items)) d.0)))
    ∙ ap (λ (i : WriteItem). written stamp i.value) here
  where
    no_more : (items : List WriteItem) → list_any (λ y. y == key) (write_keys items) ≡ false → list_any (λ (i : WriteItem). i.key == key) items ≡ false
    no_more [] e = refl
    no_more (i ∷ is) e = grind (arith, e, no_more is)
writes-own key stamp latest (first ∷ items) item distinct (inr a) same low =
    let d = and_parts (not (list_any (λ y. y == first.key) (write_keys items))) (are_distinct (write_keys items)) distinct in
    writes-own key stamp (after_write key stamp latest first) items item d.1 a same (by (write-is key stamp latest first))
  where
    by : (after_write key stamp latest first ≡ latest) ⊎ ((first.key ≡ key) × (after_write key stamp latest first ≡ written stamp first.value)) → is_before stamp (after_write key stamp latest first).version ≡ false
    by (inl e) = subst (λ (v : VersionedValue). is_before stamp v.version ≡ false) (sym e) low
    by (inr e) = subst (λ (v : VersionedValue). is_before stamp v.version ≡ false) (sym e.1) (is_before-itself stamp)

-- the write that is not before any other's stays
latest-stays : (key : ℕ) (stamp : Stamp) (value : Value) (txns : List Transaction) → ¬ (Among stamp (stamps_of txns)) →
    ((other : Transaction) → Among other txns → writes_key key other ≡ true → is_before stamp other.stamp ≡ false) → latest_write key (written stamp value) txns ≡ written stamp value
latest-stays key stamp value [] new last = refl
latest-stays key stamp value (txn ∷ txns) new last =
    ap (λ (v : VersionedValue). latest_write key v txns) (by (writes_key key txn) refl (is_before txn.stamp stamp) refl)
    ∙ latest-stays key stamp value txns (λ a. new (inr a)) (λ other a. last other (inr a))
  where
    by : (b : Bool) → writes_key key txn ≡ b → (c : Bool) → is_before txn.stamp stamp ≡ c → after_writes key txn.stamp (written stamp value) txn.writes ≡ written stamp value
    by false e c k = writes-none key txn.stamp (written stamp value) txn.writes e
    by true e true k = writes-before key txn.stamp (written stamp value) txn.writes k
    by true e false k = absurd (new (inl (same-from_neither txn.stamp stamp k (last txn (inl refl) e))))

latest-found : (key : ℕ) (latest : VersionedValue) (txns : List Transaction) (txn : Transaction) (item : WriteItem) → HaveDistinctStamps txns → are_distinct (write_keys txn.writes) ≡ true →
    Among txn txns → Among item txn.writes → item.key ≡ key → is_before txn.stamp latest.version ≡ false →
    ((other : Transaction) → Among other txns → writes_key key other ≡ true → is_before txn.stamp other.stamp ≡ false) → latest_write key latest txns ≡ written txn.stamp item.value
latest-found key latest [] txn item apart distinct a b same low last = absurd a
latest-found key latest (first ∷ txns) txn item apart distinct (inl here) b same low last =
    ap (λ (v : VersionedValue). latest_write key v txns)
    (ap (λ (t : Transaction). after_writes key t.stamp latest t.writes) here ∙ writes-own key txn.stamp latest txn.writes item distinct b same low)
    ∙ latest-stays key txn.stamp item.value txns (subst (λ (t : Transaction). ¬ (Among t.stamp (stamps_of txns))) here apart.0) (λ other a. last other (inr a))
latest-found key latest (first ∷ txns) txn item apart distinct (inr a) b same low last =
    latest-found key (after_writes key first.stamp latest first.writes) txns txn item apart.1 distinct a b same (by (writes-is key first.stamp latest first.writes)) (λ other c. last other (inr c))
  where
    by : (after_writes key first.stamp latest first.writes ≡ latest) ⊎ StandsOf key first.stamp first.writes (after_writes key first.stamp latest first.writes) →
        is_before txn.stamp (after_writes key first.stamp latest first.writes).version ≡ false
    by (inl e) = subst (λ (v : VersionedValue). is_before txn.stamp v.version ≡ false) (sym e) low
    by (inr s) =
        subst (λ (v : VersionedValue). is_before txn.stamp v.version ≡ false) (sym s.3)
        (last first (inl refl) (list_any-from_Among (λ (i : WriteItem). i.key == key) first.writes s.0 s.1 (eq-eqb s.0.key key s.2)))

none_before_zero : (stamp : Stamp) → is_before stamp zero_stamp ≡ false
none_before_zero stamp = grind (arith, nat_tests)

pub latest_write_found : LatestWriteFound
latest_write_found key txns txn item apart distinct a b same last = latest-found key first_version txns txn item apart distinct a b same (none_before_zero txn.stamp) last
