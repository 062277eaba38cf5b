-- What the one copy holds of a key is the latest write of it, in whatever order the commits are looked at.
use Rattle.std.proofs.Common.{◌≡◌, ◌≢◌, ℕ, Bool, true, false, refl, sym, ap, ◌∙◌, inl, inr, arith, List, [], ◌∷◌, ◌==◌, Option, Some, None, if◌then◌else◌}
use Rattle.std.proofs.lemmas.Bool.Decides.{nat_tests}
use Rattle.std.specs.Ordering.{nat_cmp}
use Rattle.std.specs.BTreeMap.{insert_entry}
use Rattle.mk_lists.specs.Among.{Among, Each, Each-weaker}
use Rattle.mk_txn.specs.declared.Stamp.{Stamp}
use Rattle.mk_txn.specs.declared.Value.{Value}
use Rattle.mk_txn.specs.declared.WriteItem.{WriteItem}
use Rattle.mk_txn.specs.Stamps.{is_before, zero_stamp}
use Rattle.mk_txn.specs.Transactions.{Transaction}
use Rattle.mk_txn.specs.LatestWrites.{VersionedValue, first_version, after_write, after_writes, latest_write}
use Rattle.mk_txn.proofs.StampOrder.{is_before-itself, is_before-up, is_before-not_back, not_before-through, same-from_neither}
use Rattle.mk_words.specs.Bases.{placed_by_stamp, in_stamp_order}
use Rattle.mk_words.proofs.StampOrdering.{IsInStampOrder, ordered-stamp, ordered-in_order}
use Rattle.mk_model.specs.OneCopy.{Copy, version_in, with_writes, replayed, one_copy, stamps_of, HaveDistinctStamps}
use Rattle.mk_model.proofs.Copies.{version_in-insert}

-- a write of this stamp stands, unless a later one does
overwritten : Stamp → Value → VersionedValue → VersionedValue
overwritten stamp value latest = if is_before stamp latest.version then latest else record { version = stamp; value = value }

-- the last write of a key among these items
last_write : ℕ → List WriteItem → Option Value
last_write key [] = None
last_write key (item ∷ items) = elim (last_write key items) [ Some value ↦ Some value | None ↦ if item.key == key then Some item.value else None ]

-- that write, where there is one
written : Stamp → Option Value → VersionedValue → VersionedValue
written stamp None latest = latest
written stamp (Some value) latest = overwritten stamp value latest

-- the second of two writes of one stamp stands
twice : (stamp : Stamp) (x y : Value) (latest : VersionedValue) → overwritten stamp y (overwritten stamp x latest) ≡ overwritten stamp y latest
unfolding overwritten
twice stamp x y latest = by_order (is_before stamp latest.version) refl
  where
    by_order : (b : Bool) → is_before stamp latest.version ≡ b →
        overwritten stamp y (if b then latest else record { version = stamp; value = x }) ≡ overwritten stamp y latest
    by_order true e = refl
    by_order false e =
        let none : VersionedValue = record { version = stamp; value = x } in
        let here : VersionedValue = record { version = stamp; value = y } in
        ap (λ c. if c then none else here) (is_before-itself stamp) ∙ sym (ap (λ c. if c then latest else here) e)

after_writes-written : (key : ℕ) (stamp : Stamp) (items : List WriteItem) (latest : VersionedValue) →
    after_writes key stamp latest items ≡ written stamp (last_write key items) latest
unfolding last_write written overwritten
after_writes-written key stamp [] latest = refl
after_writes-written key stamp (item ∷ items) latest =
    after_writes-written key stamp items (after_write key stamp latest item) ∙ by_last (last_write key items) (item.key == key)
  where
    by_last : (last : Option Value) (b : Bool) → written stamp last (if b then overwritten stamp item.value latest else latest) ≡ written stamp (elim last [ Some value ↦ Some value | None ↦ if b then Some item.value else None ]) latest
    by_last (Some value) true = twice stamp item.value value latest
    by_last (Some value) false = refl
    by_last None true = refl
    by_last None false = refl

-- two writes of different stamps
swapped : (a b : Stamp) (x y : Value) (latest : VersionedValue) → a ≢ b → overwritten b y (overwritten a x latest) ≡ overwritten a x (overwritten b y latest)
unfolding overwritten
swapped a b x y latest apart = by_order (is_before a latest.version) (is_before b latest.version) (is_before a b) (is_before b a) refl refl refl refl
  where
    -- whichever of three stands, by the tests that say so
    stands_other : (c : Bool) (v : VersionedValue) → c ≡ false → (if c then v else record { version = b; value = y }) ≡ record { version = b; value = y }
    stands_other c v e = ap (λ d. if d then v else record { version = b; value = y }) e

    stands_one : (c : Bool) (v : VersionedValue) → c ≡ false → (if c then v else record { version = a; value = x }) ≡ record { version = a; value = x }
    stands_one c v e = ap (λ d. if d then v else record { version = a; value = x }) e

    stays : (c : Bool) (v w : VersionedValue) → c ≡ true → (if c then v else w) ≡ v
    stays c v w e = ap (λ d. if d then v else w) e

    by_order : (p q r s : Bool) → is_before a latest.version ≡ p → is_before b latest.version ≡ q → is_before a b ≡ r → is_before b a ≡ s
        → overwritten b y (if p then latest else record { version = a; value = x }) ≡ overwritten a x (if q then latest else record { version = b; value = y })
    by_order true true r s e f g h =
        stays (is_before b latest.version) latest (record { version = b; value = y }) f
        ∙ sym (stays (is_before a latest.version) latest (record { version = a; value = x }) e)
    by_order true false r s e f g h =
        stands_other (is_before b latest.version) latest f
        ∙ sym (stays (is_before a b) (record { version = b; value = y }) (record { version = a; value = x }) (is_before-up a latest.version b e f))
    by_order false true r s e f g h =
        stays (is_before b a) (record { version = a; value = x }) (record { version = b; value = y }) (is_before-up b latest.version a f e)
        ∙ sym (stands_one (is_before a latest.version) latest e)
    by_order false false true s e f g h =
        stands_other (is_before b a) (record { version = a; value = x }) (is_before-not_back a b g)
        ∙ sym (stays (is_before a b) (record { version = b; value = y }) (record { version = a; value = x }) g)
    by_order false false false true e f g h =
        stays (is_before b a) (record { version = a; value = x }) (record { version = b; value = y }) h
        ∙ sym (stands_one (is_before a b) (record { version = b; value = y }) g)
    by_order false false false false e f g h = absurd (apart (same-from_neither a b g h))

written-swapped : (a b : Stamp) (x y : Option Value) (latest : VersionedValue) → a ≢ b → written b y (written a x latest) ≡ written a x (written b y latest)
unfolding written
written-swapped a b None None latest apart = refl
written-swapped a b None (Some y) latest apart = refl
written-swapped a b (Some x) None latest apart = refl
written-swapped a b (Some x) (Some y) latest apart = swapped a b x y latest apart

-- what stands after a transaction
after_txn : ℕ → Transaction → VersionedValue → VersionedValue
after_txn key txn latest = after_writes key txn.stamp latest txn.writes

after_txn-swapped : (key : ℕ) (s t : Transaction) (latest : VersionedValue) → s.stamp ≢ t.stamp →
    after_txn key t (after_txn key s latest) ≡ after_txn key s (after_txn key t latest)
unfolding after_txn
after_txn-swapped key s t latest apart =
    let x : Option Value = last_write key s.writes in
    let y : Option Value = last_write key t.writes in
    after_writes-written key t.stamp t.writes (after_writes key s.stamp latest s.writes)
    ∙ ap (written t.stamp y) (after_writes-written key s.stamp s.writes latest)
    ∙ written-swapped s.stamp t.stamp x y latest apart
    ∙ ap (written s.stamp x) (sym (after_writes-written key t.stamp t.writes latest))
    ∙ sym (after_writes-written key s.stamp s.writes (after_writes key t.stamp latest t.writes))

-- a transaction at its place, or first
latest_write-placed : (key : ℕ) (txn : Transaction) (txns : List Transaction) (latest : VersionedValue) → ¬ (Among txn.stamp (stamps_of txns)) →
    latest_write key latest (placed_by_stamp txn txns) ≡ latest_write key (after_txn key txn latest) txns
unfolding after_txn
latest_write-placed key txn [] latest new = refl
latest_write-placed key txn (next ∷ txns) latest new =
    by (latest_write-placed key txn txns (after_txn key next latest) (λ a. new (inr a))) (is_before next.stamp txn.stamp)
  where
    by : latest_write key (after_txn key next latest) (placed_by_stamp txn txns) ≡ latest_write key (after_txn key txn (after_txn key next latest)) txns →
        (b : Bool) →
        latest_write key latest (if b then next ∷ placed_by_stamp txn txns else txn ∷ (next ∷ txns)) ≡ latest_write key (after_txn key txn latest) (next ∷ txns)
    by more true = more ∙ ap (λ v. latest_write key v txns) (sym (after_txn-swapped key txn next latest (λ same. new (inl (sym same)))))
    by more false = refl

-- the order of the list does not matter
pub latest_write-in_stamp_order : (key : ℕ) (txns : List Transaction) (latest : VersionedValue) → HaveDistinctStamps txns →
    latest_write key latest (in_stamp_order txns) ≡ latest_write key latest txns
unfolding after_txn
latest_write-in_stamp_order key [] latest distinct = refl
latest_write-in_stamp_order key (txn ∷ txns) latest distinct =
    latest_write-placed key txn (in_stamp_order txns) latest (λ a. distinct.0 (ordered-stamp txn.stamp txns a))
    ∙ latest_write-in_stamp_order key txns (after_txn key txn latest) distinct.1

-- ---- writes in order of stamp

-- no stamp is before the one before it, the first not before this one
AreRising : Stamp → List Transaction → Type 0
AreRising stamp [] = Unit {0}
AreRising stamp (txn ∷ txns) = (is_before txn.stamp stamp ≡ false) × AreRising txn.stamp txns

lower : (low high : Stamp) (txns : List Transaction) → is_before high low ≡ false → AreRising high txns → AreRising low txns
unfolding AreRising
lower low high [] h r = tt
lower low high (txn ∷ txns) h r = (not_before-through txn.stamp high low r.0 h, r.1)

AreRising-from_order : (stamp : Stamp) (txns : List Transaction) → Each (λ later. is_before later.stamp stamp ≡ false) txns → IsInStampOrder txns →
    AreRising stamp txns
unfolding AreRising
AreRising-from_order stamp [] h k = tt
AreRising-from_order stamp (txn ∷ txns) h k =
    (h.0, AreRising-from_order txn.stamp txns (Each-weaker (λ later. is_before txn.stamp later.stamp ≡ true) (λ later. is_before later.stamp txn.stamp ≡ false) (λ later e. is_before-not_back txn.stamp later.stamp e) txns k.0) k.1)

none_below_zero : (txns : List Transaction) → Each (λ later. is_before later.stamp zero_stamp ≡ false) txns
none_below_zero [] = tt
none_below_zero (txn ∷ txns) = (lowest txn.stamp, none_below_zero txns)
  where
    lowest : (stamp : Stamp) → is_before stamp zero_stamp ≡ false
    lowest stamp = grind (arith, nat_tests)

-- writes to a copy that holds nothing later
version_in-writes : (key : ℕ) (stamp : Stamp) (items : List WriteItem) (copy : Copy) → is_before stamp (version_in copy key).version ≡ false
    → (version_in (with_writes stamp items copy) key ≡ after_writes key stamp (version_in copy key) items) ×
    (is_before stamp (version_in (with_writes stamp items copy) key).version ≡ false)
version_in-writes key stamp [] copy h = (refl, h)
version_in-writes key stamp (item ∷ items) copy h =
    let next : Copy = insert_entry nat_cmp copy item.key (stamp, item.value) in
    let one : version_in next key ≡ after_write key stamp (version_in copy key) item =
    version_in-insert copy item.key stamp item.value key ∙ by_key (item.key == key) in
    let low : is_before stamp (version_in next key).version ≡ false =
    ap (λ (v : VersionedValue). is_before stamp v.version) (version_in-insert copy item.key stamp item.value key) ∙ not_later (item.key == key) in
    let rest = version_in-writes key stamp items next low in
    (rest.0 ∙ ap (λ v. after_writes key stamp v items) one, rest.1)
  where
    by_key : (b : Bool) → (if b then record { version = stamp; value = item.value } else version_in copy key) ≡ (if b then (if is_before stamp (version_in copy key).version then version_in copy key else record { version = stamp; value = item.value }) else version_in copy key)
    by_key true = sym (ap (λ c. if c then version_in copy key else record { version = stamp; value = item.value }) h)
    by_key false = refl

    not_later : (b : Bool) → is_before stamp (if b then record { version = stamp; value = item.value } else version_in copy key).version ≡ false
    not_later true = is_before-itself stamp
    not_later false = h

version_in-replayed : (key : ℕ) (txns : List Transaction) (copy : Copy) → AreRising (version_in copy key).version txns →
    version_in (replayed copy txns) key ≡ latest_write key (version_in copy key) txns
unfolding AreRising
version_in-replayed key [] copy r = refl
version_in-replayed key (txn ∷ txns) copy r =
    let one = version_in-writes key txn.stamp txn.writes copy r.0 in
    let next : Copy = with_writes txn.stamp txn.writes copy in
    version_in-replayed key txns next (lower (version_in next key).version txn.stamp txns one.1 r.1) ∙ ap (λ v. latest_write key v txns) one.0

-- the law
pub version_in-one_copy : (commits : List Transaction) (key : ℕ) → HaveDistinctStamps commits →
    version_in (one_copy commits) key ≡ latest_write key first_version commits
version_in-one_copy commits key distinct =
    version_in-replayed key (in_stamp_order commits) []
    (AreRising-from_order zero_stamp (in_stamp_order commits) (none_below_zero (in_stamp_order commits)) (ordered-in_order commits distinct))
    ∙ latest_write-in_stamp_order key commits first_version distinct
