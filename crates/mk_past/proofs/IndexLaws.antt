-- The versions of a key, and what the one copy holds of it.
use Rattle.std.proofs.Common.{◌≡◌, ◌∙◌, ◌<◌, ◌≤◌, ◌+◌, ◌-◌, ℕ, zero, suc, Bool, true, false, refl, sym, ap, subst, arith, List, [], ◌∷◌, ◌++◌, length, get_or, take, drop, filter, map, add-one, not, ◌==◌, append_assoc, if◌then◌else◌}
use Rattle.std.proofs.lemmas.Bool.Decides.{nat_tests}
use Rattle.std.proofs.lemmas.List.{append-nil, length-take-le}
use Rattle.std.proofs.Math.Seq.{drop-cons}
use Rattle.std.specs.Prelude.{slice_set}
use Rattle.std.specs.List.{AllWithin}
use Rattle.std.specs.List.Sorted.{IsPartitionedBy, IsPartitionPoint}
use Rattle.mk_lists.specs.Among.{Each, Each-append}
use Rattle.mk_txn.specs.declared.Stamp.{Stamp}
use Rattle.mk_txn.specs.declared.Value.{Value}
use Rattle.mk_txn.specs.declared.WriteItem.{WriteItem}
use Rattle.mk_txn.specs.Stamps.{is_before}
use Rattle.mk_txn.specs.LatestWrites.{VersionedValue, first_version}
use Rattle.mk_txn.specs.Transactions.{Transaction}
use Rattle.mk_txn.proofs.StampOrder.{is_before-itself, is_before-not_back}
use Rattle.mk_words.specs.Bases.{placed_by_stamp, in_stamp_order}
use Rattle.mk_words.proofs.StampOrdering.{IsInStampOrder, ordered-in_order, filter-ordered}
use Rattle.mk_model.specs.OneCopy.{Copy, version_in, with_writes, replayed, stamps_of, HaveDistinctStamps}
use Rattle.mk_model.proofs.Copies.{version_in-insert}
use Rattle.mk_past.specs.Pasts.{is_upto, copy_at, count_at}
use Rattle.mk_past.specs.Indexes.{Versions, versions_by, versions_of, last_version, PastView, versions_at, IsIndexOf, IsPastOf}

-- ---- places of a list

pub drop-at : {X : Type 0} (xs : List X) (i : ℕ) (x : X) → i < length xs → x ≡ get_or xs i x → drop i xs ≡ x ∷ drop (i + 1) xs
drop-at xs i x within is =
    subst (λ y. drop i xs ≡ y ∷ drop (i + 1) xs) (sym is) (subst (λ k. drop i xs ≡ get_or xs i x ∷ drop k xs) (sym (add-one i)) (drop-cons xs i x within))

pub here-is : {X : Type 0} (xs : List X) (i : ℕ) (d : X) → i < length xs → get_or xs i d ≡ get_or xs i (get_or xs i d)
here-is [] i d h = absurd (omega (arith, h))
here-is (x ∷ xs) zero d h = refl
here-is (x ∷ xs) (suc i) d h = here-is xs i d (omega (arith, h))

pub drop-past : {X : Type 0} (xs : List X) (i : ℕ) → length xs ≤ i → drop i xs ≡ []
drop-past [] zero h = refl
drop-past [] (suc i) h = refl
drop-past (x ∷ xs) zero h = absurd (omega (arith, h))
drop-past (x ∷ xs) (suc i) h = drop-past xs i (omega (arith, h))

-- ---- where a list parts

Each-front : {X : Type 0} (P : X → Type 0) (xs : List X) (n : ℕ) → AllWithin P xs 0 n → Each P (take n xs)
Each-front P xs zero h = tt
Each-front P [] (suc n) h = tt
Each-front P (x ∷ xs) (suc n) h = (h 0 x (omega arith) (omega arith), Each-front P xs n (λ k d low lt. h (suc k) d (omega arith) (omega (arith, lt))))

Each-back : {X : Type 0} (P : X → Type 0) (xs : List X) (n : ℕ) → AllWithin P xs n (length xs) → Each P (drop n xs)
Each-back P [] zero h = tt
Each-back P (x ∷ xs) zero h = (h 0 x (omega arith) (omega arith), Each-back P xs zero (λ k d low lt. h (suc k) d (omega arith) (omega (arith, lt))))
Each-back P [] (suc n) h = tt
Each-back P (x ∷ xs) (suc n) h = Each-back P xs n (λ k d low lt. h (suc k) d (omega (arith, low)) (omega (arith, lt)))

filter-none : {X : Type 0} (p : X → Bool) (xs : List X) → Each (λ x. p x ≡ false) xs → filter p xs ≡ []
filter-none p [] h = refl
filter-none p (x ∷ xs) h = ap (λ b. if b then x ∷ filter p xs else filter p xs) h.0 ∙ filter-none p xs h.1

front-back : {X : Type 0} (p : X → Bool) (xs : List X) (n : ℕ) → Each (λ x. p x ≡ true) (take n xs) → Each (λ x. p x ≡ false) (drop n xs) → take n xs ≡ filter p xs
front-back p xs zero f b = sym (filter-none p xs b)
front-back p [] (suc n) f b = refl
front-back p (x ∷ xs) (suc n) f b =
    ap (λ ys. x ∷ ys) (front-back p xs n f.1 b) ∙ sym (ap (λ b. if b then x ∷ filter p xs else filter p xs) f.0)

-- up to where a list parts stand those that pass
pub taken-pass : {X : Type 0} (p : X → Bool) (xs : List X) (n : ℕ) → IsPartitionPoint (λ x. p x ≡ true) (λ x. p x ≡ false) xs n → take n xs ≡ filter p xs
taken-pass p xs n h = front-back p xs n (Each-front (λ x. p x ≡ true) xs n h.0) (Each-back (λ x. p x ≡ false) xs n h.1)

-- the last of those up to a place stands in front of it
last-taken : (held : VersionedValue) (xs : Versions) (n : ℕ) (d : Stamp × Value) → n < length xs →
    last_version held (take (suc n) xs) ≡ record { version = (get_or xs n d).0; value = (get_or xs n d).1 }
last-taken held [] n d within = absurd (omega (arith, within))
last-taken held (x ∷ xs) zero d within = refl
last-taken held (x ∷ xs) (suc n) d within = last-taken (record { version = x.0; value = x.1 }) xs n d (omega (arith, within))

pub latest-is : (p : Stamp → Bool) (xs : Versions) (n : ℕ) (d : Stamp × Value) → take n xs ≡ filter (λ version. p version.0) xs → 0 < n → n ≤ length xs →
    record { version = (get_or xs (n - 1) d).0; value = (get_or xs (n - 1) d).1 } ≡ last_version first_version (filter (λ version. p version.0) xs)
latest-is p xs n d taken some within =
    let one : n ≡ suc (n - 1) = omega (arith, some) in
    sym (last-taken first_version xs (n - 1) d (omega (arith, some, within)))
    ∙ ap (λ k. last_version first_version (take k xs)) (sym one) ∙ ap (last_version first_version) taken

-- ---- what the one copy holds of a key

held_of : Stamp × Value → VersionedValue
held_of v = record { version = v.0; value = v.1 }

last-append : (held : VersionedValue) (xs ys : Versions) → last_version held (xs ++ ys) ≡ last_version (last_version held xs) ys
last-append held [] ys = refl
last-append held (x ∷ xs) ys = last-append (record { version = x.0; value = x.1 }) xs ys

written-holds : (stamp : Stamp) (items : List WriteItem) (copy : Copy) (key : ℕ) →
    version_in (with_writes stamp items copy) key ≡ last_version (version_in copy key) (versions_by key stamp items)
written-holds stamp [] copy key = refl
written-holds stamp (item ∷ items) copy key =
    written-holds stamp items _ key
    ∙ ap (λ held. last_version held (versions_by key stamp items)) (version_in-insert copy item.key stamp item.value key)
    ∙ by (item.key == key)
  where
    by : (b : Bool) → last_version (if b then record { version = stamp; value = item.value } else version_in copy key) (versions_by key stamp items)
        ≡ last_version (version_in copy key) (if b then (stamp, item.value) ∷ versions_by key stamp items else versions_by key stamp items)
    by true = refl
    by false = refl

replayed-holds : (txns : List Transaction) (copy : Copy) (key : ℕ) → version_in (replayed copy txns) key ≡ last_version (version_in copy key) (versions_of key txns)
replayed-holds [] copy key = refl
replayed-holds (txn ∷ txns) copy key =
    replayed-holds txns _ key
    ∙ ap (λ held. last_version held (versions_of key txns)) (written-holds txn.stamp txn.writes copy key)
    ∙ sym (last-append (version_in copy key) (versions_by key txn.stamp txn.writes) (versions_of key txns))

-- ---- the versions at or below a stamp

filter-append : {X : Type 0} (p : X → Bool) (xs ys : List X) → filter p (xs ++ ys) ≡ filter p xs ++ filter p ys
filter-append p [] ys = refl
filter-append p (x ∷ xs) ys = by (p x) (filter-append p xs ys)
  where
    by : (b : Bool) → filter p (xs ++ ys) ≡ filter p xs ++ filter p ys →
        (if b then x ∷ filter p (xs ++ ys) else filter p (xs ++ ys)) ≡ (if b then x ∷ filter p xs else filter p xs) ++ filter p ys
    by true e = ap (λ zs. x ∷ zs) e
    by false e = e

-- those of one stamp pass together
filter-by : (p : Stamp → Bool) (key : ℕ) (stamp : Stamp) (items : List WriteItem) →
    filter (λ version. p version.0) (versions_by key stamp items) ≡ (if p stamp then versions_by key stamp items else [])
filter-by p key stamp [] = by (p stamp)
  where
    none : Versions
    none = []

    by : (b : Bool) → none ≡ (if b then none else none)
    by true = refl
    by false = refl
filter-by p key stamp (item ∷ items) = by (item.key == key) (p stamp) refl (filter-by p key stamp items)
  where
    more : Versions
    more = versions_by key stamp items

    by : (k b : Bool) → p stamp ≡ b → filter (λ version. p version.0) more ≡ (if p stamp then more else []) →
        filter (λ version. p version.0) (if k then (stamp, item.value) ∷ more else more) ≡ (if b then (if k then (stamp, item.value) ∷ more else more) else [])
    by true true e ih =
        ap (λ c. if c then (stamp, item.value) ∷ filter (λ version. p version.0) more else filter (λ version. p version.0) more) e
        ∙ ap (λ zs. (stamp, item.value) ∷ zs) (ih ∙ ap (λ c. if c then more else []) e)
    by true false e ih =
        ap (λ c. if c then (stamp, item.value) ∷ filter (λ version. p version.0) more else filter (λ version. p version.0) more) e
        ∙ ih ∙ ap (λ c. if c then more else []) e
    by false b e ih = ih ∙ ap (λ c. if c then more else []) e

filter-versions : (p : Stamp → Bool) (key : ℕ) (txns : List Transaction) →
    filter (λ version. p version.0) (versions_of key txns) ≡ versions_of key (filter (λ txn. p txn.stamp) txns)
filter-versions p key [] = refl
filter-versions p key (txn ∷ txns) =
    filter-append (λ version. p version.0) (versions_by key txn.stamp txn.writes) (versions_of key txns)
    ∙ ap (λ zs. zs ++ filter (λ version. p version.0) (versions_of key txns)) (filter-by p key txn.stamp txn.writes)
    ∙ ap (λ zs. (if p txn.stamp then versions_by key txn.stamp txn.writes else []) ++ zs) (filter-versions p key txns)
    ∙ by (p txn.stamp)
  where
    by : (b : Bool) → (if b then versions_by key txn.stamp txn.writes else []) ++ versions_of key (filter (λ t. p t.stamp) txns)
        ≡ versions_of key (if b then txn ∷ filter (λ t. p t.stamp) txns else filter (λ t. p t.stamp) txns)
    by true = refl
    by false = refl

-- what the one copy holds at a stamp is the last version at or below it
pub copy_at-holds : (commits : List Transaction) (stamp : Stamp) (key : ℕ) → HaveDistinctStamps commits →
    last_version first_version (filter (λ version. is_upto stamp version.0) (versions_of key (in_stamp_order commits))) ≡ version_in (copy_at stamp commits) key
copy_at-holds commits stamp key distinct =
    ap (last_version first_version) (filter-versions (is_upto stamp) key (in_stamp_order commits))
    ∙ sym (replayed-holds (filter (λ txn. is_upto stamp txn.stamp) (in_stamp_order commits)) [] key)
    ∙ ap (λ txns. version_in (replayed [] txns) key) (filter-ordered (λ txn. is_upto stamp txn.stamp) commits distinct)

-- ---- they part at a stamp

abbrev Ascends : {X : Type 0} → (X → Stamp) → List X → Type 0
Ascends stamp_of [] = Unit {0}
Ascends stamp_of (x ∷ xs) = Each (λ later. is_before (stamp_of later) (stamp_of x) ≡ false) xs × Ascends stamp_of xs

Each-at : {X : Type 0} (P : X → Type 0) (xs : List X) (k : ℕ) (d : X) → Each P xs → k < length xs → P (get_or xs k d)
Each-at P [] k d h lt = absurd (omega (arith, lt))
Each-at P (x ∷ xs) zero d h lt = h.0
Each-at P (x ∷ xs) (suc k) d h lt = Each-at P xs k d h.1 (omega (arith, lt))

upto-closed : (s a b : Stamp) → is_before b a ≡ false → not (is_before s b) ≡ true → not (is_before s a) ≡ true
upto-closed s a b h e = grind (arith, nat_tests)

ascending-parts : {X : Type 0} (stamp_of : X → Stamp) (s : Stamp) (xs : List X) → Ascends stamp_of xs → IsPartitionedBy (λ x. is_upto s (stamp_of x)) xs
ascending-parts stamp_of s [] h i j d le within e = absurd (omega (arith, within))
ascending-parts stamp_of s (x ∷ xs) h zero zero d le within e = e
ascending-parts stamp_of s (x ∷ xs) h zero (suc j) d le within e =
    upto-closed s (stamp_of x) (stamp_of (get_or xs j d)) (Each-at (λ later. is_before (stamp_of later) (stamp_of x) ≡ false) xs j d h.0 (omega (arith, within))) e
ascending-parts stamp_of s (x ∷ xs) h (suc i) zero d le within e = absurd (omega (arith, le))
ascending-parts stamp_of s (x ∷ xs) h (suc i) (suc j) d le within e = ascending-parts stamp_of s xs h.1 i j d (omega (arith, le)) (omega (arith, within)) e

stamps-after : (s : Stamp) (txns : List Transaction) → Each (λ later. is_before s later.stamp ≡ true) txns → Each (λ later. is_before later s ≡ false) (stamps_of txns)
stamps-after s [] h = tt
stamps-after s (txn ∷ txns) h = (is_before-not_back s txn.stamp h.0, stamps-after s txns h.1)

stamps-ascend : (txns : List Transaction) → IsInStampOrder txns → Ascends (λ stamp. stamp) (stamps_of txns)
stamps-ascend [] h = tt
stamps-ascend (txn ∷ txns) h = (stamps-after txn.stamp txns h.0, stamps-ascend txns h.1)

pub stamps-part : (commits : List Transaction) (s : Stamp) → HaveDistinctStamps commits → IsPartitionedBy (is_upto s) (stamps_of (in_stamp_order commits))
stamps-part commits s distinct = ascending-parts (λ stamp. stamp) s (stamps_of (in_stamp_order commits)) (stamps-ascend (in_stamp_order commits) (ordered-in_order commits distinct))

-- those of one stamp
by-after : (s : Stamp) (key : ℕ) (stamp : Stamp) (items : List WriteItem) → is_before stamp s ≡ false → Each (λ later. is_before later.0 s ≡ false) (versions_by key stamp items)
by-after s key stamp [] h = tt
by-after s key stamp (item ∷ items) h = by (item.key == key) (by-after s key stamp items h)
  where
    by : (b : Bool) → Each (λ later. is_before later.0 s ≡ false) (versions_by key stamp items) →
        Each (λ later. is_before later.0 s ≡ false) (if b then (stamp, item.value) ∷ versions_by key stamp items else versions_by key stamp items)
    by true more = (h, more)
    by false more = more

versions-after : (s : Stamp) (key : ℕ) (txns : List Transaction) → Each (λ later. is_before s later.stamp ≡ true) txns → Each (λ later. is_before later.0 s ≡ false) (versions_of key txns)
versions-after s key [] h = tt
versions-after s key (txn ∷ txns) h =
    Each-append (λ later. is_before later.0 s ≡ false) (versions_by key txn.stamp txn.writes) (versions_of key txns)
    (by-after s key txn.stamp txn.writes (is_before-not_back s txn.stamp h.0)) (versions-after s key txns h.1)

by-ascend : (key : ℕ) (stamp : Stamp) (items : List WriteItem) (more : Versions) → Each (λ later. is_before later.0 stamp ≡ false) more → Ascends (λ version. version.0) more →
    Ascends (λ version. version.0) (versions_by key stamp items ++ more)
by-ascend key stamp [] more later h = h
by-ascend key stamp (item ∷ items) more later h = by (item.key == key) (by-ascend key stamp items more later h)
  where
    by : (b : Bool) → Ascends (λ version. version.0) (versions_by key stamp items ++ more) →
        Ascends (λ version. version.0) ((if b then (stamp, item.value) ∷ versions_by key stamp items else versions_by key stamp items) ++ more)
    by true again = (
      Each-append (λ later. is_before later.0 stamp ≡ false) (versions_by key stamp items) more (by-after stamp key stamp items (is_before-itself stamp)) later,
      again,
    )
    by false again = again

versions-ascend : (key : ℕ) (txns : List Transaction) → IsInStampOrder txns → Ascends (λ version. version.0) (versions_of key txns)
versions-ascend key [] h = tt
versions-ascend key (txn ∷ txns) h = by-ascend key txn.stamp txn.writes (versions_of key txns) (versions-after txn.stamp key txns h.0) (versions-ascend key txns h.1)

pub versions-part : (commits : List Transaction) (s : Stamp) (key : ℕ) → HaveDistinctStamps commits → IsPartitionedBy (λ version. is_upto s version.0) (versions_of key (in_stamp_order commits))
versions-part commits s key distinct =
    ascending-parts (λ version. version.0) s (versions_of key (in_stamp_order commits)) (versions-ascend key (in_stamp_order commits) (ordered-in_order commits distinct))

-- ---- how many there are

length-filtered : (p : Stamp → Bool) (txns : List Transaction) → length (filter p (stamps_of txns)) ≡ length (filter (λ txn. p txn.stamp) txns)
length-filtered p [] = refl
length-filtered p (txn ∷ txns) = by (p txn.stamp) (length-filtered p txns)
  where
    by : (b : Bool) → length (filter p (stamps_of txns)) ≡ length (filter (λ t. p t.stamp) txns) →
        length (if b then txn.stamp ∷ filter p (stamps_of txns) else filter p (stamps_of txns)) ≡ length (if b then txn ∷ filter (λ t. p t.stamp) txns else filter (λ t. p t.stamp) txns)
    by true e = ap suc e
    by false e = e

in_order-length : (txns : List Transaction) → length (in_stamp_order txns) ≡ length txns
in_order-length [] = refl
in_order-length (txn ∷ txns) = placed (in_stamp_order txns) ∙ ap suc (in_order-length txns)
  where
    placed : (others : List Transaction) → length (placed_by_stamp txn others) ≡ suc (length others)
    placed [] = refl
    placed (first ∷ rest) = by (is_before first.stamp txn.stamp) (placed rest)
      where
        by : (b : Bool) → length (placed_by_stamp txn rest) ≡ suc (length rest) →
            length (if b then first ∷ placed_by_stamp txn rest else txn ∷ (first ∷ rest)) ≡ suc (suc (length rest))
        by true e = ap suc e
        by false e = refl

pub count_at-length : (commits : List Transaction) (stamp : Stamp) → HaveDistinctStamps commits →
    length (filter (is_upto stamp) (stamps_of (in_stamp_order commits))) ≡ count_at stamp commits
count_at-length commits stamp distinct =
    length-filtered (is_upto stamp) (in_stamp_order commits)
    ∙ ap (λ txns. length txns) (filter-ordered (λ txn. is_upto stamp txn.stamp) commits distinct)
    ∙ in_order-length (filter (λ txn. is_upto stamp txn.stamp) commits)

-- ---- what the index tells

pub at-holds : (past : PastView) (commits : List Transaction) (s : Stamp) (key : ℕ) (xs : Versions) → IsPastOf past commits → xs ≡ versions_at past.versions key →
    IsPartitionedBy (λ version. is_upto s version.0) xs
    × (last_version first_version (filter (λ version. is_upto s version.0) xs) ≡ version_in (copy_at s commits) key)
at-holds past commits s key xs h is =
    let all : xs ≡ versions_of key (in_stamp_order commits) = is ∙ h.index.versions key in (
      subst (IsPartitionedBy (λ (version : Stamp × Value). is_upto s version.0)) (sym all) (versions-part commits s key h.distinct),
      ap (λ (vs : Versions). last_version first_version (filter (λ version. is_upto s version.0) vs)) all ∙ copy_at-holds commits s key h.distinct,
    )

pub count-holds : (past : PastView) (commits : List Transaction) (s : Stamp) (stamps : List Stamp) (n : ℕ) → IsPastOf past commits → stamps ≡ past.stamps →
    (IsPartitionedBy (is_upto s) stamps → take n stamps ≡ filter (is_upto s) stamps) → n ≤ length stamps → n ≡ count_at s commits
count-holds past commits s stamps n h is part within =
    let all : stamps ≡ stamps_of (in_stamp_order commits) = is ∙ h.index.stamps in
    sym (length-take-le n stamps within)
    ∙ ap (λ xs. length xs) (part (subst (IsPartitionedBy (is_upto s)) (sym all) (stamps-part commits s h.distinct)))
    ∙ ap (λ xs. length (filter (is_upto s) xs)) all
    ∙ count_at-length commits s h.distinct

-- ---- one more commit

pub grown_at : {V : Type 0} (items : V → Versions) (vs : List V) (v : V) (key : ℕ) → items v ≡ [] →
    versions_at (map items (vs ++ v ∷ [])) key ≡ versions_at (map items vs) key
grown_at items [] v zero e = e
grown_at items [] v (suc key) e = refl
grown_at items (x ∷ vs) v zero e = refl
grown_at items (x ∷ vs) v (suc key) e = grown_at items vs v key e

zero-suc : (n : ℕ) → (0 == suc n) ≡ false
zero-suc n = grind (arith, nat_tests)

suc-zero : (n : ℕ) → (suc n == 0) ≡ false
suc-zero n = grind (arith, nat_tests)

other_key : (b : Bool) (xs : Versions) (version : Stamp × Value) → b ≡ false → xs ≡ (if b then xs ++ version ∷ [] else xs)
other_key b xs version e = sym (ap (λ (c : Bool). if c then xs ++ version ∷ [] else xs) e)

-- a list of versions in place of that of a key
pub set-at : {V : Type 0} (items : V → Versions) (vs : List V) (key : ℕ) (old d new : V) (version : Stamp × Value) (other : ℕ) → key < length vs → old ≡ get_or vs key d →
    items new ≡ items old ++ version ∷ [] →
    versions_at (map items (slice_set vs key new)) other ≡ (if key == other then versions_at (map items vs) other ++ version ∷ [] else versions_at (map items vs) other)
set-at items [] key old d new version other within is e = absurd (omega (arith, within))
set-at items (x ∷ vs) zero old d new version zero within is e = e ∙ ap (λ v. items v ++ version ∷ []) is
set-at items (x ∷ vs) zero old d new version (suc other) within is e = other_key (0 == suc other) (versions_at (map items vs) other) version (zero-suc other)
set-at items (x ∷ vs) (suc key) old d new version zero within is e = other_key (suc key == 0) (items x) version (suc-zero key)
set-at items (x ∷ vs) (suc key) old d new version (suc other) within is e =
    set-at items vs key old d new version other (omega (arith, within)) is e ∙ by (key == other) (suc key == suc other) (same key other)
  where
    same : (m n : ℕ) → (m == n) ≡ (suc m == suc n)
    same m n = grind (arith, nat_tests)

    by : (b c : Bool) → b ≡ c → (if b then versions_at (map items vs) other ++ version ∷ [] else versions_at (map items vs) other)
        ≡ (if c then versions_at (map items vs) other ++ version ∷ [] else versions_at (map items vs) other)
    by b c e = ap (λ (x : Bool). if x then versions_at (map items vs) other ++ version ∷ [] else versions_at (map items vs) other) e

-- one write of a list of writes
pub written-at : (table : ℕ → Versions) (stamp : Stamp) (writes : List WriteItem) (i : ℕ) (d : WriteItem) (key : ℕ) → i < length writes →
    (if (get_or writes i d).key == key then table key ++ (stamp, (get_or writes i d).value) ∷ [] else table key) ++ versions_by key stamp (drop (i + 1) writes) ≡ table key ++ versions_by key stamp (drop i writes)
written-at table stamp writes i d key within =
    by (item.key == key)
    ∙ sym (ap (λ xs. table key ++ versions_by key stamp xs) (drop-at writes i item within (here-is writes i d within)))
  where
    item : WriteItem
    item = get_or writes i d

    more : Versions
    more = versions_by key stamp (drop (i + 1) writes)

    by : (b : Bool) → (if b then table key ++ (stamp, item.value) ∷ [] else table key) ++ more ≡ table key ++ (if b then (stamp, item.value) ∷ more else more)
    by true = append_assoc (table key) ((stamp, item.value) ∷ []) more
    by false = refl

-- one more transaction behind the others
stamps_of-push : (txns : List Transaction) (txn : Transaction) → stamps_of (txns ++ txn ∷ []) ≡ stamps_of txns ++ txn.stamp ∷ []
stamps_of-push [] txn = refl
stamps_of-push (first ∷ txns) txn = ap (λ xs. first.stamp ∷ xs) (stamps_of-push txns txn)

versions_of-push : (key : ℕ) (txns : List Transaction) (txn : Transaction) → versions_of key (txns ++ txn ∷ []) ≡ versions_of key txns ++ versions_by key txn.stamp txn.writes
versions_of-push key [] txn = append-nil (versions_by key txn.stamp txn.writes)
versions_of-push key (first ∷ txns) txn =
    ap (λ xs. versions_by key first.stamp first.writes ++ xs) (versions_of-push key txns txn)
    ∙ sym (append_assoc (versions_by key first.stamp first.writes) (versions_of key txns) (versions_by key txn.stamp txn.writes))

pub pushed-index : (old new : PastView) (txns : List Transaction) (txn : Transaction) (stamp : Stamp) (writes : List WriteItem) → new.stamps ≡ old.stamps ++ stamp ∷ [] →
    ((key : ℕ) → versions_at new.versions key ≡ versions_at old.versions key ++ versions_by key stamp writes) → txn.stamp ≡ stamp → txn.writes ≡ writes →
    IsIndexOf old txns → IsIndexOf new (txns ++ txn ∷ [])
pushed-index old new txns txn stamp writes stamps versions own wrote h = record {
  stamps = stamps ∙ ap (λ xs. xs ++ stamp ∷ []) h.stamps ∙ ap (λ s. stamps_of txns ++ s ∷ []) (sym own) ∙ sym (stamps_of-push txns txn);
  versions = λ key. versions key
      ∙ ap (λ xs. xs ++ versions_by key stamp writes) (h.versions key)
      ∙ ap (λ s. versions_of key txns ++ versions_by key s writes) (sym own)
      ∙ ap (λ ws. versions_of key txns ++ versions_by key txn.stamp ws) (sym wrote)
      ∙ sym (versions_of-push key txns txn);
}
