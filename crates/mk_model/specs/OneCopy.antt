-- The one copy of the store on which commits are replayed.
use Rattle.std.specs.Prelude.{ℕ, List, [], ◌∷◌, ◌==◌, if◌then◌else◌, map}
use Rattle.std.specs.Ordering.{nat_cmp}
use Rattle.std.specs.BTreeMap.{insert_entry}
use Rattle.mk_lists.specs.Among.{AllDistinct}
use Rattle.mk_txn.specs.declared.Stamp.{Stamp}
use Rattle.mk_txn.specs.declared.Value.{Value}
use Rattle.mk_txn.specs.declared.WriteItem.{WriteItem}
use Rattle.mk_txn.specs.Transactions.{Transaction}
use Rattle.mk_txn.specs.LatestWrites.{VersionedValue, first_version}
use Rattle.mk_words.specs.Bases.{in_stamp_order}

-- from each key that was written to its version and value, the keys ascending
abbrev pub Copy : Type 0
Copy = List (ℕ × (Stamp × Value))

-- what the copy holds of a key, which is what every key holds at first where it was never written
abbrev pub version_in : Copy → ℕ → VersionedValue
version_in [] key = first_version
version_in (first ∷ rest) key = if first.0 == key then record { version = first.1.0; value = first.1.1 } else version_in rest key

-- the copy after writes of one stamp, in order of mention
abbrev pub with_writes : Stamp → List WriteItem → Copy → Copy
with_writes stamp [] copy = copy
with_writes stamp (item ∷ items) copy = with_writes stamp items (insert_entry nat_cmp copy item.key (stamp, item.value))

-- the copy after these transactions, in this order
abbrev pub replayed : Copy → List Transaction → Copy
replayed copy [] = copy
replayed copy (txn ∷ txns) = replayed (with_writes txn.stamp txn.writes copy) txns

-- the copy that the commits leave, in order of stamp
abbrev pub one_copy : List Transaction → Copy
one_copy commits = replayed [] (in_stamp_order commits)

-- the stamps of the transactions, one by one
abbrev pub stamps_of : List Transaction → List Stamp
stamps_of txns = map (λ txn. txn.stamp) txns

-- no two of the transactions have one stamp
abbrev pub HaveDistinctStamps : List Transaction → Type 0
HaveDistinctStamps txns = AllDistinct (stamps_of txns)
