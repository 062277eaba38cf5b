-- An index of commits: the stamps of all, and the versions of each key.
use Rattle.std.specs.Prelude.{◌≡◌, ℕ, ◌==◌, List, [], ◌∷◌, ◌++◌, slice_index_or, if◌then◌else◌}
use Rattle.mk_txn.specs.declared.Stamp.{Stamp}
use Rattle.mk_txn.specs.declared.Value.{Value}
use Rattle.mk_txn.specs.declared.WriteItem.{WriteItem}
use Rattle.mk_txn.specs.LatestWrites.{VersionedValue}
use Rattle.mk_txn.specs.Transactions.{Transaction}
use Rattle.mk_words.specs.Bases.{in_stamp_order}
use Rattle.mk_model.specs.OneCopy.{HaveDistinctStamps, stamps_of}

-- the versions of one key, each with its value, in order of stamp
abbrev pub Versions : Type 0
Versions = List (Stamp × Value)

-- the versions that writes of one stamp make of a key, in order of mention
abbrev pub versions_by : ℕ → Stamp → List WriteItem → Versions
versions_by key stamp [] = []
versions_by key stamp (item ∷ items) =
    if item.key == key then (stamp, item.value) ∷ versions_by key stamp items else versions_by key stamp items

-- the versions that these transactions make of a key, in their order
abbrev pub versions_of : ℕ → List Transaction → Versions
versions_of key [] = []
versions_of key (txn ∷ txns) = versions_by key txn.stamp txn.writes ++ versions_of key txns

-- the last of some versions, and what was held before where there is none
abbrev pub last_version : VersionedValue → Versions → VersionedValue
last_version held [] = held
last_version held (first ∷ rest) = last_version (record { version = first.0; value = first.1 }) rest

-- the stamps of all, and the versions of each key by its number
pub record PastView : Type 0 where
  pub stamps : List Stamp
  pub versions : List Versions

-- the versions of this key in a table
abbrev pub versions_at : List Versions → ℕ → Versions
versions_at table key = slice_index_or table key []

-- the index has these transactions' stamps, and the versions that they make of each key, in their order
pub record IsIndexOf (past : PastView) (txns : List Transaction) : Type 0 where
  pub stamps : past.stamps ≡ stamps_of txns
  pub versions : (key : ℕ) → versions_at past.versions key ≡ versions_of key txns

-- it is the index of these commits in order of stamp, no two of which have one stamp
pub record IsPastOf (past : PastView) (commits : List Transaction) : Type 0 where
  pub distinct : HaveDistinctStamps commits
  pub index : IsIndexOf past (in_stamp_order commits)
