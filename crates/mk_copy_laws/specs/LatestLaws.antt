-- Whose the last write and the last read of a key are.
use Rattle.std.specs.Prelude.{◌≡◌, ◌⊎◌, ℕ, true, false, List}
use Rattle.mk_lists.specs.Among.{Among}
use Rattle.mk_txn.specs.declared.WriteItem.{WriteItem}
use Rattle.mk_txn.specs.Stamps.{is_before, zero_stamp}
use Rattle.mk_txn.specs.Clashes.{writes_key}
use Rattle.mk_txn.specs.LatestWrites.{first_version, latest_write, reads_key, latest_read}
use Rattle.mk_txn.specs.Transactions.{Transaction, write_keys, are_distinct}
use Rattle.mk_model.specs.OneCopy.{HaveDistinctStamps, one_copy, version_in}

-- the last write of the key is one of these transactions' writes
pub record WriteOf (key : ℕ) (txns : List Transaction) : Type 0 where
  pub txn : Transaction
  pub item : WriteItem
  pub among : Among txn txns
  pub writes : Among item txn.writes
  pub on_key : item.key ≡ key
  pub stands : latest_write key first_version txns ≡ record { version = txn.stamp; value = item.value }

-- or none wrote it, and it holds what every key holds at first
abbrev pub LatestWriteIs : Type 0
LatestWriteIs = (key : ℕ) (txns : List Transaction) → (latest_write key first_version txns ≡ first_version) ⊎ WriteOf key txns

-- the last read of the key is by one of these transactions
pub record ReadOf (key : ℕ) (txns : List Transaction) : Type 0 where
  pub txn : Transaction
  pub among : Among txn txns
  pub reads : reads_key key txn ≡ true
  pub stands : latest_read key txns ≡ txn.stamp

-- or none read it
abbrev pub LatestReadIs : Type 0
LatestReadIs = (key : ℕ) (txns : List Transaction) → (latest_read key txns ≡ zero_stamp) ⊎ ReadOf key txns

-- where no other that writes the key is later, a transaction's write of it is the last
abbrev pub LatestWriteFound : Type 0
LatestWriteFound =
    (key : ℕ) (txns : List Transaction) (txn : Transaction) (item : WriteItem) → HaveDistinctStamps txns → are_distinct (write_keys txn.writes) ≡ true →
    Among txn txns → Among item txn.writes → item.key ≡ key →
    ((other : Transaction) → Among other txns → writes_key key other ≡ true → is_before txn.stamp other.stamp ≡ false) →
    latest_write key first_version txns ≡ record { version = txn.stamp; value = item.value }

-- where none writes the key, it holds what every key holds at first
abbrev pub LatestWriteNone : Type 0
LatestWriteNone =
    (key : ℕ) (txns : List Transaction) → ((other : Transaction) → Among other txns → writes_key key other ≡ false) →
    latest_write key first_version txns ≡ first_version

-- what the one copy holds of a key is the last write of it, in whatever order the commits are looked at
abbrev pub CopyHoldsLatest : Type 0
CopyHoldsLatest = (commits : List Transaction) (key : ℕ) → HaveDistinctStamps commits →
    version_in (one_copy commits) key ≡ latest_write key first_version commits
