-- What a follower shows of each key.
use Rattle.std.specs.Prelude.{◌≡◌, ◌<◌, ℕ, true, List, slice_index_or}
use Rattle.mk_lists.specs.Among.{Each}
use Rattle.mk_txn.specs.declared.Stamp.{Stamp}
use Rattle.mk_txn.specs.declared.Value.{Value}
use Rattle.mk_txn.specs.declared.WriteItem.{WriteItem}
use Rattle.mk_txn.specs.Stamps.{zero_stamp}
use Rattle.mk_txn.specs.Transactions.{Transaction, initial_value}
use Rattle.mk_txn.specs.LatestWrites.{VersionedValue, first_version, after_writes, latest_write}
use Rattle.mk_follow.specs.declared.rule.PickRule.{PickRule}
use Rattle.mk_follow.specs.Rules.{picks}

-- a version and its value
abbrev pub versioned : Stamp × Value → VersionedValue
versioned row = record { version = row.0; value = row.1 }

-- what the rows have of a key
abbrev pub row_at : List (Stamp × Value) → ℕ → VersionedValue
row_at rows key = versioned (slice_index_or rows key (zero_stamp, initial_value))

-- each item's key is below 256
abbrev pub HasKeys : List WriteItem → Type 0
HasKeys items = Each (λ item. item.key < 256) items

-- what stands at a key after a transaction
abbrev pub after_txn : ℕ → Transaction → VersionedValue → VersionedValue
after_txn key txn latest = after_writes key txn.stamp latest txn.writes

-- at each key that is picked the rows have what these transactions leave
abbrev pub Shows : PickRule → List Transaction → List (Stamp × Value) → Type 0
Shows rule txns rows = (key : ℕ) → picks rule key ≡ true → row_at rows key ≡ latest_write key first_version txns
