-- What a list of committed transactions leaves at a key, in whatever order the list stands.
use Rattle.std.specs.Prelude.{ℕ, Bool, List, [], ◌∷◌, ◌==◌, if◌then◌else◌}
use Rattle.std.specs.List.{list_any}
use Rattle.mk_txn.specs.declared.Stamp.{Stamp}
use Rattle.mk_txn.specs.declared.Value.{Value}
use Rattle.mk_txn.specs.declared.WriteItem.{WriteItem}
use Rattle.mk_txn.specs.Stamps.{is_before, later_stamp, zero_stamp}
use Rattle.mk_txn.specs.Transactions.{Transaction, initial_value}

-- a version of a key, which is the stamp of its writer, and the value
pub record VersionedValue : Type 0 where
  pub version : Stamp
  pub value : Value

-- what every key holds at first
abbrev pub first_version : VersionedValue
first_version = record { version = zero_stamp; value = initial_value }

-- the write of this key, unless a later one stands
abbrev pub after_write : ℕ → Stamp → VersionedValue → WriteItem → VersionedValue
after_write key stamp latest item =
    if item.key == key then (if is_before stamp latest.version then latest else record { version = stamp; value = item.value }) else latest

-- the same for each of these writes, in order of mention
abbrev pub after_writes : ℕ → Stamp → VersionedValue → List WriteItem → VersionedValue
after_writes key stamp latest [] = latest
after_writes key stamp latest (item ∷ items) = after_writes key stamp (after_write key stamp latest item) items

-- the latest write of this key, or what stands where that is later
abbrev pub latest_write : ℕ → VersionedValue → List Transaction → VersionedValue
latest_write key latest [] = latest
latest_write key latest (txn ∷ txns) = latest_write key (after_writes key txn.stamp latest txn.writes) txns

-- whether the transaction reads this key
abbrev pub reads_key : ℕ → Transaction → Bool
reads_key key txn = list_any (λ item. item.key == key) txn.reads

-- the greatest stamp of a transaction that reads this key
abbrev pub latest_read : ℕ → List Transaction → Stamp
latest_read key [] = zero_stamp
latest_read key (txn ∷ txns) = if reads_key key txn then later_stamp (latest_read key txns) txn.stamp else latest_read key txns
