-- Whether what transactions read is what those before them left.
use Rattle.std.specs.Prelude.{◌≡◌, ℕ, Bool, ◌&&◌, List, Option, find, filter, not}
use Rattle.std.specs.Option.{option_map}
use Rattle.mk_lists.specs.Among.{Among}
use Rattle.mk_txn.specs.declared.Stamp.{Stamp}
use Rattle.mk_txn.specs.declared.ReadItem.{ReadItem}
use Rattle.mk_txn.specs.Stamps.{is_before, same_stamp}
use Rattle.mk_txn.specs.Transactions.{Transaction, same_value}
use Rattle.mk_model.specs.OneCopy.{Copy, version_in, one_copy}

-- the commits with stamps below this one
abbrev pub commits_below : Stamp → List Transaction → List Transaction
commits_below stamp commits = filter (λ txn. is_before txn.stamp stamp) commits

-- each read gave the version and value that the commits below the reader's stamp left
pub record IsExplained (commits : List Transaction) : Type 0 where
  pub versions : (txn : Transaction) → Among txn commits → (item : ReadItem) → Among item txn.reads →
      item.version ≡ (version_in (one_copy (commits_below txn.stamp commits)) item.key).version
  pub values : (txn : Transaction) → Among txn commits → (item : ReadItem) → Among item txn.reads →
      item.value ≡ (version_in (one_copy (commits_below txn.stamp commits)) item.key).value

-- whether the copy holds what was read
abbrev pub holds_read : Copy → ReadItem → Bool
holds_read copy item = same_stamp item.version (version_in copy item.key).version && same_value item.value (version_in copy item.key).value

-- the key of the first read that the copy does not hold
abbrev pub first_unlike : Copy → List ReadItem → Option ℕ
first_unlike copy items = option_map (λ item. item.key) (find (λ item. not (holds_read copy item)) items)
