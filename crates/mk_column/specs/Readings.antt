-- What an attempt's reads keep.
use Rattle.std.specs.Prelude.{◌≡◌, ◌≤◌, ℕ, Bool, true, ◌==◌, ◌&&◌, not, nat_lt, List, length}
use Rattle.std.specs.List.{list_any}
use Rattle.mk_txn.specs.declared.ReadItem.{ReadItem}
use Rattle.mk_txn.specs.Transactions.{are_distinct, read_keys}

-- the key was not read yet, and fewer than 16 were
abbrev pub may_join : ℕ → List ReadItem → Bool
may_join key reads = not (list_any (λ item. item.key == key) reads) && nat_lt (length reads) 16

-- at most 16 reads, of different keys
pub record ReadsFit (reads : List ReadItem) : Type 0 where
  pub few : length reads ≤ 16
  pub distinct : are_distinct (read_keys reads) ≡ true
