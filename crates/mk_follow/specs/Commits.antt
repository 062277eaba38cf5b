-- What the kept commits stand for, and what is true of their fields.
use Rattle.std.specs.Prelude.{◌≡◌, ◌<◌, ℕ, List, map, Some, ◌==◌, slice_get, vec_len, vec_capacity}
use Rattle.std.specs.Global.{Vec}
use Rattle.mk_lists.specs.Keyed.{IsIndex}
use Rattle.mk_txn.specs.declared.Stamp.{Stamp}
use Rattle.mk_txn.specs.declared.TxnId.{TxnId}
use Rattle.mk_feed_words.specs.declared.Received.{Received}
use Rattle.mk_follow.specs.Orders.{Counts, IsOrderOf}

-- how many columns there are, and the commits in the order in which they came
pub record CommitsState : Type 0 where
  pub columns : ℕ
  pub commits : List Received

-- the attempts are the index of the commits, and the orders are those of all commits and of each column's
pub record CommitsKept (commits : List Received) (ids : List TxnId) (order : List (Stamp × ℕ)) (columns : List (List (Stamp × ℕ))) : Type 0 where
  pub index : IsIndex (λ r. r.txn.id) commits ids
  pub all : IsOrderOf commits order
  pub each : (c : ℕ) (column : List (Stamp × ℕ)) → slice_get columns c ≡ Some column → Counts (λ r. r.column == c) commits column

-- the entries of each column
abbrev pub entries_in : List (Vec (Stamp × ℕ)) → List (List (Stamp × ℕ))
entries_in columns = map (λ (column : Vec (Stamp × ℕ)). column.items) columns

-- there is room for one more entry of the column
abbrev pub HasRoom : ℕ → List (Vec (Stamp × ℕ)) → Type 0
HasRoom c columns = (column : Vec (Stamp × ℕ)) → slice_get columns c ≡ Some column → vec_len column < vec_capacity column
