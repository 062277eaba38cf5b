-- What attempts read and write: different keys that there are, and a transaction by its definition.
use Rattle.std.specs.Prelude.{◌≡◌, ◌≤◌, ◌<◌, ℕ, ◌+◌, true, nat_lt, length, Some}
use Rattle.std.specs.List.{list_all}
use Rattle.mk_txn.specs.declared.TxnId.{TxnId}
use Rattle.mk_txn.specs.Transactions.{Transaction, IsTransaction, read_keys, are_distinct}
use Rattle.mk_model.specs.ColumnState.{AttemptState, Work, attempt_of}
use Rattle.mk_model.specs.ColumnState.Work.{Fetching}
use Rattle.mk_model.specs.Conditions.{may_read}
use Rattle.mk_column_laws.specs.Moments.{Moment}
use Rattle.mk_column_laws.specs.Laws.{AlwaysHolds}

-- a transaction by the definition, of at least one item, all of keys below this number
pub record IsOfKeys (keys : ℕ) (txn : Transaction) : Type 0 where
  pub is_transaction : IsTransaction txn
  pub some : 0 < length txn.reads + length txn.writes
  pub read : list_all (λ item. nat_lt item.key keys) txn.reads ≡ true
  pub written : list_all (λ item. nat_lt item.key keys) txn.writes ≡ true

-- an attempt reads different keys, each of which there is, and 16 at most; its transaction is of such keys
pub record ItemsOf (keys : ℕ) (a : AttemptState) : Type 0 where
  pub few : length a.reads ≤ 16
  pub distinct : are_distinct (read_keys a.reads) ≡ true
  pub there : list_all (λ item. nat_lt item.key keys) a.reads ≡ true
  pub txn : (txn : Transaction) → a.txn ≡ Some txn → IsOfKeys keys txn

-- a read under way is of a key that there is and that the attempt did not read yet
abbrev pub FetchesNew : Moment → Work → Type 0
FetchesNew m (Fetching id replica key) =
    (a : AttemptState) × (attempt_of m.column id ≡ Some a) × (nat_lt key m.round.keys ≡ true) × (may_read key a ≡ true)
FetchesNew m _ = Unit {0}

-- all that holds of items at every moment
pub record ItemFacts (m : Moment) : Type 0 where
  pub attempts : (id : TxnId) (a : AttemptState) → attempt_of m.column id ≡ Some a → ItemsOf m.round.keys a
  pub fetch : FetchesNew m m.column.work

-- what attempts read and write is so at every moment
abbrev pub ItemsFit : Type 0
ItemsFit = AlwaysHolds (λ taught m. ItemFacts m)
