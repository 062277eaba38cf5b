-- What of a column stays while steps are done and rounds begin.
use Rattle.std.specs.Prelude.{◌≡◌, ◌≤◌, ◌==◌, if◌then◌else◌, ℕ, true, List, map, Some, None, IsSomeAnd}
use Rattle.mk_txn.specs.declared.TxnId.{TxnId}
use Rattle.mk_txn.specs.declared.Stamp.{Stamp}
use Rattle.mk_txn.specs.declared.Outcome.{Outcome}
use Rattle.mk_txn.specs.Stamps.{Before}
use Rattle.mk_txn.specs.Transactions.{Transaction}
use Rattle.mk_model.specs.ColumnState.{ColumnState, ClientState, AttemptState, attempt_of, client_of}
use Rattle.mk_model.specs.Learnings.{txn_of, decided}
use Rattle.mk_column.specs.ColumnByCode.{ColumnView}

-- the last stamp of a client, 0.0 before its first
abbrev pub last_stamp : ClientState → Stamp
last_stamp client =
    if client.last_time == 0
    then record { time = 0; client = 0 }
    else record { time = client.last_time; client = client.number }

-- the numbers of a column's clients
abbrev pub client_numbers : ColumnState → List ℕ
client_numbers column = map (λ client. client.number) column.clients

-- an attempt that reads has no transaction
abbrev pub ReadsUnstamped : ColumnState → Type 0
ReadsUnstamped column = (id : TxnId) (attempt : AttemptState) → attempt_of column id ≡ Some attempt → attempt.reading ≡ true → attempt.txn ≡ None

-- the clients are there still, and no client's last time falls
abbrev pub LastsStay : ColumnState → ColumnState → Type 0
LastsStay before after =
    (n : ℕ) (client : ClientState) → client_of before n ≡ Some client → IsSomeAnd (client_of after n) (λ later. client.last_time ≤ later.last_time)

-- a column has grown from what it was: its number, clients and keys stay, and so do its attempts, their transactions
-- and what is decided. No client's last time falls, and an attempt that was stamped since has a stamp above its client's
-- last stamp before.
pub record HasGrown (before after : ColumnView) : Type 0 where
  pub number : after.number ≡ before.number
  pub clients : client_numbers after.state ≡ client_numbers before.state
  pub keys : after.setting.keys ≡ before.setting.keys
  pub attempts : (id : TxnId) (attempt : AttemptState) → attempt_of before.state id ≡ Some attempt
      → IsSomeAnd (attempt_of after.state id) (λ later. (txn : Transaction) → attempt.txn ≡ Some txn → later.txn ≡ Some txn)
  pub lasts : LastsStay before.state after.state
  pub decisions : (id : TxnId) (outcome : Outcome) → decided before.state id ≡ Some outcome → decided after.state id ≡ Some outcome
  pub stamps : (id : TxnId) (txn : Transaction) → txn_of after.state id ≡ Some txn → txn_of before.state id ≡ None → (client : ClientState)
      → client_of before.state id.client ≡ Some client → Before (last_stamp client) txn.stamp
