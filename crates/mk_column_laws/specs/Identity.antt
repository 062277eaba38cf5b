-- Clients, attempts and stamps: each attempt is one of its client's, and a stamp names its attempt.
use Rattle.std.specs.Prelude.{◌≡◌, ◌<◌, ◌≤◌, ◌+◌, ℕ, true, List, Option, Some, find}
use Rattle.mk_txn.specs.declared.TxnId.{TxnId}
use Rattle.mk_txn.specs.Transactions.{Transaction, is_above_reads}
use Rattle.mk_model.specs.ColumnState.{ClientState, AttemptState, attempt_of, is_client, is_attempt}
use Rattle.mk_column_laws.specs.Laws.{AlwaysHolds}

-- the client of this number
abbrev pub client_in : List ClientState → ℕ → Option ClientState
client_in clients n = find (is_client n) clients

-- the attempt of this number
abbrev pub attempt_in : List AttemptState → TxnId → Option AttemptState
attempt_in attempts id = find (is_attempt id) attempts

-- the attempt is one of its client's, and where it reads it is the last one
pub record IsClients (clients : List ClientState) (id : TxnId) (a : AttemptState) : Type 0 where
  pub client : ClientState
  pub found : client_in clients id.client ≡ Some client
  pub from_one : 1 ≤ id.seq
  pub begun : id.seq < client.next_seq
  pub last_reads : a.reading ≡ true → client.next_seq ≡ id.seq + 1

-- the stamp is of the attempt's client, above zero and all that was read, and not above the client's last time
pub record IsStampedBy (clients : List ClientState) (id : TxnId) (txn : Transaction) : Type 0 where
  pub client : ClientState
  pub found : client_in clients id.client ≡ Some client
  pub of_client : txn.stamp.client ≡ id.client
  pub from_one : 1 ≤ txn.stamp.time
  pub not_above : txn.stamp.time ≤ client.last_time
  pub above_reads : is_above_reads txn.stamp txn.reads ≡ true

-- what holds of clients, attempts and stamps
pub record Identity (clients : List ClientState) (list : List AttemptState) : Type 0 where
  pub numbered : (n : ℕ) (c : ClientState) → client_in clients n ≡ Some c → 1 ≤ c.next_seq
  pub attempts : (id : TxnId) (a : AttemptState) → attempt_in list id ≡ Some a → IsClients clients id a
  pub all_there : (n seq : ℕ) (c : ClientState) → client_in clients n ≡ Some c → 1 ≤ seq → seq < c.next_seq →
      (a : AttemptState) × (attempt_in list (record { client = n; seq = seq }) ≡ Some a)
  pub stamps : (id : TxnId) (a : AttemptState) (txn : Transaction) → attempt_in list id ≡ Some a → a.txn ≡ Some txn → IsStampedBy clients id txn
  pub rise : (id other : TxnId) (a b : AttemptState) (txn later : Transaction) → attempt_in list id ≡ Some a → attempt_in list other ≡ Some b →
      a.txn ≡ Some txn → b.txn ≡ Some later → id.client ≡ other.client → id.seq < other.seq → txn.stamp.time < later.stamp.time

-- clients, attempts and stamps are so at every moment
abbrev pub IdsOnce : Type 0
IdsOnce = AlwaysHolds (λ taught m. Identity m.column.clients m.column.attempts)

-- a stamp names its attempt
abbrev pub StampsName : Type 0
StampsName =
    AlwaysHolds (λ taught m. (id other : TxnId) (a b : AttemptState) (txn same : Transaction) → attempt_of m.column id ≡ Some a → attempt_of m.column other ≡ Some b →
    a.txn ≡ Some txn → b.txn ≡ Some same → txn.stamp ≡ same.stamp → id ≡ other)
