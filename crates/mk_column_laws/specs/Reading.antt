-- What attempts have read: got at their home replicas, in the rounds in which they were begun.
use Rattle.std.specs.Prelude.{◌≡◌, ◌⊎◌, ◌≤◌, true, Some, slice_get}
use Rattle.mk_lists.specs.Among.{Among}
use Rattle.mk_txn.specs.declared.TxnId.{TxnId}
use Rattle.mk_txn.specs.declared.ReadItem.{ReadItem}
use Rattle.mk_txn.specs.Transactions.{Transaction}
use Rattle.mk_words.specs.declared.Act.TheVariants.{Get}
use Rattle.mk_words.specs.declared.Answer.TheVariants.{Version}
use Rattle.mk_model.specs.ColumnState.{AttemptState, Work, attempt_of}
use Rattle.mk_model.specs.ColumnState.Work.{Fetching}
use Rattle.mk_model.specs.Replicas.{serves}
use Rattle.mk_column_laws.specs.Moments.{Moment}
use Rattle.mk_column_laws.specs.KeyActs.{WasDone}
use Rattle.mk_column_laws.specs.Laws.{AlwaysHolds}

-- the attempt is unread, or its home replica served its epoch in the round in which it was begun; each read was got there
-- in that round; a reading attempt was begun in this round; and a transaction has the attempt's reads
pub record ReadsOf (m : Moment) (id : TxnId) (a : AttemptState) : Type 0 where
  pub home : (a.unread ≡ true) ⊎ (m.past.served_in (m.past.begun_in id) a.replica a.epoch ≡ true)
  pub begun : m.past.begun_in id ≤ m.past.now
  pub got : (item : ReadItem) → Among item a.reads → WasDone m (m.past.begun_in id) a.replica a.epoch (item.key, Get) (Version item.version item.value)
  pub reading : a.reading ≡ true → (m.past.begun_in id ≡ m.past.now) × (serves a.epoch (slice_get m.round.views a.replica) ≡ true)
  pub txn_reads : (txn : Transaction) → a.txn ≡ Some txn → txn.reads ≡ a.reads

-- a read under way is a reading attempt's, at its home replica
abbrev pub FetchFacts : Moment → Work → Type 0
FetchFacts m (Fetching id replica key) = (a : AttemptState) × (attempt_of m.column id ≡ Some a) × (a.reading ≡ true) × (a.replica ≡ replica)
FetchFacts m _ = Unit {0}

-- all that holds of reads at every moment
pub record ReadFacts (m : Moment) : Type 0 where
  pub attempts : (id : TxnId) (a : AttemptState) → attempt_of m.column id ≡ Some a → ReadsOf m id a
  pub fetch : FetchFacts m m.column.work

abbrev pub ReadsWereGot : Type 0
ReadsWereGot = AlwaysHolds (λ taught m. ReadFacts m)
