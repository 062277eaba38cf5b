-- What the list of attempts holds: no attempt stands twice, an unread one is never stamped, and the round in which one was
-- begun stays.
use Rattle.std.specs.Prelude.{◌≡◌, ◌≤◌, ℕ, true, false, List, Some, None, map}
use Rattle.mk_lists.specs.Among.{Among, AllDistinct}
use Rattle.mk_txn.specs.declared.TxnId.{TxnId}
use Rattle.mk_model.specs.ColumnState.{AttemptState, attempt_of}
use Rattle.mk_column_laws.specs.Moments.{Moment, Event, EachHappens, moment_through}
use Rattle.mk_column_laws.specs.Laws.{AlwaysHolds}

-- no attempt stands twice
abbrev pub AttemptsAreDistinct : Type 0
AttemptsAreDistinct = AlwaysHolds (λ taught m. AllDistinct (map (λ (a : AttemptState). a.id) m.column.attempts))

-- so each attempt is the one that is found by its number
abbrev pub AttemptsAreFound : Type 0
AttemptsAreFound = AlwaysHolds (λ taught m. (a : AttemptState) → Among a m.column.attempts → attempt_of m.column a.id ≡ Some a)

-- an unread attempt has no transaction, and does not read
abbrev pub UnreadIsNotStamped : Type 0
UnreadIsNotStamped =
    AlwaysHolds (λ taught m. (id : TxnId) (a : AttemptState) → attempt_of m.column id ≡ Some a → a.unread ≡ true → (a.txn ≡ None) × (a.reading ≡ false))

-- from one moment to a later one the round in which an attempt was begun stays, and so does what was served in past rounds
pub record RoundsStay (m next : Moment) : Type 0 where
  pub begun : (id : TxnId) (a : AttemptState) → attempt_of m.column id ≡ Some a → next.past.begun_in id ≡ m.past.begun_in id
  pub served : (i r epoch : ℕ) → i ≤ m.past.now → next.past.served_in i r epoch ≡ m.past.served_in i r epoch

abbrev pub BegunStays : Type 0
BegunStays = AlwaysHolds (λ taught m. (events : List Event) → EachHappens taught m events → RoundsStay m (moment_through m events))
