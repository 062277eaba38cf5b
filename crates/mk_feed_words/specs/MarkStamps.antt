-- The stamp of the mark that a column may hand over.
use Rattle.std.specs.Prelude.{ℕ, Bool, ◌||◌, ◌&&◌, ◌==◌, not, List, [], ◌∷◌, map, Option, Some, None, is_some, if◌then◌else◌}
use Rattle.std.specs.List.{list_any, list_all}
use Rattle.mk_txn.specs.declared.Stamp.{Stamp}
use Rattle.mk_txn.specs.declared.TxnId.{TxnId}
use Rattle.mk_txn.specs.Stamps.{zero_stamp, is_before, later_stamp}
use Rattle.mk_txn.specs.Transactions.{Transaction, same_id}
use Rattle.mk_model.specs.ColumnState.{ColumnState, AttemptState}
use Rattle.mk_model.specs.Learnings.{decided}

-- the mark that comes last, and the only one of a column without clients: no stamp is above it
abbrev pub last_mark : Stamp
last_mark = record { time = 4611686018427387904; client = 64 }

-- a stamped attempt, and whether it is closed: decided, or settled by an epoch
pub record Stamped : Type 0 where
  pub id : TxnId
  pub stamp : Stamp
  pub closed : Bool

-- the greatest of these stamps, and 0.0 where there is none
abbrev pub greatest : List Stamp → Stamp
greatest [] = zero_stamp
greatest (stamp ∷ stamps) = later_stamp stamp (greatest stamps)

-- the last stamp of a client, which is its greatest, and 0.0 where it has none
abbrev pub last_of : List Stamped → ℕ → Stamp
last_of [] client = zero_stamp
last_of (s ∷ rest) client = if s.id.client == client then later_stamp s.stamp (last_of rest client) else last_of rest client

-- below the stamp of each attempt that is not closed
abbrev pub is_below_open : List Stamped → Stamp → Bool
is_below_open stamped stamp = list_all (λ s. s.closed || is_before stamp s.stamp) stamped

-- not above the last stamp of any of these clients
abbrev pub is_within_lasts : List ℕ → List Stamped → Stamp → Bool
is_within_lasts clients stamped stamp = list_all (λ client. not (is_before (last_of stamped client) stamp)) clients

-- a stamp up to which all is known: nothing at or below it is open, and nothing at or below it can still be stamped
abbrev pub may_be_marked : List ℕ → List Stamped → Stamp → Bool
may_be_marked clients stamped stamp = is_below_open stamped stamp && is_within_lasts clients stamped stamp

-- the stamps of attempts that may be marked, out of these
abbrev pub markable : List ℕ → List Stamped → List Stamped → List Stamp
markable clients stamped [] = []
markable clients stamped (s ∷ rest) =
    if may_be_marked clients stamped s.stamp then s.stamp ∷ markable clients stamped rest else markable clients stamped rest

-- the greatest stamp of a stamped attempt that may be marked
abbrev pub mark_stamp : List ℕ → List Stamped → Stamp
mark_stamp clients stamped = greatest (markable clients stamped stamped)

-- whether an attempt is decided, or is among those that epochs settled
abbrev pub is_closed : List TxnId → ColumnState → TxnId → Bool
is_closed settled column id = is_some (decided column id) || list_any (λ other. same_id other id) settled

-- an attempt in front of others, where it is stamped
abbrev pub with_stamped : List TxnId → ColumnState → Option Transaction → List Stamped → List Stamped
with_stamped settled column (Some txn) rest = record { id = txn.id; stamp = txn.stamp; closed = is_closed settled column txn.id } ∷ rest
with_stamped settled column None rest = rest

-- those of these attempts of a column that are stamped
abbrev pub stamped_of : List TxnId → ColumnState → List AttemptState → List Stamped
stamped_of settled column [] = []
stamped_of settled column (attempt ∷ attempts) = with_stamped settled column attempt.txn (stamped_of settled column attempts)

-- the mark stamp over these clients; where there is none, nothing more can come
abbrev pub mark_for : List ℕ → List Stamped → Stamp
mark_for [] stamped = last_mark
mark_for (client ∷ clients) stamped = mark_stamp (client ∷ clients) stamped

-- the mark stamp of a column, where epochs have settled these attempts
abbrev pub mark_of_column : List TxnId → ColumnState → Stamp
mark_of_column settled column = mark_for (map (λ client. client.number) column.clients) (stamped_of settled column column.attempts)
