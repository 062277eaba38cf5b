-- What a column keeps, and how its parts are found and changed.
use Rattle.std.specs.Prelude.{ℕ, zero, suc, ◌+◌, Bool, ◌&&◌, ◌==◌, ◌||◌, List, [], ◌∷◌, ◌++◌, length, map, replicate, Option, Some, None, find, is_some, option_and_then, slice_get, slice_index_or, if◌then◌else◌}
use Rattle.mk_lists.specs.Changed.{change}
use Rattle.mk_txn.specs.declared.TxnId.{TxnId}
use Rattle.mk_txn.specs.declared.ReadItem.{ReadItem}
use Rattle.mk_txn.specs.declared.Outcome.{Outcome}
use Rattle.mk_txn.specs.MarkMaps.{MarkMap}
use Rattle.mk_txn.specs.Transactions.{Transaction, same_id}
use Rattle.mk_words.specs.declared.Entry.{Entry}
use Rattle.mk_words.specs.declared.Msg.{Msg}
use Rattle.mk_words.specs.declared.Body.{Body}
use Rattle.mk_words.specs.Checks.{KeyAct}
use Rattle.mk_words.specs.Validations.{ValidationState}
use Rattle.mk_quorum.specs.Sizes.{members}
use Rattle.mk_quorum.specs.Slots.{passes}
use Rattle.mk_words.specs.Rulings.{CoordState}
use Rattle.mk_words.specs.Picks.{TakeoverState}
use Rattle.mk_words.specs.Settling.{greatest_upto}
use Rattle.mk_trim.specs.declared.ReplicaView.{ReplicaView}

-- what stays the same over a round; the views are those of the replicas, by number
pub record Setting : Type 0 where
  pub version : ℕ
  pub faults : ℕ
  pub keys : ℕ
  pub views : List ReplicaView

-- a client: the time of its last stamp, its next place, and the highest epoch that it has heard of
pub record ClientState : Type 0 where
  pub number : ℕ
  pub last_time : ℕ
  pub next_seq : ℕ
  pub heard : ℕ

-- an attempt with its own coordinator; it has a transaction once it is stamped
pub record AttemptState : Type 0 where
  pub id : TxnId
  pub replica : ℕ
  pub epoch : ℕ
  pub reading : Bool
  pub reads : List ReadItem
  pub txn : Option Transaction
  pub unread : Bool
  pub stopped : Bool
  pub coord : CoordState

-- a takeover of an attempt at a view
pub record TakeoverOf : Type 0 where
  pub id : TxnId
  pub closed : Bool
  pub state : TakeoverState

-- the key calls under way: a read, a validation, or the end of a transaction
pub data Work : Type 0 where
  Idle : Work
  Fetching : (id : TxnId) (replica key : ℕ) → Work
  Validating : (txn : Transaction) (replica epoch : ℕ) (state : ValidationState) → Work
  Finishing : (replica : ℕ) (left : List KeyAct) → Work

-- how an outcome was learned: by fast votes, by accepts of the own proposal, by a pick that a majority accepted,
-- by a replica of a later epoch, by being told, or by a replica's finishing
pub data Way : Type 0 where
  ByVotes : Way
  ByAccepts : Way
  ByPick : (view : ℕ) → Way
  ByMoved : (epoch : ℕ) → Way
  ByTelling : Way
  ByFinishing : Way

-- somebody learns the outcome of an attempt
pub record Learning : Type 0 where
  pub id : TxnId
  pub outcome : Outcome
  pub way : Way

-- a column: records and marks stand by replica, messages are numbered from 1, and what was learned stands in order
pub record ColumnState : Type 0 where
  pub clients : List ClientState
  pub attempts : List AttemptState
  pub takeovers : List TakeoverOf
  pub records : List (List Entry)
  pub marks : List MarkMap
  pub link : List Msg
  pub work : Work
  pub learned : List Learning

-- a client that has begun nothing
abbrev pub new_client : ℕ → ClientState
new_client number = record { number = number; last_time = 0; next_seq = 1; heard = 0 }

-- a column at the start, with these clients
abbrev pub new_column : ℕ → List ℕ → ColumnState
new_column f clients =
    let n = members f in
    let beginners = map new_client clients in
    record { clients = beginners; attempts = []; takeovers = []; records = replicate n []; marks = replicate n []; link = []; work = Idle; learned = [] }

-- the entries at this replica
abbrev pub entries_at : ColumnState → ℕ → List Entry
entries_at column r = slice_index_or column.records r []

-- the marks at this replica
abbrev pub marks_at : ColumnState → ℕ → MarkMap
marks_at column r = slice_index_or column.marks r []

-- the client has this number
abbrev pub is_client : ℕ → ClientState → Bool
is_client number client = client.number == number

-- the client of this number
abbrev pub client_of : ColumnState → ℕ → Option ClientState
client_of column number = find (is_client number) column.clients

-- the attempt has this number
abbrev pub is_attempt : TxnId → AttemptState → Bool
is_attempt id attempt = same_id attempt.id id

-- the attempt of this number
abbrev pub attempt_of : ColumnState → TxnId → Option AttemptState
attempt_of column id = find (is_attempt id) column.attempts

-- the takeover is of this attempt and at this view
abbrev pub is_takeover : TxnId → ℕ → TakeoverOf → Bool
is_takeover id view takeover = same_id takeover.id id && takeover.state.view == view

-- the takeover of this attempt at this view
abbrev pub takeover_of : ColumnState → TxnId → ℕ → Option TakeoverOf
takeover_of column id view = find (is_takeover id view) column.takeovers

-- the attempt and the view of a takeover that is not closed
abbrev pub open_turn : TakeoverOf → Option (TxnId × ℕ)
open_turn takeover = if takeover.closed then None else Some (takeover.id, takeover.state.view)

-- the attempt and the view of the takeover at this place, where it is there and not closed
abbrev pub open_at : ColumnState → ℕ → Option (TxnId × ℕ)
open_at column place = option_and_then open_turn (slice_get column.takeovers place)

-- the attempt is settled for its client: its own coordinator has learned, or it is unread
abbrev pub is_settled : AttemptState → Bool
is_settled attempt = attempt.unread || is_some attempt.coord.learned

-- the client's mark: the greatest place up to which each of its attempts is settled
abbrev pub client_mark : ColumnState → ℕ → ℕ
client_mark column client =
    greatest_upto (λ seq. passes is_settled (attempt_of column (record { client = client; seq = seq }))) (length column.attempts)

-- the mark that goes with a Validate: the client's in version 2, and 0 in version 1
abbrev pub mark_sent : Setting → ColumnState → ℕ → ℕ
mark_sent round column client = if round.version == 2 then client_mark column client else 0

-- the client of this number is changed, and no other
abbrev pub change_client : ℕ → (ClientState → ClientState) → ColumnState → ColumnState
change_client number f column = record column { clients = change (is_client number) f column.clients }

-- the attempt of this number is changed, and no other
abbrev pub change_attempt : TxnId → (AttemptState → AttemptState) → ColumnState → ColumnState
change_attempt id f column = record column { attempts = change (is_attempt id) f column.attempts }

-- the takeover of this attempt at this view is changed, and no other
abbrev pub change_takeover : TxnId → ℕ → (TakeoverOf → TakeoverOf) → ColumnState → ColumnState
change_takeover id view f column = record column { takeovers = change (is_takeover id view) f column.takeovers }

-- the numbers from r on, n of them
abbrev pub numbers_from : ℕ → ℕ → List ℕ
numbers_from r zero = []
numbers_from r (suc n) = r ∷ numbers_from (r + 1) n

-- one message to each replica, in order
abbrev pub to_all : ℕ → ℕ → TxnId → ℕ → Body → List Msg
to_all f epoch id view body =
    map (λ r. record { epoch = epoch; id = id; replica = r; view = view; body = body }) (numbers_from 0 (members f))

-- messages are sent, in order
abbrev pub send : List Msg → ColumnState → ColumnState
send messages column = record column { link = column.link ++ messages }
