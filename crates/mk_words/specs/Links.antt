-- A link is the list of the messages sent so far. Its numbers count from 1, and any message may be taken at any time.
use Rattle.std.specs.Prelude.{ℕ, ◌-◌, Bool, true, false, ◌&&◌, ◌==◌, nat_le, List, length, filter, take, Option, None, option_map, slice_get, if◌then◌else◌}
use Rattle.mk_txn.specs.declared.TxnId.{TxnId}
use Rattle.mk_txn.specs.Transactions.{same_id}
use Rattle.mk_words.specs.declared.MsgKind.{MsgKind}
use Rattle.mk_words.specs.declared.MsgKind.TheVariants.{Validate, Vote, Accept, Accepted, Decide, Ask, Told, Moved}
use Rattle.mk_words.specs.declared.Msg.{Msg}
use Rattle.mk_words.specs.declared.Body.{Body}
use Rattle.mk_words.specs.declared.Body.TheVariants.{Validate as ValidateBody, Voted, Accept as AcceptBody, Accepted as AcceptedBody, Decide as DecideBody, Ask as AskBody, Told as ToldBody, Moved as MovedBody}

-- the kind of what a message says
abbrev pub kind_of : Body → MsgKind
kind_of (ValidateBody mark) = Validate
kind_of (Voted vote) = Vote
kind_of (AcceptBody outcome) = Accept
kind_of AcceptedBody = Accepted
kind_of (DecideBody outcome) = Decide
kind_of AskBody = Ask
kind_of (ToldBody told) = Told
kind_of (MovedBody moved) = Moved

-- the kinds, numbered so that they can be compared
abbrev pub kind_number : MsgKind → ℕ
kind_number Validate = 0
kind_number Vote = 1
kind_number Accept = 2
kind_number Accepted = 3
kind_number Decide = 4
kind_number Ask = 5
kind_number Told = 6
kind_number Moved = 7

-- whether two kinds are equal
abbrev pub same_kind : MsgKind → MsgKind → Bool
same_kind a b = kind_number a == kind_number b

-- the message is of this kind, attempt and replica
abbrev pub is_of : MsgKind → TxnId → ℕ → Msg → Bool
is_of kind id replica msg = same_kind (kind_of msg.body) kind && same_id msg.id id && msg.replica == replica

-- how many messages of this kind, attempt and replica were sent
abbrev pub count_of : List Msg → MsgKind → TxnId → ℕ → ℕ
count_of link kind id replica = length (filter (is_of kind id replica) link)

-- the message of this number
abbrev pub message : List Msg → ℕ → Option Msg
message link number = if nat_le 1 number then slice_get link (number - 1) else None

-- how many of the message's kind, attempt and replica there are
abbrev pub place_in : List Msg → Msg → ℕ
place_in upto msg = count_of upto (kind_of msg.body) msg.id msg.replica

-- the place of the message of this number among those of its kind, attempt and replica, from 1, in order of sending
abbrev pub place_of : List Msg → ℕ → Option ℕ
place_of link number = option_map (place_in (take number link)) (message link number)

-- the message goes to a replica, and not to a coordinator
abbrev pub goes_to_replica : Body → Bool
goes_to_replica (ValidateBody mark) = true
goes_to_replica (AcceptBody outcome) = true
goes_to_replica (DecideBody outcome) = true
goes_to_replica AskBody = true
goes_to_replica (Voted vote) = false
goes_to_replica AcceptedBody = false
goes_to_replica (ToldBody told) = false
goes_to_replica (MovedBody moved) = false
