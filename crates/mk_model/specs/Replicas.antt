-- What a replica does with a message, by its entry of the attempt.
use Rattle.std.specs.Prelude.{ℕ, Bool, true, false, not, ◌&&◌, ◌==◌, nat_lt, List, [], ◌∷◌, ◌++◌, Option, Some, None, slice_set, if◌then◌else◌}
use Rattle.mk_txn.specs.declared.Vote.{Vote}
use Rattle.mk_txn.specs.declared.Outcome.{Outcome}
use Rattle.mk_txn.specs.MarkMaps.{MarkMap, raised}
use Rattle.mk_txn.specs.Outcomes.{is_ok_vote}
use Rattle.mk_txn.specs.Transactions.{Transaction}
use Rattle.mk_words.specs.declared.Entry.{Entry}
use Rattle.mk_words.specs.Entries.{opened, entry_of, change_entry, with_promise, with_accepted, with_last}
use Rattle.mk_words.specs.declared.Told.{Told}
use Rattle.mk_words.specs.declared.Msg.{Msg}
use Rattle.mk_words.specs.declared.Body.{Body}
use Rattle.mk_words.specs.declared.Body.TheVariants.{Validate as ValidateBody, Voted, Accept, Accepted as AcceptedBody, Decide, Ask, Told as ToldBody, Moved as MovedBody}
use Rattle.mk_quorum.specs.Slots.{passes}
use Rattle.mk_words.specs.Checks.{KeyAct, finish_acts}
use Rattle.mk_words.specs.Validations.{validation_of}
use Rattle.mk_words.specs.KeptOutcomes.{known_of}
use Rattle.mk_words.specs.declared.Phase.{Phase}
use Rattle.mk_words.specs.declared.Phase.TheVariants.{Serving}
use Rattle.mk_trim.specs.declared.ReplicaView.{ReplicaView}
use Rattle.mk_model.specs.ColumnState.{Work, ColumnState, entries_at, marks_at}
use Rattle.mk_model.specs.ColumnState.Work.{Idle, Validating, Finishing}

-- a replica's entries and marks of the column
pub record Held : Type 0 where
  pub entries : List Entry
  pub marks : MarkMap

-- neither entries nor marks
abbrev pub nothing_held : Held
nothing_held = record { entries = []; marks = [] }

-- what a replica then holds, what it sends, and the key calls that it begins
pub record Reaction : Type 0 where
  pub held : Held
  pub sent : List Msg
  pub work : Work

-- nothing changes, and nothing is sent
abbrev pub ignored : Held → Reaction
ignored held = record { held = held; sent = []; work = Idle }

-- an answer has the epoch, attempt, replica and view of the message that it answers
abbrev pub reply : Msg → Body → Msg
reply msg body = record msg { body = body }

-- one answer is sent
abbrev pub answering : Held → Msg → Body → Reaction
answering held msg body = record { held = held; sent = reply msg body ∷ []; work = Idle }

-- what a Told tells of an entry
abbrev pub told_of : Entry → Told
told_of entry = record { vote = entry.vote; accepted = entry.accepted; last = entry.last }

-- the entry that is there, or one as it is opened
abbrev pub entry_or_opened : Transaction → Option Entry → Entry
entry_or_opened txn (Some entry) = entry
entry_or_opened txn None = opened txn

-- the record with an entry of this transaction
abbrev pub with_entry : Transaction → Held → Option Entry → Held
with_entry txn held (Some entry) = held
with_entry txn held None = record held { entries = held.entries ++ opened txn ∷ [] }

-- the entry of the message's attempt is changed
abbrev pub changing : (Entry → Entry) → Held → Msg → Held
changing f held msg = record held { entries = change_entry msg.id f held.entries }

-- the replica's mark of the message's client is raised to the message's
abbrev pub marking : ℕ → Held → Msg → Held
marking mark held msg = record held { marks = raised msg.id.client mark held.marks }

-- Validate: an entry without a vote that is not final ignores it, marks and all
abbrev pub validate_unfinished : ℕ → Held → Msg → Option Vote → Reaction
validate_unfinished mark held msg (Some vote) = answering (marking mark held msg) msg (Voted vote)
validate_unfinished mark held msg None = ignored held

-- a final entry answers a Validate with what it has
abbrev pub validate_known : ℕ → Entry → Held → Msg → Option Outcome → Reaction
validate_known mark entry held msg (Some outcome) = answering (marking mark held msg) msg (ToldBody (told_of entry))
validate_known mark entry held msg None = validate_unfinished mark held msg entry.vote

-- where there is no entry one is opened, and validation begins
abbrev pub on_validate : Transaction → ℕ → Held → Msg → Option Entry → Reaction
on_validate txn mark held msg (Some entry) = validate_known mark entry held msg entry.last
on_validate txn mark held msg None =
    record { held = marking mark (with_entry txn held None) msg; sent = []; work = Validating txn msg.replica msg.epoch (validation_of txn) }

-- Ask: a view that is not below the entry's is promised
abbrev pub ask_unfinished : Entry → Held → Msg → Reaction
ask_unfinished entry held msg =
    if nat_lt msg.view entry.view
    then ignored held
    else answering (changing (with_promise msg.view) held msg) msg (ToldBody (told_of entry))

-- a final entry answers an Ask with what it has
abbrev pub ask_known : Entry → Held → Msg → Option Outcome → Reaction
ask_known entry held msg (Some outcome) = answering held msg (ToldBody (told_of entry))
ask_known entry held msg None = ask_unfinished entry held msg

-- Accept: in a view that is not below the entry's the outcome is accepted
abbrev pub accept_unfinished : Outcome → Entry → Held → Msg → Reaction
accept_unfinished outcome entry held msg =
    if nat_lt msg.view entry.view
    then ignored held
    else answering (changing (with_accepted msg.view outcome) held msg) msg AcceptedBody

-- a final entry answers an Accept with what it has
abbrev pub accept_known : Outcome → Entry → Held → Msg → Option Outcome → Reaction
accept_known outcome entry held msg (Some last) = answering held msg (ToldBody (told_of entry))
accept_known outcome entry held msg None = accept_unfinished outcome entry held msg

-- the end of a transaction at these keys, which may be none
abbrev pub finishing : ℕ → List KeyAct → Work
finishing r [] = Idle
finishing r (act ∷ acts) = Finishing r (act ∷ acts)

-- Decide: an entry that is not final becomes so, and its end at the keys begins
abbrev pub decide_known : Outcome → Entry → Held → Msg → Option Outcome → Reaction
decide_known outcome entry held msg (Some last) = ignored held
decide_known outcome entry held msg None =
    let acts = finish_acts entry.txn outcome (passes is_ok_vote entry.vote) in
    record { held = changing (with_last outcome) held msg; sent = []; work = finishing msg.replica acts }

-- at a replica that serves the message's epoch; an entry that is missing is opened first
abbrev pub reaction : Transaction → Held → Msg → Option Entry → Body → Reaction
reaction txn held msg entry (ValidateBody mark) = on_validate txn mark held msg entry
reaction txn held msg entry Ask = let there = entry_or_opened txn entry in ask_known there (with_entry txn held entry) msg there.last
reaction txn held msg entry (Accept outcome) = let there = entry_or_opened txn entry in accept_known outcome there (with_entry txn held entry) msg there.last
reaction txn held msg entry (Decide outcome) = let there = entry_or_opened txn entry in decide_known outcome there (with_entry txn held entry) msg there.last
reaction txn held msg entry _ = ignored held

-- a replica of a later epoch answers all but a Decide with its epoch and what its base knows
abbrev pub moved_reaction : ReplicaView → Held → Msg → Body → Reaction
moved_reaction view held msg (Decide outcome) = ignored held
moved_reaction view held msg _ = answering held msg (MovedBody (record { to = view.epoch; fate = known_of view.fates msg.id }))

-- the phase in which messages are taken
abbrev pub is_serving : Phase → Bool
is_serving Serving = true
is_serving _ = false

-- the replica serves this epoch
abbrev pub serves : ℕ → Option ReplicaView → Bool
serves epoch (Some view) = is_serving view.phase && view.epoch == epoch
serves epoch None = false

-- a replica that does not serve, or serves an earlier epoch than the message's, ignores the message
abbrev pub reaction_by_view : Transaction → Held → Msg → Option ReplicaView → Reaction
reaction_by_view txn held msg None = ignored held
reaction_by_view txn held msg (Some view) =
    if not (is_serving view.phase) then ignored held
    else if nat_lt view.epoch msg.epoch then ignored held
    else if nat_lt msg.epoch view.epoch then moved_reaction view held msg msg.body
    else reaction txn held msg (entry_of msg.id held.entries) msg.body

-- what this replica holds of the column
abbrev pub held_at : ColumnState → ℕ → Held
held_at column r = record { entries = entries_at column r; marks = marks_at column r }

-- the column after a replica's reaction
abbrev pub reacted : ℕ → Reaction → ColumnState → ColumnState
reacted r reaction column =
    let records = slice_set column.records r reaction.held.entries in
    let marks = slice_set column.marks r reaction.held.marks in
    record column { records = records; marks = marks; link = column.link ++ reaction.sent; work = reaction.work }
