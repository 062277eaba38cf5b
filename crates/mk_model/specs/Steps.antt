-- What each step changes, and a column's step as a relation.
use Rattle.std.specs.Prelude.{◌≡◌, ℕ, ◌+◌, max, Bool, true, false, List, [], ◌∷◌, ◌++◌, Option, Some, None, slice_get, slice_set, if◌then◌else◌}
use Rattle.mk_txn.specs.declared.TxnId.{TxnId}
use Rattle.mk_txn.specs.declared.Stamp.{Stamp as StampType}
use Rattle.mk_txn.specs.declared.ReadItem.{ReadItem}
use Rattle.mk_txn.specs.declared.WriteItem.{WriteItem}
use Rattle.mk_txn.specs.declared.Vote.{Vote}
use Rattle.mk_txn.specs.declared.Outcome.{Outcome}
use Rattle.mk_txn.specs.Stamps.{next_stamp_of}
use Rattle.mk_txn.specs.Transactions.{Transaction}
use Rattle.mk_words.specs.declared.Answer.{Answer}
use Rattle.mk_words.specs.declared.Answer.TheVariants.{Version}
use Rattle.mk_words.specs.Entries.{change_entry, with_vote}
use Rattle.mk_words.specs.declared.Msg.{Msg}
use Rattle.mk_words.specs.declared.Body.TheVariants.{Validate as ValidateBody, Voted, Accept, Decide, Ask}
use Rattle.mk_words.specs.Links.{message, goes_to_replica}
use Rattle.mk_words.specs.Checks.{KeyAct}
use Rattle.mk_words.specs.Validations.{ValidationState, next_act, after_answer, vote_of}
use Rattle.mk_words.specs.declared.Ruling.{Ruling}
use Rattle.mk_words.specs.declared.Ruling.TheVariants.{Fast, Propose, Learned}
use Rattle.mk_words.specs.Rulings.{ruling, new_coord, coord_proposed, coord_taught}
use Rattle.mk_words.specs.declared.Pick.{Pick}
use Rattle.mk_words.specs.declared.Pick.TheVariants.{Known, Learned as PickLearned, Propose as PickPropose}
use Rattle.mk_words.specs.Picks.{pick, new_takeover, takeover_proposed}
use Rattle.mk_trim.specs.declared.ReplicaView.{ReplicaView}
use Rattle.mk_words.specs.declared.Step.{Step}
use Rattle.mk_words.specs.declared.Step.TheVariants.{Begin, Unread, Read, Stamp, Validate, Take, Key, Rule, Again, Takeover, Pick as PickStep, Stop}
use Rattle.mk_model.specs.ColumnState.{Setting, ColumnState, AttemptState, TakeoverOf, ClientState, Learning, Work, client_of, attempt_of, takeover_of, entries_at, change_client, change_attempt, change_takeover, mark_sent, to_all, send}
use Rattle.mk_model.specs.ColumnState.Work.{Idle, Fetching, Validating, Finishing}
use Rattle.mk_model.specs.Replicas.{reacted, reaction_by_view, finishing, held_at}
use Rattle.mk_model.specs.Answers.{answer_taken}
use Rattle.mk_model.specs.Learnings.{learned_in_step, txn_of}
use Rattle.mk_model.specs.Conditions.{blocked}

-- something is done with a value where there is one
abbrev pub on_some : {X : Type 0} → (X → ColumnState → ColumnState) → Option X → ColumnState → ColumnState
on_some f (Some x) column = f x column
on_some f None column = column

-- the epoch that columns see of a replica
abbrev pub epoch_of : Option ReplicaView → ℕ
epoch_of (Some view) = view.epoch
epoch_of None = 0

-- an attempt that begins to read at this replica, in its epoch
abbrev pub new_attempt : ℕ → TxnId → ℕ → ℕ → AttemptState
new_attempt f id replica epoch =
    let coord = new_coord f in
    record { id = id; replica = replica; epoch = epoch; reading = true; reads = []; txn = None; unread = false; stopped = false; coord = coord }

-- an attempt that found no replica
abbrev pub unread_attempt : ℕ → TxnId → AttemptState
unread_attempt f id = let attempt = new_attempt f id 0 0 in record attempt { reading = false; unread = true }

-- the number of the client's next attempt
abbrev pub next_id : ClientState → TxnId
next_id client = record { client = client.number; seq = client.next_seq }

-- the client has begun one more attempt, and heard of this epoch
abbrev pub begun : ℕ → ClientState → ClientState
begun epoch client = record client { next_seq = client.next_seq + 1; heard = max client.heard epoch }

-- a column with one more attempt
abbrev pub with_attempt : AttemptState → ColumnState → ColumnState
with_attempt attempt column = record column { attempts = column.attempts ++ attempt ∷ [] }

-- the client's next attempt begins
abbrev pub beginning : Setting → ℕ → ℕ → ClientState → ColumnState → ColumnState
beginning round replica epoch client column =
    with_attempt (new_attempt round.faults (next_id client) replica epoch) (change_client client.number (begun epoch) column)

-- the client's next attempt is unread
abbrev pub left_unread : Setting → ClientState → ColumnState → ColumnState
left_unread round client column = with_attempt (unread_attempt round.faults (next_id client)) (change_client client.number (begun 0) column)

-- the transaction that a stamp and writes make of an attempt
abbrev pub stamped_txn : AttemptState → StampType → List WriteItem → Transaction
stamped_txn attempt stamp writes = record { id = attempt.id; stamp = stamp; reads = attempt.reads; writes = writes }

-- the transaction is made, and reading ends
abbrev pub with_txn : StampType → List WriteItem → AttemptState → AttemptState
with_txn stamp writes attempt = record attempt { reading = false; txn = Some (stamped_txn attempt stamp writes) }

-- the client's last stamp has this time
abbrev pub with_last_time : ℕ → ClientState → ClientState
with_last_time time client = record client { last_time = time }

-- the attempt and its client have this stamp
abbrev pub stamped : TxnId → List WriteItem → Option StampType → ColumnState → ColumnState
stamped id writes None column = column
stamped id writes (Some stamp) column = change_client id.client (with_last_time stamp.time) (change_attempt id (with_txn stamp writes) column)

-- the attempt gets its client's next stamp
abbrev pub stamping : ℕ → List WriteItem → AttemptState → ColumnState → ColumnState
stamping clock writes attempt column =
    on_some (λ c col. stamped attempt.id writes (next_stamp_of c.number c.last_time clock attempt.reads) col)
    (client_of column attempt.id.client) column

-- the own coordinator has proposed
abbrev pub proposing : Outcome → AttemptState → AttemptState
proposing outcome attempt = record attempt { coord = coord_proposed outcome attempt.coord }

-- the own coordinator has learned, and what it learned first stays
abbrev pub taught : Outcome → AttemptState → AttemptState
taught outcome attempt = record attempt { coord = coord_taught (Some outcome) attempt.coord }

-- a column where this was learned too
abbrev pub with_learning : Learning → ColumnState → ColumnState
with_learning l column = record column { learned = column.learned ++ l ∷ [] }

-- what is decided is sent to all, and what is proposed too
abbrev pub ruled : ℕ → AttemptState → Ruling → ColumnState → ColumnState
ruled f attempt (Fast outcome) column =
    send (to_all f attempt.epoch attempt.id 0 (Decide outcome)) (change_attempt attempt.id (taught outcome) column)
ruled f attempt (Learned outcome) column =
    send (to_all f attempt.epoch attempt.id 0 (Decide outcome)) (change_attempt attempt.id (taught outcome) column)
ruled f attempt (Propose outcome) column =
    send (to_all f attempt.epoch attempt.id 0 (Accept outcome)) (change_attempt attempt.id (proposing outcome) column)
ruled f attempt _ column = column

-- the proposal is sent again
abbrev pub sent_again : ℕ → AttemptState → ColumnState → ColumnState
sent_again f attempt column = on_some (λ outcome col. send (to_all f attempt.epoch attempt.id 0 (Accept outcome)) col) attempt.coord.proposed column

-- a takeover begins at this view, and asks all replicas
abbrev pub taken_over : ℕ → ℕ → AttemptState → ColumnState → ColumnState
taken_over f view attempt column =
    send (to_all f attempt.epoch attempt.id view Ask)
    (record column { takeovers = column.takeovers ++ record { id = attempt.id; closed = false; state = new_takeover f view } ∷ [] })

-- a takeover that is done
abbrev pub closing : TakeoverOf → TakeoverOf
closing takeover = record takeover { closed = true }

-- a takeover that has proposed
abbrev pub takeover_proposing : Outcome → TakeoverOf → TakeoverOf
takeover_proposing outcome takeover = record takeover { state = takeover_proposed outcome takeover.state }

-- what a pick makes known is sent to all and closes the takeover, and what it proposes is sent too
abbrev pub picked : ℕ → ℕ → AttemptState → Pick → ColumnState → ColumnState
picked f view attempt (Known outcome) column =
    send (to_all f attempt.epoch attempt.id view (Decide outcome)) (change_takeover attempt.id view closing column)
picked f view attempt (PickLearned outcome) column =
    send (to_all f attempt.epoch attempt.id view (Decide outcome)) (change_takeover attempt.id view closing column)
picked f view attempt (PickPropose outcome) column =
    send (to_all f attempt.epoch attempt.id view (Accept outcome)) (change_takeover attempt.id view (takeover_proposing outcome) column)
picked f view attempt _ column = column

-- the takeover at this view does what its pick says
abbrev pub picking : Setting → ℕ → AttemptState → ColumnState → ColumnState
picking round view attempt column =
    on_some (λ t col. picked round.faults view attempt (pick round.faults t.state) col) (takeover_of column attempt.id view) column

-- the message's replica reacts to it
abbrev pub replica_takes : Setting → Msg → Transaction → ColumnState → ColumnState
replica_takes round msg txn column = reacted msg.replica (reaction_by_view txn (held_at column msg.replica) msg (slice_get round.views msg.replica)) column

-- a message is taken by a replica, or by a coordinator or takeover
abbrev pub taken : Setting → Msg → ColumnState → ColumnState
taken round msg column =
    if goes_to_replica msg.body
    then on_some (replica_takes round msg) (txn_of column msg.id) column
    else answer_taken round msg column

-- what the answer to a Get adds to an attempt's reads
abbrev pub read_item : ℕ → Answer → List ReadItem
read_item key (Version version value) = record { key = key; version = version; value = value } ∷ []
read_item key _ = []

-- an attempt with what was read of the key
abbrev pub with_read : ℕ → Answer → AttemptState → AttemptState
with_read key answer attempt = record attempt { reads = attempt.reads ++ read_item key answer }

-- the value that was asked for is read
abbrev pub fetched : TxnId → ℕ → Answer → ColumnState → ColumnState
fetched id key answer column = let read = change_attempt id (with_read key answer) column in record read { work = Idle }

-- a vote for the own coordinator
abbrev pub voted_msg : Transaction → ℕ → ℕ → Vote → Msg
voted_msg txn replica epoch vote = record { epoch = epoch; id = txn.id; replica = replica; view = 0; body = Voted vote }

-- after the last act of a validation the vote is set and sent
abbrev pub validated : Transaction → ℕ → ℕ → ValidationState → Option KeyAct → ColumnState → ColumnState
validated txn replica epoch state (Some act) column = record column { work = Validating txn replica epoch state }
validated txn replica epoch state None column =
    let entries = change_entry txn.id (with_vote (vote_of state)) (entries_at column replica) in
    record column { records = slice_set column.records replica entries; link = column.link ++ voted_msg txn replica epoch (vote_of state) ∷ []; work = Idle }

-- the key calls under way go on
abbrev pub answered : Answer → Work → ColumnState → ColumnState
answered answer Idle column = column
answered answer (Fetching id replica key) column = fetched id key answer column
answered answer (Validating txn replica epoch state) column =
    let next = after_answer state answer in validated txn replica epoch next (next_act next) column
answered answer (Finishing replica []) column = record column { work = Idle }
answered answer (Finishing replica (act ∷ acts)) column = record column { work = finishing replica acts }

-- a validation is under way
abbrev pub is_validating : Work → Bool
is_validating (Validating txn replica epoch state) = true
is_validating _ = false

-- what a step changes, but for what was learned
abbrev pub stepped : Setting → ColumnState → Step → ColumnState
stepped round column (Begin client replica) =
    on_some (beginning round replica (epoch_of (slice_get round.views replica))) (client_of column client) column
stepped round column (Unread client) = on_some (left_unread round) (client_of column client) column
stepped round column (Read id key) = on_some (λ a col. record col { work = Fetching id a.replica key }) (attempt_of column id) column
stepped round column (Stamp id clock writes) = on_some (stamping clock writes) (attempt_of column id) column
stepped round column (Validate id) =
    on_some (λ a col. send (to_all round.faults a.epoch id 0 (ValidateBody (mark_sent round col id.client))) col) (attempt_of column id) column
stepped round column (Take number) = on_some (taken round) (message column.link number) column
stepped round column (Key call answer) = answered answer column.work column
stepped round column (Rule id) = on_some (λ a col. ruled round.faults a (ruling round.faults a.coord) col) (attempt_of column id) column
stepped round column (Again id) = on_some (sent_again round.faults) (attempt_of column id) column
stepped round column (Takeover id view) = on_some (taken_over round.faults view) (attempt_of column id) column
stepped round column (PickStep id view) = on_some (picking round view) (attempt_of column id) column
stepped round column (Stop id) = change_attempt id (λ a. record a { stopped = true }) column

-- the column after a step: what the step changes, and what is learned in it
abbrev pub column_after : Setting → ColumnState → Step → ColumnState
column_after round column step =
    let after = stepped round column step in record after { learned = column.learned ++ learned_in_step round column step }

-- a column's step: it is enabled, and the column is so afterwards
pub record ColumnStep (round : Setting) (old : ColumnState) (step : Step) (new : ColumnState) : Type 0 where
  pub enabled : blocked round old step ≡ None
  pub after : new ≡ column_after round old step
