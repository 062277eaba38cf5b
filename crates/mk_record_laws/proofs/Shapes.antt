-- What a step does to records, marks, attempts, takeovers and the link, as lists.
use Rattle.std.proofs.Common.{◌≡◌, ◌⊎◌, ℕ, true, false, List, [], ◌∷◌, ◌++◌, Some, None}
use Rattle.std.specs.Prelude.{slice_get}
use Rattle.mk_lists.specs.Among.{Among}
use Rattle.mk_lists.specs.Changed.{change}
use Rattle.mk_txn.specs.declared.TxnId.{TxnId}
use Rattle.mk_txn.specs.declared.Outcome.{Outcome}
use Rattle.mk_txn.specs.Outcomes.{is_ok_vote}
use Rattle.mk_txn.specs.MarkMaps.{MarkMap, raised}
use Rattle.mk_txn.specs.Transactions.{Transaction}
use Rattle.mk_words.specs.declared.Entry.{Entry}
use Rattle.mk_words.specs.Entries.{opened, entry_of, change_entry}
use Rattle.mk_words.specs.declared.Msg.{Msg}
use Rattle.mk_words.specs.declared.Body.TheVariants.{Validate as ValidateBody, Accept, Decide, Ask}
use Rattle.mk_words.specs.Links.{goes_to_replica}
use Rattle.mk_words.specs.declared.Step.{Step}
use Rattle.mk_quorum.specs.Slots.{passes}
use Rattle.mk_words.specs.Checks.{finish_acts}
use Rattle.mk_model.specs.ColumnState.{ColumnState, Work, ClientState, AttemptState, TakeoverOf, attempt_of, takeover_of, client_of, entries_at, marks_at, is_attempt, is_takeover, mark_sent}
use Rattle.mk_model.specs.Replicas.{serves, finishing}
use Rattle.mk_model.specs.Learnings.{learned_in_step}
use Rattle.mk_model.specs.Steps.{next_id}
use Rattle.mk_column_laws.specs.Moments.{Moment}
use Rattle.mk_record_laws.specs.Listed.{IsListed}

-- the entries of a record, with one opened for the attempt where there was none
abbrev pub EntriesReady : TxnId → List Entry → List Entry → Type 0
EntriesReady id old ready =
    (ready ≡ old) ⊎ ((txn : Transaction) × (txn.id ≡ id) × (entry_of id old ≡ None) × (ready ≡ old ++ opened txn ∷ []))

-- the entry of the attempt is changed
abbrev pub EntriesChange : TxnId → List Entry → List Entry → Type 0
EntriesChange id old new = (f : Entry → Entry) × ((e : Entry) → (f e).txn ≡ e.txn) × (new ≡ change_entry id f old)

-- opened, changed, both or neither
abbrev pub EntriesMove : TxnId → List Entry → List Entry → Type 0
EntriesMove id old new = (ready : List Entry) × EntriesReady id old ready × ((new ≡ ready) ⊎ EntriesChange id ready new)

-- an entry that is final was final with the same outcome
abbrev pub FinalKept : List Entry → List Entry → Type 0
FinalKept old new = (id : TxnId) (e : Entry) (o : Outcome) → entry_of id new ≡ Some e → e.last ≡ Some o → (was : Entry) × (entry_of id old ≡ Some was) × (was.last ≡ Some o)

-- a final entry was final with the same outcome, or its end at the keys begins
abbrev pub FinalOr : ℕ → List Entry → List Entry → Work → Type 0
FinalOr r old new work =
    (id : TxnId) (e : Entry) (o : Outcome) → entry_of id new ≡ Some e → e.last ≡ Some o →
    ((was : Entry) × (entry_of id old ≡ Some was) × (was.last ≡ Some o)) ⊎ (work ≡ finishing r (finish_acts e.txn o (passes is_ok_vote e.vote)))

-- marks stay, or the mark of the message's client is raised to the message's
abbrev pub MarksMove : Msg → MarkMap → MarkMap → Type 0
MarksMove msg old new = (new ≡ old) ⊎ ((mark : ℕ) × (msg.body ≡ ValidateBody mark) × (new ≡ raised msg.id.client mark old))

module _ (m : Moment) (step : Step) where
  -- the record of a replica stays, gets a vote, or moves where the replica serves an attempt's epoch
  abbrev pub RecordStep : ℕ → List Entry → Type 0
  RecordStep r new =
      (new ≡ entries_at m.column r)
      ⊎ (((id : TxnId) × EntriesChange id (entries_at m.column r) new)
      ⊎ ((id : TxnId) × (a : AttemptState) × (attempt_of m.column id ≡ Some a) × (serves a.epoch (slice_get m.round.views r) ≡ true) × EntriesMove id (entries_at m.column r) new))

  -- the marks of a replica stay, or are raised by a Validate that was sent
  abbrev pub MarksStep : ℕ → MarkMap → Type 0
  MarksStep r new =
      (new ≡ marks_at m.column r) ⊎ ((msg : Msg) × Among msg m.column.link × MarksMove msg (marks_at m.column r) new)

  -- what is sent
  pub data SendStep (msg : Msg) : Type 0 where
    SendsAnswer : goes_to_replica msg.body ≡ false → SendStep msg
    SendsAsk : msg.body ≡ Ask → SendStep msg
    SendsAccept : (outcome : Outcome) → msg.body ≡ Accept outcome → SendStep msg
    SendsValidate : msg.body ≡ ValidateBody (mark_sent m.round m.column msg.id.client) → SendStep msg
    SendsDecide : (outcome : Outcome) → msg.body ≡ Decide outcome → IsListed (learned_in_step m.round m.column step) msg.id outcome → SendStep msg

  -- what an attempt becomes
  pub record AttemptStep (id : TxnId) (a b : AttemptState) : Type 0 where
    pub unread : b.unread ≡ a.unread
    pub txn : a.reading ≡ false → b.txn ≡ a.txn
    pub reading : a.reading ≡ false → b.reading ≡ false
    pub learned : (outcome : Outcome) → b.coord.learned ≡ Some outcome → (a.coord.learned ≡ Some outcome) ⊎ IsListed (learned_in_step m.round m.column step) id outcome

  -- the attempts stay, one is added, or one changes
  pub data AttemptsStep (new : List AttemptState) : Type 0 where
    AttemptsStay : new ≡ m.column.attempts → AttemptsStep new
    AttemptAdded : (c : ClientState) (a : AttemptState) → client_of m.column c.number ≡ Some c → a.id ≡ next_id c → a.coord.learned ≡ None → a.txn ≡ None →
        (a.unread ≡ true → a.reading ≡ false) → new ≡ m.column.attempts ++ a ∷ [] → AttemptsStep new
    AttemptChanged : (id : TxnId) (g : AttemptState → AttemptState) → ((a : AttemptState) → (g a).id ≡ a.id) →
        ((a : AttemptState) → attempt_of m.column id ≡ Some a → AttemptStep id a (g a)) → new ≡ change (is_attempt id) g m.column.attempts → AttemptsStep new

  -- the takeovers stay, one is added, or one changes
  pub data TakeoversStep (new : List TakeoverOf) : Type 0 where
    TakeoversStay : new ≡ m.column.takeovers → TakeoversStep new
    TakeoverAdded : (t : TakeoverOf) → t.state.learned ≡ None → new ≡ m.column.takeovers ++ t ∷ [] → TakeoversStep new
    TakeoverChanged : (id : TxnId) (view : ℕ) (g : TakeoverOf → TakeoverOf) → ((t : TakeoverOf) → ((g t).id ≡ t.id) × ((g t).state.view ≡ t.state.view)) →
        ((t : TakeoverOf) → takeover_of m.column id view ≡ Some t → (outcome : Outcome) → (g t).state.learned ≡ Some outcome →
        (t.state.learned ≡ Some outcome) ⊎ IsListed (learned_in_step m.round m.column step) id outcome) →
        new ≡ change (is_takeover id view) g m.column.takeovers → TakeoversStep new

  -- all that a step does
  pub record StepShape (c : ColumnState) : Type 0 where
    pub entries : (r : ℕ) → RecordStep r (entries_at c r)
    pub ends : (r : ℕ) → FinalOr r (entries_at m.column r) (entries_at c r) c.work
    pub marks : (r : ℕ) → MarksStep r (marks_at c r)
    pub sends : (msg : Msg) → Among msg c.link → Among msg m.column.link ⊎ SendStep msg
    pub attempts : AttemptsStep c.attempts
    pub takeovers : TakeoversStep c.takeovers
