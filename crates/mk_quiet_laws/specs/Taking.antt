-- What follows of a message once it was taken, in one column.
use Rattle.std.specs.Prelude.{◌≡◌, ◌⊎◌, ℕ, true, List, ◌∷◌, Some, None, is_some, length, slice_get}
use Rattle.mk_txn.specs.declared.TxnId.{TxnId}
use Rattle.mk_txn.specs.declared.Vote.{Vote}
use Rattle.mk_txn.specs.declared.Outcome.{Outcome}
use Rattle.mk_txn.specs.Transactions.{Transaction}
use Rattle.mk_words.specs.declared.Msg.{Msg}
use Rattle.mk_words.specs.declared.Body.{Body}
use Rattle.mk_words.specs.declared.Body.TheVariants.{Validate as ValidateBody, Voted, Accept, Decide, Ask}
use Rattle.mk_words.specs.Links.{message}
use Rattle.mk_quorum.specs.Sizes.{members}
use Rattle.mk_quorum.specs.Slots.{slot}
use Rattle.mk_words.specs.Validations.{ValidationState}
use Rattle.mk_words.specs.declared.Step.TheVariants.{Take}
use Rattle.mk_model.specs.ColumnState.{AttemptState, attempt_of}
use Rattle.mk_model.specs.ColumnState.Work.{Validating}
use Rattle.mk_model.specs.Replicas.{serves}
use Rattle.mk_model.specs.Sending.{Sent}
use Rattle.mk_column_laws.specs.Moments.{Moment, PastEntry, Event, EachHappens, moment_through}
use Rattle.mk_column_laws.specs.Moments.Event.{Doing}
use Rattle.mk_column_laws.specs.Laws.{AlwaysHolds}

-- each vote was sent to the own coordinator
abbrev pub VotesAreSent : Type 0
VotesAreSent =
    AlwaysHolds (λ taught m. (r : ℕ) (id : TxnId) (entry : PastEntry) (vote : Vote) (round : ℕ) → m.past.entries r id ≡ Some entry → entry.vote ≡ Some (vote, round) →
    Sent m.column.link id r 0 (Voted vote))

-- the attempt's validation is under way at the replica
abbrev pub IsUnderValidation : Moment → ℕ → TxnId → Type 0
IsUnderValidation m r id = (txn : Transaction) × (epoch : ℕ) × (state : ValidationState) × (m.column.work ≡ Validating txn r epoch state) × (txn.id ≡ id)

-- the replica was asked by a takeover, or told of a proposal or of an outcome
abbrev pub IsOvertaken : Moment → ℕ → TxnId → Type 0
IsOvertaken m r id =
    (view : ℕ) × (Sent m.column.link id r view Ask
    ⊎ ((outcome : Outcome) × (Sent m.column.link id r view (Accept outcome) ⊎ Sent m.column.link id r view (Decide outcome))))

-- an entry without a vote is under validation, or came otherwise than by a Validate
abbrev pub EntriesVote : Type 0
EntriesVote =
    AlwaysHolds (λ taught m. (r : ℕ) (id : TxnId) (entry : PastEntry) → m.past.entries r id ≡ Some entry → entry.vote ≡ None → IsUnderValidation m r id ⊎ IsOvertaken m r id)

-- a Validate leaves an entry, and a Decide a final one
abbrev pub IsTaken : Moment → Msg → Body → Type 0
IsTaken m msg (ValidateBody mark) = (entry : PastEntry) × (m.past.entries msg.replica msg.id ≡ Some entry)
IsTaken m msg (Decide outcome) = (entry : PastEntry) × (m.past.entries msg.replica msg.id ≡ Some entry) × (is_some entry.last ≡ true)
IsTaken m msg _ = Unit {0}

-- whatever comes after the message was taken by a replica that serves its epoch
abbrev pub TakenStays : Type 0
TakenStays =
    AlwaysHolds (λ taught m. (number : ℕ) (msg : Msg) → message m.column.link number ≡ Some msg → serves msg.epoch (slice_get m.round.views msg.replica) ≡ true →
    (events : List Event) → EachHappens taught m (Doing (Take number) ∷ events) → IsTaken (moment_through m (Doing (Take number) ∷ events)) msg msg.body)

-- the own coordinator has this replica's vote, or it stopped or has learned
abbrev pub IsCounted : Moment → Msg → Type 0
IsCounted m msg =
    (a : AttemptState) × (attempt_of m.column msg.id ≡ Some a)
    × ((a.stopped ≡ true) ⊎ ((is_some a.coord.learned ≡ true) ⊎ (is_some (slot a.coord.votes msg.replica) ≡ true)))

-- a coordinator has a slot for each replica
abbrev pub VotesHaveSlots : Type 0
VotesHaveSlots = AlwaysHolds (λ taught m. (id : TxnId) (a : AttemptState) → attempt_of m.column id ≡ Some a → length a.coord.votes ≡ members m.round.faults)

-- and so of a vote, whatever comes after it was taken
abbrev pub VotesAreCounted : Type 0
VotesAreCounted =
    AlwaysHolds (λ taught m. (number : ℕ) (msg : Msg) (vote : Vote) → message m.column.link number ≡ Some msg → msg.body ≡ Voted vote → msg.view ≡ 0 →
    (events : List Event) → EachHappens taught m (Doing (Take number) ∷ events) → IsCounted (moment_through m (Doing (Take number) ∷ events)) msg)
