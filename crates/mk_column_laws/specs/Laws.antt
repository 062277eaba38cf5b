-- The laws of one column: of what was sent and counted, of views, of decisions, and of what is learned.
-- Each is about every moment that events can reach, whatever a later epoch has taught.
use Rattle.std.specs.Prelude.{◌≡◌, ◌⊎◌, ◌<◌, ◌≤◌, ℕ, true, List, Option, Some, option_map, slice_get, Bool, false}
use Rattle.mk_lists.specs.Among.{Among}
use Rattle.mk_txn.specs.declared.TxnId.{TxnId}
use Rattle.mk_txn.specs.declared.Vote.{Vote}
use Rattle.mk_txn.specs.declared.Accepted.{Accepted}
use Rattle.mk_txn.specs.declared.Outcome.{Outcome}
use Rattle.mk_txn.specs.Outcomes.{is_commit, agrees}
use Rattle.mk_words.specs.declared.Entry.{Entry}
use Rattle.mk_words.specs.Entries.{entry_of}
use Rattle.mk_quorum.specs.Slots.{slot}
use Rattle.mk_words.specs.declared.Told.{Told}
use Rattle.mk_words.specs.declared.Moved.{Moved}
use Rattle.mk_words.specs.declared.Msg.{Msg}
use Rattle.mk_words.specs.declared.Body.TheVariants.{Voted, Accepted as AcceptedBody, Decide, Told as ToldBody, Moved as MovedBody}
use Rattle.mk_words.specs.declared.Ruling.TheVariants.{Fast, Propose}
use Rattle.mk_words.specs.Rulings.{by_votes}
use Rattle.mk_words.specs.declared.Pick.TheVariants.{Propose as PickPropose}
use Rattle.mk_words.specs.Picks.{by_promises}
use Rattle.mk_model.specs.ColumnState.{AttemptState, TakeoverOf, Learning, attempt_of, takeover_of, entries_at}
use Rattle.mk_model.specs.ColumnState.Way.{ByVotes}
use Rattle.mk_model.specs.Replicas.{serves}
use Rattle.mk_model.specs.Answers.{moved_outcome}
use Rattle.mk_model.specs.Learnings.{learning}
use Rattle.mk_column_laws.specs.Moments.{Moment, PastEntry, Taught, StaysTaught, IsReached, Event, CanHappen, EachHappens, after_event, moment_through}
use Rattle.mk_model.specs.Sending.{Sent, Proposed}
use Rattle.mk_column_laws.specs.Messages.{VotesIn, RepliesIn, taking_over}
use Rattle.mk_model.specs.Deciding.{IsDecided, IsChosen}
use Rattle.mk_column_laws.specs.Moves.{Moves, HasProposed, IsStampedIn, entry_of_past}
use Rattle.mk_column_laws.specs.Facts.{Facts, Grows, IsBacked, IsSupported, IsTaught, ToldFacts, AcceptFacts}

-- P holds at every moment that is reached
abbrev pub AlwaysHolds : (Taught → Moment → Type 0) → Type 0
AlwaysHolds P = (taught : Taught) → StaysTaught taught → (m : Moment) → IsReached taught m → P taught m

-- ---- events

-- every event that can happen is sorted: what it does to each attempt, takeover, entry, message and key call
abbrev pub EventsMove : Type 0
EventsMove = AlwaysHolds (λ taught m. (event : Event) → CanHappen taught event m → Moves m (after_event event m))

-- what is there once, stays: attempts, votes, accepted and final outcomes, proposals, messages, learnings; views do not fall
abbrev pub ColumnsGrow : Type 0
ColumnsGrow = AlwaysHolds (λ taught m. (events : List Event) → EachHappens taught m events → Grows m (moment_through m events))

-- all that holds at every moment, as one record
abbrev pub FactsHold : Type 0
FactsHold = AlwaysHolds (λ taught m. Facts taught m)

-- an entry changes only at a replica that serves its attempt's epoch
abbrev pub EntriesChangeWhereServed : Type 0
EntriesChangeWhereServed =
    AlwaysHolds (λ taught m. (event : Event) → CanHappen taught event m → (r : ℕ) (id : TxnId) →
    ((after_event event m).past.entries r id ≡ m.past.entries r id)
    ⊎ ((a : AttemptState) × (attempt_of m.column id ≡ Some a) × (serves a.epoch (slice_get m.round.views r) ≡ true)))

-- where a replica serves an attempt's epoch, its record has what is remembered of the attempt
abbrev pub RecordsMatch : Type 0
RecordsMatch =
    AlwaysHolds (λ taught m. (r : ℕ) (id : TxnId) (a : AttemptState) → attempt_of m.column id ≡ Some a → serves a.epoch (slice_get m.round.views r) ≡ true →
    entry_of id (entries_at m.column r) ≡ option_map entry_of_past (m.past.entries r id))

-- the same where the replica was not reset since it served the attempt's epoch, whatever it does now
abbrev pub RecordsKept : Type 0
RecordsKept =
    AlwaysHolds (λ taught m. (r : ℕ) (id : TxnId) (a : AttemptState) → attempt_of m.column id ≡ Some a → m.past.has_left r a.epoch ≡ false →
    entry_of id (entries_at m.column r) ≡ option_map entry_of_past (m.past.entries r id))

-- what is in a record is remembered
abbrev pub RecordIsPast : Type 0
RecordIsPast =
    AlwaysHolds (λ taught m. (r : ℕ) (id : TxnId) (entry : Entry) → entry_of id (entries_at m.column r) ≡ Some entry →
    (past : PastEntry) × (m.past.entries r id ≡ Some past) × (entry ≡ entry_of_past past))

-- ---- messages and answers

-- each message is of a stamped attempt, in its epoch
abbrev pub MessagesAreOf : Type 0
MessagesAreOf = AlwaysHolds (λ taught m. (msg : Msg) → Among msg m.column.link → IsStampedIn m msg.id msg.epoch)

-- an Accept carries what its coordinator or takeover has proposed
abbrev pub AcceptIsProposal : Type 0
AcceptIsProposal = AlwaysHolds (λ taught m. (id : TxnId) (view : ℕ) (outcome : Outcome) → Proposed m.column.link id view outcome → HasProposed m id view outcome)

-- in one view of an attempt one outcome is proposed
abbrev pub OneProposal : Type 0
OneProposal =
    AlwaysHolds (λ taught m. (id : TxnId) (view : ℕ) (one other : Outcome) → Proposed m.column.link id view one → Proposed m.column.link id view other → one ≡ other)

-- a Voted tells the vote of the entry
abbrev pub VotedTrue : Type 0
VotedTrue =
    AlwaysHolds (λ taught m. (id : TxnId) (r view : ℕ) (vote : Vote) → Sent m.column.link id r view (Voted vote) →
    (entry : PastEntry) × (m.past.entries r id ≡ Some entry) × ((round : ℕ) × (entry.vote ≡ Some (vote, round))))

-- an Accepted tells that the entry's view, and the view in which it accepted last, are not below
abbrev pub AcceptedTrue : Type 0
AcceptedTrue = AlwaysHolds (λ taught m. (id : TxnId) (r view : ℕ) → Sent m.column.link id r view AcceptedBody → AcceptFacts m r id view)

-- a Told tells the final outcome; one without it promises its view, and tells the vote, or that there never will be one,
-- and all that was accepted below
abbrev pub ToldTrue : Type 0
ToldTrue = AlwaysHolds (λ taught m. (id : TxnId) (r view : ℕ) (told : Told) → Sent m.column.link id r view (ToldBody told) → ToldFacts m r id view told)

-- a Moved teaches what was taught
abbrev pub MovedTrue : Type 0
MovedTrue =
    AlwaysHolds (λ taught m. (id : TxnId) (r view : ℕ) (moved : Moved) (outcome : Outcome) → Sent m.column.link id r view (MovedBody moved) →
    moved_outcome moved ≡ Some outcome → IsTaught taught m id outcome m.past.now)

-- a Moved is of an epoch later than the attempt's
abbrev pub MovedIsLater : Type 0
MovedIsLater =
    AlwaysHolds (λ taught m. (id : TxnId) (r view : ℕ) (moved : Moved) → Sent m.column.link id r view (MovedBody moved) →
    (a : AttemptState) × (attempt_of m.column id ≡ Some a) × (a.epoch < moved.to))

-- what an own coordinator and a takeover have counted was sent
pub record CountsOf (m : Moment) (id : TxnId) : Type 0 where
  pub votes : (a : AttemptState) (r : ℕ) (vote : Vote) → attempt_of m.column id ≡ Some a → slot a.coord.votes r ≡ Some vote → Sent m.column.link id r 0 (Voted vote)
  pub accepts : (a : AttemptState) (r : ℕ) (b : Bool) → attempt_of m.column id ≡ Some a → slot a.coord.accepts r ≡ Some b → Sent m.column.link id r 0 AcceptedBody
  pub told : (view : ℕ) (t : TakeoverOf) (r : ℕ) (told : Told) → takeover_of m.column id view ≡ Some t → slot t.state.told r ≡ Some told → Sent m.column.link id r view (ToldBody told)
  pub takeover_accepts : (view : ℕ) (t : TakeoverOf) (r : ℕ) (b : Bool) → takeover_of m.column id view ≡ Some t → slot t.state.accepts r ≡ Some b → Sent m.column.link id r view AcceptedBody

abbrev pub CountsBacked : Type 0
CountsBacked = AlwaysHolds (λ taught m. (id : TxnId) → CountsOf m id)

-- an accepted outcome was proposed in its view, which is not above the entry's
abbrev pub AcceptedWasProposed : Type 0
AcceptedWasProposed =
    AlwaysHolds (λ taught m. (r : ℕ) (id : TxnId) (entry : PastEntry) (a : Accepted) → m.past.entries r id ≡ Some entry → entry.accepted ≡ Some a →
    (a.view ≤ entry.view) × Proposed m.column.link id a.view a.outcome)

-- a final outcome was sent
abbrev pub FinalWasSent : Type 0
FinalWasSent =
    AlwaysHolds (λ taught m. (r : ℕ) (id : TxnId) (entry : PastEntry) (outcome : Outcome) (round : ℕ) → m.past.entries r id ≡ Some entry →
    entry.last ≡ Some (outcome, round) → (q view : ℕ) × Sent m.column.link id q view (Decide outcome))

-- ---- grounds

-- an own coordinator proposes by votes that were sent
abbrev pub OwnGrounds : Type 0
OwnGrounds =
    AlwaysHolds (λ taught m. (id : TxnId) (outcome : Outcome) → Proposed m.column.link id 0 outcome →
    (votes : List (Option Vote)) × VotesIn m.column.link id votes × (by_votes m.round.faults votes ≡ Propose outcome))

-- a fast decision is by votes that were sent, and nothing is proposed in view 0
abbrev pub FastGrounds : Type 0
FastGrounds =
    AlwaysHolds (λ taught m. (id : TxnId) (outcome : Outcome) → Among (learning id ByVotes outcome) m.column.learned →
    ((votes : List (Option Vote)) × VotesIn m.column.link id votes × (by_votes m.round.faults votes ≡ Fast outcome))
    × ((other : Outcome) → Proposed m.column.link id 0 other → ⊥))

-- a takeover proposes by replies that were sent, all of which promise its view and tell of earlier views
abbrev pub TakeoverGrounds : Type 0
TakeoverGrounds =
    AlwaysHolds (λ taught m. (id : TxnId) (view : ℕ) (outcome : Outcome) → 1 ≤ view → Proposed m.column.link id view outcome →
    (replies : List (Option Told)) × RepliesIn m.column.link id view replies × (by_promises m.round.faults (taking_over view replies) ≡ PickPropose outcome))

-- ---- views and decisions

-- where a majority accepted in a view, every later view proposes the same
abbrev pub ViewsAgree : Type 0
ViewsAgree =
    AlwaysHolds (λ taught m. (id : TxnId) (view later : ℕ) (outcome other : Outcome) → IsChosen m.round.faults m.column.link id view outcome → view < later →
    Proposed m.column.link id later other → other ≡ outcome)

-- where an outcome is decided fast, every view proposes one like it
abbrev pub FastForbids : Type 0
FastForbids =
    AlwaysHolds (λ taught m. (id : TxnId) (view : ℕ) (outcome other : Outcome) → Among (learning id ByVotes outcome) m.column.learned →
    Proposed m.column.link id view other → agrees other outcome ≡ true)

-- two decided outcomes of an attempt are both commits or both aborts
abbrev pub OneDecision : Type 0
OneDecision =
    AlwaysHolds (λ taught m. (id : TxnId) (one other : Outcome) → IsDecided m.round.faults m.column id one → IsDecided m.round.faults m.column id other → agrees one other ≡ true)

-- a commit that is decided, proposed or accepted has a majority of Ok votes
pub record SupportOf (m : Moment) (id : TxnId) : Type 0 where
  pub decided : (outcome : Outcome) → IsDecided m.round.faults m.column id outcome → is_commit outcome ≡ true → IsSupported m id m.past.now
  pub proposed : (view : ℕ) (outcome : Outcome) → Proposed m.column.link id view outcome → is_commit outcome ≡ true → IsSupported m id m.past.now
  pub accepted : (r : ℕ) (entry : PastEntry) (a : Accepted) → m.past.entries r id ≡ Some entry → entry.accepted ≡ Some a → is_commit a.outcome ≡ true → IsSupported m id m.past.now

abbrev pub CommitSupport : Type 0
CommitSupport = AlwaysHolds (λ taught m. (id : TxnId) → SupportOf m id)

-- ---- learning

-- what is learned of an attempt, by whomever, is decided or was taught; a final entry keeps the round since which it is
pub record BackingOf (taught : Taught) (m : Moment) (id : TxnId) : Type 0 where
  pub sent : (r view : ℕ) (outcome : Outcome) → Sent m.column.link id r view (Decide outcome) → IsBacked taught m id outcome m.past.now
  pub own : (a : AttemptState) (outcome : Outcome) → attempt_of m.column id ≡ Some a → a.coord.learned ≡ Some outcome → IsBacked taught m id outcome m.past.now
  pub takeover : (view : ℕ) (t : TakeoverOf) (outcome : Outcome) → takeover_of m.column id view ≡ Some t → t.state.learned ≡ Some outcome → IsBacked taught m id outcome m.past.now
  pub final : (r : ℕ) (entry : PastEntry) (outcome : Outcome) (round : ℕ) → m.past.entries r id ≡ Some entry → entry.last ≡ Some (outcome, round) →
      (round ≤ m.past.now) × IsBacked taught m id outcome round
  pub learned : (l : Learning) → Among l m.column.learned → l.id ≡ id → IsBacked taught m id l.outcome m.past.now

abbrev pub LearnedBacked : Type 0
LearnedBacked = AlwaysHolds (λ taught m. (id : TxnId) → BackingOf taught m id)

-- what an outcome rests on stays, and a later round does as well
abbrev pub BackingStays : Type 0
BackingStays =
    AlwaysHolds (λ taught m. (events : List Event) → EachHappens taught m events → (id : TxnId) (outcome : Outcome) (i j : ℕ) → i ≤ j →
    IsBacked taught m id outcome i → IsBacked taught (moment_through m events) id outcome j)
