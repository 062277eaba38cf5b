-- What holds of a column at every moment, each fact in a form that no later event undoes.
use Rattle.std.specs.Prelude.{◌≡◌, ◌⊎◌, ◌<◌, ◌≤◌, ℕ, Bool, true, false, ◌&&◌, nat_le, List, Option, Some, None, is_some, length, slice_get}
use Rattle.mk_lists.specs.Among.{Among}
use Rattle.mk_txn.specs.declared.TxnId.{TxnId}
use Rattle.mk_txn.specs.declared.Vote.{Vote}
use Rattle.mk_txn.specs.declared.Accepted.{Accepted}
use Rattle.mk_txn.specs.declared.Outcome.{Outcome}
use Rattle.mk_txn.specs.Outcomes.{is_ok_vote, is_commit}
use Rattle.mk_txn.specs.Transactions.{Transaction}
use Rattle.mk_words.specs.declared.Told.{Told}
use Rattle.mk_words.specs.declared.Msg.{Msg}
use Rattle.mk_words.specs.declared.Body.{Body}
use Rattle.mk_words.specs.declared.Body.TheVariants.{Validate as ValidateBody, Voted, Accept, Accepted as AcceptedBody, Decide, Ask, Told as ToldBody, Moved as MovedBody}
use Rattle.mk_words.specs.Validations.{ValidationState}
use Rattle.mk_words.specs.KeptOutcomes.{known_of}
use Rattle.mk_quorum.specs.Counts.{count_below}
use Rattle.mk_quorum.specs.Sizes.{members, majority_of}
use Rattle.mk_quorum.specs.Slots.{slot}
use Rattle.mk_words.specs.declared.Ruling.TheVariants.{Fast, Propose}
use Rattle.mk_words.specs.Rulings.{by_votes}
use Rattle.mk_words.specs.declared.Pick.TheVariants.{Propose as PickPropose}
use Rattle.mk_words.specs.Picks.{by_promises}
use Rattle.mk_trim.specs.declared.ReplicaView.{ReplicaView}
use Rattle.mk_model.specs.ColumnState.{AttemptState, TakeoverOf, Work, Learning, attempt_of, takeover_of}
use Rattle.mk_model.specs.ColumnState.Work.{Validating}
use Rattle.mk_model.specs.ColumnState.Way.{ByVotes}
use Rattle.mk_model.specs.Replicas.{serves, is_serving}
use Rattle.mk_model.specs.Answers.{moved_outcome, outcome_after}
use Rattle.mk_model.specs.Learnings.{learning}
use Rattle.mk_model.specs.Deciding.{IsDecided}
use Rattle.mk_column_laws.specs.Moments.{Moment, PastEntry, Taught, past_vote}
use Rattle.mk_model.specs.Sending.{Sent, Proposed}
use Rattle.mk_column_laws.specs.Messages.{VotesIn, RepliesIn, taking_over}
use Rattle.mk_column_laws.specs.Moves.{HasProposed, IsStampedIn, ServesAttempt, IsMatched, past_opened}

-- ---- what outcomes rest on

-- an Ok vote that was set in this round or before
abbrev pub is_ok_by : ℕ → Option (Vote × ℕ) → Bool
is_ok_by round (Some vote) = is_ok_vote vote.0 && nat_le vote.1 round
is_ok_by round None = false

-- a majority voted Ok, in this round or before
abbrev pub IsSupported : Moment → TxnId → ℕ → Type 0
IsSupported m id round =
    majority_of m.round.faults ≤ count_below (members m.round.faults) (λ r. is_ok_by round (past_vote (m.past.entries r id)))

-- the outcome was taught by a later epoch before this round
abbrev pub IsTaught : Taught → Moment → TxnId → Outcome → ℕ → Type 0
IsTaught taught m id outcome round = (a : AttemptState) × (attempt_of m.column id ≡ Some a) × (taught id a.epoch outcome round ≡ true)

-- the outcome is decided, a commit with its Ok votes in this round or before; or it was taught before this round
abbrev pub IsBacked : Taught → Moment → TxnId → Outcome → ℕ → Type 0
IsBacked taught m id outcome round =
    (IsDecided m.round.faults m.column id outcome × (is_commit outcome ≡ true → IsSupported m id round)) ⊎ IsTaught taught m id outcome round

-- ---- replicas

-- an entry without a vote, which is not under validation: it never votes
pub record IsSealed (m : Moment) (r : ℕ) (id : TxnId) : Type 0 where
  pub entry : PastEntry
  pub found : m.past.entries r id ≡ Some entry
  pub no_vote : entry.vote ≡ None
  pub at_rest : (txn : Transaction) (epoch : ℕ) (state : ValidationState) → m.column.work ≡ Validating txn r epoch state → txn.id ≡ id → ⊥

-- what holds of an entry
pub record EntryFacts (taught : Taught) (m : Moment) (r : ℕ) (id : TxnId) (entry : PastEntry) : Type 0 where
  pub attempt : AttemptState
  pub found : attempt_of m.column id ≡ Some attempt
  pub stamped : attempt.txn ≡ Some entry.txn
  pub served : m.past.ever_served r attempt.epoch ≡ true
  pub accepted : (a : Accepted) → entry.accepted ≡ Some a → (a.view ≤ entry.view) × Proposed m.column.link id a.view a.outcome
  pub voted : (vote : Vote) (round : ℕ) → entry.vote ≡ Some (vote, round) → round ≤ m.past.now
  pub last : (outcome : Outcome) (round : ℕ) → entry.last ≡ Some (outcome, round) →
      (round ≤ m.past.now) × IsBacked taught m id outcome round × ((q view : ℕ) × Sent m.column.link id q view (Decide outcome))

-- a reply without a final outcome promises its view
pub record IsPromise (m : Moment) (r : ℕ) (id : TxnId) (view : ℕ) (told : Told) (entry : PastEntry) : Type 0 where
  pub from_one : 1 ≤ view
  pub promised : view ≤ entry.view
  pub voted : (vote : Vote) → told.vote ≡ Some vote → (round : ℕ) × (entry.vote ≡ Some (vote, round))
  pub sealed : told.vote ≡ None → IsSealed m r id
  pub not_above : (a : Accepted) → told.accepted ≡ Some a → a.view ≤ view
  pub earlier : (u : ℕ) → u < view → Sent m.column.link id r u AcceptedBody → (a : Accepted) × (told.accepted ≡ Some a) × (u ≤ a.view)

-- what a reply says
pub record ToldFacts (m : Moment) (r : ℕ) (id : TxnId) (view : ℕ) (told : Told) : Type 0 where
  pub entry : PastEntry
  pub found : m.past.entries r id ≡ Some entry
  pub accepted : (a : Accepted) → told.accepted ≡ Some a → Proposed m.column.link id a.view a.outcome
  pub final : (outcome : Outcome) → told.last ≡ Some outcome → (round : ℕ) × (entry.last ≡ Some (outcome, round))
  pub promise : told.last ≡ None → IsPromise m r id view told entry

-- what an accept says
pub record AcceptFacts (m : Moment) (r : ℕ) (id : TxnId) (view : ℕ) : Type 0 where
  pub entry : PastEntry
  pub found : m.past.entries r id ≡ Some entry
  pub not_below : view ≤ entry.view
  pub accepted : Accepted
  pub has_accepted : entry.accepted ≡ Some accepted
  pub from_view : view ≤ accepted.view
  pub proposal : (outcome : Outcome) × Proposed m.column.link id view outcome

-- what each message says for ever
abbrev pub Says : Taught → Moment → Msg → Body → Type 0
Says taught m msg (ValidateBody mark) = Unit {0}
Says taught m msg Ask = (1 ≤ msg.view) × ((t : TakeoverOf) × (takeover_of m.column msg.id msg.view ≡ Some t))
Says taught m msg (Accept outcome) = HasProposed m msg.id msg.view outcome
Says taught m msg (Decide outcome) = IsBacked taught m msg.id outcome m.past.now
Says taught m msg (Voted vote) =
    (entry : PastEntry) × (m.past.entries msg.replica msg.id ≡ Some entry) × ((round : ℕ) × (entry.vote ≡ Some (vote, round)))
Says taught m msg AcceptedBody = AcceptFacts m msg.replica msg.id msg.view
Says taught m msg (ToldBody told) = ToldFacts m msg.replica msg.id msg.view told
Says taught m msg (MovedBody moved) =
    (msg.epoch < moved.to) × ((outcome : Outcome) → moved_outcome moved ≡ Some outcome → taught msg.id msg.epoch outcome m.past.now ≡ true)

-- ---- coordinators

-- what holds of an attempt and its own coordinator
pub record AttemptFacts (taught : Taught) (m : Moment) (id : TxnId) (a : AttemptState) : Type 0 where
  pub own_id : a.id ≡ id
  pub unstamped : a.reading ≡ true → a.txn ≡ None
  pub txn_id : (txn : Transaction) → a.txn ≡ Some txn → txn.id ≡ id
  pub votes : VotesIn m.column.link id a.coord.votes
  pub accepts : (r : ℕ) (b : Bool) → slot a.coord.accepts r ≡ Some b → Sent m.column.link id r 0 AcceptedBody
  pub proposed : (outcome : Outcome) → a.coord.proposed ≡ Some outcome →
      Proposed m.column.link id 0 outcome × ((votes : List (Option Vote)) × VotesIn m.column.link id votes × (by_votes m.round.faults votes ≡ Propose outcome))
  pub learned : (outcome : Outcome) → a.coord.learned ≡ Some outcome → IsBacked taught m id outcome m.past.now

-- what holds of a takeover
pub record TakeoverFacts (taught : Taught) (m : Moment) (id : TxnId) (view : ℕ) (t : TakeoverOf) : Type 0 where
  pub own_view : t.state.view ≡ view
  pub from_one : 1 ≤ view
  pub begun : (a : AttemptState) × (attempt_of m.column id ≡ Some a) × (is_some a.txn ≡ true)
  pub told : (r : ℕ) (told : Told) → slot t.state.told r ≡ Some told →
      Sent m.column.link id r view (ToldBody told) × ((told.last ≡ None) ⊎ (is_some t.state.learned ≡ true))
  pub accepts : (r : ℕ) (b : Bool) → slot t.state.accepts r ≡ Some b → Sent m.column.link id r view AcceptedBody
  pub proposed : (outcome : Outcome) → t.state.proposed ≡ Some outcome →
      Proposed m.column.link id view outcome
      × ((replies : List (Option Told)) × RepliesIn m.column.link id view replies × (by_promises m.round.faults (taking_over view replies) ≡ PickPropose outcome))
  pub learned : (outcome : Outcome) → t.state.learned ≡ Some outcome → IsBacked taught m id outcome m.past.now

-- a fast decision: a fast quorum voted alike, and nothing is ever proposed in view 0
pub record FastFacts (m : Moment) (id : TxnId) (outcome : Outcome) : Type 0 where
  pub votes : List (Option Vote)
  pub voted : VotesIn m.column.link id votes
  pub ruled : by_votes m.round.faults votes ≡ Fast outcome
  pub attempt : AttemptState
  pub found : attempt_of m.column id ≡ Some attempt
  pub unproposed : attempt.coord.proposed ≡ None
  pub has_learned : is_some attempt.coord.learned ≡ true

-- ---- the whole column

-- a validation under way is the first thing that is known of its attempt at the replica
abbrev pub WorkFacts : Moment → Work → Type 0
WorkFacts m (Validating txn r epoch state) =
    (m.past.entries r txn.id ≡ Some (past_opened txn)) × ((s : ServesAttempt m r txn.id txn) × (s.attempt.epoch ≡ epoch)) × (r < members m.round.faults)
WorkFacts m _ = Unit {0}

-- what holds of the views of a round
pub record RoundFacts (taught : Taught) (m : Moment) : Type 0 where
  pub ever : (r epoch : ℕ) → serves epoch (slice_get m.round.views r) ≡ true → m.past.ever_served r epoch ≡ true
  pub tenure : (r epoch : ℕ) → serves epoch (slice_get m.round.views r) ≡ true → m.past.has_left r epoch ≡ false
  pub teaches : (r : ℕ) (view : ReplicaView) (id : TxnId) (epoch : ℕ) (outcome : Outcome) →
      slice_get m.round.views r ≡ Some view → is_serving view.phase ≡ true → epoch < view.epoch →
      outcome_after view.epoch (known_of view.fates id) ≡ Some outcome → taught id epoch outcome m.past.now ≡ true

-- what holds of a column at every moment
pub record Facts (taught : Taught) (m : Moment) : Type 0 where
  pub attempts : (id : TxnId) (a : AttemptState) → attempt_of m.column id ≡ Some a → AttemptFacts taught m id a
  pub takeovers : (id : TxnId) (view : ℕ) (t : TakeoverOf) → takeover_of m.column id view ≡ Some t → TakeoverFacts taught m id view t
  pub entries : (r : ℕ) (id : TxnId) (entry : PastEntry) → m.past.entries r id ≡ Some entry → EntryFacts taught m r id entry
  pub messages : (msg : Msg) → Among msg m.column.link → IsStampedIn m msg.id msg.epoch × Says taught m msg msg.body
  pub fast : (id : TxnId) (outcome : Outcome) → Among (learning id ByVotes outcome) m.column.learned → FastFacts m id outcome
  pub learnings : (l : Learning) → Among l m.column.learned → IsBacked taught m l.id l.outcome m.past.now
  pub work : WorkFacts m m.column.work
  pub matched : (r : ℕ) (id : TxnId) → IsMatched m r id
  pub round : RoundFacts taught m
  pub sized : length m.column.records ≡ members m.round.faults
  pub ranged : (msg : Msg) → Among msg m.column.link → msg.replica < members m.round.faults

-- ---- what only grows

-- an attempt once it is there
pub record AttemptGrows (a b : AttemptState) : Type 0 where
  pub same_id : b.id ≡ a.id
  pub same_epoch : b.epoch ≡ a.epoch
  pub same_replica : b.replica ≡ a.replica
  pub same_unread : b.unread ≡ a.unread
  pub txn : (txn : Transaction) → a.txn ≡ Some txn → b.txn ≡ Some txn
  pub stopped : a.stopped ≡ true → b.stopped ≡ true
  pub proposed : (outcome : Outcome) → a.coord.proposed ≡ Some outcome → b.coord.proposed ≡ Some outcome
  pub learned : (outcome : Outcome) → a.coord.learned ≡ Some outcome → b.coord.learned ≡ Some outcome
  pub no_more : is_some a.coord.learned ≡ true → b.coord.proposed ≡ a.coord.proposed
  pub votes : (r : ℕ) (vote : Vote) → slot a.coord.votes r ≡ Some vote → slot b.coord.votes r ≡ Some vote

-- a takeover once it is there
pub record TakeoverGrows (a b : TakeoverOf) : Type 0 where
  pub closed : a.closed ≡ true → b.closed ≡ true
  pub proposed : (outcome : Outcome) → a.state.proposed ≡ Some outcome → b.state.proposed ≡ Some outcome
  pub learned : (outcome : Outcome) → a.state.learned ≡ Some outcome → b.state.learned ≡ Some outcome

-- an entry once it is there: a vote stays, views do not fall, and a final entry changes no more
pub record EntryGrows (a b : PastEntry) : Type 0 where
  pub same_txn : b.txn ≡ a.txn
  pub view : a.view ≤ b.view
  pub vote : (vote : Vote × ℕ) → a.vote ≡ Some vote → b.vote ≡ Some vote
  pub accepted : (x : Accepted) → a.accepted ≡ Some x → (y : Accepted) × (b.accepted ≡ Some y) × (x.view ≤ y.view)
  pub final : (last : Outcome × ℕ) → a.last ≡ Some last → b ≡ a

-- from one moment to a later one
pub record Grows (m next : Moment) : Type 0 where
  pub same_faults : next.round.faults ≡ m.round.faults
  pub now : m.past.now ≤ next.past.now
  pub sent : (msg : Msg) → Among msg m.column.link → Among msg next.column.link
  pub learned : (l : Learning) → Among l m.column.learned → Among l next.column.learned
  pub ever : (r epoch : ℕ) → m.past.ever_served r epoch ≡ true → next.past.ever_served r epoch ≡ true
  pub attempts : (id : TxnId) (a : AttemptState) → attempt_of m.column id ≡ Some a → (b : AttemptState) × (attempt_of next.column id ≡ Some b) × AttemptGrows a b
  pub takeovers : (id : TxnId) (view : ℕ) (a : TakeoverOf) → takeover_of m.column id view ≡ Some a →
      (b : TakeoverOf) × (takeover_of next.column id view ≡ Some b) × TakeoverGrows a b
  pub entries : (r : ℕ) (id : TxnId) (a : PastEntry) → m.past.entries r id ≡ Some a → (b : PastEntry) × (next.past.entries r id ≡ Some b) × EntryGrows a b
  pub sealed : (r : ℕ) (id : TxnId) → IsSealed m r id → IsSealed next r id
  pub accepts : (r : ℕ) (id : TxnId) (u : ℕ) → Sent next.column.link id r u AcceptedBody →
      Sent m.column.link id r u AcceptedBody ⊎ ((entry : PastEntry) → m.past.entries r id ≡ Some entry → entry.view ≤ u)
