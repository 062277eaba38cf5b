-- What an event does: to each attempt, takeover and entry, to the messages, the key calls under way, and what is learned.
use Rattle.std.specs.Prelude.{◌≡◌, ◌⊎◌, ◌<◌, ◌≤◌, ℕ, true, false, List, Option, Some, None, is_some, option_map, slice_get, ◌∷◌, [], length, nat_lt, ◌+◌}
use Rattle.mk_lists.specs.Among.{Among}
use Rattle.mk_txn.specs.declared.TxnId.{TxnId}
use Rattle.mk_txn.specs.declared.Stamp.{Stamp}
use Rattle.mk_txn.specs.declared.WriteItem.{WriteItem}
use Rattle.mk_txn.specs.declared.Vote.{Vote}
use Rattle.mk_txn.specs.declared.Outcome.{Outcome}
use Rattle.mk_txn.specs.Stamps.{next_stamp_of}
use Rattle.mk_txn.specs.Transactions.{Transaction}
use Rattle.mk_words.specs.declared.Answer.{Answer}
use Rattle.mk_words.specs.declared.Entry.{Entry}
use Rattle.mk_words.specs.Entries.{entry_of}
use Rattle.mk_words.specs.declared.Told.{Told}
use Rattle.mk_words.specs.declared.Moved.{Moved}
use Rattle.mk_words.specs.declared.Msg.{Msg}
use Rattle.mk_words.specs.declared.Body.TheVariants.{Validate as ValidateBody, Voted, Accept, Accepted as AcceptedBody, Decide, Ask, Told as ToldBody, Moved as MovedBody}
use Rattle.mk_quorum.specs.Slots.{passes}
use Rattle.mk_txn.specs.Outcomes.{is_ok_vote}
use Rattle.mk_words.specs.Checks.{KeyAct, finish_acts}
use Rattle.mk_words.specs.Validations.{ValidationState, validation_of, next_act, after_answer, vote_of}
use Rattle.mk_words.specs.KeptOutcomes.{known_of}
use Rattle.mk_quorum.specs.Sizes.{members}
use Rattle.mk_trim.specs.declared.ReplicaView.{ReplicaView}
use Rattle.mk_words.specs.declared.Ruling.TheVariants.{Fast, Propose, Learned}
use Rattle.mk_words.specs.Rulings.{ruling, new_coord}
use Rattle.mk_words.specs.declared.Pick.TheVariants.{Known, Learned as PickLearned, Propose as PickPropose}
use Rattle.mk_words.specs.Picks.{pick, new_takeover}
use Rattle.mk_model.specs.ColumnState.{ColumnState, AttemptState, TakeoverOf, ClientState, Work, Learning, attempt_of, takeover_of, client_of, entries_at}
use Rattle.mk_model.specs.ColumnState.Work.{Idle, Fetching, Validating, Finishing}
use Rattle.mk_model.specs.ColumnState.Way.{ByVotes, ByAccepts, ByPick, ByMoved, ByTelling, ByFinishing}
use Rattle.mk_model.specs.Replicas.{serves, is_serving, told_of}
use Rattle.mk_model.specs.Answers.{attempt_answered, takeover_answered, moved_outcome}
use Rattle.mk_model.specs.Learnings.{learning}
use Rattle.mk_model.specs.Steps.{with_txn, with_read, proposing, taught as having_learned, closing, takeover_proposing}
use Rattle.mk_model.specs.Conditions.{writes_fit, may_read}
use Rattle.mk_model.specs.Logs.{not_reading}
use Rattle.mk_column_laws.specs.Moments.{Moment, PastEntry}
use Rattle.mk_model.specs.Sending.{Sent, Proposed}

-- ---- attempts

-- what an attempt becomes
pub data AttemptChange (m : Moment) (next : ColumnState) (id : TxnId) (a b : AttemptState) : Type 0 where
  EndsReading : b ≡ not_reading a → AttemptChange m next id a b
  Reads : (replica key : ℕ) (answer : Answer) → m.column.work ≡ Fetching id replica key → b ≡ with_read key answer a → AttemptChange m next id a b
  Stamps : (client : ClientState) (clock : ℕ) (stamp : Stamp) (writes : List WriteItem) → a.reading ≡ true → writes_fit m.round.keys writes ≡ true →
      nat_lt 0 (length a.reads + length writes) ≡ true →
      client_of m.column a.id.client ≡ Some client → next_stamp_of client.number client.last_time clock a.reads ≡ Some stamp →
      b ≡ with_txn stamp writes a → AttemptChange m next id a b
  RulesFast : (outcome : Outcome) → a.coord.learned ≡ None → ruling m.round.faults a.coord ≡ Fast outcome → b ≡ having_learned outcome a →
      Among (learning id ByVotes outcome) next.learned → AttemptChange m next id a b
  RulesLearned : (outcome : Outcome) → a.coord.learned ≡ None → ruling m.round.faults a.coord ≡ Learned outcome → b ≡ having_learned outcome a → AttemptChange m next id a b
  Proposes : (outcome : Outcome) → a.coord.learned ≡ None → ruling m.round.faults a.coord ≡ Propose outcome → b ≡ proposing outcome a →
      Proposed next.link id 0 outcome → AttemptChange m next id a b
  Hears : (msg : Msg) → Among msg m.column.link → msg.id ≡ id → msg.view ≡ 0 → a.coord.learned ≡ None →
      b ≡ attempt_answered msg.replica msg.body a → AttemptChange m next id a b
  Stops : b ≡ record a { stopped = true } → AttemptChange m next id a b

-- an attempt stays, is begun, or changes
pub data AttemptMove (m : Moment) (next : ColumnState) (id : TxnId) (old new : Option AttemptState) : Type 0 where
  AttemptStays : new ≡ old → AttemptMove m next id old new
  AttemptBegins : (a : AttemptState) → old ≡ None → new ≡ Some a → a.id ≡ id → a.coord ≡ new_coord m.round.faults → a.txn ≡ None → a.reads ≡ [] →
      ((a.unread ≡ true) × (a.reading ≡ false)) ⊎ (serves a.epoch (slice_get m.round.views a.replica) ≡ true) → AttemptMove m next id old new
  AttemptChanges : (a b : AttemptState) → old ≡ Some a → new ≡ Some b → AttemptChange m next id a b → AttemptMove m next id old new

-- ---- takeovers

-- what a takeover becomes
pub data TakeoverChange (m : Moment) (next : ColumnState) (id : TxnId) (view : ℕ) (a b : TakeoverOf) : Type 0 where
  Picks : (outcome : Outcome) → pick m.round.faults a.state ≡ PickPropose outcome → b ≡ takeover_proposing outcome a →
      Proposed next.link id view outcome → TakeoverChange m next id view a b
  Closes : b ≡ closing a → TakeoverChange m next id view a b
  TakeoverHears : (msg : Msg) → Among msg m.column.link → msg.id ≡ id → msg.view ≡ view →
      b ≡ takeover_answered msg.replica msg.body a → TakeoverChange m next id view a b

-- a takeover stays, is begun, or changes
pub data TakeoverMove (m : Moment) (next : ColumnState) (id : TxnId) (view : ℕ) (old new : Option TakeoverOf) : Type 0 where
  TakeoverStays : new ≡ old → TakeoverMove m next id view old new
  TakeoverBegins : (a : AttemptState) → old ≡ None → attempt_of m.column id ≡ Some a → is_some a.txn ≡ true → 1 ≤ view →
      new ≡ Some (record { id = id; closed = false; state = new_takeover m.round.faults view }) → TakeoverMove m next id view old new
  TakeoverChanges : (a b : TakeoverOf) → old ≡ Some a → new ≡ Some b → TakeoverChange m next id view a b → TakeoverMove m next id view old new

-- ---- entries

-- an entry as it is opened
abbrev pub past_opened : Transaction → PastEntry
past_opened txn = record { txn = txn; view = 0; vote = None; accepted = None; last = None }

-- the entry that is there, or one as it is opened
abbrev pub past_or_opened : Transaction → Option PastEntry → PastEntry
past_or_opened txn (Some entry) = entry
past_or_opened txn None = past_opened txn

-- without the rounds
abbrev pub undated : {X : Type 0} → Option (X × ℕ) → Option X
undated (Some x) = Some x.0
undated None = None

-- a remembered entry as it stood in the record
abbrev pub entry_of_past : PastEntry → Entry
entry_of_past past = record { txn = past.txn; view = past.view; vote = undated past.vote; accepted = past.accepted; last = undated past.last }

-- the replica serves the epoch of a stamped attempt
pub record ServesAttempt (m : Moment) (r : ℕ) (id : TxnId) (txn : Transaction) : Type 0 where
  pub attempt : AttemptState
  pub found : attempt_of m.column id ≡ Some attempt
  pub stamped : attempt.txn ≡ Some txn
  pub served : serves attempt.epoch (slice_get m.round.views r) ≡ true

-- an entry stays, or is changed at a replica that serves its attempt's epoch
pub data EntryMove (m next : Moment) (r : ℕ) (id : TxnId) (old new : Option PastEntry) : Type 0 where
  EntryStays : new ≡ old → EntryMove m next r id old new
  EntryOpens : (txn : Transaction) (epoch : ℕ) → ServesAttempt m r id txn → old ≡ None → new ≡ Some (past_opened txn) →
      m.column.work ≡ Idle → next.column.work ≡ Validating txn r epoch (validation_of txn) → EntryMove m next r id old new
  EntryVotes : (txn : Transaction) (epoch : ℕ) (state : ValidationState) → ServesAttempt m r id txn → old ≡ Some (past_opened txn) →
      m.column.work ≡ Validating txn r epoch state → txn.id ≡ id → next.column.work ≡ Idle → (vote : Vote) (answer : Answer) →
      vote ≡ vote_of (after_answer state answer) → next_act (after_answer state answer) ≡ None →
      (let opened = past_opened txn in new ≡ Some (record opened { vote = Some (vote, m.past.now) })) → EntryMove m next r id old new
  EntryPromises : (txn : Transaction) (view : ℕ) → ServesAttempt m r id txn → Sent m.column.link id r view Ask →
      (past_or_opened txn old).last ≡ None → (past_or_opened txn old).view ≤ view →
      (let there = past_or_opened txn old in new ≡ Some (record there { view = view })) →
      m.column.work ≡ Idle → next.column.work ≡ Idle → EntryMove m next r id old new
  EntryAccepts : (txn : Transaction) (view : ℕ) (outcome : Outcome) → ServesAttempt m r id txn → Sent m.column.link id r view (Accept outcome) →
      (past_or_opened txn old).last ≡ None → (past_or_opened txn old).view ≤ view →
      (let there = past_or_opened txn old in new ≡ Some (record there { view = view; accepted = Some (record { view = view; outcome = outcome }) })) →
      m.column.work ≡ Idle → next.column.work ≡ Idle → EntryMove m next r id old new
  EntryFinishes : (txn : Transaction) (view : ℕ) (outcome : Outcome) → ServesAttempt m r id txn → Sent m.column.link id r view (Decide outcome) →
      (past_or_opened txn old).last ≡ None →
      (let there = past_or_opened txn old in new ≡ Some (record there { last = Some (outcome, m.past.now) })) →
      m.column.work ≡ Idle → EntryMove m next r id old new

-- ---- messages

-- a stamped attempt of this epoch
pub record IsStampedIn (m : Moment) (id : TxnId) (epoch : ℕ) : Type 0 where
  pub attempt : AttemptState
  pub found : attempt_of m.column id ≡ Some attempt
  pub stamped : is_some attempt.txn ≡ true
  pub same_epoch : attempt.epoch ≡ epoch

-- what an own coordinator or a takeover has proposed in this view
abbrev pub HasProposed : Moment → TxnId → ℕ → Outcome → Type 0
HasProposed m id view outcome =
    ((view ≡ 0) × ((a : AttemptState) × (attempt_of m.column id ≡ Some a) × (a.coord.proposed ≡ Some outcome)))
    ⊎ ((1 ≤ view) × ((t : TakeoverOf) × (takeover_of m.column id view ≡ Some t) × (t.state.proposed ≡ Some outcome)))

-- why a message is sent
pub data Newborn (m next : Moment) (msg : Msg) : Type 0 where
  ValidateSent : (mark : ℕ) → msg.body ≡ ValidateBody mark → Newborn m next msg
  AskSent : (t : TakeoverOf) → msg.body ≡ Ask → 1 ≤ msg.view → takeover_of next.column msg.id msg.view ≡ Some t → Newborn m next msg
  ProposalSent : (outcome : Outcome) → msg.body ≡ Accept outcome → HasProposed next msg.id msg.view outcome → Newborn m next msg
  FastSent : (outcome : Outcome) (a : AttemptState) → msg.body ≡ Decide outcome → attempt_of m.column msg.id ≡ Some a → a.coord.learned ≡ None →
      ruling m.round.faults a.coord ≡ Fast outcome → Among (learning msg.id ByVotes outcome) next.column.learned → Newborn m next msg
  LearnedSent : (outcome : Outcome) (a : AttemptState) → msg.body ≡ Decide outcome → attempt_of m.column msg.id ≡ Some a → a.coord.learned ≡ None →
      ruling m.round.faults a.coord ≡ Learned outcome → Newborn m next msg
  KnownSent : (outcome : Outcome) (t : TakeoverOf) → msg.body ≡ Decide outcome → takeover_of m.column msg.id msg.view ≡ Some t →
      pick m.round.faults t.state ≡ Known outcome → Newborn m next msg
  PickSent : (outcome : Outcome) (t : TakeoverOf) → msg.body ≡ Decide outcome → takeover_of m.column msg.id msg.view ≡ Some t →
      pick m.round.faults t.state ≡ PickLearned outcome → Newborn m next msg
  VoteSent : (entry : PastEntry) (vote : Vote) (round : ℕ) → msg.body ≡ Voted vote → next.past.entries msg.replica msg.id ≡ Some entry →
      entry.vote ≡ Some (vote, round) → Newborn m next msg
  AcceptedSent : (entry : PastEntry) (outcome : Outcome) → msg.body ≡ AcceptedBody → next.past.entries msg.replica msg.id ≡ Some entry →
      entry.view ≡ msg.view → entry.accepted ≡ Some (record { view = msg.view; outcome = outcome }) →
      ((old : PastEntry) → m.past.entries msg.replica msg.id ≡ Some old → old.view ≤ msg.view) →
      Sent m.column.link msg.id msg.replica msg.view (Accept outcome) → Newborn m next msg
  FinalToldSent : (entry : PastEntry) (outcome : Outcome) (round : ℕ) → msg.body ≡ ToldBody (told_of (entry_of_past entry)) →
      next.past.entries msg.replica msg.id ≡ Some entry → entry.last ≡ Some (outcome, round) → Newborn m next msg
  PromiseSent : (txn : Transaction) → Sent m.column.link msg.id msg.replica msg.view Ask →
      msg.body ≡ ToldBody (told_of (entry_of_past (past_or_opened txn (m.past.entries msg.replica msg.id)))) →
      (past_or_opened txn (m.past.entries msg.replica msg.id)).last ≡ None →
      (past_or_opened txn (m.past.entries msg.replica msg.id)).view ≤ msg.view →
      (let there = past_or_opened txn (m.past.entries msg.replica msg.id) in next.past.entries msg.replica msg.id ≡ Some (record there { view = msg.view })) →
      next.column.work ≡ Idle → Newborn m next msg
  MovedSent : (view : ReplicaView) → msg.body ≡ MovedBody (record { to = view.epoch; fate = known_of view.fates msg.id }) →
      slice_get m.round.views msg.replica ≡ Some view → is_serving view.phase ≡ true → msg.epoch < view.epoch → Newborn m next msg

-- ---- what is learned

-- why an outcome is learned
pub data NewLearning (m next : Moment) (l : Learning) : Type 0 where
  LearnsFast : (a : AttemptState) → l.way ≡ ByVotes → attempt_of m.column l.id ≡ Some a → a.coord.learned ≡ None → ruling m.round.faults a.coord ≡ Fast l.outcome →
      attempt_of next.column l.id ≡ Some (having_learned l.outcome a) → NewLearning m next l
  LearnsByAccepts : (a : AttemptState) → l.way ≡ ByAccepts → attempt_of m.column l.id ≡ Some a → a.coord.learned ≡ None → ruling m.round.faults a.coord ≡ Learned l.outcome →
      NewLearning m next l
  LearnsKnown : (view : ℕ) (t : TakeoverOf) → l.way ≡ ByTelling → takeover_of m.column l.id view ≡ Some t → pick m.round.faults t.state ≡ Known l.outcome → NewLearning m next l
  LearnsByPick : (view : ℕ) (t : TakeoverOf) → l.way ≡ ByPick view → takeover_of m.column l.id view ≡ Some t → pick m.round.faults t.state ≡ PickLearned l.outcome → NewLearning m next l
  LearnsTold : (r view : ℕ) (told : Told) → l.way ≡ ByTelling → Sent m.column.link l.id r view (ToldBody told) → told.last ≡ Some l.outcome → NewLearning m next l
  LearnsMoved : (r view : ℕ) (moved : Moved) → l.way ≡ ByMoved moved.to → Sent m.column.link l.id r view (MovedBody moved) → moved_outcome moved ≡ Some l.outcome → NewLearning m next l
  LearnsFinishing : (r view : ℕ) → l.way ≡ ByFinishing → Sent m.column.link l.id r view (Decide l.outcome) → NewLearning m next l

-- ---- key calls

-- the key calls under way are none, or begin, or go on
pub data WorkMove (m next : Moment) (old new : Work) : Type 0 where
  WorkRests : new ≡ Idle → WorkMove m next old new
  WorkFetches : (id : TxnId) (replica key : ℕ) (a : AttemptState) → attempt_of m.column id ≡ Some a → attempt_of next.column id ≡ Some a → a.reading ≡ true → nat_lt key m.round.keys ≡ true →
      may_read key a ≡ true → a.replica ≡ replica → old ≡ Idle → new ≡ Fetching id replica key → WorkMove m next old new
  WorkValidates : (txn : Transaction) (r epoch : ℕ) (served : ServesAttempt m r txn.id txn) → served.attempt.epoch ≡ epoch → next.round ≡ m.round → r < members m.round.faults → old ≡ Idle →
      m.past.entries r txn.id ≡ None → next.past.entries r txn.id ≡ Some (past_opened txn) →
      new ≡ Validating txn r epoch (validation_of txn) → WorkMove m next old new
  WorkGoesOn : (txn : Transaction) (r epoch : ℕ) (state : ValidationState) (answer : Answer) → next.round ≡ m.round → old ≡ Validating txn r epoch state →
      new ≡ Validating txn r epoch (after_answer state answer) → ((r : ℕ) (id : TxnId) → next.past.entries r id ≡ m.past.entries r id) → WorkMove m next old new
  WorkEnds : (txn : Transaction) (r : ℕ) (id : TxnId) (entry : PastEntry) (outcome : Outcome) (left : List KeyAct) (served : ServesAttempt m r id txn) → next.round ≡ m.round → next.past.now ≡ m.past.now → old ≡ Idle →
      next.past.entries r id ≡ Some entry → entry.last ≡ Some (outcome, m.past.now) → left ≡ finish_acts entry.txn outcome (passes is_ok_vote (undated entry.vote)) →
      new ≡ Finishing r left → WorkMove m next old new
  WorkFinishes : (r : ℕ) (act : KeyAct) (left : List KeyAct) → next.round ≡ m.round → old ≡ Finishing r (act ∷ left) → new ≡ Finishing r left →
      ((q : ℕ) (id : TxnId) → next.past.entries q id ≡ m.past.entries q id) → WorkMove m next old new

-- ---- all together

-- the record of a replica has what is remembered, or the replica was reset since it served the attempt's epoch
abbrev pub IsMatched : Moment → ℕ → TxnId → Type 0
IsMatched m r id =
    (entry_of id (entries_at m.column r) ≡ option_map entry_of_past (m.past.entries r id))
    ⊎ ((entry_of id (entries_at m.column r) ≡ None) × ((a : AttemptState) × (attempt_of m.column id ≡ Some a) × (m.past.has_left r a.epoch ≡ true)))

-- what an event does to a moment
pub record Moves (m next : Moment) : Type 0 where
  pub same_faults : next.round.faults ≡ m.round.faults
  pub attempts : (id : TxnId) → AttemptMove m next.column id (attempt_of m.column id) (attempt_of next.column id)
  pub takeovers : (id : TxnId) (view : ℕ) → TakeoverMove m next.column id view (takeover_of m.column id view) (takeover_of next.column id view)
  pub entries : (r : ℕ) (id : TxnId) → EntryMove m next r id (m.past.entries r id) (next.past.entries r id)
  pub stays_sent : (msg : Msg) → Among msg m.column.link → Among msg next.column.link
  pub messages : (msg : Msg) → Among msg next.column.link → Among msg m.column.link ⊎ (IsStampedIn next msg.id msg.epoch × Newborn m next msg)
  pub stays_learned : (l : Learning) → Among l m.column.learned → Among l next.column.learned
  pub learnings : (l : Learning) → Among l next.column.learned → Among l m.column.learned ⊎ NewLearning m next l
  pub work : WorkMove m next m.column.work next.column.work
  pub rises : m.past.now ≤ next.past.now
  pub begun_stays : (id : TxnId) (a : AttemptState) → attempt_of m.column id ≡ Some a → next.past.begun_in id ≡ m.past.begun_in id
  pub begun_now : (id : TxnId) (b : AttemptState) → attempt_of m.column id ≡ None → attempt_of next.column id ≡ Some b → next.past.begun_in id ≡ next.past.now
  pub stays_ever : (r epoch : ℕ) → m.past.ever_served r epoch ≡ true → next.past.ever_served r epoch ≡ true
