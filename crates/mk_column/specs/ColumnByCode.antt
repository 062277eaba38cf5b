-- What the code keeps of a column, and what contracts see of it.
use Rattle.std.specs.Prelude.{◌≡◌, ℕ, ◌+◌, ◌<◌, ◌≤◌, ◌^◌, Bool, true, false, ◌==◌, ◌||◌, ◌&&◌, List, [], ◌∷◌, length, map, find, slice_index_or, option_map, Option, None, Some, IsSome, IsSomeAnd}
use Rattle.std.specs.List.{list_any}
use Rattle.std.specs.Option.{option_or}
use Rattle.mk_lists.specs.Among.{Each}
use Rattle.mk_txn.specs.declared.TxnId.{TxnId}
use Rattle.mk_txn.specs.declared.Outcome.{Outcome}
use Rattle.mk_txn.specs.Transactions.{Transaction}
use Rattle.mk_words.specs.declared.Msg.{Msg}
use Rattle.mk_words.specs.declared.Body.{Body}
use Rattle.mk_words.specs.declared.Body.TheVariants.{Told as ToldBody, Moved as MovedBody}
use Rattle.mk_model.specs.Answers.{moved_outcome}
use Rattle.mk_quorum.specs.Sizes.{members}
use Rattle.mk_quorum.specs.Slots.{passes}
use Rattle.mk_trim.specs.SettledAttempts.{SettledAttempts, is_settled as is_kept_settled}
use Rattle.mk_words.specs.declared.Step.{Step}
use Rattle.mk_column.specs.declared.clients.Client.{Client}
use Rattle.mk_column.specs.declared.work.Work.{Work as KeptWork}
use Rattle.mk_column.specs.declared.work.Work.TheVariants.{Idle as KeptIdle, Fetching as KeptFetching, Validating as KeptValidating, Finishing as KeptFinishing}
use Rattle.mk_words.specs.Entries.{entry_of, may_vote}
use Rattle.mk_column.specs.declared.learned.Way.{Way as KeptWay}
use Rattle.mk_column.specs.declared.learned.Way.TheVariants.{Votes, Accepts, Pick, Moved, Telling, Finishing as KeptFinished}
use Rattle.mk_column.specs.declared.learned.Learned.{Learned}
use Rattle.mk_column.specs.declared.parts.Parts.{Parts}
use Rattle.mk_model.specs.ColumnState.{Setting, ColumnState, Learning, Way, new_column, is_settled}
use Rattle.mk_model.specs.ColumnState.Way.{ByVotes, ByAccepts, ByPick, ByMoved, ByTelling, ByFinishing}
use Rattle.mk_model.specs.Replicas.{Held}
use Rattle.mk_model.specs.ColumnState.Work.{Finishing}
use Rattle.mk_model.specs.Conditions.{is_validate_of, may_read, wanted}
use Rattle.mk_words.specs.Validations.{next_act, validation_of}
use Rattle.mk_model.specs.Learnings.{learning, is_decision_of}
use Rattle.mk_column.specs.HeldByCode.{work_of}
use Rattle.mk_column.specs.AttemptsByCode.{BegunView, begun_of, change_begun, on_state, states_of}
use Rattle.mk_model.specs.Steps.{taught}
use Rattle.mk_column.specs.TakeoversByCode.{BackupView, takeovers_of}
use Rattle.mk_column.specs.ClientsByCode.{client_states, kept_client}

-- a column, as contracts see it: its number, the round's setting, its state, and the steps since the log was taken
pub record ColumnView : Type 0 where
  pub number : ℕ
  pub setting : Setting
  pub state : ColumnState
  pub log : List Step

-- a column of this number at the start, with these clients
abbrev pub column_at_start : ℕ → Setting → List ℕ → ColumnView
column_at_start number setting clients = record { number = number; setting = setting; state = new_column setting.faults clients; log = [] }

-- how an outcome was learned
abbrev pub way_of : KeptWay → Way
way_of Votes = ByVotes
way_of Accepts = ByAccepts
way_of (Pick view) = ByPick view
way_of (Moved epoch) = ByMoved epoch
way_of Telling = ByTelling
way_of KeptFinished = ByFinishing

-- what an answer teaches, and how
abbrev pub lesson_in : Body → Option (Outcome × KeptWay)
lesson_in (ToldBody told) = option_map (λ outcome. (outcome, Telling)) told.last
lesson_in (MovedBody moved) = option_map (λ outcome. (outcome, Moved moved.to)) (moved_outcome moved)
lesson_in _ = None

-- one learning where something is taught
abbrev pub lesson_of : TxnId → Option (Outcome × KeptWay) → List Learning
lesson_of id (Some lesson) = learning id (way_of lesson.1) lesson.0 ∷ []
lesson_of id None = []

-- what was learned
abbrev pub learning_of_kept : Learned → Learning
learning_of_kept learned = record { id = learned.id; outcome = learned.outcome; way = way_of learned.way }

-- the attempts once the own coordinator of this one has learned the outcome
abbrev pub own_learned : TxnId → Outcome → List BegunView → List BegunView
own_learned id outcome all =
    change_begun id (λ begun. record begun { decided = option_or begun.decided (Some outcome) }) (change_begun id (on_state (taught outcome)) all)

-- what is kept where a replica finished, and else nothing
abbrev pub finish_kept : TxnId → Option Outcome → List Learned
finish_kept id (Some outcome) = record { id = id; outcome = outcome; way = KeptFinished } ∷ []
finish_kept id None = []

-- the parts of a column that change in its steps
pub record Kept : Type 0 where
  pub clients : List Client
  pub attempts : List BegunView
  pub takeovers : List BackupView
  pub replicas : List Held
  pub link : List Msg
  pub work : KeptWork
  pub learned : List Learned

-- what contracts see of the parts that the code keeps
abbrev pub kept_of : Parts → Kept
kept_of parts =
    record {
      clients = parts.clients;
      attempts = parts.attempts;
      takeovers = parts.takeovers;
      replicas = parts.replicas.items;
      link = parts.link.messages;
      work = parts.work;
      learned = parts.learned.items;
    }

-- the column of these parts
abbrev pub column_of : Kept → ColumnState
column_of kept =
    record {
      clients = client_states kept.clients;
      attempts = states_of kept.attempts;
      takeovers = takeovers_of kept.takeovers;
      records = map (λ held. held.entries) kept.replicas;
      marks = map (λ held. held.marks) kept.replicas;
      link = kept.link;
      work = work_of kept.work;
      learned = map learning_of_kept kept.learned;
    }

-- an attempt of this client is reading
abbrev pub has_reading : ℕ → List BegunView → Bool
has_reading client attempts = list_any (λ begun. begun.state.reading && begun.state.id.client == client) attempts

-- the first outcome that an own coordinator or a takeover of the attempt learned
abbrev pub first_decision : List Learning → TxnId → Option Outcome
first_decision learned id = option_map (λ l. l.outcome) (find (is_decision_of id) learned)

-- the replica's entry of this attempt may vote
abbrev pub MayVoteAt : ℕ → TxnId → List Held → Type 0
MayVoteAt r id replicas = IsSomeAnd (entry_of id (slice_index_or replicas r (record { entries = []; marks = [] })).entries) (λ entry. may_vote entry ≡ true)

-- the attempt may read the key
abbrev pub MayRead : ℕ → Option BegunView → Type 0
MayRead key begun = IsSomeAnd begun (λ b. may_read key b.state ≡ true)

-- what the key calls under way keep: the attempt that is read for may read the key, the entry that is validated may
-- vote, and an act of a validation or of an end is left
abbrev pub WorkFits : ℕ → List BegunView → List Held → KeptWork → Type 0
WorkFits n attempts replicas KeptIdle = Unit {0}
WorkFits n attempts replicas (KeptFetching id replica key) = MayRead key (begun_of id attempts)
WorkFits n attempts replicas (KeptValidating txn replica epoch state) = (replica < n) × MayVoteAt replica txn.id replicas × IsSome (next_act state)
WorkFits n attempts replicas (KeptFinishing replica left) = IsSome (wanted (Finishing replica left))

-- what each attempt keeps: its flags are what was sent and learned, and its transaction has its number and an act
pub record AttemptFits (f : ℕ) (link : List Msg) (learned : List Learning) (begun : BegunView) : Type 0 where
  pub faults : begun.faults ≡ f
  pub validated : begun.validated ≡ list_any (is_validate_of begun.state.id) link
  pub decided : begun.decided ≡ first_decision learned begun.state.id
  pub named : (txn : Transaction) → begun.state.txn ≡ Some txn → txn.id ≡ begun.state.id
  pub acts : (txn : Transaction) → begun.state.txn ≡ Some txn → IsSome (next_act (validation_of txn))
  pub unstamped : begun.state.reading ≡ true → begun.state.txn ≡ None
  pub seq : begun.state.id.seq ≤ 16384

-- what each client keeps: whether it reads, a last time that there is, and a next place above its attempts, of which
-- only the last can read
pub record ClientFits (attempts : List BegunView) (client : Client) : Type 0 where
  pub reading : client.reading ≡ has_reading client.number attempts
  pub last_time : client.last_time ≤ 2 ^ 62
  pub next_seq : Each (λ begun. begun.state.id.client ≡ client.number → begun.state.id.seq < client.next_seq) attempts
  pub last : Each (λ begun. begun.state.id.client ≡ client.number → begun.state.reading ≡ true → begun.state.id.seq + 1 ≡ client.next_seq) attempts

-- what a column keeps
pub record IsKept (f : ℕ) (kept : Kept) (ends : SettledAttempts) : Type 0 where
  pub replicas : length kept.replicas ≡ members f
  pub attempts : Each (AttemptFits f kept.link (map learning_of_kept kept.learned)) kept.attempts
  pub takeovers : Each (λ backup. backup.faults ≡ f) kept.takeovers
  pub clients : Each (ClientFits kept.attempts) kept.clients
  pub sent : Each (λ (msg : Msg). msg.replica < members f) kept.link
  pub settled : (id : TxnId) → is_kept_settled ends id ≡ ((id.seq == 0) || passes (λ (begun : BegunView). is_settled begun.state) (begun_of id kept.attempts))
  pub decisions : (id : TxnId) → begun_of id kept.attempts ≡ None → first_decision (map learning_of_kept kept.learned) id ≡ None
  pub validates : (id : TxnId) → begun_of id kept.attempts ≡ None → list_any (is_validate_of id) kept.link ≡ false
  pub homes : Each (λ (begun : BegunView). IsSome (kept_client begun.state.id.client kept.clients)) kept.attempts
  pub work : WorkFits (members f) kept.attempts kept.replicas kept.work
  pub takers : Each (λ (backup : BackupView). IsSome (begun_of backup.of.id kept.attempts)) kept.takeovers
