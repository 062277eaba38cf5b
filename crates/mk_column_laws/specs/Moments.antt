-- The events of one column, all rounds laid end to end, and what is remembered of its past.
use Rattle.std.specs.Prelude.{◌≡◌, ◌<◌, ◌≤◌, ℕ, ◌+◌, Bool, true, false, ◌&&◌, ◌||◌, ◌==◌, List, [], ◌∷◌, ◌++◌, Option, Some, None, is_some, slice_get, if◌then◌else◌}
use Rattle.std.specs.List.{list_any}
use Rattle.mk_txn.specs.declared.TxnId.{TxnId}
use Rattle.mk_txn.specs.declared.Vote.{Vote}
use Rattle.mk_txn.specs.declared.Accepted.{Accepted}
use Rattle.mk_txn.specs.declared.Outcome.{Outcome}
use Rattle.mk_txn.specs.Transactions.{Transaction}
use Rattle.mk_words.specs.declared.Act.{Act}
use Rattle.mk_words.specs.declared.Answer.{Answer}
use Rattle.mk_words.specs.declared.Entry.{Entry}
use Rattle.mk_words.specs.Entries.{entry_of}
use Rattle.mk_words.specs.KeptOutcomes.{known_of}
use Rattle.mk_trim.specs.declared.ReplicaView.{ReplicaView}
use Rattle.mk_words.specs.declared.Step.{Step}
use Rattle.mk_words.specs.declared.Step.TheVariants.{Key}
use Rattle.mk_model.specs.ColumnState.{Setting, ColumnState, new_column, entries_at, attempt_of}
use Rattle.mk_model.specs.ColumnState.Work.{Idle}
use Rattle.mk_model.specs.Conditions.{blocked}
use Rattle.mk_model.specs.Replicas.{serves, is_serving}
use Rattle.mk_model.specs.Answers.{outcome_after}
use Rattle.mk_model.specs.Steps.{column_after, epoch_of}
use Rattle.mk_model.specs.Logs.{reading_ended, replica_reset}

-- ---- what is remembered

-- an entry with the rounds in which its vote was set and in which it became final; no reset touches it
pub record PastEntry : Type 0 where
  pub txn : Transaction
  pub view : ℕ
  pub vote : Option (Vote × ℕ)
  pub accepted : Option Accepted
  pub last : Option (Outcome × ℕ)

-- a key step with its round, and with the epoch that its replica served
pub record PastAct : Type 0 where
  pub round : ℕ
  pub replica : ℕ
  pub epoch : ℕ
  pub key : ℕ
  pub act : Act
  pub answer : Answer

-- the number of the round; by replica and attempt the entry; the round in which an attempt was begun; by round, replica
-- and epoch whether it served it; by replica and epoch whether it ever served it, and whether it was reset since;
-- and all key steps, in their order
pub record Past : Type 0 where
  pub now : ℕ
  pub entries : ℕ → TxnId → Option PastEntry
  pub begun_in : TxnId → ℕ
  pub served_in : ℕ → ℕ → ℕ → Bool
  pub ever_served : ℕ → ℕ → Bool
  pub has_left : ℕ → ℕ → Bool
  pub acts : List PastAct

-- a column with the setting of the round and its past
pub record Moment : Type 0 where
  pub round : Setting
  pub column : ColumnState
  pub past : Past

-- what was set first stays, with its round
abbrev pub dated : {X : Type 0} → ℕ → Option (X × ℕ) → Option X → Option (X × ℕ)
dated now (Some first) new = Some first
dated now None (Some x) = Some (x, now)
dated now None None = None

-- the round of what was set before, where there was an entry
abbrev pub past_vote : Option PastEntry → Option (Vote × ℕ)
past_vote (Some old) = old.vote
past_vote None = None

abbrev pub past_last : Option PastEntry → Option (Outcome × ℕ)
past_last (Some old) = old.last
past_last None = None

-- an entry as it is remembered from this round on
abbrev pub remembered_from : ℕ → Option PastEntry → Entry → PastEntry
remembered_from now old entry =
    record {
      txn = entry.txn;
      view = entry.view;
      vote = dated now (past_vote old) entry.vote;
      accepted = entry.accepted;
      last = dated now (past_last old) entry.last;
    }

-- what is remembered of an entry: as it stands in the record, and else as it stood last
abbrev pub remembered : ℕ → Option PastEntry → Option Entry → Option PastEntry
remembered now old None = old
remembered now old (Some entry) = Some (remembered_from now old entry)

-- ---- events

-- a round begins, with these views, after these replicas were reset; or a step is done
pub data Event : Type 0 where
  NewRound : (views : List ReplicaView) (resets : List ℕ) → Event
  Doing : (step : Step) → Event

-- the replica is among these
abbrev pub has_number : List ℕ → ℕ → Bool
has_number numbers r = list_any (λ other. other == r) numbers

-- these replicas are reset
abbrev pub replicas_reset : List ℕ → ColumnState → ColumnState
replicas_reset [] column = column
replicas_reset (r ∷ resets) column = replicas_reset resets (replica_reset r column)

-- the past where a round begins
abbrev pub past_begun : List ReplicaView → List ℕ → Past → Past
past_begun views resets past =
    record past {
      now = past.now + 1;
      served_in = λ i r epoch. if i == past.now + 1 then serves epoch (slice_get views r) else past.served_in i r epoch;
      ever_served = λ r epoch. past.ever_served r epoch || serves epoch (slice_get views r);
      has_left = λ r epoch. past.has_left r epoch || (has_number resets r && past.ever_served r epoch);
    }

-- the moment at which a round begins
abbrev pub round_begun : List ReplicaView → List ℕ → Moment → Moment
round_begun views resets m =
    let round = m.round in
    record {
      round = record round { views = views };
      column = reading_ended (replicas_reset resets m.column);
      past = past_begun views resets m.past;
    }

-- the key step that a step is
abbrev pub act_of : Setting → ℕ → Step → List PastAct
act_of round now (Key call answer) =
    record {
      round = now;
      replica = call.replica;
      epoch = epoch_of (slice_get round.views call.replica);
      key = call.key;
      act = call.act;
      answer = answer;
    }
    ∷ []
act_of round now _ = []

-- the past after a step that led from one column to another
abbrev pub past_after : Setting → ColumnState → Step → ColumnState → Past → Past
past_after round old step new past =
    record past {
      entries = λ r id. remembered past.now (past.entries r id) (entry_of id (entries_at new r));
      begun_in = λ id. if is_some (attempt_of old id) then past.begun_in id else past.now;
      acts = past.acts ++ act_of round past.now step;
    }

-- the moment after a step
abbrev pub step_done : Step → Moment → Moment
step_done step m =
    record {
      round = m.round;
      column = column_after m.round m.column step;
      past = past_after m.round m.column step (column_after m.round m.column step) m.past;
    }

-- the moment after an event
abbrev pub after_event : Event → Moment → Moment
after_event (NewRound views resets) m = round_begun views resets m
after_event (Doing step) m = step_done step m

-- ---- which events can happen

-- what entered epochs have taught: of an attempt that was begun in this epoch, this outcome, before this round
abbrev pub Taught : Type 0
Taught = TxnId → ℕ → Outcome → ℕ → Bool

-- what is taught stays taught
abbrev pub StaysTaught : Taught → Type 0
StaysTaught taught =
    (id : TxnId) (epoch : ℕ) (outcome : Outcome) (i j : ℕ) → i ≤ j → taught id epoch outcome i ≡ true → taught id epoch outcome j ≡ true

-- what the rest of a run sees to where a round begins: a replica that was reset does not serve an epoch again that it
-- had served, and what a later epoch's base tells was taught before
pub record IsRound (taught : Taught) (views : List ReplicaView) (resets : List ℕ) (m : Moment) : Type 0 where
  pub idle : m.column.work ≡ Idle
  pub tenure : (r epoch : ℕ) → serves epoch (slice_get views r) ≡ true → (past_begun views resets m.past).has_left r epoch ≡ false
  pub teaches : (r : ℕ) (view : ReplicaView) (id : TxnId) (epoch : ℕ) (outcome : Outcome) →
      slice_get views r ≡ Some view → is_serving view.phase ≡ true → epoch < view.epoch →
      outcome_after view.epoch (known_of view.fates id) ≡ Some outcome → taught id epoch outcome (m.past.now + 1) ≡ true

-- the event can happen at this moment
abbrev pub CanHappen : Taught → Event → Moment → Type 0
CanHappen taught (NewRound views resets) m = IsRound taught views resets m
CanHappen taught (Doing step) m = blocked m.round m.column step ≡ None

-- each event can happen in its turn
abbrev pub EachHappens : Taught → Moment → List Event → Type 0
EachHappens taught m [] = Unit {0}
EachHappens taught m (event ∷ events) = CanHappen taught event m × EachHappens taught (after_event event m) events

-- the moment to which events lead
abbrev pub moment_through : Moment → List Event → Moment
moment_through m [] = m
moment_through m (event ∷ events) = moment_through (after_event event m) events

-- nothing has happened
abbrev pub empty_past : Past
empty_past =
    record {
      now = 0;
      entries = λ r id. None;
      begun_in = λ id. 0;
      served_in = λ i r epoch. false;
      ever_served = λ r epoch. false;
      has_left = λ r epoch. false;
      acts = [];
    }

-- the moment before the first round; no replica serves
abbrev pub first_moment : ℕ → ℕ → ℕ → List ℕ → Moment
first_moment version faults keys clients =
    record {
      round = record { version = version; faults = faults; keys = keys; views = [] };
      column = new_column faults clients;
      past = empty_past;
    }

-- the moment is reached by events that can happen
pub record IsReached (taught : Taught) (m : Moment) : Type 0 where
  pub version : ℕ
  pub faults : ℕ
  pub keys : ℕ
  pub clients : List ℕ
  pub events : List Event
  pub happens : EachHappens taught (first_moment version faults keys clients) events
  pub leads : moment_through (first_moment version faults keys clients) events ≡ m
