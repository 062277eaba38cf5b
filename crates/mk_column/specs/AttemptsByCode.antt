-- What the code keeps of an attempt.
use Rattle.std.specs.Prelude.{ℕ, Bool, false, List, Option, None, find, map, option_map, option_copied}
use Rattle.std.specs.Borrow.{Bor}
use Rattle.mk_lists.specs.Changed.{change}
use Rattle.mk_txn.specs.declared.TxnId.{TxnId}
use Rattle.mk_txn.specs.Transactions.{same_id}
use Rattle.mk_txn.specs.declared.Outcome.{Outcome}
use Rattle.mk_words.specs.Rulings.{CoordState}
use Rattle.mk_column.specs.declared.Attempt.{Attempt}
use Rattle.mk_model.specs.ColumnState.{AttemptState}

-- an attempt, for how many faults its coordinator is made, whether a Validate of it was sent, and the first outcome
-- that its coordinator or a takeover learned
pub record BegunView : Type 0 where
  pub state : AttemptState
  pub faults : ℕ
  pub validated : Bool
  pub decided : Option Outcome

-- the attempt that is shown so, with this coordinator
abbrev pub state_of : Attempt → Bool → CoordState → AttemptState
state_of attempt reading coord =
    record {
      id = attempt.id;
      replica = attempt.replica;
      epoch = attempt.epoch;
      reading = reading;
      reads = attempt.reads;
      txn = attempt.txn;
      unread = attempt.unread;
      stopped = attempt.stopped;
      coord = coord;
    }

-- an attempt as it begins
abbrev pub as_begun : ℕ → AttemptState → BegunView
as_begun f state = record { state = state; faults = f; validated = false; decided = None }

-- the attempt is changed, and nothing else
abbrev pub on_state : (AttemptState → AttemptState) → BegunView → BegunView
on_state f begun = record begun { state = f begun.state }

-- the attempt's number
abbrev pub begun_id : BegunView → TxnId
begun_id begun = begun.state.id

-- the attempt has this number
abbrev pub is_begun : TxnId → BegunView → Bool
is_begun id begun = same_id begun.state.id id

-- the attempt of this number
abbrev pub begun_of : TxnId → List BegunView → Option BegunView
begun_of id all = find (is_begun id) all

-- the attempt of this number is changed, and no other
abbrev pub change_begun : TxnId → (BegunView → BegunView) → List BegunView → List BegunView
change_begun id f all = change (is_begun id) f all

-- the attempts as the definitions have them
abbrev pub states_of : List BegunView → List AttemptState
states_of all = map (λ begun. begun.state) all

-- an attempt that was looked up, as the definitions have it
abbrev pub seen : Option (Bor BegunView) → Option AttemptState
seen begun = option_map (λ (b : BegunView). b.state) (option_copied begun)
