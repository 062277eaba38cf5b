-- What is learned in a step of a column: by the own coordinator, by a takeover, or by a replica.
use Rattle.std.specs.Prelude.{ℕ, Bool, true, false, not, ◌&&◌, ◌==◌, List, [], ◌∷◌, Option, Some, None, slice_get, find, is_some, option_map, option_and_then, if◌then◌else◌}
use Rattle.mk_txn.specs.declared.TxnId.{TxnId}
use Rattle.mk_txn.specs.declared.Outcome.{Outcome}
use Rattle.mk_txn.specs.Transactions.{Transaction, same_id}
use Rattle.mk_words.specs.declared.Entry.{Entry}
use Rattle.mk_words.specs.Entries.{entry_of}
use Rattle.mk_words.specs.declared.Msg.{Msg}
use Rattle.mk_words.specs.declared.Body.{Body}
use Rattle.mk_words.specs.declared.Body.TheVariants.{Decide, Told as ToldBody, Moved as MovedBody}
use Rattle.mk_words.specs.Links.{message}
use Rattle.mk_quorum.specs.Slots.{passes}
use Rattle.mk_words.specs.declared.Ruling.{Ruling}
use Rattle.mk_words.specs.declared.Ruling.TheVariants.{Fast, Learned}
use Rattle.mk_words.specs.Rulings.{ruling}
use Rattle.mk_words.specs.declared.Pick.{Pick}
use Rattle.mk_words.specs.declared.Pick.TheVariants.{Known, Learned as PickLearned}
use Rattle.mk_words.specs.Picks.{pick}
use Rattle.mk_words.specs.declared.Step.{Step}
use Rattle.mk_words.specs.declared.Step.TheVariants.{Take, Rule, Pick as PickStep}
use Rattle.mk_model.specs.ColumnState.{Setting, ColumnState, AttemptState, TakeoverOf, Learning, Way, attempt_of, takeover_of, entries_at}
use Rattle.mk_model.specs.ColumnState.Way.{ByVotes, ByAccepts, ByPick, ByMoved, ByTelling, ByFinishing}
use Rattle.mk_model.specs.Replicas.{serves}
use Rattle.mk_model.specs.Answers.{listens, is_led, moved_outcome}

-- an attempt's outcome, learned in this way
abbrev pub learning : TxnId → Way → Outcome → Learning
learning id way outcome = record { id = id; outcome = outcome; way = way }

-- one learning where there is an outcome, and else none
abbrev pub learning_of : TxnId → Way → Option Outcome → List Learning
learning_of id way (Some outcome) = learning id way outcome ∷ []
learning_of id way None = []

-- a ruling that is Fast or Learned
abbrev pub by_ruling : TxnId → Ruling → List Learning
by_ruling id (Fast outcome) = learning id ByVotes outcome ∷ []
by_ruling id (Learned outcome) = learning id ByAccepts outcome ∷ []
by_ruling id _ = []

-- a pick that is Known or Learned
abbrev pub by_pick : TxnId → ℕ → Pick → List Learning
by_pick id view (Known outcome) = learning id ByTelling outcome ∷ []
by_pick id view (PickLearned outcome) = learning id (ByPick view) outcome ∷ []
by_pick id view _ = []

-- whoever the answer goes to hears it
abbrev pub is_heard : Setting → ColumnState → Msg → Bool
is_heard round column msg =
    if msg.view == 0
    then listens (attempt_of column msg.id)
    else is_led round msg.epoch msg.view && passes (λ t. not t.closed) (takeover_of column msg.id msg.view)

-- the transaction of an attempt, once it is stamped
abbrev pub txn_of : ColumnState → TxnId → Option Transaction
txn_of column id = option_and_then (λ a. a.txn) (attempt_of column id)

-- there is an entry with a final outcome
abbrev pub is_final : Option Entry → Bool
is_final entry = passes (λ e. is_some e.last) entry

-- a replica that serves the Decide's epoch, and whose entry is not final yet
abbrev pub is_finished_by : Setting → ColumnState → Msg → Bool
is_finished_by round column msg =
    serves msg.epoch (slice_get round.views msg.replica)
    && is_some (txn_of column msg.id) && not (is_final (entry_of msg.id (entries_at column msg.replica)))

-- a Decide that makes an entry final, and an answer that teaches and is heard
abbrev pub by_message : Setting → ColumnState → Msg → Body → List Learning
by_message round column msg (Decide outcome) = if is_finished_by round column msg then learning msg.id ByFinishing outcome ∷ [] else []
by_message round column msg (ToldBody told) = if is_heard round column msg then learning_of msg.id ByTelling told.last else []
by_message round column msg (MovedBody moved) = if is_heard round column msg then learning_of msg.id (ByMoved moved.to) (moved_outcome moved) else []
by_message round column msg _ = []

-- what a message teaches that is taken
abbrev pub by_taken : Setting → ColumnState → Option Msg → List Learning
by_taken round column (Some msg) = by_message round column msg msg.body
by_taken round column None = []

-- what the own coordinator learns by a Rule
abbrev pub by_rule : Setting → TxnId → Option AttemptState → List Learning
by_rule round id (Some attempt) = by_ruling id (ruling round.faults attempt.coord)
by_rule round id None = []

-- what a takeover learns by a Pick
abbrev pub by_takeover : Setting → TxnId → ℕ → Option TakeoverOf → List Learning
by_takeover round id view (Some takeover) = by_pick id view (pick round.faults takeover.state)
by_takeover round id view None = []

-- what is learned in a step that is done in this state
abbrev pub learned_in_step : Setting → ColumnState → Step → List Learning
learned_in_step round column (Rule id) = by_rule round id (attempt_of column id)
learned_in_step round column (PickStep id view) = by_takeover round id view (takeover_of column id view)
learned_in_step round column (Take number) = by_taken round column (message column.link number)
learned_in_step round column _ = []

-- a replica learned
abbrev pub is_finishing : Way → Bool
is_finishing ByFinishing = true
is_finishing _ = false

-- an own coordinator or a takeover of this attempt learned
abbrev pub is_decision_of : TxnId → Learning → Bool
is_decision_of id l = same_id l.id id && not (is_finishing l.way)

-- the first outcome that the own coordinator or a takeover of the attempt learned
abbrev pub decided : ColumnState → TxnId → Option Outcome
decided column id = option_map (λ l. l.outcome) (find (is_decision_of id) column.learned)
