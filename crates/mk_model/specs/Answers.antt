-- What a coordinator and a takeover make of an answer.
use Rattle.std.specs.Prelude.{ℕ, max, Bool, false, not, ◌||◌, ◌==◌, Option, Some, None, slice_get, is_some, if◌then◌else◌}
use Rattle.mk_txn.specs.declared.Known.{Known}
use Rattle.mk_txn.specs.declared.Known.TheVariants.{Outcome as KnownOutcome, Absent, Forgotten}
use Rattle.mk_txn.specs.declared.Outcome.{Outcome}
use Rattle.mk_txn.specs.declared.Outcome.TheVariants.{Abort}
use Rattle.mk_txn.specs.declared.Cause.TheVariants.{Epoch as ByEpoch}
use Rattle.mk_words.specs.declared.Moved.{Moved}
use Rattle.mk_words.specs.declared.Msg.{Msg}
use Rattle.mk_words.specs.declared.Body.{Body}
use Rattle.mk_words.specs.declared.Body.TheVariants.{Voted, Accepted as AcceptedBody, Told as ToldBody, Moved as MovedBody}
use Rattle.mk_words.specs.Rulings.{CoordState, vote_counted, accept_counted, coord_taught}
use Rattle.mk_words.specs.Picks.{TakeoverState, reply_counted, accept_counted as takeover_accepted, takeover_taught}
use Rattle.mk_words.specs.Promises.{leader_of}
use Rattle.mk_model.specs.ColumnState.{Setting, ColumnState, AttemptState, TakeoverOf, ClientState, change_attempt, change_takeover, change_client, attempt_of}
use Rattle.mk_model.specs.Replicas.{serves}

-- what a later epoch's base teaches of an attempt: its outcome, abort where it has none, and nothing where it is forgotten
abbrev pub outcome_after : ℕ → Known → Option Outcome
outcome_after epoch (KnownOutcome outcome) = Some outcome
outcome_after epoch Absent = Some (Abort (ByEpoch epoch))
outcome_after epoch Forgotten = None

-- what a Moved teaches
abbrev pub moved_outcome : Moved → Option Outcome
moved_outcome moved = outcome_after moved.to moved.fate

-- the own coordinator: votes and accepts count, a final outcome and a Moved teach
abbrev pub coord_answered : ℕ → Body → CoordState → CoordState
coord_answered r (Voted vote) coord = vote_counted r vote coord
coord_answered r AcceptedBody coord = accept_counted r coord
coord_answered r (ToldBody told) coord = coord_taught told.last coord
coord_answered r (MovedBody moved) coord = coord_taught (moved_outcome moved) coord
coord_answered r _ coord = coord

-- an attempt whose own coordinator takes an answer
abbrev pub attempt_answered : ℕ → Body → AttemptState → AttemptState
attempt_answered r body attempt = record attempt { coord = coord_answered r body attempt.coord }

-- a takeover: replies and accepts count, a final outcome and a Moved teach
abbrev pub state_answered : ℕ → Body → TakeoverState → TakeoverState
state_answered r AcceptedBody takeover = takeover_accepted r takeover
state_answered r (ToldBody told) takeover = reply_counted r told takeover
state_answered r (MovedBody moved) takeover = takeover_taught (moved_outcome moved) takeover
state_answered r _ takeover = takeover

-- a takeover that is closed changes no more
abbrev pub takeover_answered : ℕ → Body → TakeoverOf → TakeoverOf
takeover_answered r body takeover =
    if takeover.closed then takeover else record takeover { state = state_answered r body takeover.state }

-- a client hears of the epoch of a Moved, whatever it carries
abbrev pub heard_of : Body → ClientState → ClientState
heard_of (MovedBody moved) client = record client { heard = max client.heard moved.to }
heard_of _ client = client

-- an own coordinator ignores answers once it is stopped or has learned
abbrev pub listens : Option AttemptState → Bool
listens (Some attempt) = not (attempt.stopped || is_some attempt.coord.learned)
listens None = false

-- an answer in view 0 is taken where the own coordinator listens
abbrev pub own_answered : Msg → ColumnState → ColumnState
own_answered msg column =
    if listens (attempt_of column msg.id)
    then change_client msg.id.client (heard_of msg.body) (change_attempt msg.id (attempt_answered msg.replica msg.body) column)
    else column

-- the leader of a takeover's view serves the attempt's epoch
abbrev pub is_led : Setting → ℕ → ℕ → Bool
is_led round epoch view = serves epoch (slice_get round.views (leader_of round.faults view))

-- a takeover hears only while it is led
abbrev pub takeover_heard : Setting → Msg → ColumnState → ColumnState
takeover_heard round msg column =
    if is_led round msg.epoch msg.view
    then change_takeover msg.id msg.view (takeover_answered msg.replica msg.body) column
    else column

-- an answer in view 0 goes to the own coordinator, and one in another view to that takeover
abbrev pub answer_taken : Setting → Msg → ColumnState → ColumnState
answer_taken round msg column = if msg.view == 0 then own_answered msg column else takeover_heard round msg column
