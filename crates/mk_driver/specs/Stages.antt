-- The stages of a client's attempt.
use Rattle.std.specs.Prelude.{ℕ, ◌+◌, ◌%◌, Bool, true, false, List, [], ◌∷◌, ◌++◌, map, length, Option, Some, None, find, slice_get}
use Rattle.mk_txn.specs.declared.TxnId.{TxnId}
use Rattle.mk_txn.specs.declared.Outcome.{Outcome}
use Rattle.mk_txn.specs.declared.ReadItem.{ReadItem}
use Rattle.mk_quorum.specs.Sizes.{members}
use Rattle.mk_quorum.specs.Slots.{passes}
use Rattle.mk_words.specs.declared.Ruling.{Ruling}
use Rattle.mk_words.specs.declared.Ruling.TheVariants.{Fast, Propose, Learned, Short, Unaccepted}
use Rattle.mk_words.specs.Rulings.{CoordState, ruling}
use Rattle.mk_script.specs.declared.lines.Point.{Point}
use Rattle.mk_script.specs.declared.lines.Point.TheVariants.{Read as AfterRead, Votes as AfterVotes, Accepts as AfterAccepts}
use Rattle.mk_client.specs.Wanted.{next_wanted}
use Rattle.mk_client.specs.Computed.{writes_of}
use Rattle.mk_faults.specs.Fates.{RuleLines, stop_of}
use Rattle.mk_words.specs.declared.Step.{Step}
use Rattle.mk_words.specs.declared.Step.TheVariants.{Begin, Unread, Read, Stamp, Validate, Rule, Stop}
use Rattle.mk_model.specs.ColumnState.{Setting, ColumnState, AttemptState, ClientState, attempt_of, client_of, numbers_from}
use Rattle.mk_model.specs.Conditions.{blocked, serves_from}
use Rattle.mk_driver.specs.declared.Task.{Task}
use Rattle.mk_driver.specs.declared.Task.TheVariants.{DeliverSince, Fetch, Reach}
use Rattle.mk_driver.specs.declared.DriverState.{DriverState}
use Rattle.mk_driver.specs.declared.Request.{Request}
use Rattle.mk_driver.specs.declared.Caller.{Caller}
use Rattle.mk_driver.specs.declared.Stage.{Stage}
use Rattle.mk_driver.specs.Agenda.{Worked, change_caller, trial_of, put_trial}
use Rattle.mk_driver.specs.Agenda.Worked.{Quiet, Names}
use Rattle.mk_driver.specs.Delivery.{follow_ups}

-- what a client does in its turn: nothing, a stage without a step, or a step with the tasks that follow it
pub data Turn : Type 0 where
  Nothing : Turn
  Silent : (driver : DriverState) → Turn
  Steps : (step : Step) (after : List Task) (driver : DriverState) → Turn

-- the replicas from a client's home upwards, in cyclic order
abbrev pub from_home : ℕ → ℕ → List ℕ
from_home f home = map (λ i. (home + i) % members f) (numbers_from 0 (members f))

-- the first of them that serves an epoch at least as high as the client has heard of
abbrev pub reader_for : Setting → ℕ → ℕ → Option ℕ
reader_for round home heard = find (λ r. passes (serves_from heard) (slice_get round.views r)) (from_home round.faults home)

-- the next transaction of a client's list: its retries, then its txn lines
abbrev pub next_request : Caller → Option Request
next_request caller = slice_get (caller.retries ++ caller.lines) 0

-- the list without its first
abbrev pub after_request : List Request → List Request
after_request [] = []
after_request (request ∷ requests) = requests

-- once there are no retries, the next is a txn line
abbrev pub without_request_by : List Request → Caller → Caller
without_request_by [] caller = record caller { lines = after_request caller.lines }
without_request_by (request ∷ requests) caller = record caller { retries = requests }

-- the client's list without its next
abbrev pub without_request : Caller → Caller
without_request caller = without_request_by caller.retries caller

-- this is what the client's attempt of this place is asked for
abbrev pub with_trial : ℕ → Option Request → Caller → Caller
with_trial seq request caller = record caller { trials = put_trial seq request caller.trials }

-- the next transaction of the client's list becomes that of its attempt of this place
abbrev pub begun : ℕ → Caller → Caller
begun seq caller = with_trial seq (next_request caller) (without_request caller)

-- stage 1
abbrev pub begin_by : ClientState → Caller → Option ℕ → DriverState → Turn
begin_by client caller (Some replica) driver =
    Steps (Begin caller.number replica) (Fetch (record { client = caller.number; seq = client.next_seq }) ∷ [])
    (change_caller caller.number (begun client.next_seq) driver)
begin_by client caller None driver = Steps (Unread caller.number) [] (change_caller caller.number without_request driver)

-- with the client as its column knows it
abbrev pub begin_of : Setting → Option ClientState → Caller → DriverState → Turn
begin_of round (Some client) caller driver = begin_by client caller (reader_for round caller.home client.heard) driver
begin_of round None caller driver = Nothing

-- where there is a next transaction
abbrev pub begin_next : Setting → ColumnState → Caller → Option Request → DriverState → Turn
begin_next round column caller (Some request) driver = begin_of round (client_of column caller.number) caller driver
begin_next round column caller None driver = Nothing

-- no attempt of this client is under way
abbrev pub resting : Caller → Caller
resting caller = record caller { under_way = None }

-- an attempt of this client has done a stage
abbrev pub at_stage : Stage → Caller → Caller
at_stage stage caller = record caller { under_way = Some stage }

-- the attempt is left, or done
abbrev pub left : Caller → DriverState → DriverState
left caller driver = change_caller caller.number resting driver

-- stage 3, by the ruling of an attempt that has not learned
abbrev pub ruled_by : ColumnState → Caller → TxnId → Ruling → DriverState → Turn
ruled_by column caller id (Fast outcome) driver = Steps (Rule id) (follow_ups column id) (left caller driver)
ruled_by column caller id (Propose outcome) driver =
    Steps (Rule id) (follow_ups column id ++ Reach id AfterAccepts ∷ []) (left caller driver)
ruled_by column caller id (Learned outcome) driver = Silent (left caller driver)
ruled_by column caller id (Short k) driver = Silent (left caller driver)
ruled_by column caller id (Unaccepted k) driver = Silent (left caller driver)

-- stage 4
abbrev pub closed_by : ColumnState → Caller → TxnId → Ruling → DriverState → Turn
closed_by column caller id (Learned outcome) driver = Steps (Rule id) (follow_ups column id) (left caller driver)
closed_by column caller id (Fast outcome) driver = Silent (left caller driver)
closed_by column caller id (Propose outcome) driver = Silent (left caller driver)
closed_by column caller id (Short k) driver = Silent (left caller driver)
closed_by column caller id (Unaccepted k) driver = Silent (left caller driver)

-- where it learned meanwhile, it is done
abbrev pub stage_three : Setting → ColumnState → Caller → TxnId → CoordState → Option Outcome → DriverState → Turn
stage_three round column caller id coord (Some outcome) driver = Silent (left caller driver)
stage_three round column caller id coord None driver = ruled_by column caller id (ruling round.faults coord) driver

-- and stage 4, likewise
abbrev pub stage_four : Setting → ColumnState → Caller → TxnId → CoordState → Option Outcome → DriverState → Turn
stage_four round column caller id coord (Some outcome) driver = Silent (left caller driver)
stage_four round column caller id coord None driver = closed_by column caller id (ruling round.faults coord) driver

-- stage 2
abbrev pub validated : ColumnState → Caller → TxnId → DriverState → Turn
validated column caller id driver = Steps (Validate id) (DeliverSince (length column.link) ∷ (Reach id AfterVotes ∷ [])) (left caller driver)

-- the stage after the one that was done
abbrev pub stage_after : Setting → ColumnState → Caller → TxnId → Point → Option AttemptState → DriverState → Turn
stage_after round column caller id AfterRead (Some attempt) driver = validated column caller id driver
stage_after round column caller id AfterVotes (Some attempt) driver = stage_three round column caller id attempt.coord attempt.coord.learned driver
stage_after round column caller id AfterAccepts (Some attempt) driver = stage_four round column caller id attempt.coord attempt.coord.learned driver
stage_after round column caller id point None driver = Silent (left caller driver)

-- an attempt under way goes on, and else the next one begins
abbrev pub turn_by : Setting → ColumnState → Caller → Option Stage → DriverState → Turn
turn_by round column caller (Some stage) driver = stage_after round column caller stage.id stage.reached (attempt_of column stage.id) driver
turn_by round column caller None driver = begin_next round column caller (next_request caller) driver

-- a client's turn
abbrev pub turn_of : Setting → ColumnState → Option Caller → DriverState → Turn
turn_of round column (Some caller) driver = turn_by round column caller caller.under_way driver
turn_of round column None driver = Nothing

-- the reads that are left, in order, then the stamp
abbrev pub fetch_by : TxnId → List ReadItem → Request → Option ℕ → DriverState → Worked
fetch_by id reads request (Some key) driver = Names (Read id key) (Fetch id ∷ []) driver
fetch_by id reads request None driver =
    Names (Stamp id request.clock (writes_of request.items reads)) (Reach id AfterRead ∷ []) driver

-- of an attempt and what it was asked for
abbrev pub fetching : TxnId → Option AttemptState → Option Request → DriverState → Worked
fetching id (Some attempt) (Some request) driver =
    fetch_by id attempt.reads request (next_wanted request.items attempt.reads) driver
fetching id (Some attempt) None driver = Quiet driver
fetching id None request driver = Quiet driver

-- the attempt of this number fetches
abbrev pub fetch_work : ColumnState → TxnId → DriverState → Worked
fetch_work column id driver = fetching id (attempt_of column id) (trial_of id driver) driver

-- the two points are the same
abbrev pub same_point : Point → Point → Bool
same_point AfterRead AfterRead = true
same_point AfterVotes AfterVotes = true
same_point AfterAccepts AfterAccepts = true
same_point _ _ = false

-- a stop line acts: Stop if enabled, and the attempt is left in either case
abbrev pub stopping : TxnId → Option ℕ → DriverState → Worked
stopping id None driver = Names (Stop id) [] driver
stopping id (Some condition) driver = Quiet driver

-- whether a stop line acts here
abbrev pub reach_by : Setting → ColumnState → TxnId → Point → Bool → DriverState → Worked
reach_by round column id point true driver = stopping id (blocked round column (Stop id)) driver
reach_by round column id point false driver =
    Quiet (change_caller id.client (at_stage (record { id = id; reached = point })) driver)

-- a stage is done: a stop line at this point acts, and else the next stage comes in the client's next turn
abbrev pub reaching : RuleLines → Setting → ColumnState → TxnId → Point → DriverState → Worked
reaching rules round column id point driver = reach_by round column id point (passes (same_point point) (stop_of rules id)) driver
