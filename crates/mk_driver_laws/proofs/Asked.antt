-- What a driver's clients are to ask for, have asked for and ask for again fits, whatever is named.
use Rattle.std.proofs.Common.{ℕ, zero, suc, ◌+◌, ◌-◌, Bool, true, false, List, [], ◌∷◌, ◌++◌, map, length, Option, Some, None, if◌then◌else◌}
use Rattle.std.specs.Prelude.{filter, find, is_none, replicate, slice_get, slice_set, ◌==◌, ◌&&◌, not}
use Rattle.mk_lists.specs.Among.{Each, Each-append}
use Rattle.mk_lists.specs.Changed.{Each-change}
use Rattle.mk_txn.specs.declared.TxnId.{TxnId}
use Rattle.mk_txn.specs.declared.Outcome.{Outcome}
use Rattle.mk_txn.specs.declared.Outcome.TheVariants.{Commit, Abort}
use Rattle.mk_quorum.specs.Slots.{passes}
use Rattle.mk_words.specs.declared.Msg.{Msg}
use Rattle.mk_words.specs.Links.{message}
use Rattle.mk_words.specs.declared.Ruling.{Ruling}
use Rattle.mk_words.specs.declared.Ruling.TheVariants.{Fast, Propose, Learned, Short, Unaccepted}
use Rattle.mk_words.specs.Rulings.{CoordState, ruling}
use Rattle.mk_script.specs.declared.lines.ClientLine.{ClientLine}
use Rattle.mk_script.specs.declared.lines.Point.{Point}
use Rattle.mk_script.specs.declared.lines.Point.TheVariants.{Read as AfterRead, Votes as AfterVotes, Accepts as AfterAccepts}
use Rattle.mk_script.specs.declared.lines.Fate.{Fate}
use Rattle.mk_script.specs.declared.lines.Fate.TheVariants.{Deliver as DeliverFate, Lose, Twice, Late as LateFate, NextRound}
use Rattle.mk_faults.specs.Fates.{RuleLines, fate_at, stop_of}
use Rattle.mk_client.specs.Wanted.{next_wanted}
use Rattle.mk_words.specs.declared.KeyCall.{KeyCall}
use Rattle.mk_words.specs.declared.Step.TheVariants.{Rule, Takeover as TakeoverStep, Pick, Stop}
use Rattle.mk_model.specs.ColumnState.{Setting, ColumnState, AttemptState, ClientState, attempt_of, client_of, numbers_from}
use Rattle.mk_model.specs.Conditions.{blocked, wanted}
use Rattle.mk_driver.specs.declared.DriverState.{DriverState}
use Rattle.mk_driver.specs.declared.Caller.{Caller}
use Rattle.mk_driver.specs.declared.Request.{Request}
use Rattle.mk_driver.specs.declared.Stage.{Stage}
use Rattle.mk_driver.specs.declared.Submission.{Submission}
use Rattle.mk_driver.specs.declared.Part.{Part}
use Rattle.mk_driver.specs.declared.Task.{Task}
use Rattle.mk_driver.specs.declared.Task.TheVariants.{Deliver, DeliverSince, Take, Notice, Fetch, Reach, Resume, Turns, Takeover, Late, Settle, SettleTakeover}
use Rattle.mk_driver.specs.Agenda.{Worked, asked, change_caller, is_caller, put_trial, trial_by, trial_in, trial_of, with_held, with_late, with_late_by}
use Rattle.mk_driver.specs.Agenda.Worked.{Quiet, Names}
use Rattle.mk_driver.specs.Delivery.{by_fate, delivering, done_with, noticed, own_learned, retries_after, taking_by, taking_late, tried_again, with_tries}
use Rattle.mk_driver.specs.Driven.{asked_more, callers_from, is_submission_of}
use Rattle.mk_driver.specs.Passes.{after_passes, after_turn, in_pass}
use Rattle.mk_driver.specs.Settling.{resume_by, resume_if, resume_with, settle_by, settle_takeover_by, takeover_by, was_validated}
use Rattle.mk_driver.specs.Stages.{Turn, after_request, at_stage, begin_by, begin_next, begin_of, begun, closed_by, fetch_by, fetching, left, next_request, reach_by, reader_for, ruled_by, same_point, stage_after, stage_four, stage_three, stopping, turn_by, turn_of, without_request, without_request_by}
use Rattle.mk_driver.specs.Stages.Turn.{Nothing, Silent, Steps}
use Rattle.mk_driver.specs.Turns.{Choice, choice, in_agenda, in_parts, or_next, tasks_of, unless_wanted, with_agenda, with_part, work_on}
use Rattle.mk_driver_laws.proofs.Requests.{RequestFits, SubmissionFits}

abbrev pub TrialFits : ℕ → Option Request → Type 0
TrialFits keys (Some request) = RequestFits keys request
TrialFits keys None = Unit {0}

-- a client's requests
pub record CallerAsks (keys : ℕ) (caller : Caller) : Type 0 where
  pub retries : Each (RequestFits keys) caller.retries
  pub lines : Each (RequestFits keys) caller.lines
  pub trials : Each (TrialFits keys) caller.trials

-- those of all clients
abbrev pub Asks : ℕ → DriverState → Type 0
Asks keys d = Each (CallerAsks keys) d.callers

module _ (keys : ℕ) where
  -- ---- one client

  get_fits : (trials : List (Option Request)) (seq : ℕ) → Each (TrialFits keys) trials → TrialFits keys (asked (slice_get trials seq))
  get_fits [] seq h = tt
  get_fits (trial ∷ trials) zero h = h.0
  get_fits (trial ∷ trials) (suc seq) h = get_fits trials seq h.1

  set_fits : (trials : List (Option Request)) (seq : ℕ) (trial : Option Request) → Each (TrialFits keys) trials → TrialFits keys trial → Each (TrialFits keys) (slice_set trials seq trial)
  set_fits [] seq trial h k = tt
  set_fits (first ∷ trials) zero trial h k = (k, h.1)
  set_fits (first ∷ trials) (suc seq) trial h k = (h.0, set_fits trials seq trial h.1 k)

  none_fit : (n : ℕ) → Each (TrialFits keys) (replicate n None)
  none_fit zero = tt
  none_fit (suc n) = (tt, none_fit n)

  put_fits : (trials : List (Option Request)) (seq : ℕ) (trial : Option Request) → Each (TrialFits keys) trials → TrialFits keys trial → Each (TrialFits keys) (put_trial seq trial trials)
  put_fits trials seq trial h k =
      set_fits (trials ++ replicate (seq + 1 - length trials) None) seq trial
      (Each-append (TrialFits keys) trials (replicate (seq + 1 - length trials) None) h (none_fit (seq + 1 - length trials))) k

  retries_fit : (trial : Option Request) (retries : List Request) → TrialFits keys trial → Each (RequestFits keys) retries → Each (RequestFits keys) (retries_after trial retries)
  retries_fit None retries k h = h
  retries_fit (Some request) retries k h = by request.tries
    where
      by : (tries : ℕ) → Each (RequestFits keys) (with_tries tries request retries)
      by zero = h
      by (suc tries) = Each-append (RequestFits keys) retries (record request { tries = tries } ∷ []) h (k, tt)

  again_asks : (seq : ℕ) (x : Caller) → CallerAsks keys x → CallerAsks keys (tried_again seq x)
  again_asks seq x h = record {
    retries = retries_fit (trial_in x.trials seq) x.retries (get_fits x.trials seq h.trials) h.retries;
    lines = h.lines;
    trials = set_fits x.trials seq None h.trials tt;
  }

  done_asks : (seq : ℕ) (x : Caller) → CallerAsks keys x → CallerAsks keys (done_with seq x)
  done_asks seq x h = record { retries = h.retries; lines = h.lines; trials = set_fits x.trials seq None h.trials tt }

  rest_fits : (requests : List Request) → Each (RequestFits keys) requests → Each (RequestFits keys) (after_request requests)
  rest_fits [] h = tt
  rest_fits (request ∷ requests) h = h.1

  without_asks : (x : Caller) → CallerAsks keys x → CallerAsks keys (without_request x)
  without_asks x h = by x.retries h.retries
    where
      by : (requests : List Request) → Each (RequestFits keys) requests → CallerAsks keys (without_request_by requests x)
      by [] k = record { retries = h.retries; lines = rest_fits x.lines h.lines; trials = h.trials }
      by (request ∷ requests) k = record { retries = k.1; lines = h.lines; trials = h.trials }

  first_fits : (requests : List Request) → Each (RequestFits keys) requests → TrialFits keys (slice_get requests 0)
  first_fits [] h = tt
  first_fits (request ∷ requests) h = h.0

  begun_asks : (seq : ℕ) (x : Caller) → CallerAsks keys x → CallerAsks keys (begun seq x)
  begun_asks seq x h =
      let after = without_asks x h in
      let rest = without_request x in
      record {
        retries = after.retries;
        lines = after.lines;
        trials = put_fits rest.trials seq (next_request x) after.trials (first_fits (x.retries ++ x.lines) (Each-append (RequestFits keys) x.retries x.lines h.retries h.lines));
      }

  -- ---- all clients

  changed_asks : (n : ℕ) (f : Caller → Caller) (d : DriverState) → ((x : Caller) → CallerAsks keys x → CallerAsks keys (f x)) → Asks keys d → Asks keys (change_caller n f d)
  changed_asks n f d k h = Each-change (is_caller n) f (CallerAsks keys) (λ x t j. k x j) d.callers h

  left_asks : (caller : Caller) (d : DriverState) → Asks keys d → Asks keys (left caller d)
  left_asks caller d h = changed_asks caller.number _ d (λ x k. record { retries = k.retries; lines = k.lines; trials = k.trials }) h

  pub trial_asks : (id : TxnId) (d : DriverState) → Asks keys d → TrialFits keys (trial_of id d)
  trial_asks id d h = by d.callers h
    where
      by : (xs : List Caller) → Each (CallerAsks keys) xs → TrialFits keys (trial_by id.seq (find (is_caller id.client) xs))
      by [] k = tt
      by (x ∷ xs) k = head (is_caller id.client x) (by xs k.1)
        where
          head : (b : Bool) → TrialFits keys (trial_by id.seq (find (is_caller id.client) xs)) → TrialFits keys (trial_by id.seq (if b then Some x else find (is_caller id.client) xs))
          head true rest = let first = k.0 in get_fits x.trials id.seq first.trials
          head false rest = rest

  -- ---- rounds

  filtered_fit : (n : ℕ) (submissions : List Submission) → Each (SubmissionFits keys) submissions → Each (RequestFits keys) (map (λ submission. submission.request) (filter (is_submission_of n) submissions))
  filtered_fit n [] h = tt
  filtered_fit n (submission ∷ submissions) h = head (is_submission_of n submission) (filtered_fit n submissions h.1)
    where
      head : (b : Bool) → Each (RequestFits keys) (map (λ submission. submission.request) (filter (is_submission_of n) submissions)) →
          Each (RequestFits keys) (map (λ submission. submission.request) (if b then submission ∷ filter (is_submission_of n) submissions else filter (is_submission_of n) submissions))
      head true rest = (h.0, rest)
      head false rest = rest

  pub asked_asks : (submissions : List Submission) (xs : List Caller) → Each (SubmissionFits keys) submissions → Each (CallerAsks keys) xs → Each (CallerAsks keys) (map (asked_more submissions) xs)
  asked_asks submissions [] s h = tt
  asked_asks submissions (x ∷ xs) s h =
      let first = h.0 in (
        record {
          retries = first.retries;
          lines = Each-append (RequestFits keys) x.lines _ first.lines (filtered_fit x.number submissions s);
          trials = first.trials;
        },
        asked_asks submissions xs s h.1,
      )

  pub new_asks : (column n : ℕ) (lines : List ClientLine) → Each (CallerAsks keys) (callers_from column n lines)
  new_asks column n [] = tt
  new_asks column n (line ∷ lines) = head (line.column == column) (new_asks column (n + 1) lines)
    where
      head : (b : Bool) → Each (CallerAsks keys) (callers_from column (n + 1) lines) →
          Each (CallerAsks keys) (if b then record { number = n; home = line.home; under_way = None; retries = []; lines = []; trials = [] } ∷ callers_from column (n + 1) lines
          else callers_from column (n + 1) lines)
      head true rest = (record { retries = tt; lines = tt; trials = tt }, rest)
      head false rest = rest

-- ---- what is named

abbrev WorkedAsks : ℕ → Worked → Type 0
WorkedAsks keys (Quiet d) = Asks keys d
WorkedAsks keys (Names step after d) = Asks keys d

abbrev TurnAsks : ℕ → Turn → Type 0
TurnAsks keys Nothing = Unit {0}
TurnAsks keys (Silent d) = Asks keys d
TurnAsks keys (Steps step after d) = Asks keys d

abbrev ChoiceAsks : ℕ → Choice → Type 0
ChoiceAsks keys chosen = Asks keys chosen.driver

module _ (rules : RuleLines) (round : Setting) (c : ColumnState) (keys : ℕ) where
  -- ---- messages

  taking_asks : (number : ℕ) (msg : Option Msg) (after : List Task) (d : DriverState) → Asks keys d → WorkedAsks keys (taking_by c number msg after d)
  taking_asks number (Some msg) after d h = h
  taking_asks number None after d h = h

  late_asks : (parts : List Part) (number : ℕ) (d : DriverState) → Asks keys d → Asks keys (with_late_by parts number d)
  late_asks [] number d h = h
  late_asks (part ∷ parts) number d h = h

  fate_asks : (end number : ℕ) (fate : Fate) (next : DriverState → Worked) (d : DriverState) → ((e : DriverState) → Asks keys e → WorkedAsks keys (next e)) → Asks keys d →
      WorkedAsks keys (by_fate c end number fate next d)
  fate_asks end number DeliverFate next d f h = taking_asks number (message c.link number) (Deliver (number + 1) end ∷ []) d h
  fate_asks end number Twice next d f h = taking_asks number (message c.link number) (Take number ∷ (Deliver (number + 1) end ∷ [])) d h
  fate_asks end number Lose next d f h = f d h
  fate_asks end number LateFate next d f h = f (with_late number d) (late_asks d.parts number d h)
  fate_asks end number NextRound next d f h = f (with_held number d) h

  delivering_asks : (end : ℕ) (numbers : List ℕ) (d : DriverState) → Asks keys d → WorkedAsks keys (delivering rules c end numbers d)
  delivering_asks end [] d h = h
  delivering_asks end (number ∷ numbers) d h = fate_asks end number (fate_at rules c.link number) (delivering rules c end numbers) d (delivering_asks end numbers) h

  taking_late_asks : (numbers : List ℕ) (d : DriverState) → Asks keys d → WorkedAsks keys (taking_late c numbers d)
  taking_late_asks [] d h = h
  taking_late_asks (number ∷ numbers) d h = taking_asks number (message c.link number) (Late ∷ []) (record d { late = numbers }) h

  noticed_asks : (id : TxnId) (outcome : Option Outcome) (d : DriverState) → Asks keys d → Asks keys (noticed id outcome d)
  noticed_asks id (Some (Abort cause)) d h = changed_asks keys id.client (tried_again id.seq) d (again_asks keys id.seq) h
  noticed_asks id (Some Commit) d h = changed_asks keys id.client (done_with id.seq) d (done_asks keys id.seq) h
  noticed_asks id None d h = h

  -- ---- settling and resuming

  settle_asks : (id : TxnId) (b : Option ℕ) (d : DriverState) → Asks keys d → WorkedAsks keys (settle_by c id b d)
  settle_asks id None d h = h
  settle_asks id (Some condition) d h = h

  settle_takeover_asks : (id : TxnId) (view : ℕ) (b : Option ℕ) (d : DriverState) → Asks keys d → WorkedAsks keys (settle_takeover_by c id view b d)
  settle_takeover_asks id view None d h = h
  settle_takeover_asks id view (Some condition) d h = h

  takeover_asks : (id : TxnId) (view : ℕ) (b : Option ℕ) (d : DriverState) → Asks keys d → WorkedAsks keys (takeover_by c id view b d)
  takeover_asks id view None d h = h
  takeover_asks id view (Some condition) d h = h

  resume_asks : (id : TxnId) (o : Option AttemptState) (d : DriverState) → Asks keys d → WorkedAsks keys (resume_by c id o d)
  resume_asks id None d h = h
  resume_asks id (Some a) d h = by (was_validated c id && not a.stopped && is_none a.coord.learned)
    where
      proposed : (o : Option Outcome) → WorkedAsks keys (resume_with c id o d)
      proposed (Some outcome) = h
      proposed None = h

      by : (b : Bool) → WorkedAsks keys (resume_if c id a b d)
      by true = proposed a.coord.proposed
      by false = h

  -- ---- stages

  stop_asks : (id : TxnId) (b : Option ℕ) (d : DriverState) → Asks keys d → WorkedAsks keys (stopping id b d)
  stop_asks id None d h = h
  stop_asks id (Some condition) d h = h

  reach_asks : (id : TxnId) (point : Point) (b : Bool) (d : DriverState) → Asks keys d → WorkedAsks keys (reach_by round c id point b d)
  reach_asks id point true d h = stop_asks id (blocked round c (Stop id)) d h
  reach_asks id point false d h =
      changed_asks keys id.client (at_stage (record { id = id; reached = point })) d (λ x k. record { retries = k.retries; lines = k.lines; trials = k.trials }) h

  fetch_asks : (id : TxnId) (o : Option AttemptState) (request : Option Request) (d : DriverState) → Asks keys d → WorkedAsks keys (fetching id o request d)
  fetch_asks id (Some a) (Some request) d h = by (next_wanted request.items a.reads)
    where
      by : (key : Option ℕ) → WorkedAsks keys (fetch_by id a.reads request key d)
      by (Some key) = h
      by None = h
  fetch_asks id (Some a) None d h = h
  fetch_asks id None request d h = h

  ruled_asks : (caller : Caller) (id : TxnId) (r : Ruling) (d : DriverState) → Asks keys d → TurnAsks keys (ruled_by c caller id r d)
  ruled_asks caller id (Fast outcome) d h = left_asks keys caller d h
  ruled_asks caller id (Propose outcome) d h = left_asks keys caller d h
  ruled_asks caller id (Learned outcome) d h = left_asks keys caller d h
  ruled_asks caller id (Short n) d h = left_asks keys caller d h
  ruled_asks caller id (Unaccepted n) d h = left_asks keys caller d h

  closed_asks : (caller : Caller) (id : TxnId) (r : Ruling) (d : DriverState) → Asks keys d → TurnAsks keys (closed_by c caller id r d)
  closed_asks caller id (Fast outcome) d h = left_asks keys caller d h
  closed_asks caller id (Propose outcome) d h = left_asks keys caller d h
  closed_asks caller id (Learned outcome) d h = left_asks keys caller d h
  closed_asks caller id (Short n) d h = left_asks keys caller d h
  closed_asks caller id (Unaccepted n) d h = left_asks keys caller d h

  three_asks : (caller : Caller) (id : TxnId) (coord : CoordState) (o : Option Outcome) (d : DriverState) → Asks keys d → TurnAsks keys (stage_three round c caller id coord o d)
  three_asks caller id coord (Some outcome) d h = left_asks keys caller d h
  three_asks caller id coord None d h = ruled_asks caller id (ruling round.faults coord) d h

  four_asks : (caller : Caller) (id : TxnId) (coord : CoordState) (o : Option Outcome) (d : DriverState) → Asks keys d → TurnAsks keys (stage_four round c caller id coord o d)
  four_asks caller id coord (Some outcome) d h = left_asks keys caller d h
  four_asks caller id coord None d h = closed_asks caller id (ruling round.faults coord) d h

  stage_asks : (caller : Caller) (id : TxnId) (point : Point) (o : Option AttemptState) (d : DriverState) → Asks keys d → TurnAsks keys (stage_after round c caller id point o d)
  stage_asks caller id AfterRead (Some a) d h = left_asks keys caller d h
  stage_asks caller id AfterVotes (Some a) d h = three_asks caller id a.coord a.coord.learned d h
  stage_asks caller id AfterAccepts (Some a) d h = four_asks caller id a.coord a.coord.learned d h
  stage_asks caller id AfterRead None d h = left_asks keys caller d h
  stage_asks caller id AfterVotes None d h = left_asks keys caller d h
  stage_asks caller id AfterAccepts None d h = left_asks keys caller d h

  begin_asks : (client : ClientState) (caller : Caller) (reader : Option ℕ) (d : DriverState) → Asks keys d → TurnAsks keys (begin_by client caller reader d)
  begin_asks client caller (Some replica) d h = changed_asks keys caller.number (begun client.next_seq) d (begun_asks keys client.next_seq) h
  begin_asks client caller None d h = changed_asks keys caller.number without_request d (without_asks keys) h

  next_asks : (caller : Caller) (request : Option Request) (d : DriverState) → Asks keys d → TurnAsks keys (begin_next round c caller request d)
  next_asks caller None d h = tt
  next_asks caller (Some request) d h = by (client_of c caller.number)
    where
      by : (client : Option ClientState) → TurnAsks keys (begin_of round client caller d)
      by (Some client) = begin_asks client caller (reader_for round caller.home client.heard) d h
      by None = tt

  turn_asks : (caller : Option Caller) (d : DriverState) → Asks keys d → TurnAsks keys (turn_of round c caller d)
  turn_asks None d h = tt
  turn_asks (Some caller) d h = by caller.under_way
    where
      by : (u : Option Stage) → TurnAsks keys (turn_by round c caller u d)
      by (Some stage) = stage_asks caller stage.id stage.reached (attempt_of c stage.id) d h
      by None = next_asks caller (next_request caller) d h

  -- ---- passes

  after_turn_asks : (place : ℕ) (turn : Turn) (did : Bool) (next : Bool → DriverState → Worked) (d : DriverState) → TurnAsks keys turn → Asks keys d →
      ((b : Bool) (e : DriverState) → Asks keys e → WorkedAsks keys (next b e)) → WorkedAsks keys (after_turn place turn did next d)
  after_turn_asks place Nothing did next d t h f = f did d h
  after_turn_asks place (Silent changed) did next d t h f = f true changed t
  after_turn_asks place (Steps step after changed) did next d t h f = t

  pass_asks : (end : Bool → DriverState → Worked) → ((b : Bool) (e : DriverState) → Asks keys e → WorkedAsks keys (end b e)) → (places : List ℕ) (did : Bool) (d : DriverState) → Asks keys d →
      WorkedAsks keys (in_pass round c end places did d)
  pass_asks end f [] did d h = f did d h
  pass_asks end f (place ∷ places) did d h =
      after_turn_asks place (turn_of round c (slice_get d.callers place) d) did (in_pass round c end places) d (turn_asks (slice_get d.callers place) d h) h (pass_asks end f places)

  passes_ask : (left : ℕ) (did : Bool) (d : DriverState) → Asks keys d → WorkedAsks keys (after_passes left round c did d)
  passes_ask left false d h = h
  passes_ask zero true d h = h
  passes_ask (suc left) true d h = pass_asks (after_passes left round c) (passes_ask left) (numbers_from 0 (length d.callers)) false d h

  -- ---- tasks

  task_asks : (task : Task) (d : DriverState) → Asks keys d → WorkedAsks keys (work_on rules round c task d)
  task_asks (Deliver first end) d h = delivering_asks end (numbers_from first (end - first)) d h
  task_asks (DeliverSince sent) d h = delivering_asks (length c.link + 1) (numbers_from (sent + 1) (length c.link + 1 - (sent + 1))) d h
  task_asks (Take number) d h = taking_asks number (message c.link number) [] d h
  task_asks (Notice id) d h = noticed_asks id (own_learned c id) d h
  task_asks (Fetch id) d h = fetch_asks id (attempt_of c id) (trial_of id d) d h
  task_asks (Reach id point) d h = reach_asks id point (passes (same_point point) (stop_of rules id)) d h
  task_asks (Resume id) d h = resume_asks id (attempt_of c id) d h
  task_asks (Turns place did) d h = pass_asks (after_passes 2 round c) (passes_ask 2) (numbers_from place (length d.callers - place)) did d h
  task_asks (Takeover id view) d h = takeover_asks id view (blocked round c (TakeoverStep id view)) d h
  task_asks Late d h = taking_late_asks d.late d h
  task_asks (Settle id) d h = settle_asks id (blocked round c (Rule id)) d h
  task_asks (SettleTakeover id view) d h = settle_takeover_asks id view (blocked round c (Pick id view)) d h

  or_next_asks : (worked : Worked) (next : DriverState → Choice) → WorkedAsks keys worked → ((d : DriverState) → Asks keys d → ChoiceAsks keys (next d)) → ChoiceAsks keys (or_next worked next)
  or_next_asks (Quiet d) next h f = f d h
  or_next_asks (Names step after d) next h f = h

  agenda_asks : (end : DriverState → Choice) → ((d : DriverState) → Asks keys d → ChoiceAsks keys (end d)) → (tasks : List Task) (d : DriverState) → Asks keys d →
      ChoiceAsks keys (in_agenda rules round c end tasks d)
  agenda_asks end f [] d h = f (with_agenda [] d) h
  agenda_asks end f (task ∷ tasks) d h =
      or_next_asks (work_on rules round c task (with_agenda tasks d)) (in_agenda rules round c end tasks) (task_asks task (with_agenda tasks d) h) (agenda_asks end f tasks)

  parts_ask : (parts : List Part) (d : DriverState) → Asks keys d → ChoiceAsks keys (in_parts rules round c parts d)
  parts_ask [] d h = h
  parts_ask (part ∷ parts) d h = agenda_asks (in_parts rules round c parts) (parts_ask parts) (tasks_of c d part) (with_part c part parts d) h

  pub choice_asks : (d : DriverState) → Asks keys d → ChoiceAsks keys (choice rules round c d)
  choice_asks d h = by (wanted c.work)
    where
      by : (o : Option KeyCall) → ChoiceAsks keys (unless_wanted rules round c o d)
      by (Some call) = h
      by None = agenda_asks (in_parts rules round c d.parts) (parts_ask d.parts) d.agenda d h
