-- What the tasks and parts name takes a place only where one is left, and the places that are left still do.
use Rattle.std.proofs.Common.{◌≡◌, ◌≤◌, ℕ, zero, suc, ◌+◌, ◌-◌, Bool, true, false, refl, arith, List, [], ◌∷◌, length, Option, Some, None, not, ◌&&◌}
use Rattle.std.specs.Prelude.{is_none, slice_get}
use Rattle.mk_txn.specs.declared.TxnId.{TxnId}
use Rattle.mk_txn.specs.declared.ReadItem.{ReadItem}
use Rattle.mk_txn.specs.declared.Outcome.{Outcome}
use Rattle.mk_txn.specs.declared.Outcome.TheVariants.{Commit, Abort}
use Rattle.mk_words.specs.declared.Msg.{Msg}
use Rattle.mk_words.specs.Links.{message}
use Rattle.mk_quorum.specs.Slots.{passes}
use Rattle.mk_client.specs.Computed.{writes_of}
use Rattle.mk_client.specs.Wanted.{next_wanted}
use Rattle.mk_script.specs.declared.lines.Point.{Point}
use Rattle.mk_script.specs.declared.lines.Fate.{Fate}
use Rattle.mk_script.specs.declared.lines.Fate.TheVariants.{Deliver as DeliverFate, Lose, Twice, Late as LateFate, NextRound}
use Rattle.mk_faults.specs.Fates.{RuleLines, fate_at, stop_of}
use Rattle.mk_words.specs.declared.KeyCall.{KeyCall}
use Rattle.mk_words.specs.declared.Step.{Step}
use Rattle.mk_words.specs.declared.Step.TheVariants.{Read, Stamp, Validate, Take as TakeStep, Rule, Again, Takeover as TakeoverStep, Pick, Stop}
use Rattle.mk_model.specs.ColumnState.{Setting, ColumnState, AttemptState, attempt_of, numbers_from}
use Rattle.mk_model.specs.Conditions.{blocked, wanted}
use Rattle.mk_model.specs.Steps.{column_after}
use Rattle.mk_driver.specs.declared.DriverState.{DriverState}
use Rattle.mk_driver.specs.declared.Part.{Part}
use Rattle.mk_driver.specs.declared.Request.{Request}
use Rattle.mk_driver.specs.declared.Task.{Task}
use Rattle.mk_driver.specs.declared.Task.TheVariants.{Deliver, DeliverSince, Take, Notice, Fetch, Reach, Resume, Turns, Takeover, Late, Settle, SettleTakeover}
use Rattle.mk_driver.specs.declared.Next.{Next}
use Rattle.mk_driver.specs.declared.Next.TheVariants.{Step as StepNext, Key as KeyNext, Over}
use Rattle.mk_driver.specs.Agenda.{Worked, is_caller, trial_of, with_held, with_late, with_late_by}
use Rattle.mk_driver.specs.Agenda.Worked.{Quiet, Names}
use Rattle.mk_driver.specs.Delivery.{taking_by, by_fate, delivering, taking_late, done_with, tried_again, noticed, own_learned}
use Rattle.mk_driver.specs.Settling.{was_validated, settle_by, settle_takeover_by, takeover_by, resume_with, resume_if, resume_by}
use Rattle.mk_driver.specs.Stages.{Turn, turn_of, at_stage, fetch_by, fetching, same_point, stopping, reach_by}
use Rattle.mk_driver.specs.Stages.Turn.{Nothing, Silent, Steps}
use Rattle.mk_driver.specs.Passes.{after_turn, in_pass, after_passes}
use Rattle.mk_driver.specs.Turns.{Choice, work_on, tasks_of, with_agenda, or_next, in_agenda, with_part, in_parts, unless_wanted, choice}
use Rattle.mk_driver_laws.proofs.Remaining.{again_remains, done_remains}
use Rattle.mk_driver_laws.proofs.NextPlaces.{takes_place}
use Rattle.mk_driver_laws.proofs.Places.{Placed, placed_less, placed_after}
use Rattle.mk_driver_laws.proofs.Sure.{HasPlace}
use Rattle.mk_driver_laws.proofs.PlaceTurns.{DriverPlaced, TurnPlaced, turn_placed}

-- what is named, and the driver then
abbrev pub NamedPlaced : ℕ → Setting → ColumnState → Next → DriverState → Type 0
NamedPlaced limit round c (StepNext step) d = HasPlace c step × Placed limit (column_after round c step).clients d.callers
NamedPlaced limit round c (KeyNext call) d = Placed limit c.clients d.callers
NamedPlaced limit round c Over d = Placed limit c.clients d.callers

module _ (limit : ℕ) (few : limit ≤ 16385) (rules : RuleLines) (round : Setting) (c : ColumnState) where
  abbrev pub ChoicePlaced : Choice → Type 0
  ChoicePlaced chosen = NamedPlaced limit round c chosen.next chosen.driver

  -- the places of this driver's clients
  abbrev pub IsPlaced : DriverState → Type 0
  IsPlaced d = DriverPlaced limit few round c d

  abbrev pub WorkedPlaced : Worked → Type 0
  WorkedPlaced (Quiet d) = IsPlaced d
  WorkedPlaced (Names step after d) = HasPlace c step × Placed limit (column_after round c step).clients d.callers

  after : (step : Step) → takes_place step ≡ false → (d : DriverState) → IsPlaced d → Placed limit (column_after round c step).clients d.callers
  after step b d h = placed_after limit round c step b d.callers h

  -- ---- messages

  taking_placed : (number : ℕ) (msg : Option Msg) (tasks : List Task) (d : DriverState) → IsPlaced d → WorkedPlaced (taking_by c number msg tasks d)
  taking_placed number (Some msg) tasks d h = (tt, after (TakeStep number) refl d h)
  taking_placed number None tasks d h = (tt, after (TakeStep number) refl d h)

  late_placed : (number : ℕ) (parts : List Part) (d : DriverState) → IsPlaced d → IsPlaced (with_late_by parts number d)
  late_placed number [] d h = h
  late_placed number (part ∷ parts) d h = h

  by_fate_placed : (end number : ℕ) (fate : Fate) (next : DriverState → Worked) (d : DriverState) → ((e : DriverState) → IsPlaced e → WorkedPlaced (next e)) → IsPlaced d →
      WorkedPlaced (by_fate c end number fate next d)
  by_fate_placed end number DeliverFate next d f h = taking_placed number (message c.link number) (Deliver (number + 1) end ∷ []) d h
  by_fate_placed end number Twice next d f h = taking_placed number (message c.link number) (Take number ∷ (Deliver (number + 1) end ∷ [])) d h
  by_fate_placed end number Lose next d f h = f d h
  by_fate_placed end number LateFate next d f h = f (with_late number d) (late_placed number d.parts d h)
  by_fate_placed end number NextRound next d f h = f (with_held number d) h

  delivering_placed : (end : ℕ) (numbers : List ℕ) (d : DriverState) → IsPlaced d → WorkedPlaced (delivering rules c end numbers d)
  delivering_placed end [] d h = h
  delivering_placed end (number ∷ numbers) d h =
      by_fate_placed end number (fate_at rules c.link number) (delivering rules c end numbers) d (delivering_placed end numbers) h

  taking_late_placed : (numbers : List ℕ) (d : DriverState) → IsPlaced d → WorkedPlaced (taking_late c numbers d)
  taking_late_placed [] d h = h
  taking_late_placed (number ∷ numbers) d h = taking_placed number (message c.link number) (Late ∷ []) (record d { late = numbers }) h

  noticed_placed : (id : TxnId) (outcome : Option Outcome) (d : DriverState) → IsPlaced d → IsPlaced (noticed id outcome d)
  noticed_placed id (Some (Abort cause)) d h = placed_less limit c.clients (is_caller id.client) (tried_again id.seq) (λ x. refl) (again_remains id.seq) d.callers h
  noticed_placed id (Some Commit) d h = placed_less limit c.clients (is_caller id.client) (done_with id.seq) (λ x. refl) (done_remains id.seq) d.callers h
  noticed_placed id None d h = h

  -- ---- attempts

  fetch_by_placed : (id : TxnId) (reads : List ReadItem) (request : Request) (key : Option ℕ) (d : DriverState) → IsPlaced d → WorkedPlaced (fetch_by id reads request key d)
  fetch_by_placed id reads request (Some key) d h = (tt, after (Read id key) refl d h)
  fetch_by_placed id reads request None d h = (tt, after (Stamp id request.clock (writes_of request.items reads)) refl d h)

  fetching_placed : (id : TxnId) (o : Option AttemptState) (request : Option Request) (d : DriverState) → IsPlaced d → WorkedPlaced (fetching id o request d)
  fetching_placed id (Some a) (Some request) d h = fetch_by_placed id a.reads request (next_wanted request.items a.reads) d h
  fetching_placed id (Some a) None d h = h
  fetching_placed id None request d h = h

  stopping_placed : (id : TxnId) (b : Option ℕ) (d : DriverState) → IsPlaced d → WorkedPlaced (stopping id b d)
  stopping_placed id None d h = (tt, after (Stop id) refl d h)
  stopping_placed id (Some condition) d h = h

  reach_placed : (id : TxnId) (point : Point) (b : Bool) (d : DriverState) → IsPlaced d → WorkedPlaced (reach_by round c id point b d)
  reach_placed id point true d h = stopping_placed id (blocked round c (Stop id)) d h
  reach_placed id point false d h =
      placed_less limit c.clients (is_caller id.client) (at_stage (record { id = id; reached = point })) (λ x. refl) (λ x. omega arith) d.callers h

  resume_with_placed : (id : TxnId) (o : Option Outcome) (d : DriverState) → IsPlaced d → WorkedPlaced (resume_with c id o d)
  resume_with_placed id (Some outcome) d h = (tt, after (Again id) refl d h)
  resume_with_placed id None d h = (tt, after (Validate id) refl d h)

  resume_if_placed : (id : TxnId) (a : AttemptState) (b : Bool) (d : DriverState) → IsPlaced d → WorkedPlaced (resume_if c id a b d)
  resume_if_placed id a true d h = resume_with_placed id a.coord.proposed d h
  resume_if_placed id a false d h = h

  resume_placed : (id : TxnId) (o : Option AttemptState) (d : DriverState) → IsPlaced d → WorkedPlaced (resume_by c id o d)
  resume_placed id (Some a) d h = resume_if_placed id a (was_validated c id && not a.stopped && is_none a.coord.learned) d h
  resume_placed id None d h = h

  -- ---- settling

  settle_placed : (id : TxnId) (b : Option ℕ) (d : DriverState) → IsPlaced d → WorkedPlaced (settle_by c id b d)
  settle_placed id None d h = (tt, after (Rule id) refl d h)
  settle_placed id (Some condition) d h = h

  settle_takeover_placed : (id : TxnId) (view : ℕ) (b : Option ℕ) (d : DriverState) → IsPlaced d → WorkedPlaced (settle_takeover_by c id view b d)
  settle_takeover_placed id view None d h = (tt, after (Pick id view) refl d h)
  settle_takeover_placed id view (Some condition) d h = h

  takeover_placed : (id : TxnId) (view : ℕ) (b : Option ℕ) (d : DriverState) → IsPlaced d → WorkedPlaced (takeover_by c id view b d)
  takeover_placed id view None d h = (tt, after (TakeoverStep id view) refl d h)
  takeover_placed id view (Some condition) d h = h

  -- ---- passes

  after_turn_placed : (place : ℕ) (turn : Turn) (did : Bool) (next : Bool → DriverState → Worked) (d : DriverState) → TurnPlaced limit few round c turn → IsPlaced d →
      ((b : Bool) (e : DriverState) → IsPlaced e → WorkedPlaced (next b e)) → WorkedPlaced (after_turn place turn did next d)
  after_turn_placed place Nothing did next d t h f = f did d h
  after_turn_placed place (Silent changed) did next d t h f = f true changed t
  after_turn_placed place (Steps step tasks changed) did next d t h f = t

  in_pass_placed : (end : Bool → DriverState → Worked) → ((b : Bool) (e : DriverState) → IsPlaced e → WorkedPlaced (end b e)) →
      (places : List ℕ) (did : Bool) (d : DriverState) → IsPlaced d → WorkedPlaced (in_pass round c end places did d)
  in_pass_placed end f [] did d h = f did d h
  in_pass_placed end f (place ∷ places) did d h =
      after_turn_placed place (turn_of round c (slice_get d.callers place) d) did (in_pass round c end places) d
      (turn_placed limit few round c place (slice_get d.callers place) d refl h) h (in_pass_placed end f places)

  after_passes_placed : (left : ℕ) (did : Bool) (d : DriverState) → IsPlaced d → WorkedPlaced (after_passes left round c did d)
  after_passes_placed left false d h = h
  after_passes_placed zero true d h = h
  after_passes_placed (suc left) true d h =
      in_pass_placed (after_passes left round c) (after_passes_placed left) (numbers_from 0 (length d.callers)) false d h

  -- ---- tasks and parts

  task_placed : (task : Task) (d : DriverState) → IsPlaced d → WorkedPlaced (work_on rules round c task d)
  task_placed (Deliver first end) d h = delivering_placed end (numbers_from first (end - first)) d h
  task_placed (DeliverSince sent) d h = delivering_placed (length c.link + 1) (numbers_from (sent + 1) (length c.link + 1 - (sent + 1))) d h
  task_placed (Take number) d h = taking_placed number (message c.link number) [] d h
  task_placed (Notice id) d h = noticed_placed id (own_learned c id) d h
  task_placed (Fetch id) d h = fetching_placed id (attempt_of c id) (trial_of id d) d h
  task_placed (Reach id point) d h = reach_placed id point (passes (same_point point) (stop_of rules id)) d h
  task_placed (Resume id) d h = resume_placed id (attempt_of c id) d h
  task_placed (Turns place did) d h = in_pass_placed (after_passes 2 round c) (after_passes_placed 2) (numbers_from place (length d.callers - place)) did d h
  task_placed (Takeover id view) d h = takeover_placed id view (blocked round c (TakeoverStep id view)) d h
  task_placed Late d h = taking_late_placed d.late d h
  task_placed (Settle id) d h = settle_placed id (blocked round c (Rule id)) d h
  task_placed (SettleTakeover id view) d h = settle_takeover_placed id view (blocked round c (Pick id view)) d h

  or_next_placed : (worked : Worked) (next : DriverState → Choice) → WorkedPlaced worked → ((d : DriverState) → IsPlaced d → ChoicePlaced (next d)) → ChoicePlaced (or_next worked next)
  or_next_placed (Quiet d) next w f = f d w
  or_next_placed (Names step tasks d) next w f = w

  in_agenda_placed : (end : DriverState → Choice) → ((d : DriverState) → IsPlaced d → ChoicePlaced (end d)) → (tasks : List Task) (d : DriverState) → IsPlaced d →
      ChoicePlaced (in_agenda rules round c end tasks d)
  in_agenda_placed end f [] d h = f (with_agenda [] d) h
  in_agenda_placed end f (task ∷ tasks) d h =
      or_next_placed (work_on rules round c task (with_agenda tasks d)) (in_agenda rules round c end tasks) (task_placed task (with_agenda tasks d) h) (in_agenda_placed end f tasks)

  in_parts_placed : (parts : List Part) (d : DriverState) → IsPlaced d → ChoicePlaced (in_parts rules round c parts d)
  in_parts_placed [] d h = h
  in_parts_placed (part ∷ parts) d h = in_agenda_placed (in_parts rules round c parts) (in_parts_placed parts) (tasks_of c d part) (with_part c part parts d) h

  wanted_placed : (call : Option KeyCall) (d : DriverState) → IsPlaced d → ChoicePlaced (unless_wanted rules round c call d)
  wanted_placed (Some call) d h = h
  wanted_placed None d h = in_agenda_placed (in_parts rules round c d.parts) (in_parts_placed d.parts) d.agenda d h

  -- what a driver names takes a place only where one is left
  pub choice_placed : (d : DriverState) → IsPlaced d → ChoicePlaced (choice rules round c d)
  choice_placed d h = wanted_placed (wanted c.work) d h
