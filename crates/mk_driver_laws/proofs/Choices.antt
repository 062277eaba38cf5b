-- What the tasks and parts name is enabled.
use Rattle.std.proofs.Common.{inl, inr, sym, subst, ◌≡◌, ℕ, zero, suc, ◌+◌, ◌-◌, Bool, true, false, refl, arith, List, [], ◌∷◌, ◌++◌, length, Option, Some, None, if◌then◌else◌}
use Rattle.std.specs.Prelude.{slice_get, flat_map}
use Rattle.mk_lists.specs.Among.{Each, Each-append}
use Rattle.mk_txn.specs.declared.TxnId.{TxnId}
use Rattle.mk_quorum.specs.Slots.{passes}
use Rattle.mk_faults.specs.Fates.{RuleLines, stop_of}
use Rattle.mk_words.specs.declared.KeyCall.{KeyCall}
use Rattle.mk_words.specs.declared.Step.TheVariants.{Rule, Takeover as TakeoverStep, Pick}
use Rattle.mk_model.specs.ColumnState.{Setting, ColumnState, client_of, attempt_of, numbers_from, open_at}
use Rattle.mk_model.specs.Conditions.{blocked, is_idle, wanted}
use Rattle.mk_model.specs.Steps.{column_after}
use Rattle.mk_driver.specs.declared.DriverState.{DriverState}
use Rattle.mk_driver.specs.declared.Caller.{Caller}
use Rattle.mk_driver.specs.declared.Part.{Part}
use Rattle.mk_driver.specs.declared.Part.TheVariants.{Resume as ResumePart, Turns as TurnsPart, Takeovers as TakeoversPart, Late as LatePart, Settle as SettlePart}
use Rattle.mk_driver.specs.declared.Task.{Task}
use Rattle.mk_driver.specs.declared.Task.TheVariants.{Deliver, DeliverSince, Take, Notice, Fetch, Reach, Resume, Turns, Takeover, Late, Settle, SettleTakeover}
use Rattle.mk_driver.specs.Agenda.{Worked}
use Rattle.mk_driver.specs.Agenda.Worked.{Quiet, Names}
use Rattle.mk_driver.specs.Delivery.{own_learned}
use Rattle.mk_driver.specs.Stages.{Turn, turn_of, same_point}
use Rattle.mk_driver.specs.Stages.Turn.{Nothing, Silent, Steps}
use Rattle.mk_driver.specs.Settling.{was_validated, seqs_of}
use Rattle.mk_driver.specs.Passes.{after_turn, in_pass, after_passes}
use Rattle.mk_driver.specs.Turns.{Choice, work_on, attempt_task, attempt_tasks, open_task, tasks_of, with_agenda, or_next, in_agenda, with_part, in_parts, unless_wanted, choice}
use Rattle.mk_driver_laws.proofs.ColumnMoves.{ColumnFits}
use Rattle.mk_driver_laws.proofs.Reading.{NoneReads}
use Rattle.mk_driver_laws.proofs.Named.{ChoiceFits}
use Rattle.mk_driver_laws.proofs.Asked.{Asks, trial_asks}
use Rattle.mk_driver_laws.proofs.Fetching.{fetch_fits}
use Rattle.mk_driver_laws.proofs.Frames.{idle_by}
use Rattle.mk_driver_laws.proofs.DriverFits.{WholeFits, FetchFirst, whole_plain, whole_split, BehindFits, Behind, DriverFits, behind_fit}
use Rattle.mk_driver_laws.proofs.Walk.{Done, WorkedFits, delivering_from_fits, take_fits, late_fits, noticed_fits, settle_fits, settle_takeover_fits, takeover_fits, resume_fits, reach_fits}
use Rattle.mk_driver_laws.proofs.ClientTurns.{retask, TurnFits, turn_fits}

-- ---- passes

module _ (rules : RuleLines) (round : Setting) (c : ColumnState) (k : ColumnFits round.faults c) (idle : is_idle c.work ≡ true) (none : NoneReads c) (tasks : List Task) (behind : Behind (length c.link) tasks) where
  after_turn_fits : (place : ℕ) (turn : Turn) (did : Bool) (next : Bool → DriverState → Worked) (d : DriverState) → TurnFits rules round c k idle none tasks behind turn →
      Done rules round c k idle none tasks d → ((b : Bool) (e : DriverState) → Done rules round c k idle none tasks e → WorkedFits rules round c k idle none tasks (next b e)) →
      WorkedFits rules round c k idle none tasks (after_turn place turn did next d)
  after_turn_fits place Nothing did next d t g f = f did d g
  after_turn_fits place (Silent changed) did next d t g f = f true changed t
  after_turn_fits place (Steps step after changed) did next d t g f = (t.0, λ b. t.1 b (place + 1))

  in_pass_fits : (end : Bool → DriverState → Worked) → ((b : Bool) (e : DriverState) → Done rules round c k idle none tasks e → WorkedFits rules round c k idle none tasks (end b e)) →
      (places : List ℕ) (did : Bool) (d : DriverState) → Done rules round c k idle none tasks d → WorkedFits rules round c k idle none tasks (in_pass round c end places did d)
  in_pass_fits end f [] did d g = f did d g
  in_pass_fits end f (place ∷ places) did d g =
      after_turn_fits place (turn_of round c (slice_get d.callers place) d) did (in_pass round c end places) d
      (turn_fits rules round c k idle none tasks behind place (slice_get d.callers place) d refl g) g (in_pass_fits end f places)

  after_passes_fits : (left : ℕ) (did : Bool) (d : DriverState) → Done rules round c k idle none tasks d → WorkedFits rules round c k idle none tasks (after_passes left round c did d)
  after_passes_fits left false d g = g
  after_passes_fits zero true d g = g
  after_passes_fits (suc left) true d g =
      in_pass_fits (after_passes left round c) (after_passes_fits left) (numbers_from 0 (length d.callers)) false d g

  pub turns_fit : (place : ℕ) (did : Bool) (d : DriverState) → Done rules round c k idle none tasks d → WorkedFits rules round c k idle none tasks (work_on rules round c (Turns place did) d)
  turns_fit place did d g =
      in_pass_fits (after_passes 2 round c) (after_passes_fits 2) (numbers_from place (length d.callers - place)) did d g

-- ---- the tasks with which a part begins

each_flat : {X : Type 0} (P : Task → Type 0) (g : X → List Task) → ((x : X) → Each P (g x)) → (xs : List X) → Each P (flat_map g xs)
each_flat P g h [] = tt
each_flat P g h (x ∷ xs) = Each-append P (g x) (flat_map g xs) (h x) (each_flat P g h xs)

attempt_behind : (n : ℕ) (c : ColumnState) (part : Part) (id : TxnId) → Behind n (attempt_task c part id)
attempt_behind n c ResumePart id = (tt, tt)
attempt_behind n c SettlePart id = by (was_validated c id)
  where
    by : (b : Bool) → Behind n (if b then Settle id ∷ [] else [])
    by true = (tt, tt)
    by false = tt
attempt_behind n c TurnsPart id = tt
attempt_behind n c TakeoversPart id = tt
attempt_behind n c LatePart id = tt

attempts_behind : (n : ℕ) (c : ColumnState) (part : Part) (client : ℕ) → Behind n (attempt_tasks c part client)
attempts_behind n c part client =
    each_flat (BehindFits n) (λ seq. attempt_task c part (record { client = client; seq = seq })) (λ seq. attempt_behind n c part (record { client = client; seq = seq })) (seqs_of (client_of c client))

open_behind : (n : ℕ) (o : Option (TxnId × ℕ)) → Behind n (open_task o)
open_behind n (Some turn) = (tt, tt)
open_behind n None = tt

tasks_behind : (n : ℕ) (c : ColumnState) (d : DriverState) (part : Part) → Behind n (tasks_of c d part)
tasks_behind n c d ResumePart = each_flat (BehindFits n) (λ (caller : Caller). attempt_tasks c ResumePart caller.number) (λ caller. attempts_behind n c ResumePart caller.number) d.callers
tasks_behind n c d TurnsPart = (tt, tt)
tasks_behind n c d TakeoversPart = each_flat (BehindFits n) (λ line. Takeover line.id line.view ∷ []) (λ line. (tt, tt)) d.takeovers
tasks_behind n c d LatePart = (tt, tt)
tasks_behind n c d SettlePart =
    Each-append (BehindFits n) (flat_map (λ (caller : Caller). attempt_tasks c SettlePart caller.number) d.callers)
    (flat_map (λ place. open_task (open_at c place)) (numbers_from 0 (length c.takeovers)))
    (each_flat (BehindFits n) (λ (caller : Caller). attempt_tasks c SettlePart caller.number) (λ caller. attempts_behind n c SettlePart caller.number) d.callers)
    (each_flat (BehindFits n) (λ place. open_task (open_at c place)) (λ place. open_behind n (open_at c place)) (numbers_from 0 (length c.takeovers)))

-- ---- agendas

-- the same of a driver that has the same lists
pub redrive : (c : ColumnState) (tasks : List Task) (d : DriverState) (agenda : List Task) (parts : List Part) → DriverFits c tasks d → DriverFits c tasks (record d { agenda = agenda; parts = parts })
redrive c tasks d agenda parts h = record { tasks_fit = h.tasks_fit; late = h.late; held = h.held; callers = h.callers; rising = h.rising }

-- and so with the attempt that reads
rewhole : (c : ColumnState) (tasks : List Task) (d : DriverState) (agenda : List Task) (parts : List Part) → WholeFits c d tasks → WholeFits c (record d { agenda = agenda; parts = parts }) tasks
rewhole c tasks d agenda parts h =
    elim (whole_split c tasks d h) [
      | inl f ↦ (let rest = f.rest in let id = f.id in
          subst (λ (ts : List Task). WholeFits c (record d { agenda = agenda; parts = parts }) ts) (sym f.first) (f.fetch, f.one, f.behind, redrive c rest d agenda parts f.driver))
      | inr n ↦ whole_plain c tasks (record d { agenda = agenda; parts = parts }) n.0 (redrive c tasks d agenda parts n.1)
    ]

module _ (rules : RuleLines) (round : Setting) (c : ColumnState) (k : ColumnFits round.faults c) (idle : is_idle c.work ≡ true) (none : NoneReads c) where
  -- a task behind which there are these
  task_fits : (task : Task) (tasks : List Task) (d : DriverState) → d.agenda ≡ tasks → DriverFits c (task ∷ tasks) d → WorkedFits rules round c k idle none tasks (work_on rules round c task d)
  task_fits (Deliver first end) tasks d e h =
      let t = h.tasks_fit in delivering_from_fits rules round c k idle none tasks first end d t.0.0 t.0.1 (e, retask c (Deliver first end ∷ tasks) tasks d h t.1)
  task_fits (DeliverSince sent) tasks d e h =
      delivering_from_fits rules round c k idle none tasks (sent + 1) (length c.link + 1) d (omega arith) (omega arith) (e, retask c (DeliverSince sent ∷ tasks) tasks d h h.tasks_fit)
  task_fits (Take number) tasks d e h =
      let t = h.tasks_fit in take_fits rules round c k idle none tasks number d t.0 (e, retask c (Take number ∷ tasks) tasks d h t.1)
  task_fits (Notice id) tasks d e h = noticed_fits rules round c k idle none tasks id (own_learned c id) d (e, retask c (Notice id ∷ tasks) tasks d h h.tasks_fit)
  task_fits (Fetch id) tasks d e h = absurd h.tasks_fit
  task_fits (Reach id point) tasks d e h =
      let t = h.tasks_fit in
      reach_fits rules round c k idle none tasks id point (passes (same_point point) (stop_of rules id)) d (e, retask c (Reach id point ∷ tasks) tasks d h (behind_fit c d.callers tasks t.1)) t.1 t.0
  task_fits (Resume id) tasks d e h = resume_fits rules round c k idle none tasks id (attempt_of c id) d refl (e, retask c (Resume id ∷ tasks) tasks d h h.tasks_fit)
  task_fits (Turns place did) tasks d e h =
      turns_fit rules round c k idle none tasks h.tasks_fit place did d (e, retask c (Turns place did ∷ tasks) tasks d h (behind_fit c d.callers tasks h.tasks_fit))
  task_fits (Takeover id view) tasks d e h =
      takeover_fits rules round c k idle none tasks id view (blocked round c (TakeoverStep id view)) d refl (e, retask c (Takeover id view ∷ tasks) tasks d h h.tasks_fit)
  task_fits Late tasks d e h = late_fits rules round c k idle none tasks d.late d h.late (e, retask c (Late ∷ tasks) tasks d h h.tasks_fit)
  task_fits (Settle id) tasks d e h = settle_fits rules round c k idle none tasks id (blocked round c (Rule id)) d refl (e, retask c (Settle id ∷ tasks) tasks d h h.tasks_fit)
  task_fits (SettleTakeover id view) tasks d e h =
      settle_takeover_fits rules round c k idle none tasks id view (blocked round c (Pick id view)) d refl (e, retask c (SettleTakeover id view ∷ tasks) tasks d h h.tasks_fit)

  or_next_fits : (tasks : List Task) (worked : Worked) (next : DriverState → Choice) → WorkedFits rules round c k idle none tasks worked →
      ((d : DriverState) → DriverFits c tasks d → ChoiceFits round c (next d)) → ChoiceFits round c (or_next worked next)
  or_next_fits tasks (Quiet d) next w f = f d w.1
  or_next_fits tasks (Names step after d) next w f = (w.0, λ b. rewhole (column_after round c step) (after ++ d.agenda) d (after ++ d.agenda) d.parts (w.1 b))

  in_agenda_fits : (end : DriverState → Choice) → ((d : DriverState) → DriverFits c [] d → ChoiceFits round c (end d)) →
      (tasks : List Task) (d : DriverState) → DriverFits c tasks d → ChoiceFits round c (in_agenda rules round c end tasks d)
  in_agenda_fits end f [] d h = f (with_agenda [] d) (redrive c [] d [] d.parts h)
  in_agenda_fits end f (task ∷ tasks) d h =
      or_next_fits tasks (work_on rules round c task (with_agenda tasks d)) (in_agenda rules round c end tasks)
      (task_fits task tasks (with_agenda tasks d) refl (redrive c (task ∷ tasks) d tasks d.parts h)) (in_agenda_fits end f tasks)

  in_parts_fits : (parts : List Part) (d : DriverState) → DriverFits c [] d → ChoiceFits round c (in_parts rules round c parts d)
  in_parts_fits [] d h = (none, h)
  in_parts_fits (part ∷ parts) d h =
      in_agenda_fits (in_parts rules round c parts) (in_parts_fits parts) (tasks_of c d part) (with_part c part parts d)
      (retask c [] (tasks_of c d part) (with_part c part parts d) (redrive c [] d (tasks_of c d part) parts h)
      (behind_fit c d.callers (tasks_of c d part) (tasks_behind (length c.link) c d part)))

  pub agenda_fits : (d : DriverState) → DriverFits c d.agenda d → ChoiceFits round c (in_agenda rules round c (in_parts rules round c d.parts) d.agenda d)
  agenda_fits d h = in_agenda_fits (in_parts rules round c d.parts) (in_parts_fits d.parts) d.agenda d h

-- what a driver names is enabled
pub choice_fits : (rules : RuleLines) (round : Setting) (c : ColumnState) → ColumnFits round.faults c → (d : DriverState) → Asks round.keys d → WholeFits c d d.agenda →
    ChoiceFits round c (choice rules round c d)
choice_fits rules round c k d asks h = by (wanted c.work) refl
  where
    fetches : (tasks : List Task) → is_idle c.work ≡ true → FetchFirst c d tasks → ChoiceFits round c (in_agenda rules round c (in_parts rules round c d.parts) tasks d)
    fetches tasks idle f =
        let rest = f.rest in
        let id = f.id in
        let fetch = f.fetch in
        subst (λ (ts : List Task). ChoiceFits round c (in_agenda rules round c (in_parts rules round c d.parts) ts d)) (sym f.first)
        (fetch_fits round c k id rest f.behind f.one idle (with_agenda rest d) (in_agenda rules round c (in_parts rules round c d.parts) rest) refl
        (trial_asks round.keys id d asks) (redrive c rest d rest d.parts f.driver) fetch)

    by : (o : Option KeyCall) → wanted c.work ≡ o → ChoiceFits round c (unless_wanted rules round c o d)
    by (Some call) e = h
    by None e =
        elim (whole_split c d.agenda d h) [
          | inl f ↦ fetches d.agenda (idle_by c.link c.work k.work e) f
          | inr n ↦ agenda_fits rules round c k (idle_by c.link c.work k.work e) n.0 d n.1
        ]
