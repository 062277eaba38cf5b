-- What is named next in a quiet column: a step that goes on with an attempt, or nothing once every attempt is done.
use Rattle.std.proofs.Common.{◌≡◌, ◌⊎◌, ◌≤◌, ◌∙◌, ℕ, suc, ◌+◌, Bool, true, false, refl, arith, inl, inr, sym, ap, subst, List, [], ◌∷◌, ◌++◌, length, Option, Some, None, cond}
use Rattle.std.specs.Prelude.{find, slice_get, nat_lt, flat_map, is_none, option_map}
use Rattle.std.proofs.lemmas.Bool.Decides.{nat_tests}
use Rattle.std.proofs.lemmas.Bool.{cond_both}
use Rattle.std.proofs.lemmas.Option.{same_Some}
use Rattle.std.proofs.lemmas.List.{append-nil}
use Rattle.mk_lists.specs.Among.{Among, Each, Each-append}
use Rattle.mk_lists.specs.Changed.{change}
use Rattle.mk_txn.specs.declared.TxnId.{TxnId}
use Rattle.mk_txn.specs.declared.Outcome.{Outcome}
use Rattle.mk_txn.specs.declared.Outcome.TheVariants.{Commit, Abort}
use Rattle.mk_words.specs.declared.Msg.{Msg}
use Rattle.mk_words.specs.Links.{message}
use Rattle.mk_words.specs.declared.Ruling.TheVariants.{Fast}
use Rattle.mk_words.specs.Rulings.{ruling}
use Rattle.mk_quorum.specs.Slots.{passes}
use Rattle.mk_quorum.proofs.Slots.{passes-some}
use Rattle.mk_script.specs.declared.lines.Fate.TheVariants.{Deliver as DeliverFate}
use Rattle.mk_script.specs.declared.lines.Point.{Point}
use Rattle.mk_script.specs.declared.lines.Point.TheVariants.{Read as AfterRead}
use Rattle.mk_faults.specs.Fates.{RuleLines, fate_at, stop_of}
use Rattle.mk_client.specs.Wanted.{next_wanted}
use Rattle.mk_words.specs.declared.KeyCall.{KeyCall}
use Rattle.mk_words.specs.declared.Step.{Step}
use Rattle.mk_words.specs.declared.Step.TheVariants.{Take as TakeStep, Rule}
use Rattle.mk_model.specs.ColumnState.{Setting, ColumnState, AttemptState, attempt_of, numbers_from}
use Rattle.mk_model.specs.Conditions.{blocked, wanted}
use Rattle.mk_model.proofs.Frames.{enabled}
use Rattle.mk_driver.specs.declared.Next.{Next}
use Rattle.mk_driver.specs.declared.Next.TheVariants.{Step as StepNext, Key as KeyNext, Over}
use Rattle.mk_driver.specs.declared.Part.{Part}
use Rattle.mk_driver.specs.declared.Part.TheVariants.{Takeovers as TakeoversPart, Late as LatePart, Settle as SettlePart}
use Rattle.mk_driver.specs.declared.Task.{Task}
use Rattle.mk_driver.specs.declared.Task.TheVariants.{Deliver, DeliverSince, Take as TakeTask, Notice, Fetch, Reach, Resume, Turns, Takeover as TakeoverTask, Late, Settle, SettleTakeover}
use Rattle.mk_script.specs.declared.lines.TakeoverLine.{TakeoverLine}
use Rattle.mk_driver.specs.declared.DriverState.{DriverState}
use Rattle.mk_driver.specs.declared.Caller.{Caller}
use Rattle.mk_driver.specs.declared.Request.{Request}
use Rattle.mk_driver.specs.declared.Stage.{Stage}
use Rattle.mk_driver.specs.Keeping.{IsRising}
use Rattle.mk_driver.specs.Agenda.{Worked, is_caller, trial_of, change_caller}
use Rattle.mk_driver.specs.Agenda.Worked.{Quiet}
use Rattle.mk_driver.specs.Delivery.{delivering_from, taking, taking_by, taking_late, follow_ups, noticed, own_learned, done_with, tried_again}
use Rattle.mk_driver.specs.Settling.{settle_by, seqs_of, was_validated}
use Rattle.mk_driver.specs.Stages.{at_stage, fetch_by, fetching, reach_by, same_point}
use Rattle.mk_driver.specs.Turns.{Choice, choice, unless_wanted, work_on, or_next, in_agenda, in_parts, with_agenda, with_part, tasks_of, attempt_tasks, attempt_task, open_task}
use Rattle.mk_model.specs.ColumnState.{client_of, open_at}
use Rattle.mk_driver_laws.proofs.DriverFits.{numbers_same, WholeFits, TasksFit}
use Rattle.mk_quiet_laws.specs.Waiting.{Waits}
use Rattle.mk_quiet_laws.proofs.Deliveries.{batch_begins, batch_ends}
use Rattle.mk_quiet_laws.proofs.Walked.{HeadWaits, head_waits}
use Rattle.mk_quiet_laws.proofs.Course.{Focus, IsTurns, InCourse, later_parts, stage_in, stage_of, IsAtRest, stage_at, PointFits, FocusFits, IsAskedAll, Ready, IsAskedFor, IsNamedIn, AllSettled, find_here, find_else, stage_kept, same_or_not}
use Rattle.mk_quiet_laws.proofs.Course.Focus.{Free, Fetches, Reaches}
use Rattle.mk_quiet_laws.proofs.CourseTurns.{RestsIn, turns_go}

-- ---- what is ready stays so

-- clients whose attempts under way are the same
pub ready_same : (f : ℕ) (c : ColumnState) (focus : Focus) (n : ℕ) (g : Caller → Caller) → ((x : Caller) → (g x).number ≡ x.number) → ((x : Caller) → (g x).under_way ≡ x.under_way) →
    (xs : List Caller) → Ready f c focus xs → Ready f c focus (change (is_caller n) g xs)
ready_same f c focus n g number under xs h =
    record {
      courses = λ id a e. elim (h.courses id a e) [
        | inl done ↦ inl done
        | inr way ↦ inr (elim way [
          | inl k ↦ inl k
          | inr k ↦ inr (k.0, elim k.1 [ inl here ↦ inl here | inr s ↦ inr (kept id.client ∙ s) ])
        ])
      ];
      focus_fits = focused focus h.focus_fits;
      stages = λ client stage e. h.stages client stage (sym (kept client) ∙ e);
      rising = subst IsRising (sym (numbers_same (is_caller n) g number xs)) h.rising;
    }
  where
    kept : (m : ℕ) → stage_of (change (is_caller n) g xs) m ≡ stage_of xs m
    kept m = stage_kept g number under n m xs

    rests : (m : ℕ) → IsAtRest xs m → IsAtRest (change (is_caller n) g xs) m
    rests m (x, found, none) = elim (same_or_not m n) [
      | inl same ↦ (g x, subst (λ (k : ℕ). find (is_caller m) (change (is_caller k) g xs) ≡ Some (g x)) same (find_here g number m xs ∙ ap (option_map g) found), under x ∙ none)
      | inr apart ↦ (x, find_else g number n m xs apart ∙ found, none)
    ]

    focused : (focus : Focus) → FocusFits f c xs focus → FocusFits f c (change (is_caller n) g xs) focus
    focused Free k = tt
    focused (Fetches id) k = (rests id.client k.0, k.1)
    focused (Reaches id point) k = (rests id.client k.0, k.1)

fetches_free : (id : TxnId) → Free ≡ Fetches id → ⊥
fetches_free id e = cc e

reaches_free : (id : TxnId) (point : Point) → Free ≡ Reaches id point → ⊥
reaches_free id point e = cc e

reaches_same : (id other : TxnId) (point at : Point) → Reaches id point ≡ Reaches other at → (id ≡ other) × (point ≡ at)
reaches_same id other point at e = (cc e, cc e)

fetches_reaches : (id other : TxnId) (point : Point) → Reaches other point ≡ Fetches id → ⊥
fetches_reaches id other point e = cc e

-- the attempt in hand has come to a point, and is its client's under way
pub ready_reached : (f : ℕ) (c : ColumnState) (id : TxnId) (point : Point) (xs : List Caller) → Ready f c (Reaches id point) xs → Ready f c Free (change (is_caller id.client) (at_stage (stage_at id point)) xs)
ready_reached f c id point xs h =
    record {
      courses = λ other a e. elim (h.courses other a e) [
        | inl done ↦ inl done
        | inr way ↦ elim way [
          | inl k ↦ absurd (fetches_reaches other id point k)
          | inr k ↦ inr (inr (
            k.0,
            inr (elim k.1 [
              | inl here ↦ (let same = reaches_same id other point k.0 here in at_now other k.0 same.0 same.1)
              | inr s ↦ elim (same_or_not other.client id.client) [
                | inl same ↦ absurd (let none : stage_of xs other.client ≡ None = ap (stage_of xs) same ∙ ap stage_in rests.1 ∙ rests.2 in cc (sym none ∙ s))
                | inr apart ↦ ap stage_in (find_else at (λ x. refl) id.client other.client xs apart) ∙ s
              ]
            ]),
          ))
        ]
      ];
      focus_fits = tt;
      stages = λ client stage e. elim (same_or_not client id.client) [
        | inl same ↦ (let is : stage_at id point ≡ stage = same_Some (stage_at id point) stage (sym here_now ∙ ap (stage_of new) (sym same) ∙ e) in
            (ap (λ (s : Stage). s.id.client) (sym is) ∙ sym same, subst (λ (s : Stage). PointFits f c s.id s.reached) is h.focus_fits.1))
        | inr apart ↦ h.stages client stage (sym (ap stage_in (find_else at (λ x. refl) id.client client xs apart)) ∙ e)
      ];
      rising = subst IsRising (sym (numbers_same (is_caller id.client) at (λ x. refl) xs)) h.rising;
    }
  where
    at : Caller → Caller
    at = at_stage (stage_at id point)

    new : List Caller
    new = change (is_caller id.client) at xs

    rests : IsAtRest xs id.client
    rests = h.focus_fits.0

    here_now : stage_of new id.client ≡ Some (stage_at id point)
    here_now = ap stage_in (find_here at (λ x. refl) id.client xs ∙ ap (option_map at) rests.1)

    at_now : (other : TxnId) (p : Point) → id ≡ other → point ≡ p → stage_of new other.client ≡ Some (stage_at other p)
    at_now other p same q = ap (λ (i : TxnId). stage_of new i.client) (sym same) ∙ here_now ∙ (λ i. Some (stage_at (same i) (q i)))

-- ---- tasks

-- a task of messages alone
abbrev IsPlain : Task → Type 0
IsPlain (Deliver first end) = Unit {0}
IsPlain (DeliverSince sent) = Unit {0}
IsPlain (TakeTask number) = Unit {0}
IsPlain (Notice id) = Unit {0}
IsPlain _ = ⊥

plain_course : (focus : Focus) (after tasks : List Task) → Each IsPlain after → InCourse focus tasks → InCourse focus (after ++ tasks)
plain_course focus [] tasks p k = k
plain_course focus (Deliver first end ∷ after) tasks p k = plain_course focus after tasks p.1 k
plain_course focus (DeliverSince sent ∷ after) tasks p k = plain_course focus after tasks p.1 k
plain_course focus (TakeTask number ∷ after) tasks p k = plain_course focus after tasks p.1 k
plain_course focus (Notice id ∷ after) tasks p k = plain_course focus after tasks p.1 k
plain_course focus (Fetch id ∷ after) tasks p k = absurd p.0
plain_course focus (Reach id point ∷ after) tasks p k = absurd p.0
plain_course focus (Resume id ∷ after) tasks p k = absurd p.0
plain_course focus (Turns place did ∷ after) tasks p k = absurd p.0
plain_course focus (TakeoverTask id view ∷ after) tasks p k = absurd p.0
plain_course focus (Late ∷ after) tasks p k = absurd p.0
plain_course focus (Settle id ∷ after) tasks p k = absurd p.0
plain_course focus (SettleTakeover id view ∷ after) tasks p k = absurd p.0

turns_course : (tasks : List Task) → IsTurns tasks → InCourse Free tasks
turns_course [] k = absurd k
turns_course (Turns place did ∷ []) k = (refl, k)
turns_course (Turns place did ∷ (task ∷ tasks)) k = absurd k
turns_course (Deliver first end ∷ tasks) k = absurd k
turns_course (DeliverSince sent ∷ tasks) k = absurd k
turns_course (TakeTask number ∷ tasks) k = absurd k
turns_course (Notice id ∷ tasks) k = absurd k
turns_course (Fetch id ∷ tasks) k = absurd k
turns_course (Reach id point ∷ tasks) k = absurd k
turns_course (Resume id ∷ tasks) k = absurd k
turns_course (TakeoverTask id view ∷ tasks) k = absurd k
turns_course (Late ∷ tasks) k = absurd k
turns_course (Settle id ∷ tasks) k = absurd k
turns_course (SettleTakeover id view ∷ tasks) k = absurd k

-- no attempt fetches
abbrev NoFetch : List Task → Type 0
NoFetch [] = Unit {0}
NoFetch (Fetch id ∷ tasks) = ⊥
NoFetch (Deliver first end ∷ tasks) = NoFetch tasks
NoFetch (DeliverSince sent ∷ tasks) = NoFetch tasks
NoFetch (TakeTask number ∷ tasks) = NoFetch tasks
NoFetch (Notice id ∷ tasks) = NoFetch tasks
NoFetch (Reach id point ∷ tasks) = NoFetch tasks
NoFetch (task ∷ tasks) = Unit {0}

turns_fetch : (tasks : List Task) → IsTurns tasks → NoFetch tasks
turns_fetch [] k = tt
turns_fetch (Turns place did ∷ tasks) k = tt
turns_fetch (Deliver first end ∷ tasks) k = absurd k
turns_fetch (DeliverSince sent ∷ tasks) k = absurd k
turns_fetch (TakeTask number ∷ tasks) k = absurd k
turns_fetch (Notice id ∷ tasks) k = absurd k
turns_fetch (Fetch id ∷ tasks) k = absurd k
turns_fetch (Reach id point ∷ tasks) k = absurd k
turns_fetch (Resume id ∷ tasks) k = absurd k
turns_fetch (TakeoverTask id view ∷ tasks) k = absurd k
turns_fetch (Late ∷ tasks) k = absurd k
turns_fetch (Settle id ∷ tasks) k = absurd k
turns_fetch (SettleTakeover id view ∷ tasks) k = absurd k

tasks_fetch : (c : ColumnState) (callers : List Caller) (focus : Focus) (tasks : List Task) → TasksFit c callers tasks → InCourse focus tasks → NoFetch tasks
tasks_fetch c callers focus [] h k = tt
tasks_fetch c callers focus (Fetch id ∷ tasks) h k = h
tasks_fetch c callers focus (Deliver first end ∷ tasks) h k = tasks_fetch c callers focus tasks h.1 k
tasks_fetch c callers focus (DeliverSince sent ∷ tasks) h k = tasks_fetch c callers focus tasks h k
tasks_fetch c callers focus (TakeTask number ∷ tasks) h k = tasks_fetch c callers focus tasks h.1 k
tasks_fetch c callers focus (Notice id ∷ tasks) h k = tasks_fetch c callers focus tasks h k
tasks_fetch c callers focus (Reach id point ∷ tasks) h k = turns_fetch tasks k.1
tasks_fetch c callers focus (Resume id ∷ tasks) h k = absurd k
tasks_fetch c callers focus (Turns place did ∷ tasks) h k = tt
tasks_fetch c callers focus (TakeoverTask id view ∷ tasks) h k = absurd k
tasks_fetch c callers focus (Late ∷ tasks) h k = absurd k
tasks_fetch c callers focus (Settle id ∷ tasks) h k = absurd k
tasks_fetch c callers focus (SettleTakeover id view ∷ tasks) h k = absurd k

-- what is found stands at some place
place_of_found : (p : Caller → Bool) (xs : List Caller) (x : Caller) → find p xs ≡ Some x → (place : ℕ) × (slice_get xs place ≡ Some x)
place_of_found p [] x e = absurd (cc e)
place_of_found p (y ∷ xs) x e = by (place_of_found p xs x) (p y) e
  where
    by : (find p xs ≡ Some x → (place : ℕ) × (slice_get xs place ≡ Some x)) → (b : Bool) → cond b (Some y) (find p xs) ≡ Some x → (place : ℕ) × (slice_get (y ∷ xs) place ≡ Some x)
    by again true e = (0, e)
    by again false e = let k = again e in (suc k.0, k.1)

-- ---- settling

abbrev IsSettling : Task → Type 0
IsSettling (Settle id) = Unit {0}
IsSettling _ = ⊥

each_flat : {X : Type 0} (P : Task → Type 0) (f : X → List Task) → ((x : X) → Each P (f x)) → (xs : List X) → Each P (flat_map f xs)
each_flat P f h [] = tt
each_flat P f h (x ∷ xs) = Each-append P (f x) (flat_map f xs) (h x) (each_flat P f h xs)

-- a pair of what is named and the driver
module _ (rules : RuleLines) (delivered : (link : List Msg) (number : ℕ) → fate_at rules link number ≡ DeliverFate) (unstopped : (id : TxnId) → stop_of rules id ≡ None)
    (round : Setting) (c : ColumnState) (none_open : c.takeovers ≡ []) (log : List Step) where
  abbrev pub AllTaken : Type 0
  AllTaken = (number : ℕ) → 1 ≤ number → number ≤ length c.link → Among (TakeStep number) log

  module _ (ruled : AllTaken → (id : TxnId) (a : AttemptState) → attempt_of c id ≡ Some a → a.coord.learned ≡ None → IsAskedAll round.faults c id → ruling round.faults a.coord ≡ Fast Commit) where
    abbrev pub GoesOn : Next → DriverState → Type 0
    GoesOn (StepNext step) d = IsNamedIn round.faults c step d
    GoesOn Over d = AllSettled round.faults c × AllTaken
    GoesOn (KeyNext call) d = Unit {0}

    abbrev pub Goes : Choice → Type 0
    Goes chosen = GoesOn chosen.next chosen.driver

    -- ---- after the turns

    module _ (settled : AllSettled round.faults c) (all : AllTaken) where
      not_ruled : (id : TxnId) → blocked round c (Rule id) ≡ None → ⊥
      not_ruled id e =
          let h = enabled round c (Rule id) e in
          let k = passes-some (λ (a : AttemptState). is_none a.coord.learned) (attempt_of c id) h.1.1.1.0 in
          learns (k.0).coord.learned (settled id k.0 k.1).0 k.2
        where
          learns : (o : Option Outcome) → o ≡ Some Commit → is_none o ≡ true → ⊥
          learns o is none = cc (sym none ∙ ap is_none is)

      settle_walk : (tasks : List Task) → Each IsSettling tasks → (d : DriverState) → Goes (in_agenda rules round c (in_parts rules round c []) tasks d)
      settle_walk [] p d = (settled, all)
      settle_walk (Settle id ∷ tasks) p d = by (λ e. settle_walk tasks p.1 e) (blocked round c (Rule id)) refl
        where
          by : ((e : DriverState) → Goes (in_agenda rules round c (in_parts rules round c []) tasks e)) → (o : Option ℕ) → blocked round c (Rule id) ≡ o →
              Goes (or_next (settle_by c id o (with_agenda tasks d)) (in_agenda rules round c (in_parts rules round c []) tasks))
          by again None e = absurd (not_ruled id e)
          by again (Some k) e = again (with_agenda tasks d)
      settle_walk (Deliver first end ∷ tasks) p d = absurd p.0
      settle_walk (DeliverSince sent ∷ tasks) p d = absurd p.0
      settle_walk (TakeTask number ∷ tasks) p d = absurd p.0
      settle_walk (Notice id ∷ tasks) p d = absurd p.0
      settle_walk (Fetch id ∷ tasks) p d = absurd p.0
      settle_walk (Reach id point ∷ tasks) p d = absurd p.0
      settle_walk (Resume id ∷ tasks) p d = absurd p.0
      settle_walk (Turns place did ∷ tasks) p d = absurd p.0
      settle_walk (TakeoverTask id view ∷ tasks) p d = absurd p.0
      settle_walk (Late ∷ tasks) p d = absurd p.0
      settle_walk (SettleTakeover id view ∷ tasks) p d = absurd p.0

      settles : (d : DriverState) → Each IsSettling (tasks_of c d SettlePart)
      settles d =
          Each-append IsSettling (flat_map (λ caller. attempt_tasks c SettlePart caller.number) d.callers) (flat_map (λ place. open_task (open_at c place)) (numbers_from 0 (length c.takeovers)))
          (each_flat IsSettling (λ (caller : Caller). attempt_tasks c SettlePart caller.number) (λ caller. each_flat IsSettling (λ (seq : ℕ). attempt_task c SettlePart (record { client = caller.number; seq = seq }))
          (λ seq. one (record { client = caller.number; seq = seq })) (seqs_of (client_of c caller.number))) d.callers)
          (subst (λ (n : ℕ). Each IsSettling (flat_map (λ place. open_task (open_at c place)) (numbers_from 0 n))) (sym (ap length none_open)) tt)
        where
          one : (id : TxnId) → Each IsSettling (attempt_task c SettlePart id)
          one id = cond_both (was_validated c id) (Settle id ∷ []) [] (Each IsSettling) (λ _. (tt, tt)) (λ _. tt)

      late_goes : (d : DriverState) → d.late ≡ [] → Goes (in_parts rules round c (LatePart ∷ (SettlePart ∷ [])) d)
      late_goes d e =
          subst (λ (late : List ℕ). Goes (or_next (taking_late c late after) (in_agenda rules round c (in_parts rules round c (SettlePart ∷ [])) []))) (sym e)
          (settle_walk (tasks_of c done SettlePart) (settles done) (with_part c SettlePart [] done))
        where
          after : DriverState
          after = with_agenda [] (with_part c LatePart (SettlePart ∷ []) d)

          done : DriverState
          done = with_agenda [] after

      takeovers_go : (d : DriverState) → d.late ≡ [] → d.takeovers ≡ [] → Goes (in_parts rules round c later_parts d)
      takeovers_go d e t =
          subst (λ (lines : List TakeoverLine). Goes (in_agenda rules round c (in_parts rules round c (LatePart ∷ (SettlePart ∷ []))) (flat_map (λ (line : TakeoverLine). TakeoverTask line.id line.view ∷ []) lines) after)) (sym t)
          (late_goes (with_agenda [] after) e)
        where
          after : DriverState
          after = with_part c TakeoversPart (LatePart ∷ (SettlePart ∷ [])) d

    all_settled : (callers : List Caller) → Ready round.faults c Free callers → ((place : ℕ) → RestsIn callers place) → AllSettled round.faults c
    all_settled callers h rest id a e = elim (h.courses id a e) [
      | inl done ↦ done
      | inr way ↦ elim way [
        | inl k ↦ absurd (fetches_free id k)
        | inr k ↦ elim k.1 [
          | inl here ↦ absurd (reaches_free id k.0 here)
          | inr s ↦ absurd (by (find (is_caller id.client) callers) refl (stage_at id k.0) s)
        ]
      ]
    ]
      where
        by : (o : Option Caller) → find (is_caller id.client) callers ≡ o → (stage : Stage) → stage_in o ≡ Some stage → ⊥
        by None e stage s = cc s
        by (Some x) e stage s = let k = place_of_found (is_caller id.client) callers x e in let none = rest k.0 x k.1 in cc (sym none ∙ s)

    -- ---- the agenda

    abbrev Known : List Task → Type 0
    Known tasks = (number : ℕ) → 1 ≤ number → number ≤ length c.link → Among (TakeStep number) log ⊎ Waits number tasks

    -- what holds of the driver on the way
    record OnWay (focus : Focus) (d : DriverState) : Type 0 where
      ready : Ready round.faults c focus d.callers
      parts : d.parts ≡ later_parts
      late : d.late ≡ []
      takeovers : d.takeovers ≡ []

    module _ (end : DriverState → Choice) (fine : (d : DriverState) → AllSettled round.faults c → AllTaken → d.late ≡ [] → d.takeovers ≡ [] → Goes (end d)) where
      -- a take is named
      takes_go : (focus : Focus) (number : ℕ) (after tasks : List Task) (d : DriverState) → d.agenda ≡ tasks → Each IsPlain after → InCourse focus tasks → OnWay focus d →
          (next : DriverState → Choice) → Goes (or_next (taking c number after d) next)
      takes_go focus number after tasks d e p k w next = by (message c.link number)
        where
          front : (ts : List Task) → Each IsPlain ts → InCourse focus (ts ++ d.agenda)
          front ts q = subst (λ (l : List Task). InCourse focus (ts ++ l)) (sym e) (plain_course focus ts tasks q k)

          by : (o : Option Msg) → Goes (or_next (taking_by c number o after d) next)
          by (Some msg) =
              record { focus = focus; old = d.callers; ready = w.ready; new = focus; course = (refl, refl); agenda = front (follow_ups c msg.id ++ after) (tt, (tt, p)); parts = w.parts; takeovers = w.takeovers }
          by None = record { focus = focus; old = d.callers; ready = w.ready; new = focus; course = (refl, refl); agenda = front after p; parts = w.parts; takeovers = w.takeovers }

      noticed_way : (focus : Focus) (id : TxnId) (o : Option Outcome) (d : DriverState) → OnWay focus d → OnWay focus (noticed id o d)
      noticed_way focus id (Some (Abort cause)) d w =
          record { ready = ready_same round.faults c focus id.client (tried_again id.seq) (λ x. refl) (λ x. refl) d.callers w.ready; parts = w.parts; late = w.late; takeovers = w.takeovers }
      noticed_way focus id (Some Commit) d w =
          record { ready = ready_same round.faults c focus id.client (done_with id.seq) (λ x. refl) (λ x. refl) d.callers w.ready; parts = w.parts; late = w.late; takeovers = w.takeovers }
      noticed_way focus id None d w = w

      on_agenda : (focus : Focus) (tasks : List Task) (d : DriverState) → OnWay focus d → OnWay focus (with_agenda tasks d)
      on_agenda focus tasks d w = record { ready = w.ready; parts = w.parts; late = w.late; takeovers = w.takeovers }

      all_of : (place : ℕ) (did : Bool) (tasks : List Task) → Known (Turns place did ∷ tasks) → AllTaken
      all_of place did tasks known number low high = elim (known number low high) [ inl t ↦ t | inr x ↦ absurd x ]

      turns_walk : (place : ℕ) (did : Bool) (d : DriverState) → (did ≡ false → place ≡ 0) → OnWay Free d → Known (Turns place did ∷ []) →
          Goes (in_agenda rules round c end (Turns place did ∷ []) d)
      turns_walk place did d from w known =
          let all = all_of place did [] known in
          turns_go round c (ruled all) (with_agenda [] d) w.ready (λ (x : Worked). Goes (or_next x (in_agenda rules round c end [])))
          (λ step tasks changed new course agenda parts same lines. record {
            focus = Free;
            old = d.callers;
            ready = w.ready;
            new = new;
            course = course;
            agenda = subst (λ (l : List Task). InCourse new (tasks ++ l)) (sym same) (subst (InCourse new) (sym (append-nil tasks)) agenda);
            parts = parts ∙ w.parts;
            takeovers = lines ∙ w.takeovers;
          })
          place did from (λ rest. fine (with_agenda [] (with_agenda [] d)) (all_settled d.callers w.ready rest) all w.late w.takeovers)

      tails : (focus : Focus) (task : Task) (tasks : List Task) (d : DriverState) → Known (task ∷ tasks) → (changed : DriverState) → work_on rules round c task (with_agenda tasks d) ≡ Quiet changed → Known tasks
      tails focus task tasks d known changed e number low high = elim (known number low high) [
        | inl t ↦ inl t
        | inr x ↦ inr (subst (HeadWaits number tasks) e (head_waits rules delivered round c log task number tasks (with_agenda tasks d) high x))
      ]

      walk : (focus : Focus) (tasks : List Task) (d : DriverState) → InCourse focus tasks → NoFetch tasks → OnWay focus d → Known tasks → Goes (in_agenda rules round c end tasks d)
      walk focus [] d k n w known = absurd k
      walk focus (Deliver first last ∷ tasks) d k n w known = by (nat_lt first last) refl (λ e. walk focus tasks (with_agenda tasks d) k n (on_agenda focus tasks d w) e)
        where
          by : (b : Bool) → nat_lt first last ≡ b → (Known tasks → Goes (in_agenda rules round c end tasks (with_agenda tasks d))) →
              Goes (or_next (delivering_from rules c first last (with_agenda tasks d)) (in_agenda rules round c end tasks))
          by true lt again =
              subst (λ (x : Worked). Goes (or_next x (in_agenda rules round c end tasks))) (sym (batch_begins rules delivered c first last (grind (arith, nat_tests, lt)) (with_agenda tasks d)))
              (takes_go focus first (Deliver (first + 1) last ∷ []) tasks (with_agenda tasks d) refl (tt, tt) k (on_agenda focus tasks d w) (in_agenda rules round c end tasks))
          by false ge again =
              let quiet = batch_ends rules delivered c first last (grind (arith, nat_tests, ge)) (with_agenda tasks d) in
              subst (λ (x : Worked). Goes (or_next x (in_agenda rules round c end tasks))) (sym quiet) (again (tails focus (Deliver first last) tasks d known (with_agenda tasks d) quiet))
      walk focus (DeliverSince sent ∷ tasks) d k n w known = by (nat_lt (sent + 1) (length c.link + 1)) refl (λ e. walk focus tasks (with_agenda tasks d) k n (on_agenda focus tasks d w) e)
        where
          by : (b : Bool) → nat_lt (sent + 1) (length c.link + 1) ≡ b → (Known tasks → Goes (in_agenda rules round c end tasks (with_agenda tasks d))) →
              Goes (or_next (delivering_from rules c (sent + 1) (length c.link + 1) (with_agenda tasks d)) (in_agenda rules round c end tasks))
          by true lt again =
              subst (λ (x : Worked). Goes (or_next x (in_agenda rules round c end tasks))) (sym (batch_begins rules delivered c (sent + 1) (length c.link + 1) (grind (arith, nat_tests, lt)) (with_agenda tasks d)))
              (takes_go focus (sent + 1) (Deliver (sent + 1 + 1) (length c.link + 1) ∷ []) tasks (with_agenda tasks d) refl (tt, tt) k (on_agenda focus tasks d w) (in_agenda rules round c end tasks))
          by false ge again =
              let quiet = batch_ends rules delivered c (sent + 1) (length c.link + 1) (grind (arith, nat_tests, ge)) (with_agenda tasks d) in
              subst (λ (x : Worked). Goes (or_next x (in_agenda rules round c end tasks))) (sym quiet) (again (tails focus (DeliverSince sent) tasks d known (with_agenda tasks d) quiet))
      walk focus (TakeTask number ∷ tasks) d k n w known =
          takes_go focus number [] tasks (with_agenda tasks d) refl tt k (on_agenda focus tasks d w) (in_agenda rules round c end tasks)
      walk focus (Notice id ∷ tasks) d k n w known =
          walk focus tasks (noticed id (own_learned c id) (with_agenda tasks d)) k n (noticed_way focus id (own_learned c id) (with_agenda tasks d) (on_agenda focus tasks d w))
          (tails focus (Notice id) tasks d known (noticed id (own_learned c id) (with_agenda tasks d)) refl)
      walk focus (Fetch id ∷ tasks) d k n w known = absurd n
      walk focus (Reach id point ∷ tasks) d k n w known =
          subst (λ (b : Bool). Goes (or_next (reach_by round c id point b (with_agenda tasks d)) (in_agenda rules round c end tasks))) (sym (ap (passes (same_point point)) (unstopped id)))
          (walk Free tasks (change_caller id.client (at_stage (stage_at id point)) (with_agenda tasks d)) (turns_course tasks k.1) n (record {
            ready = ready_reached round.faults c id point d.callers (subst (λ (x : Focus). Ready round.faults c x d.callers) k.0 w.ready);
            parts = w.parts;
            late = w.late;
            takeovers = w.takeovers;
          }) (λ number low high. elim (known number low high) [ inl t ↦ inl t | inr x ↦ absurd x ]))
      walk focus (Turns place did ∷ []) d k n w known = turns_walk place did d k.1 (subst (λ (x : Focus). OnWay x d) k.0 w) known
      walk focus (Turns place did ∷ (task ∷ tasks)) d k n w known = absurd k.1
      walk focus (Resume id ∷ tasks) d k n w known = absurd k
      walk focus (TakeoverTask id view ∷ tasks) d k n w known = absurd k
      walk focus (Late ∷ tasks) d k n w known = absurd k
      walk focus (Settle id ∷ tasks) d k n w known = absurd k
      walk focus (SettleTakeover id view ∷ tasks) d k n w known = absurd k

    -- ---- an attempt that fetches

    fetch_goes : (id : TxnId) (tasks : List Task) (d : DriverState) → d.agenda ≡ tasks → Ready round.faults c (Fetches id) d.callers → d.parts ≡ later_parts → d.takeovers ≡ [] → IsTurns tasks → IsAskedFor c d.callers id →
        (next : DriverState → Choice) → Goes (or_next (fetching id (attempt_of c id) (trial_of id d) d) next)
    fetch_goes id tasks d e ready parts lines k asked next =
        subst (λ (o : Option AttemptState). Goes (or_next (fetching id o (trial_of id d) d) next)) (sym asked.found)
        (subst (λ (r : Option Request). Goes (or_next (fetching id (Some asked.attempt) r d) next)) (sym asked.asked) (by (next_wanted asked.request.items asked.attempt.reads) refl))
      where
        by : (o : Option ℕ) → next_wanted asked.request.items asked.attempt.reads ≡ o → Goes (or_next (fetch_by id asked.attempt.reads asked.request o d) next)
        by (Some key) q =
            record {
              focus = Fetches id;
              old = d.callers;
              ready = ready;
              new = Fetches id;
              course = (refl, refl, refl, (asked, q));
              agenda = subst (λ (l : List Task). InCourse (Fetches id) (Fetch id ∷ l)) (sym e) (refl, k);
              parts = parts;
              takeovers = lines;
            }
        by None q =
            record {
              focus = Fetches id;
              old = d.callers;
              ready = ready;
              new = Reaches id AfterRead;
              course = (refl, refl, refl, (asked, refl));
              agenda = subst (λ (l : List Task). InCourse (Reaches id AfterRead) (Reach id AfterRead ∷ l)) (sym e) (refl, k);
              parts = parts;
              takeovers = lines;
            }

    -- ---- what is named

    after_parts : (d : DriverState) → AllSettled round.faults c → AllTaken → d.late ≡ [] → d.takeovers ≡ [] → Goes (in_parts rules round c later_parts d)
    after_parts d settled all late takeovers = takeovers_go settled all d late takeovers

    agenda_goes : (focus : Focus) (tasks : List Task) (d : DriverState) → InCourse focus tasks → WholeFits c d tasks → OnWay focus d → Known tasks →
        Goes (in_agenda rules round c (in_parts rules round c later_parts) tasks d)
    agenda_goes focus [] d k h w known = absurd k
    agenda_goes focus (Fetch id ∷ tasks) d k h w known =
        let keys = h.0.3 in
        fetch_goes id tasks (with_agenda tasks d) refl (subst (λ (x : Focus). Ready round.faults c x d.callers) k.0 w.ready) w.parts w.takeovers k.1
        (record { attempt = keys.attempt; request = keys.request; found = keys.found; asked = keys.asked }) (in_agenda rules round c (in_parts rules round c later_parts) tasks)
    agenda_goes focus (Deliver first end ∷ tasks) d k h w known = walk (in_parts rules round c later_parts) after_parts focus (Deliver first end ∷ tasks) d k (tasks_fetch c d.callers focus (Deliver first end ∷ tasks) h.1.tasks_fit k) w known
    agenda_goes focus (DeliverSince sent ∷ tasks) d k h w known = walk (in_parts rules round c later_parts) after_parts focus (DeliverSince sent ∷ tasks) d k (tasks_fetch c d.callers focus (DeliverSince sent ∷ tasks) h.1.tasks_fit k) w known
    agenda_goes focus (TakeTask number ∷ tasks) d k h w known = walk (in_parts rules round c later_parts) after_parts focus (TakeTask number ∷ tasks) d k (tasks_fetch c d.callers focus (TakeTask number ∷ tasks) h.1.tasks_fit k) w known
    agenda_goes focus (Notice id ∷ tasks) d k h w known = walk (in_parts rules round c later_parts) after_parts focus (Notice id ∷ tasks) d k (tasks_fetch c d.callers focus (Notice id ∷ tasks) h.1.tasks_fit k) w known
    agenda_goes focus (Reach id point ∷ tasks) d k h w known = walk (in_parts rules round c later_parts) after_parts focus (Reach id point ∷ tasks) d k (tasks_fetch c d.callers focus (Reach id point ∷ tasks) h.1.tasks_fit k) w known
    agenda_goes focus (Turns place did ∷ tasks) d k h w known = walk (in_parts rules round c later_parts) after_parts focus (Turns place did ∷ tasks) d k tt w known
    agenda_goes focus (Resume id ∷ tasks) d k h w known = absurd k
    agenda_goes focus (TakeoverTask id view ∷ tasks) d k h w known = absurd k
    agenda_goes focus (Late ∷ tasks) d k h w known = absurd k
    agenda_goes focus (Settle id ∷ tasks) d k h w known = absurd k
    agenda_goes focus (SettleTakeover id view ∷ tasks) d k h w known = absurd k

    -- wherever the agenda is in course
    pub choice_goes : (focus : Focus) (d : DriverState) → InCourse focus d.agenda → WholeFits c d d.agenda → Ready round.faults c focus d.callers → d.parts ≡ later_parts → d.late ≡ [] → d.takeovers ≡ [] →
        ((number : ℕ) → 1 ≤ number → number ≤ length c.link → Among (TakeStep number) log ⊎ Waits number d.agenda) → Goes (choice rules round c d)
    choice_goes focus d k h ready parts late takeovers known = by (wanted c.work)
      where
        by : (o : Option KeyCall) → Goes (unless_wanted rules round c o d)
        by (Some call) = tt
        by None =
            subst (λ (ps : List Part). Goes (in_agenda rules round c (in_parts rules round c ps) d.agenda d)) (sym parts)
            (agenda_goes focus d.agenda d k h (record { ready = ready; parts = parts; late = late; takeovers = takeovers }) known)

    -- where the turns begin
    pub begins_goes : (d : DriverState) → Ready round.faults c Free d.callers → d.late ≡ [] → d.takeovers ≡ [] → AllTaken →
        Goes (in_agenda rules round c (in_parts rules round c later_parts) (Turns 0 false ∷ []) (record d { agenda = Turns 0 false ∷ []; parts = later_parts }))
    begins_goes d ready late takeovers all =
        turns_walk (in_parts rules round c later_parts) after_parts 0 false (record d { agenda = Turns 0 false ∷ []; parts = later_parts }) (λ _. refl)
        (record { ready = ready; parts = refl; late = late; takeovers = takeovers }) (λ number low high. inl (all number low high))
