-- What is named next, where each message was taken or waits: a take, or else all were taken; and all goes on waiting.
use Rattle.std.proofs.Common.{◌≡◌, ◌⊎◌, ◌<◌, ◌≤◌, ◌∙◌, ℕ, ◌+◌, ◌-◌, true, false, refl, arith, inl, inr, sym, ap, subst, List, [], ◌∷◌, ◌++◌, length, Option, Some, None}
use Rattle.mk_lists.specs.Among.{Among}
use Rattle.mk_words.specs.declared.Msg.{Msg}
use Rattle.mk_words.specs.Links.{message}
use Rattle.mk_script.specs.declared.lines.Fate.{Fate}
use Rattle.mk_script.specs.declared.lines.Fate.TheVariants.{Deliver as DeliverFate}
use Rattle.mk_faults.specs.Fates.{RuleLines, fate_at}
use Rattle.mk_words.specs.declared.Step.{Step}
use Rattle.mk_words.specs.declared.Step.TheVariants.{Take as TakeStep}
use Rattle.mk_model.specs.ColumnState.{Setting, ColumnState, numbers_from}
use Rattle.mk_driver.specs.declared.Next.{Next}
use Rattle.mk_driver.specs.declared.Next.TheVariants.{Step as StepNext, Key as KeyNext, Over}
use Rattle.mk_driver.specs.declared.Part.{Part}
use Rattle.mk_driver.specs.declared.Task.{Task}
use Rattle.mk_driver.specs.declared.Task.TheVariants.{Deliver, DeliverSince, Take as TakeTask, Notice, Fetch, Reach, Resume, Turns, Takeover, Late, Settle, SettleTakeover}
use Rattle.mk_driver.specs.declared.DriverState.{DriverState}
use Rattle.mk_driver.specs.Agenda.{Worked}
use Rattle.mk_driver.specs.Agenda.Worked.{Quiet, Names}
use Rattle.mk_driver.specs.Delivery.{by_fate, delivering, delivering_from, taking, taking_by}
use Rattle.mk_driver.specs.Turns.{Choice, work_on, or_next, in_agenda, in_parts, with_agenda, with_part, tasks_of}
use Rattle.mk_quiet_laws.specs.CaughtUp.{is_delivery}
use Rattle.mk_quiet_laws.specs.Waiting.{Waits}
use Rattle.mk_quiet_laws.proofs.Deliveries.{batch_begins, batch_waits}
use Rattle.mk_quiet_laws.proofs.TaskWork.{FineWork, Covers, covers-more}
use Rattle.mk_quiet_laws.proofs.EachTask.{work_fine}

-- what waited in a task or behind it is taken, or waits still
abbrev pub HeadWaits : ℕ → List Task → Worked → Type 0
HeadWaits number tasks (Quiet driver) = Waits number tasks
HeadWaits number tasks (Names step after driver) = ((step ≡ TakeStep number) ⊎ Waits number (after ++ tasks)) × (is_delivery (StepNext step) ≡ true)

module _ (rules : RuleLines) (delivered : (link : List Msg) (number : ℕ) → fate_at rules link number ≡ DeliverFate) (round : Setting) (column : ColumnState) (log : List Step) where
  take_head : (n number : ℕ) (after tasks : List Task) (driver : DriverState) → (n ≡ number) ⊎ Waits number (after ++ tasks) → HeadWaits number tasks (taking column n after driver)
  take_head n number after tasks driver w = by (message column.link n)
    where
      by : (o : Option Msg) → HeadWaits number tasks (taking_by column n o after driver)
      by (Some msg) = (elim w [ inl same ↦ inl (ap TakeStep same) | inr k ↦ inr (inr k) ], refl)
      by None = (elim w [ inl same ↦ inl (ap TakeStep same) | inr k ↦ inr k ], refl)

  behind : (end number : ℕ) (numbers : List ℕ) (tasks : List Task) (driver : DriverState) → Waits number tasks → HeadWaits number tasks (delivering rules column end numbers driver)
  behind end number [] tasks driver w = w
  behind end number (n ∷ numbers) tasks driver w =
      subst (λ (fate : Fate). HeadWaits number tasks (by_fate column end n fate (delivering rules column end numbers) driver)) (sym (delivered column.link n))
      (take_head n number (Deliver (n + 1) end ∷ []) tasks driver (inr (inr w)))

  in_batch : (first end number : ℕ) (tasks : List Task) (driver : DriverState) → first ≤ number → number < end → HeadWaits number tasks (delivering_from rules column first end driver)
  in_batch first end number tasks driver le lt =
      subst (HeadWaits number tasks) (sym (batch_begins rules delivered column first end (omega (arith, le, lt)) driver))
      (take_head first number (Deliver (first + 1) end ∷ []) tasks driver (batch_waits first end number tasks le lt))

  pub head_waits : (task : Task) (number : ℕ) (tasks : List Task) (driver : DriverState) → number ≤ length column.link → Waits number (task ∷ tasks) → HeadWaits number tasks (work_on rules round column task driver)
  head_waits (Deliver first end) number tasks driver sent (inl k) = in_batch first end number tasks driver k.0 k.1
  head_waits (Deliver first end) number tasks driver sent (inr k) = behind end number (numbers_from first (end - first)) tasks driver k
  head_waits (DeliverSince after) number tasks driver sent (inl k) = in_batch (after + 1) (length column.link + 1) number tasks driver (omega (arith, k)) (omega (arith, sent))
  head_waits (DeliverSince after) number tasks driver sent (inr k) = behind (length column.link + 1) number (numbers_from (after + 1) (length column.link + 1 - (after + 1))) tasks driver k
  head_waits (TakeTask n) number tasks driver sent k = take_head n number [] tasks driver k
  head_waits (Notice id) number tasks driver sent k = k
  head_waits (Fetch id) number tasks driver sent k = absurd k
  head_waits (Reach id point) number tasks driver sent k = absurd k
  head_waits (Resume id) number tasks driver sent k = absurd k
  head_waits (Turns place did) number tasks driver sent k = absurd k
  head_waits (Takeover id view) number tasks driver sent k = absurd k
  head_waits Late number tasks driver sent k = absurd k
  head_waits (Settle id) number tasks driver sent k = absurd k
  head_waits (SettleTakeover id view) number tasks driver sent k = absurd k

  -- ---- what is named

  abbrev AllTaken : Type 0
  AllTaken = (number : ℕ) → 1 ≤ number → number ≤ length column.link → Among (TakeStep number) log

  abbrev pub GoodNext : Next → DriverState → Type 0
  GoodNext (StepNext step) driver =
      (driver.late ≡ []) × ((driver.held ≡ []) × (Covers column step driver.agenda
      × (((number : ℕ) → 1 ≤ number → number ≤ length column.link → Among (TakeStep number) log ⊎ ((step ≡ TakeStep number) ⊎ Waits number driver.agenda))
      × (is_delivery (StepNext step) ≡ false → (number : ℕ) → 1 ≤ number → number ≤ length column.link → Among (TakeStep number) log))))
  GoodNext Over driver = (number : ℕ) → 1 ≤ number → number ≤ length column.link → Among (TakeStep number) log
  GoodNext (KeyNext call) driver = Unit {0}

  abbrev pub Good : Choice → Type 0
  Good choice = GoodNext choice.next choice.driver

  pub walk : (end : DriverState → Choice) → ((driver : DriverState) → driver.late ≡ [] → driver.held ≡ [] → AllTaken → Good (end driver)) →
      (tasks : List Task) (driver : DriverState) → driver.late ≡ [] → driver.held ≡ [] →
      ((number : ℕ) → 1 ≤ number → number ≤ length column.link → Among (TakeStep number) log ⊎ Waits number tasks) → Good (in_agenda rules round column end tasks driver)
  walk end fine [] driver late held known = fine (with_agenda [] driver) late held (λ number a b. elim (known number a b) [ inl t ↦ t | inr w ↦ absurd w ])
  walk end fine (task ∷ tasks) driver late held known =
      by (λ d l h k. walk end fine tasks d l h k) (work_on rules round column task (with_agenda tasks driver))
      (work_fine rules delivered round column task (with_agenda tasks driver) late) (λ number sent w. head_waits task number tasks (with_agenda tasks driver) sent w)
    where
      by : ((d : DriverState) → d.late ≡ [] → d.held ≡ [] → ((number : ℕ) → 1 ≤ number → number ≤ length column.link → Among (TakeStep number) log ⊎ Waits number tasks) → Good (in_agenda rules round column end tasks d)) →
          (w : Worked) → FineWork column (with_agenda tasks driver) w → ((number : ℕ) → number ≤ length column.link → Waits number (task ∷ tasks) → HeadWaits number tasks w) →
          Good (or_next w (in_agenda rules round column end tasks))
      by again (Quiet d) f head =
          again d (f.late ∙ late) (f.held ∙ held) (λ number a b. elim (known number a b) [ inl t ↦ inl t | inr w ↦ inr (head number b w) ])
      by again (Names step after d) f head = (
        f.0.late ∙ late,
        (
          f.0.held ∙ held,
          (
            covers-more column step after d.agenda f.1,
            (
              λ number a b. elim (known number a b) [
                | inl t ↦ inl t
                | inr w ↦ inr (subst (λ (l : List Task). (step ≡ TakeStep number) ⊎ Waits number (after ++ l)) (sym f.0.agenda) (head number b w).0)
              ],
              λ other number a b. elim (known number a b) [
                | inl t ↦ t
                | inr w ↦ absurd (let given = (head number b w).1 in cc (given, other))
              ],
            ),
          ),
        ),
      )

  pub parts_good : (parts : List Part) (driver : DriverState) → driver.late ≡ [] → driver.held ≡ [] → AllTaken → Good (in_parts rules round column parts driver)
  parts_good [] driver late held all = all
  parts_good (part ∷ parts) driver late held all =
      walk (in_parts rules round column parts) (λ d l h t. parts_good parts d l h t) (tasks_of column driver part) (with_part column part parts driver) late held (λ number a b. inl (all number a b))

  -- where no key call is wanted
  pub named_good : (driver : DriverState) → driver.late ≡ [] → driver.held ≡ [] →
      ((number : ℕ) → 1 ≤ number → number ≤ length column.link → Among (TakeStep number) log ⊎ Waits number driver.agenda) →
      Good (in_agenda rules round column (in_parts rules round column driver.parts) driver.agenda driver)
  named_good driver late held known = walk (in_parts rules round column driver.parts) (λ d l h t. parts_good driver.parts d l h t) driver.agenda driver late held known
