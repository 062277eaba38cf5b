-- Where no message is faulty, a batch is taken number by number, and the rest of it waits.
use Rattle.std.proofs.Common.{◌≡◌, ◌⊎◌, ◌<◌, ◌≤◌, ℕ, zero, suc, ◌+◌, ◌-◌, refl, arith, inl, inr, ap, List, [], ◌∷◌, ◌++◌, length, Option, Some, None}
use Rattle.mk_words.specs.declared.Msg.{Msg}
use Rattle.mk_words.specs.Links.{message}
use Rattle.mk_script.specs.declared.lines.Fate.{Fate}
use Rattle.mk_script.specs.declared.lines.Fate.TheVariants.{Deliver as DeliverFate}
use Rattle.mk_faults.specs.Fates.{RuleLines, fate_at}
use Rattle.mk_model.specs.ColumnState.{ColumnState, numbers_from}
use Rattle.mk_words.specs.declared.Step.TheVariants.{Take as TakeStep}
use Rattle.mk_driver.specs.declared.Task.{Task}
use Rattle.mk_driver.specs.declared.Task.TheVariants.{Deliver}
use Rattle.mk_driver.specs.declared.DriverState.{DriverState}
use Rattle.mk_driver.specs.Agenda.{Worked}
use Rattle.mk_driver.specs.Agenda.Worked.{Quiet, Names}
use Rattle.mk_driver.specs.Delivery.{by_fate, delivering, delivering_from, follow_ups, taking, taking_by}
use Rattle.mk_quiet_laws.specs.Waiting.{Waits}

module _ (rules : RuleLines) (delivered : (link : List Msg) (number : ℕ) → fate_at rules link number ≡ DeliverFate) (column : ColumnState) where
  -- the first of a batch is taken
  pub batch_begins : (first end : ℕ) → first < end → (driver : DriverState) → delivering_from rules column first end driver ≡ taking column first (Deliver (first + 1) end ∷ []) driver
  batch_begins first end lt driver = by (end - first) refl
    where
      by : (n : ℕ) → end - first ≡ n → delivering rules column end (numbers_from first n) driver ≡ taking column first (Deliver (first + 1) end ∷ []) driver
      by zero e = absurd (omega (arith, e, lt))
      by (suc n) e =
          ap (λ (fate : Fate). by_fate column end first fate (delivering rules column end (numbers_from (first + 1) n)) driver) (delivered column.link first)

  -- an empty batch is done
  pub batch_ends : (first end : ℕ) → end ≤ first → (driver : DriverState) → delivering_from rules column first end driver ≡ Quiet driver
  batch_ends first end le driver = by (end - first) refl
    where
      by : (n : ℕ) → end - first ≡ n → delivering rules column end (numbers_from first n) driver ≡ Quiet driver
      by zero e = refl
      by (suc n) e = absurd (omega (arith, e, le))

-- what a take names, and that what it sends waits behind it, and with it what waited in the tasks that follow
pub record TakesOne (column : ColumnState) (number : ℕ) (after : List Task) (driver : DriverState) (worked : Worked) : Type 0 where
  pub tasks : List Task
  pub names : worked ≡ Names (TakeStep number) tasks driver
  pub waits : (other : ℕ) → Waits other after → Waits other tasks

pub takes_one : (column : ColumnState) (number : ℕ) (after : List Task) (driver : DriverState) → TakesOne column number after driver (taking column number after driver)
takes_one column number after driver = by (message column.link number)
  where
    by : (o : Option Msg) → TakesOne column number after driver (taking_by column number o after driver)
    by (Some msg) = record { tasks = follow_ups column msg.id ++ after; names = refl; waits = λ other w. inr w }
    by None = record { tasks = after; names = refl; waits = λ other w. w }

-- what a take of a message that was sent sends waits behind it
pub sent_waits : (column : ColumnState) (number : ℕ) (after : List Task) (driver : DriverState) (msg : Msg) → message column.link number ≡ Some msg →
    (taking column number after driver ≡ Names (TakeStep number) (follow_ups column msg.id ++ after) driver)
    × ((other : ℕ) → length column.link < other → Waits other (follow_ups column msg.id ++ after))
sent_waits column number after driver msg found = (ap (λ (o : Option Msg). taking_by column number o after driver) found, λ other lt. inl lt)

-- a message of a batch is the one that is taken, or waits in what is left of the batch
pub batch_waits : (first end number : ℕ) (tasks : List Task) → first ≤ number → number < end → (first ≡ number) ⊎ Waits number (Deliver (first + 1) end ∷ tasks)
batch_waits first end number tasks le lt = elim (at first number le) [ inl same ↦ inl same | inr more ↦ inr (inl (more, lt)) ]
  where
    at : (a b : ℕ) → a ≤ b → (a ≡ b) ⊎ (a + 1 ≤ b)
    at zero zero h = inl refl
    at zero (suc b) h = inr (omega arith)
    at (suc a) zero h = absurd (omega arith)
    at (suc a) (suc b) h = elim (at a b (omega arith)) [ inl same ↦ inl (ap suc same) | inr more ↦ inr (omega arith) ]
