-- Which messages wait in an agenda: those that are taken before any client's turn, settling or takeover.
use Rattle.std.specs.Prelude.{◌≡◌, ◌⊎◌, ◌<◌, ◌≤◌, ℕ, List, [], ◌∷◌, length}
use Rattle.mk_lists.specs.Among.{Among}
use Rattle.mk_txn.specs.Transactions.{Transaction}
use Rattle.mk_words.specs.Validations.{ValidationState}
use Rattle.mk_words.specs.declared.Step.{Step}
use Rattle.mk_words.specs.declared.Step.TheVariants.{Take}
use Rattle.mk_model.specs.ColumnState.Work.{Validating}
use Rattle.mk_driver.specs.declared.Task.{Task}
use Rattle.mk_driver.specs.declared.Task.TheVariants.{Deliver, DeliverSince, Take as TakeTask, Notice, Fetch, Reach, Resume, Turns, Takeover, Late, Settle, SettleTakeover}
use Rattle.mk_driver.specs.Driven.{Standing}

-- the message of this number is taken by one of these tasks, and none before it lets a client or a settling act
abbrev pub Waits : ℕ → List Task → Type 0
Waits number [] = ⊥
Waits number (Deliver first end ∷ tasks) = ((first ≤ number) × (number < end)) ⊎ Waits number tasks
Waits number (DeliverSince sent ∷ tasks) = (sent < number) ⊎ Waits number tasks
Waits number (TakeTask other ∷ tasks) = (other ≡ number) ⊎ Waits number tasks
Waits number (Notice id ∷ tasks) = Waits number tasks
Waits number (Fetch id ∷ tasks) = ⊥
Waits number (Reach id point ∷ tasks) = ⊥
Waits number (Resume id ∷ tasks) = ⊥
Waits number (Turns place did ∷ tasks) = ⊥
Waits number (Takeover id view ∷ tasks) = ⊥
Waits number (Late ∷ tasks) = ⊥
Waits number (Settle id ∷ tasks) = ⊥
Waits number (SettleTakeover id view ∷ tasks) = ⊥

-- what holds of driver, column and log all along: each message was taken or waits; while a validation is under way the next
-- message would wait too; and no message is late or held
pub record IsWaiting (standing : Standing) (log : List Step) : Type 0 where
  pub sent : (number : ℕ) → 1 ≤ number → number ≤ length standing.column.link → Among (Take number) log ⊎ Waits number standing.driver.agenda
  pub next : (txn : Transaction) (r epoch : ℕ) (state : ValidationState) → standing.column.work ≡ Validating txn r epoch state →
      (number : ℕ) → length standing.column.link < number → Waits number standing.driver.agenda
  pub not_late : standing.driver.late ≡ []
  pub not_held : standing.driver.held ≡ []
