-- How one column goes on to the end of its round.
use Rattle.std.specs.Prelude.{◌≡◌, ℕ, List, [], ◌∷◌, ◌++◌, length, None}
use Rattle.mk_lists.specs.Among.{Each}
use Rattle.mk_quorum.specs.Sizes.{members}
use Rattle.mk_trim.specs.declared.ReplicaView.{ReplicaView}
use Rattle.mk_words.specs.declared.Step.{Step}
use Rattle.mk_script.specs.Scripts.{ScriptParts}
use Rattle.mk_script.specs.Whole.{IsWhole}
use Rattle.mk_faults.specs.Fates.{RuleLines, rules_of}
use Rattle.mk_model.specs.ColumnState.{Setting}
use Rattle.mk_model.specs.ColumnState.Work.{Idle}
use Rattle.mk_model.specs.Conditions.{blocked}
use Rattle.mk_model.specs.Steps.{column_after}
use Rattle.mk_model.specs.Logs.{EachEnabled, LogReplays, column_through}
use Rattle.mk_column.specs.ColumnByCode.{ColumnView}
use Rattle.mk_driver.specs.Driven.{Standing, PastRound, IsNamed, IsTurned, next_at, setting_in, standing_after, standing_at, turn}
use Rattle.mk_driver.specs.declared.Next.TheVariants.{Over}
use Rattle.mk_driver.specs.Turns.{choice}
use Rattle.mk_driver.specs.Drivers.{DriverView}
use Rattle.mk_driver.specs.Standings.{Stands}
use Rattle.mk_driver_laws.specs.Enabled.{HasCome, HasViews}

-- each of these steps was named in its turn
abbrev pub AreNamed : ScriptParts → Setting → Standing → List Step → Type 0
AreNamed script round standing [] = Unit {0}
AreNamed script round standing (step ∷ steps) =
    IsNamed (next_at script round standing) step × AreNamed script round (standing_after script round standing step) steps

-- whatever finished rounds and views the two stood for with the log so far, P holds of them
abbrev pub WhereStanding : RuleLines → DriverView → ColumnView → (ScriptParts → List PastRound → List ReplicaView → Type 0) → Type 0
WhereStanding rules driver column P =
    (script : ScriptParts) (rounds : List PastRound) (views : List ReplicaView) → rules ≡ rules_of script →
    Stands script driver column rounds views column.log → P script rounds views

-- where the column stood with its log
abbrev pub stood_at : DriverView → ColumnView → ScriptParts → List PastRound → List ReplicaView → Standing
stood_at driver column script rounds views = standing_at script driver.column rounds views column.log

-- nothing is named at the column, and the driver stays as it is
abbrev pub NamesNothing : RuleLines → DriverView → ColumnView → Type 0
NamesNothing rules driver column = choice rules column.setting column.state driver.driver ≡ record { next = Over; driver = driver.driver }

-- number, setting, and all of the driver but its tasks are as they were
pub record IsSame (driver new_driver : DriverView) (column new_column : ColumnView) : Type 0 where
  pub number : new_column.number ≡ column.number
  pub setting : new_column.setting ≡ column.setting
  pub driver_is : new_driver ≡ record driver { driver = new_driver.driver }

-- the column did this step, which was enabled
pub record HasDone (step : Step) (column new_column : ColumnView) : Type 0 where
  pub enabled : blocked column.setting column.state step ≡ None
  pub after : new_column ≡ record column { state = column_after column.setting column.state step; log = column.log ++ step ∷ [] }

-- one step was done: for all rounds and views for which the two stood it was named, and the two stand for the log with it
pub record HasStepped (rules : RuleLines) (driver new_driver : DriverView) (column new_column : ColumnView) : Type 0 where
  pub step : Step
  pub done : HasDone step column new_column
  pub driver_is : new_driver ≡ record driver { driver = new_driver.driver }
  pub named : WhereStanding rules driver column (λ script rounds views. IsNamed (turn script driver.column rounds views column.log) step)
  pub stands : WhereStanding rules driver column (λ script rounds views. Stands script new_driver new_column rounds views new_column.log)

-- nothing more is named, and is not from now on; no key call is under way, and the two stand as before
pub record IsOver (rules : RuleLines) (driver new_driver : DriverView) (column : ColumnView) : Type 0 where
  pub idle : column.state.work ≡ Idle
  pub again : NamesNothing rules new_driver column
  pub driver_is : new_driver ≡ record driver { driver = new_driver.driver }
  pub over : WhereStanding rules driver column (λ script rounds views. turn script driver.column rounds views column.log ≡ Over)
  pub stands : WhereStanding rules driver column (λ script rounds views. Stands script new_driver column rounds views column.log)

-- The column and its driver have gone on by these steps: each was enabled in its turn, and for all rounds and views for which the
-- two stood, each was named, and the two stand for the longer log.
pub record HasGone (rules : RuleLines) (driver new_driver : DriverView) (column new_column : ColumnView) (more : List Step) : Type 0 where
  pub log : new_column.log ≡ column.log ++ more
  pub enabled : EachEnabled column.setting column.state more
  pub state : new_column.state ≡ column_through column.setting column.state more
  pub same : IsSame driver new_driver column new_column
  pub named : WhereStanding rules driver column (λ script rounds views. AreNamed script (setting_in script views) (stood_at driver column script rounds views) more)
  pub stands : WhereStanding rules driver column (λ script rounds views. Stands script new_driver new_column rounds views new_column.log)

-- They have gone on to the end: the steps replay from the column as it was and lead to the column as it is, which wants no key
-- call, and they go as the turns name, to the end, where nothing more is named, however often the driver is asked.
pub record HasEnded (rules : RuleLines) (driver new_driver : DriverView) (column new_column : ColumnView) : Type 0 where
  pub more : List Step
  pub log : new_column.log ≡ column.log ++ more
  pub replays : LogReplays column.setting column.state more
  pub state : new_column.state ≡ column_through column.setting column.state more
  pub same : IsSame driver new_driver column new_column
  pub over : NamesNothing rules new_driver new_column
  pub turned : WhereStanding rules driver column (λ script rounds views. IsTurned script (setting_in script views) (stood_at driver column script rounds views) more)
  pub stands : WhereStanding rules driver column (λ script rounds views. Stands script new_driver new_column rounds views new_column.log)

-- The two are of a script, whose rounds and steps so far were done in this column. It is the condition of a wanted key call to be at
-- one of the replicas and keys.
pub record IsOfScript (rules : RuleLines) (replicas keys : ℕ) (driver : DriverView) (column : ColumnView) : Type 0 where
  pub script : ScriptParts
  pub rounds : List PastRound
  pub views : List ReplicaView
  pub whole : IsWhole script
  pub rules_are : rules ≡ rules_of script
  pub stands : Stands script driver column rounds views column.log
  pub come : HasCome script driver.column rounds views column.log
  pub past_views : Each (λ (past : PastRound). HasViews script past.views) rounds
  pub few_views : HasViews script views
  pub size : replicas ≡ members script.size
  pub keys_are : keys ≡ length script.keys
