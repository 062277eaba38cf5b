-- The state that a call leads on to.
use Rattle.mk_words.specs.Bases.{BaseState}
use Rattle.mk_words.specs.declared.GlobalLine.{GlobalLine}
use Rattle.mk_words.specs.declared.GlobalAnswer.{GlobalAnswer}
use Rattle.mk_model.specs.EpochState.{EpochState}
use Rattle.mk_model.specs.GlobalSteps.{HandedIn, GlobalStep}
use Rattle.mk_epoch.specs.Standing.{ReplicasView, StandsFor}
use Rattle.mk_epoch_laws.specs.FitLaws.{IsReached}

-- the line with this answer leads from the state to one that lines lead to, and what is kept stands for that
pub record LeadsOn {B : Type 0} (stands : B → BaseState → Type 0) (kept : ReplicasView B) (state : EpochState) (handed : HandedIn) (line : GlobalLine) (answer : GlobalAnswer) : Type 0 where
  pub after : EpochState
  pub step : GlobalStep state handed line answer after
  pub reached : IsReached after
  pub stood_for : StandsFor stands kept after
