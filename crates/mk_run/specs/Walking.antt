-- A legal run that is replayed round by round, and what epochs have settled in it.
use Rattle.std.specs.Prelude.{◌≡◌, ℕ, Bool, true, false, List, [], ◌∷◌, ◌++◌, filter}
use Rattle.mk_words.specs.Bases.{BaseState}
use Rattle.mk_history.specs.declared.RoundLog.{RoundLog}
use Rattle.mk_history.specs.Histories.{History}
use Rattle.mk_history.specs.Learning.{Place, Found}
use Rattle.mk_history.specs.Learning.Place.{InLog, InGlobals}
use Rattle.mk_history.specs.Legality.{IsLegal}
use Rattle.mk_history.specs.Shape.{HasShape}
use Rattle.mk_history.specs.Wholes.{first_state, state_through}
use Rattle.mk_state.specs.Standings.{WholeView, IsAt}
use Rattle.mk_whole.specs.Standings.{IsItself}
use Rattle.mk_run.specs.declared.firsts.FirstLearning.{FirstLearning}
use Rattle.mk_run.specs.Firsts.{StandsForFound}
use Rattle.mk_run.specs.News.{entered_along, found_along, SameEpochs}

-- found at a global line
abbrev pub is_global : Place → Bool
is_global (InGlobals round entry) = true
is_global (InLog round column entry) = false

-- what the Enters of epochs told in these rounds
abbrev pub told_along : History → List RoundLog → List Found
told_along run rounds = filter (λ f. is_global f.place) (found_along run rounds)

-- the machine, the epochs that were entered, and what their Enters told
pub record WalkView : Type 0 where
  pub whole : WholeView BaseState
  pub entered : List ℕ
  pub settled : List FirstLearning

-- these rounds of the run were replayed, and what Enters told in them is kept
pub record HasWalked (run : History) (walk : WalkView) (rounds : List RoundLog) : Type 0 where
  pub at : IsAt IsItself run walk.whole (state_through run (first_state run) rounds)
  pub entered : SameEpochs walk.entered (entered_along [] rounds)
  pub settled : StandsForFound walk.settled (told_along run rounds)

-- the round is the legal run's next behind those that were replayed
pub record MayWalk (run : History) (done : List RoundLog) (walk : WalkView) (round : RoundLog) : Type 0 where
  pub rest : List RoundLog
  pub shape : HasShape run
  pub legal : IsLegal run
  pub rounds : run.rounds ≡ done ++ round ∷ rest
  pub walked : HasWalked run walk done
