-- What a replay goes by.
use Rattle.std.specs.Prelude.{◌≡◌, true, List, ◌∷◌, ◌++◌}
use Rattle.std.specs.List.{list_all}
use Rattle.mk_words.specs.Bases.{BaseState}
use Rattle.mk_words.specs.declared.GlobalEntry.{GlobalEntry}
use Rattle.mk_history.specs.declared.RoundLog.{RoundLog}
use Rattle.mk_history.specs.Histories.{History}
use Rattle.mk_history.specs.Legality.{EachRoundLegal, EachGlobalAnswered}
use Rattle.mk_history.specs.Shape.{HasShape, global_fits}
use Rattle.mk_history.specs.Wholes.{WholeState, first_state, state_through, globals_through}
use Rattle.mk_replay_laws.specs.AtLines.{IsReady}
use Rattle.mk_state.specs.Standings.{WholeView, IsAt, IsWithin}

-- a base that is kept is the one that it stands for
abbrev pub IsItself : BaseState → BaseState → Type 0
IsItself kept base = kept ≡ base

-- the round can be replayed: it is the run's next behind these, which are legal, and what is kept is the state there
pub record MayReplay (run : History) (done : List RoundLog) (whole : WholeView BaseState) (round : RoundLog) : Type 0 where
  pub rest : List RoundLog
  pub shape : HasShape run
  pub rounds : run.rounds ≡ done ++ round ∷ rest
  pub legal : EachRoundLegal run (first_state run) done
  pub at : IsAt IsItself run whole (state_through run (first_state run) done)

-- so far as these lines have the answers that the states before them allow, the state behind them has all that a line goes by
pub record LinesMayBeDone (run : History) (state : WholeState) (whole : WholeView BaseState) (entries : List GlobalEntry) : Type 0 where
  pub within : IsWithin IsItself run whole state
  pub fits : list_all (global_fits run) entries ≡ true
  pub ready : (lines more : List GlobalEntry) → entries ≡ lines ++ more → EachGlobalAnswered run state lines → IsReady run (globals_through run state lines)
