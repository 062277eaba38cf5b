-- What a global line may go by, before each line of a round and at its end.
use Rattle.std.specs.Prelude.{◌≡◌, List, ◌∷◌, ◌++◌, length}
use Rattle.mk_lists.specs.Among.{Among}
use Rattle.mk_words.specs.Rebuilding.{NamesBelow}
use Rattle.mk_words.specs.declared.GlobalEntry.{GlobalEntry}
use Rattle.mk_words.specs.declared.GlobalLine.{GlobalLine}
use Rattle.mk_model.specs.EpochState.{MadeBase}
use Rattle.mk_epoch_laws.specs.FitLaws.{IsReached, LineFits}
use Rattle.mk_history.specs.declared.RoundLog.{RoundLog}
use Rattle.mk_history.specs.Histories.{History}
use Rattle.mk_history.specs.Legality.{EachRoundLegal, IsLegalRound}
use Rattle.mk_history.specs.Shape.{HasShape}
use Rattle.mk_history.specs.Wholes.{WholeState, first_state, state_through, handed_in}
use Rattle.mk_run_laws.specs.Cuts.{cut_round}
use Rattle.mk_run_laws.specs.Ends.{whole_within}

-- lines lead to the epoch machine, each replica may hand in what it has, and bases name keys that there are
pub record IsReady (run : History) (state : WholeState) : Type 0 where
  pub reached : IsReached state.epochs
  pub fits : (line : GlobalLine) → LineFits state.epochs (handed_in state line) line
  pub names : (made : MadeBase) → Among made state.epochs.made → NamesBelow (length run.key_names) made.base

-- so it is behind legal rounds and a round that is legal with these lines
abbrev pub LinesAreReady : Type 0
LinesAreReady =
    (run : History) → HasShape run → (done rest : List RoundLog) (round : RoundLog) → run.rounds ≡ done ++ round ∷ rest →
    EachRoundLegal run (first_state run) done → (lines more : List GlobalEntry) → round.globals ≡ lines ++ more →
    IsLegalRound run (cut_round round lines) (state_through run (first_state run) done) → IsReady run (whole_within run done round lines)
