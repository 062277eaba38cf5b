-- The run with an epoch change, a loss of memory and a forgotten outcome goes by its script.
use Rattle.std.proofs.Common.{[], ◌∷◌, refl}
use Rattle.mk_model.specs.EpochState.{views_of}
use Rattle.mk_history.specs.declared.RoundLog.{RoundLog}
use Rattle.mk_history.specs.Wholes.{WholeState, first_state, after_round}
use Rattle.mk_driver.specs.Driven.{IsDriven, PastRound}
use Rattle.mk_cases.specs.WholeLife.{life, first_round, second_round, third_round}
use Rattle.mk_driven_cases.specs.WholeScript.{script, LifeIsDriven}
use Rattle.mk_driven_cases.proofs.Turned.{round_turned}

abbrev after_first : WholeState
after_first = after_round life first_round (first_state life)

abbrev after_second : WholeState
after_second = after_round life second_round after_first

-- a round with the views that it began with
abbrev past : WholeState → RoundLog → PastRound
past state round = record { views = views_of state.epochs; round = round }

pub life_is_driven : LifeIsDriven
life_is_driven =
    record {
      version = refl;
      size = refl;
      columns = refl;
      client_columns = refl;
      client_names = refl;
      key_names = refl;
      rounds = refl;
      turns = (
        round_turned script life [] (first_state life) first_round refl,
        refl,
        (
          round_turned script life (past (first_state life) first_round ∷ []) after_first second_round refl,
          refl,
          (round_turned script life (past (first_state life) first_round ∷ (past after_first second_round ∷ [])) after_second third_round refl, refl, tt),
        ),
      );
    }
