-- The run with an epoch change, a loss of memory and a forgotten outcome.
use Rattle.std.proofs.Common.{◌≤◌, ℕ, arith, inr, refl}
use Rattle.std.specs.Prelude.{map, sum}
use Rattle.mk_history.specs.Shape.{HasShape, begins_in}
use Rattle.mk_history.specs.Legality.{IsLegal}
use Rattle.mk_history.specs.Safety.{LegalRunsAreSafe}
use Rattle.mk_history.specs.Wholes.{WholeState, first_state, after_round}
use Rattle.mk_cases.specs.WholeLife.{life, first_round, second_round, third_round, IsWholeLife}
use Rattle.mk_cases.proofs.Tried.{tried_is_legal, apart}

few_attempts : (client : ℕ) → sum (map (begins_in client) life.rounds) ≤ 16384
few_attempts client = grind arith

shaped : HasShape life
shaped =
    record {
      version = inr refl;
      faults = (omega arith, omega arith);
      columns = refl;
      few_columns = omega arith;
      clients = refl;
      few_clients = omega arith;
      few_keys = omega arith;
      named_clients = (refl, (refl, tt));
      named_keys = (refl, (refl, tt));
      distinct_clients = (apart 97 0, (λ a. a, tt));
      distinct_keys = (apart 120 0, (λ a. a, tt));
      some_round = omega arith;
      few_rounds = omega arith;
      few_globals = omega arith;
      few_attempts = few_attempts;
      rounds = (
        record { logs = refl; journals = refl; keys = (refl, (refl, (refl, tt))); steps = refl; entries = refl; globals = refl },
        (
          record { logs = refl; journals = refl; keys = (refl, (refl, (refl, tt))); steps = refl; entries = refl; globals = refl },
          (record { logs = refl; journals = refl; keys = (refl, (refl, (refl, tt))); steps = refl; entries = refl; globals = refl }, tt),
        ),
      );
    }

abbrev after_first : WholeState
after_first = after_round life first_round (first_state life)

legal : IsLegal life
legal = (
  tried_is_legal life first_round (first_state life) (record { enabled = refl; ended = refl; answered = refl; matched = refl; told = refl }),
  (
    tried_is_legal life second_round after_first (record { enabled = refl; ended = refl; answered = refl; matched = refl; told = refl }),
    (
      tried_is_legal life third_round (after_round life second_round after_first)
          (record { enabled = refl; ended = refl; answered = refl; matched = refl; told = refl }),
      tt,
    ),
  ),
)

pub is_whole_life : LegalRunsAreSafe → IsWholeLife
is_whole_life safe =
    record {
      shaped = shaped;
      legal = legal;
      safe = safe life shaped legal;
      forgotten = refl;
      serves = refl;
      its_epoch = refl;
      all_commits = refl;
    }
