-- The run of two bases that differ.
use Rattle.std.proofs.Common.{◌≤◌, ℕ, [], ◌∷◌, arith, inl, inr, refl}
use Rattle.std.specs.Prelude.{map, sum}
use Rattle.mk_history.specs.Shape.{HasShape, begins_in}
use Rattle.mk_history.specs.Legality.{IsLegal}
use Rattle.mk_history.specs.Wholes.{first_state}
use Rattle.mk_cases.specs.TwoBases.{two_bases, round, TwoBasesDiffer}
use Rattle.mk_cases.proofs.Tried.{tried_is_legal}

few_attempts : (client : ℕ) → sum (map (begins_in client) two_bases.rounds) ≤ 16384
few_attempts client = grind arith

shaped : HasShape two_bases
shaped =
    record {
      version = inl refl;
      faults = (omega arith, omega arith);
      columns = refl;
      few_columns = omega arith;
      clients = refl;
      few_clients = omega arith;
      few_keys = omega arith;
      named_clients = (refl, tt);
      named_keys = (refl, tt);
      distinct_clients = (λ a. a, tt);
      distinct_keys = (λ a. a, tt);
      some_round = omega arith;
      few_rounds = omega arith;
      few_globals = omega arith;
      few_attempts = few_attempts;
      rounds = (record { logs = refl; journals = refl; keys = (refl, (refl, (refl, tt))); steps = refl; entries = refl; globals = refl }, tt);
    }

legal : IsLegal two_bases
legal = (
  tried_is_legal two_bases round (first_state two_bases)
      (record { enabled = refl; ended = refl; answered = refl; matched = refl; told = refl }),
  tt,
)

pub two_bases_differ : TwoBasesDiffer
two_bases_differ =
    record {
      shaped = shaped;
      legal = legal;
      first = refl;
      second = refl;
      third = refl;
      built = refl;
      first_in_force = inr (3 ∷ [], (refl, omega arith));
      third_in_force = inr ([], omega arith);
    }
