-- How far a validation has come, by numbers.
use Rattle.std.specs.Prelude.{ℕ, suc, List, [], take, drop, map, Option, Some, None}
use Rattle.mk_txn.specs.declared.Conflict.{Conflict}
use Rattle.mk_words.specs.Checks.{KeyAct, release_of}
use Rattle.mk_words.specs.Validations.{ValidationState}

-- so many of the checks were passed, and since one was refused so many of those were given up
abbrev pub validation_at : List KeyAct → ℕ → ℕ → Option Conflict → ValidationState
validation_at checks passed given_up None = record { passed = take passed checks; left = drop passed checks; refusal = None; releases = [] }
validation_at checks passed given_up (Some conflict) =
    record {
      passed = take passed checks;
      left = drop (suc passed) checks;
      refusal = Some conflict;
      releases = map release_of (drop given_up (take passed checks));
    }
