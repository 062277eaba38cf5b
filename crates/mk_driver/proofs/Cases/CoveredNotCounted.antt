-- A covered outcome is not counted.
use Rattle.std.proofs.Common.{◌≡◌, [], ◌∷◌, refl}
use Rattle.mk_words.specs.declared.GlobalLine.TheVariants.{Ask, Promise as PromiseLine, Merge}
use Rattle.mk_proc.specs.declared.Item.TheVariants.{Write}
use Rattle.mk_script.specs.Scripts.{ScriptParts}
use Rattle.mk_history.proofs.CoveredNotCounted.{run}
use Rattle.mk_driver.specs.Driven.{IsDriven}
use Rattle.mk_driver.proofs.Cases.Rows.{named_in, expected_in, driven_run}

abbrev script : ScriptParts
script =
    record {
      version = 2;
      size = 1;
      retry = 0;
      clients = record { name = 97 ∷ []; column = 0; home = 0 } ∷ [];
      keys = (120 ∷ []) ∷ ((121 ∷ []) ∷ []);
      faults = [];
      stops = [];
      rounds = record { txns = record { client = 1; clock = 10; items = Write 0 5 ∷ [] } ∷ (record { client = 1; clock = 20; items = Write 1 6 ∷ [] } ∷ []); takeovers = []; globals = Ask 1 ∷ (PromiseLine 1 1 ∷ (PromiseLine 1 0 ∷ (Merge 1 ∷ []))) } ∷ [];
    }

pub driven : named_in script run ≡ expected_in run
driven = refl

pub is_driven : IsDriven script run
is_driven = driven_run script run driven (refl, tt) refl refl refl refl refl refl refl
