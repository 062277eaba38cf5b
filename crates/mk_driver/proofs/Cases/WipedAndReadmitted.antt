-- Wipe, readmission, replay.
use Rattle.std.proofs.Common.{◌≡◌, [], ◌∷◌, refl}
use Rattle.mk_words.specs.declared.GlobalLine.TheVariants.{Wipe, Ask, Promise as PromiseLine, Merge, Adopt, Enter}
use Rattle.mk_proc.specs.declared.Item.TheVariants.{Read, Write}
use Rattle.mk_script.specs.Scripts.{ScriptParts}
use Rattle.mk_history.proofs.WipedAndReadmitted.{run}
use Rattle.mk_driver.specs.Driven.{IsDriven}
use Rattle.mk_driver.proofs.Cases.Rows.{named_in, expected_in, driven_run}

abbrev script : ScriptParts
script =
    record {
      version = 1;
      size = 1;
      retry = 0;
      clients = record { name = 97 ∷ []; column = 0; home = 2 } ∷ [];
      keys = (120 ∷ []) ∷ [];
      faults = [];
      stops = [];
      rounds = record { txns = record { client = 1; clock = 10; items = Write 0 5 ∷ [] } ∷ []; takeovers = []; globals = Wipe 2 ∷ (Ask 1 ∷ (PromiseLine 1 1 ∷ (PromiseLine 1 0 ∷ (PromiseLine 1 2 ∷ (Merge 1 ∷ (Adopt 1 0 ∷ (Adopt 1 1 ∷ (Adopt 1 2 ∷ (Enter 1 ∷ (Wipe 2 ∷ (Adopt 1 2 ∷ (Ask 3 ∷ (PromiseLine 3 0 ∷ (PromiseLine 3 1 ∷ (Merge 3 ∷ (Adopt 3 0 ∷ (Adopt 3 1 ∷ (Adopt 3 2 ∷ (Enter 3 ∷ []))))))))))))))))))) } ∷ (record { txns = record { client = 1; clock = 20; items = Read 0 ∷ [] } ∷ []; takeovers = []; globals = [] } ∷ []);
    }

pub driven : named_in script run ≡ expected_in run
driven = refl

pub is_driven : IsDriven script run
is_driven = driven_run script run driven (refl, (refl, tt)) refl refl refl refl refl refl refl
