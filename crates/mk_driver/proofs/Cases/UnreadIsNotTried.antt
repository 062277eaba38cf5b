-- An unread attempt is not tried again.
use Rattle.std.proofs.Common.{◌≡◌, [], ◌∷◌, refl}
use Rattle.mk_words.specs.declared.GlobalLine.TheVariants.{Wipe}
use Rattle.mk_proc.specs.declared.Item.TheVariants.{Write}
use Rattle.mk_script.specs.Scripts.{ScriptParts}
use Rattle.mk_history.proofs.NobodyServes.{run}
use Rattle.mk_driver.specs.Driven.{IsDriven}
use Rattle.mk_driver.proofs.Cases.Rows.{named_in, expected_in, driven_run}

abbrev script : ScriptParts
script =
    record {
      version = 1;
      size = 1;
      retry = 1;
      clients = record { name = 97 ∷ []; column = 0; home = 0 } ∷ [];
      keys = (120 ∷ []) ∷ [];
      faults = [];
      stops = [];
      rounds = record { txns = []; takeovers = []; globals = Wipe 0 ∷ (Wipe 1 ∷ (Wipe 2 ∷ [])) } ∷ (record { txns = record { client = 1; clock = 10; items = Write 0 5 ∷ [] } ∷ []; takeovers = []; globals = [] } ∷ []);
    }

pub driven : named_in script run ≡ expected_in run
driven = refl

pub is_driven : IsDriven script run
is_driven = driven_run script run driven (refl, (refl, tt)) refl refl refl refl refl refl refl
