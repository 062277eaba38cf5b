-- A key is deleted and written anew: the absent value is read, and counts as 0 in a sum.
use Rattle.std.proofs.Common.{◌≡◌, [], ◌∷◌, refl}
use Rattle.mk_proc.specs.declared.Item.TheVariants.{Read, Write, Compute, Delete}
use Rattle.mk_proc.specs.declared.ProcKind.TheVariants.{Add}
use Rattle.mk_script.specs.Scripts.{ScriptParts}
use Rattle.mk_history.proofs.AbsentValues.{run}
use Rattle.mk_driver.specs.Driven.{IsDriven}
use Rattle.mk_driver.proofs.Cases.Rows.{named_in, expected_in, driven_run}

abbrev script : ScriptParts
script =
    record {
      version = 2;
      size = 1;
      retry = 0;
      clients = record { name = 97 ∷ []; column = 0; home = 0 } ∷ [];
      keys = (120 ∷ []) ∷ [];
      faults = [];
      stops = [];
      rounds =
          record {
            txns =
                record { client = 1; clock = 10; items = Write 0 5 ∷ [] }
                ∷ (record { client = 1; clock = 20; items = Read 0 ∷ (Delete 0 ∷ []) }
                ∷ (record { client = 1; clock = 30; items = Read 0 ∷ (Compute 0 Add 1 ∷ []) } ∷ []));
            takeovers = [];
            globals = [];
          }
          ∷ [];
    }

pub driven : named_in script run ≡ expected_in run
driven = refl

pub is_driven : IsDriven script run
is_driven = driven_run script run driven (refl, tt) refl refl refl refl refl refl refl
