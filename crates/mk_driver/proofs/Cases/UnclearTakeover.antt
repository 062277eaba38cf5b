-- Unclear.
use Rattle.std.proofs.Common.{◌≡◌, [], ◌∷◌, refl}
use Rattle.mk_words.specs.declared.MsgKind.TheVariants.{Validate as ValidateKind, Ask as AskKind}
use Rattle.mk_proc.specs.declared.Item.TheVariants.{Write}
use Rattle.mk_script.specs.Scripts.{ScriptParts}
use Rattle.mk_script.specs.declared.lines.Fate.TheVariants.{Lose}
use Rattle.mk_history.proofs.UnclearTakeover.{run}
use Rattle.mk_driver.specs.Driven.{IsDriven}
use Rattle.mk_driver.proofs.Cases.Rows.{named_in, expected_in, driven_run}

abbrev script : ScriptParts
script =
    record {
      version = 1;
      size = 2;
      retry = 0;
      clients = record { name = 97 ∷ []; column = 0; home = 0 } ∷ [];
      keys = (120 ∷ []) ∷ [];
      faults = record { kind = ValidateKind; id = record { client = 1; seq = 1 }; replica = 2; nth = 1; fate = Lose } ∷ (record { kind = ValidateKind; id = record { client = 1; seq = 1 }; replica = 3; nth = 1; fate = Lose } ∷ (record { kind = ValidateKind; id = record { client = 1; seq = 1 }; replica = 4; nth = 1; fate = Lose } ∷ (record { kind = AskKind; id = record { client = 1; seq = 1 }; replica = 3; nth = 1; fate = Lose } ∷ (record { kind = AskKind; id = record { client = 1; seq = 1 }; replica = 4; nth = 1; fate = Lose } ∷ []))));
      stops = [];
      rounds = record { txns = record { client = 1; clock = 10; items = Write 0 5 ∷ [] } ∷ []; takeovers = record { id = record { client = 1; seq = 1 }; view = 1 } ∷ []; globals = [] } ∷ [];
    }

pub driven : named_in script run ≡ expected_in run
driven = refl

pub is_driven : IsDriven script run
is_driven = driven_run script run driven (refl, tt) refl refl refl refl refl refl refl
