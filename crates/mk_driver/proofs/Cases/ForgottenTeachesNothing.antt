-- In version 2 a takeover that is told only what is forgotten learns nothing, and has nothing to pick.
use Rattle.std.proofs.Common.{◌≡◌, [], ◌∷◌, refl}
use Rattle.mk_words.specs.declared.GlobalLine.TheVariants.{Ask, Promise as PromiseLine, Merge, Adopt, Enter}
use Rattle.mk_words.specs.declared.MsgKind.TheVariants.{Ask as AskKind}
use Rattle.mk_proc.specs.declared.Item.TheVariants.{Write}
use Rattle.mk_script.specs.declared.lines.Fate.TheVariants.{Lose}
use Rattle.mk_script.specs.Scripts.{ScriptParts}
use Rattle.mk_history.proofs.ForgottenTeachesNothing.{with_marks}
use Rattle.mk_driver.specs.Driven.{IsDriven}
use Rattle.mk_driver.proofs.Cases.Rows.{named_in, expected_in, driven_run}

abbrev script : ScriptParts
script =
    record {
      version = 2;
      size = 1;
      retry = 0;
      clients = record { name = 97 ∷ []; column = 0; home = 0 } ∷ [];
      keys = (120 ∷ []) ∷ ((121 ∷ []) ∷ []);
      faults = record { kind = AskKind; id = record { client = 1; seq = 1 }; replica = 2; nth = 1; fate = Lose } ∷ [];
      stops = [];
      rounds =
          record {
            txns = record { client = 1; clock = 10; items = Write 0 5 ∷ [] } ∷ (record { client = 1; clock = 20; items = Write 1 6 ∷ [] } ∷ []);
            takeovers = [];
            globals = Ask 1 ∷ (PromiseLine 1 1 ∷ (PromiseLine 1 0 ∷ (Merge 1 ∷ (Adopt 1 0 ∷ (Adopt 1 1 ∷ (Enter 1 ∷ []))))));
          }
          ∷ (record { txns = []; takeovers = record { id = record { client = 1; seq = 1 }; view = 2 } ∷ []; globals = [] } ∷ []);
    }

pub driven : named_in script with_marks ≡ expected_in with_marks
driven = refl

pub is_driven : IsDriven script with_marks
is_driven = driven_run script with_marks driven (refl, (refl, tt)) refl refl refl refl refl refl refl
