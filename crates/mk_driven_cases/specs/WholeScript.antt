-- The script by which the run goes that changes its epoch, loses a memory and forgets an outcome.
use Rattle.std.specs.Prelude.{[], ◌∷◌}
use Rattle.mk_words.specs.declared.GlobalLine.TheVariants.{Wipe, Ask, Promise, Merge, Adopt, Enter}
use Rattle.mk_words.specs.declared.MsgKind.TheVariants.{Ask as AskKind}
use Rattle.mk_proc.specs.declared.Item.TheVariants.{Read as ReadItem, Write as WriteItem}
use Rattle.mk_script.specs.declared.lines.Fate.TheVariants.{Lose}
use Rattle.mk_script.specs.Scripts.{ScriptParts}
use Rattle.mk_driver.specs.Driven.{IsDriven}
use Rattle.mk_cases.specs.WholeLife.{life}

-- the question of the takeover to replica 2 is lost
abbrev pub script : ScriptParts
script =
    record {
      version = 2;
      size = 1;
      retry = 0;
      clients = record { name = 97 ∷ []; column = 0; home = 0 } ∷ (record { name = 98 ∷ []; column = 0; home = 2 } ∷ []);
      keys = (120 ∷ []) ∷ ((121 ∷ []) ∷ []);
      faults = record { kind = AskKind; id = record { client = 1; seq = 1 }; replica = 2; nth = 1; fate = Lose } ∷ [];
      stops = [];
      rounds =
          record {
            txns = record { client = 1; clock = 10; items = WriteItem 0 5 ∷ [] } ∷ (record { client = 1; clock = 20; items = WriteItem 1 6 ∷ [] } ∷ []);
            takeovers = [];
            globals = Ask 1 ∷ (Promise 1 1 ∷ (Promise 1 0 ∷ (Merge 1 ∷ (Adopt 1 0 ∷ (Adopt 1 1 ∷ (Enter 1 ∷ []))))));
          }
          ∷ (record { txns = []; takeovers = record { id = record { client = 1; seq = 1 }; view = 2 } ∷ []; globals = Wipe 2 ∷ (Adopt 1 2 ∷ (Enter 1 ∷ [])) }
          ∷ (record { txns = record { client = 2; clock = 30; items = ReadItem 0 ∷ [] } ∷ []; takeovers = []; globals = [] } ∷ []));
    }

-- each column goes by the driver's turns, and the global lines are the script's
abbrev pub LifeIsDriven : Type 0
LifeIsDriven = IsDriven script life
