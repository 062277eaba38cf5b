-- A stage without a step is a turn.
use Rattle.std.proofs.Common.{◌≡◌, List, [], ◌∷◌, refl}
use Rattle.mk_txn.specs.declared.Value.TheVariants.{Number}
use Rattle.mk_words.specs.declared.Act.TheVariants.{Get, CheckRead, CheckWrite, CommitRead, CommitWrite}
use Rattle.mk_words.specs.declared.Answer.TheVariants.{Version, Okay, Done}
use Rattle.mk_words.specs.declared.GlobalEntry.{GlobalEntry}
use Rattle.mk_words.specs.declared.MsgKind.TheVariants.{Vote as VoteKind}
use Rattle.mk_proc.specs.declared.Item.TheVariants.{Read, Write}
use Rattle.mk_script.specs.Scripts.{ScriptParts}
use Rattle.mk_script.specs.declared.lines.Fate.TheVariants.{Lose}
use Rattle.mk_words.specs.declared.Step.{Step}
use Rattle.mk_words.specs.declared.Step.TheVariants.{Begin, Read as ReadStep, Stamp, Validate, Take, Key, Rule}
use Rattle.mk_history.specs.declared.RoundLog.{RoundLog}
use Rattle.mk_history.specs.Histories.{History}
use Rattle.mk_driver.specs.Driven.{IsDriven}
use Rattle.mk_driver.proofs.Cases.Rows.{run_of, named_in, expected_in, driven_run}

abbrev script : ScriptParts
script =
    record {
      version = 1;
      size = 1;
      retry = 0;
      clients = record { name = 97 ∷ []; column = 0; home = 0 } ∷ (record { name = 98 ∷ []; column = 0; home = 0 } ∷ []);
      keys = (120 ∷ []) ∷ ((121 ∷ []) ∷ []);
      faults = record { kind = VoteKind; id = record { client = 1; seq = 1 }; replica = 1; nth = 1; fate = Lose } ∷ (record { kind = VoteKind; id = record { client = 1; seq = 1 }; replica = 2; nth = 1; fate = Lose } ∷ []);
      stops = [];
      rounds = record { txns = record { client = 1; clock = 10; items = Write 0 1 ∷ [] } ∷ (record { client = 1; clock = 30; items = Read 1 ∷ [] } ∷ (record { client = 2; clock = 20; items = Write 1 2 ∷ [] } ∷ [])); takeovers = []; globals = [] } ∷ [];
    }

abbrev log_1_0 : List Step
log_1_0 =
    Begin 1 0 ∷ (
    Stamp (record { client = 1; seq = 1 }) 10 (record { key = 0; value = Number 1 } ∷ []) ∷ (
    Begin 2 0 ∷ (
    Stamp (record { client = 2; seq = 1 }) 20 (record { key = 1; value = Number 2 } ∷ []) ∷ (
    Validate (record { client = 1; seq = 1 }) ∷ (
    Take 1 ∷ (
    Key (record { replica = 0; key = 0; act = CheckWrite (record { time = 10; client = 1 }) }) Okay ∷ (
    Take 4 ∷ (
    Take 2 ∷ (
    Key (record { replica = 1; key = 0; act = CheckWrite (record { time = 10; client = 1 }) }) Okay ∷ (
    Take 3 ∷ (
    Key (record { replica = 2; key = 0; act = CheckWrite (record { time = 10; client = 1 }) }) Okay ∷ (
    Validate (record { client = 2; seq = 1 }) ∷ (
    Take 7 ∷ (
    Key (record { replica = 0; key = 1; act = CheckWrite (record { time = 20; client = 2 }) }) Okay ∷ (
    Take 10 ∷ (
    Take 8 ∷ (
    Key (record { replica = 1; key = 1; act = CheckWrite (record { time = 20; client = 2 }) }) Okay ∷ (
    Take 11 ∷ (
    Take 9 ∷ (
    Key (record { replica = 2; key = 1; act = CheckWrite (record { time = 20; client = 2 }) }) Okay ∷ (
    Take 12 ∷ (
    Rule (record { client = 2; seq = 1 }) ∷ (
    Take 13 ∷ (
    Key (record { replica = 0; key = 1; act = CommitWrite (record { time = 20; client = 2 }) (Number 2) }) Done ∷ (
    Take 14 ∷ (
    Key (record { replica = 1; key = 1; act = CommitWrite (record { time = 20; client = 2 }) (Number 2) }) Done ∷ (
    Take 15 ∷ (
    Key (record { replica = 2; key = 1; act = CommitWrite (record { time = 20; client = 2 }) (Number 2) }) Done ∷ (
    Begin 1 0 ∷ (
    ReadStep (record { client = 1; seq = 2 }) 1 ∷ (
    Key (record { replica = 0; key = 1; act = Get }) (Version (record { time = 20; client = 2 }) (Number 2)) ∷ (
    Stamp (record { client = 1; seq = 2 }) 30 [] ∷ (
    Validate (record { client = 1; seq = 2 }) ∷ (
    Take 16 ∷ (
    Key (record { replica = 0; key = 1; act = CheckRead (record { time = 30; client = 1 }) (record { time = 20; client = 2 }) }) Okay ∷ (
    Take 19 ∷ (
    Take 17 ∷ (
    Key (record { replica = 1; key = 1; act = CheckRead (record { time = 30; client = 1 }) (record { time = 20; client = 2 }) }) Okay ∷ (
    Take 20 ∷ (
    Take 18 ∷ (
    Key (record { replica = 2; key = 1; act = CheckRead (record { time = 30; client = 1 }) (record { time = 20; client = 2 }) }) Okay ∷ (
    Take 21 ∷ (
    Rule (record { client = 1; seq = 2 }) ∷ (
    Take 22 ∷ (
    Key (record { replica = 0; key = 1; act = CommitRead (record { time = 30; client = 1 }) }) Done ∷ (
    Take 23 ∷ (
    Key (record { replica = 1; key = 1; act = CommitRead (record { time = 30; client = 1 }) }) Done ∷ (
    Take 24 ∷ (
    Key (record { replica = 2; key = 1; act = CommitRead (record { time = 30; client = 1 }) }) Done ∷ [])))))))))))))))))))))))))))))))))))))))))))))))))

abbrev globals_1 : List GlobalEntry
globals_1 = []

abbrev round_1 : RoundLog
round_1 = record { logs = log_1_0 ∷ []; journals = []; globals = globals_1 }

abbrev run : History
run = run_of script 1 (round_1 ∷ [])

pub driven : named_in script run ≡ expected_in run
driven = refl

pub is_driven : IsDriven script run
is_driven = driven_run script run driven (refl, tt) refl refl refl refl refl refl refl
