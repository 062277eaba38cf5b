-- Ordinary use.
use Rattle.std.proofs.Common.{◌≡◌, List, [], ◌∷◌, refl}
use Rattle.mk_txn.specs.declared.Value.TheVariants.{Number}
use Rattle.mk_words.specs.declared.Act.TheVariants.{Get, CheckRead, CheckWrite, CommitRead, CommitWrite}
use Rattle.mk_words.specs.declared.Answer.TheVariants.{Version, Okay, Done}
use Rattle.mk_words.specs.declared.GlobalEntry.{GlobalEntry}
use Rattle.mk_proc.specs.declared.ProcKind.TheVariants.{Add}
use Rattle.mk_proc.specs.declared.Item.TheVariants.{Read, Write, Compute}
use Rattle.mk_script.specs.Scripts.{ScriptParts}
use Rattle.mk_words.specs.declared.Step.{Step}
use Rattle.mk_words.specs.declared.Step.TheVariants.{Begin, Read as ReadStep, Stamp, Validate, Take, Key, Rule}
use Rattle.mk_history.specs.declared.RoundLog.{RoundLog}
use Rattle.mk_history.specs.Histories.{History}
use Rattle.mk_driver.specs.Driven.{IsDriven}
use Rattle.mk_driver.proofs.Cases.Rows.{run_of, named_in, expected_in, driven_run}

abbrev script : ScriptParts
script =
    record {
      version = 1;
      size = 1;
      retry = 0;
      clients = record { name = 119 ∷ (101 ∷ (98 ∷ (49 ∷ []))); column = 0; home = 0 } ∷ (record { name = 119 ∷ (101 ∷ (98 ∷ (50 ∷ []))); column = 1; home = 1 } ∷ []);
      keys = (97 ∷ (99 ∷ (99 ∷ (116 ∷ (95 ∷ (97 ∷ [])))))) ∷ ((97 ∷ (99 ∷ (99 ∷ (116 ∷ (95 ∷ (98 ∷ [])))))) ∷ ((104 ∷ (105 ∷ (116 ∷ (115 ∷ [])))) ∷ []));
      faults = [];
      stops = [];
      rounds = record { txns = record { client = 1; clock = 1700000000000000000; items = Write 0 100 ∷ (Write 1 50 ∷ []) } ∷ (record { client = 1; clock = 1700000000000000900; items = Read 0 ∷ (Compute 0 Add 25 ∷ []) } ∷ (record { client = 2; clock = 1700000000000000100; items = Read 2 ∷ (Compute 2 Add 1 ∷ []) } ∷ (record { client = 2; clock = 1700000000000000100; items = Read 2 ∷ (Compute 2 Add 1 ∷ []) } ∷ []))); takeovers = []; globals = [] } ∷ [];
    }

abbrev log_1_0 : List Step
log_1_0 =
    Begin 1 0 ∷ (
    Stamp (record { client = 1; seq = 1 }) 1700000000000000000 (record { key = 0; value = Number 100 } ∷ (record { key = 1; value = Number 50 } ∷ [])) ∷ (
    Validate (record { client = 1; seq = 1 }) ∷ (
    Take 1 ∷ (
    Key (record { replica = 0; key = 0; act = CheckWrite (record { time = 1700000000000000000; client = 1 }) }) Okay ∷ (
    Key (record { replica = 0; key = 1; act = CheckWrite (record { time = 1700000000000000000; client = 1 }) }) Okay ∷ (
    Take 4 ∷ (
    Take 2 ∷ (
    Key (record { replica = 1; key = 0; act = CheckWrite (record { time = 1700000000000000000; client = 1 }) }) Okay ∷ (
    Key (record { replica = 1; key = 1; act = CheckWrite (record { time = 1700000000000000000; client = 1 }) }) Okay ∷ (
    Take 5 ∷ (
    Take 3 ∷ (
    Key (record { replica = 2; key = 0; act = CheckWrite (record { time = 1700000000000000000; client = 1 }) }) Okay ∷ (
    Key (record { replica = 2; key = 1; act = CheckWrite (record { time = 1700000000000000000; client = 1 }) }) Okay ∷ (
    Take 6 ∷ (
    Rule (record { client = 1; seq = 1 }) ∷ (
    Take 7 ∷ (
    Key (record { replica = 0; key = 0; act = CommitWrite (record { time = 1700000000000000000; client = 1 }) (Number 100) }) Done ∷ (
    Key (record { replica = 0; key = 1; act = CommitWrite (record { time = 1700000000000000000; client = 1 }) (Number 50) }) Done ∷ (
    Take 8 ∷ (
    Key (record { replica = 1; key = 0; act = CommitWrite (record { time = 1700000000000000000; client = 1 }) (Number 100) }) Done ∷ (
    Key (record { replica = 1; key = 1; act = CommitWrite (record { time = 1700000000000000000; client = 1 }) (Number 50) }) Done ∷ (
    Take 9 ∷ (
    Key (record { replica = 2; key = 0; act = CommitWrite (record { time = 1700000000000000000; client = 1 }) (Number 100) }) Done ∷ (
    Key (record { replica = 2; key = 1; act = CommitWrite (record { time = 1700000000000000000; client = 1 }) (Number 50) }) Done ∷ (
    Begin 1 0 ∷ (
    ReadStep (record { client = 1; seq = 2 }) 0 ∷ (
    Key (record { replica = 0; key = 0; act = Get }) (Version (record { time = 1700000000000000000; client = 1 }) (Number 100)) ∷ (
    Stamp (record { client = 1; seq = 2 }) 1700000000000000900 (record { key = 0; value = Number 125 } ∷ []) ∷ (
    Validate (record { client = 1; seq = 2 }) ∷ (
    Take 10 ∷ (
    Key (record { replica = 0; key = 0; act = CheckRead (record { time = 1700000000000000900; client = 1 }) (record { time = 1700000000000000000; client = 1 }) }) Okay ∷ (
    Key (record { replica = 0; key = 0; act = CheckWrite (record { time = 1700000000000000900; client = 1 }) }) Okay ∷ (
    Take 13 ∷ (
    Take 11 ∷ (
    Key (record { replica = 1; key = 0; act = CheckRead (record { time = 1700000000000000900; client = 1 }) (record { time = 1700000000000000000; client = 1 }) }) Okay ∷ (
    Key (record { replica = 1; key = 0; act = CheckWrite (record { time = 1700000000000000900; client = 1 }) }) Okay ∷ (
    Take 14 ∷ (
    Take 12 ∷ (
    Key (record { replica = 2; key = 0; act = CheckRead (record { time = 1700000000000000900; client = 1 }) (record { time = 1700000000000000000; client = 1 }) }) Okay ∷ (
    Key (record { replica = 2; key = 0; act = CheckWrite (record { time = 1700000000000000900; client = 1 }) }) Okay ∷ (
    Take 15 ∷ (
    Rule (record { client = 1; seq = 2 }) ∷ (
    Take 16 ∷ (
    Key (record { replica = 0; key = 0; act = CommitRead (record { time = 1700000000000000900; client = 1 }) }) Done ∷ (
    Key (record { replica = 0; key = 0; act = CommitWrite (record { time = 1700000000000000900; client = 1 }) (Number 125) }) Done ∷ (
    Take 17 ∷ (
    Key (record { replica = 1; key = 0; act = CommitRead (record { time = 1700000000000000900; client = 1 }) }) Done ∷ (
    Key (record { replica = 1; key = 0; act = CommitWrite (record { time = 1700000000000000900; client = 1 }) (Number 125) }) Done ∷ (
    Take 18 ∷ (
    Key (record { replica = 2; key = 0; act = CommitRead (record { time = 1700000000000000900; client = 1 }) }) Done ∷ (
    Key (record { replica = 2; key = 0; act = CommitWrite (record { time = 1700000000000000900; client = 1 }) (Number 125) }) Done ∷ [])))))))))))))))))))))))))))))))))))))))))))))))))))

abbrev log_1_1 : List Step
log_1_1 =
    Begin 2 1 ∷ (
    ReadStep (record { client = 2; seq = 1 }) 2 ∷ (
    Key (record { replica = 1; key = 2; act = Get }) (Version (record { time = 0; client = 0 }) (Number 0)) ∷ (
    Stamp (record { client = 2; seq = 1 }) 1700000000000000100 (record { key = 2; value = Number 1 } ∷ []) ∷ (
    Validate (record { client = 2; seq = 1 }) ∷ (
    Take 1 ∷ (
    Key (record { replica = 0; key = 2; act = CheckRead (record { time = 1700000000000000100; client = 2 }) (record { time = 0; client = 0 }) }) Okay ∷ (
    Key (record { replica = 0; key = 2; act = CheckWrite (record { time = 1700000000000000100; client = 2 }) }) Okay ∷ (
    Take 4 ∷ (
    Take 2 ∷ (
    Key (record { replica = 1; key = 2; act = CheckRead (record { time = 1700000000000000100; client = 2 }) (record { time = 0; client = 0 }) }) Okay ∷ (
    Key (record { replica = 1; key = 2; act = CheckWrite (record { time = 1700000000000000100; client = 2 }) }) Okay ∷ (
    Take 5 ∷ (
    Take 3 ∷ (
    Key (record { replica = 2; key = 2; act = CheckRead (record { time = 1700000000000000100; client = 2 }) (record { time = 0; client = 0 }) }) Okay ∷ (
    Key (record { replica = 2; key = 2; act = CheckWrite (record { time = 1700000000000000100; client = 2 }) }) Okay ∷ (
    Take 6 ∷ (
    Rule (record { client = 2; seq = 1 }) ∷ (
    Take 7 ∷ (
    Key (record { replica = 0; key = 2; act = CommitRead (record { time = 1700000000000000100; client = 2 }) }) Done ∷ (
    Key (record { replica = 0; key = 2; act = CommitWrite (record { time = 1700000000000000100; client = 2 }) (Number 1) }) Done ∷ (
    Take 8 ∷ (
    Key (record { replica = 1; key = 2; act = CommitRead (record { time = 1700000000000000100; client = 2 }) }) Done ∷ (
    Key (record { replica = 1; key = 2; act = CommitWrite (record { time = 1700000000000000100; client = 2 }) (Number 1) }) Done ∷ (
    Take 9 ∷ (
    Key (record { replica = 2; key = 2; act = CommitRead (record { time = 1700000000000000100; client = 2 }) }) Done ∷ (
    Key (record { replica = 2; key = 2; act = CommitWrite (record { time = 1700000000000000100; client = 2 }) (Number 1) }) Done ∷ (
    Begin 2 1 ∷ (
    ReadStep (record { client = 2; seq = 2 }) 2 ∷ (
    Key (record { replica = 1; key = 2; act = Get }) (Version (record { time = 1700000000000000100; client = 2 }) (Number 1)) ∷ (
    Stamp (record { client = 2; seq = 2 }) 1700000000000000100 (record { key = 2; value = Number 2 } ∷ []) ∷ (
    Validate (record { client = 2; seq = 2 }) ∷ (
    Take 10 ∷ (
    Key (record { replica = 0; key = 2; act = CheckRead (record { time = 1700000000000000101; client = 2 }) (record { time = 1700000000000000100; client = 2 }) }) Okay ∷ (
    Key (record { replica = 0; key = 2; act = CheckWrite (record { time = 1700000000000000101; client = 2 }) }) Okay ∷ (
    Take 13 ∷ (
    Take 11 ∷ (
    Key (record { replica = 1; key = 2; act = CheckRead (record { time = 1700000000000000101; client = 2 }) (record { time = 1700000000000000100; client = 2 }) }) Okay ∷ (
    Key (record { replica = 1; key = 2; act = CheckWrite (record { time = 1700000000000000101; client = 2 }) }) Okay ∷ (
    Take 14 ∷ (
    Take 12 ∷ (
    Key (record { replica = 2; key = 2; act = CheckRead (record { time = 1700000000000000101; client = 2 }) (record { time = 1700000000000000100; client = 2 }) }) Okay ∷ (
    Key (record { replica = 2; key = 2; act = CheckWrite (record { time = 1700000000000000101; client = 2 }) }) Okay ∷ (
    Take 15 ∷ (
    Rule (record { client = 2; seq = 2 }) ∷ (
    Take 16 ∷ (
    Key (record { replica = 0; key = 2; act = CommitRead (record { time = 1700000000000000101; client = 2 }) }) Done ∷ (
    Key (record { replica = 0; key = 2; act = CommitWrite (record { time = 1700000000000000101; client = 2 }) (Number 2) }) Done ∷ (
    Take 17 ∷ (
    Key (record { replica = 1; key = 2; act = CommitRead (record { time = 1700000000000000101; client = 2 }) }) Done ∷ (
    Key (record { replica = 1; key = 2; act = CommitWrite (record { time = 1700000000000000101; client = 2 }) (Number 2) }) Done ∷ (
    Take 18 ∷ (
    Key (record { replica = 2; key = 2; act = CommitRead (record { time = 1700000000000000101; client = 2 }) }) Done ∷ (
    Key (record { replica = 2; key = 2; act = CommitWrite (record { time = 1700000000000000101; client = 2 }) (Number 2) }) Done ∷ [])))))))))))))))))))))))))))))))))))))))))))))))))))))

abbrev globals_1 : List GlobalEntry
globals_1 = []

abbrev round_1 : RoundLog
round_1 = record { logs = log_1_0 ∷ (log_1_1 ∷ []); journals = []; globals = globals_1 }

abbrev run : History
run = run_of script 2 (round_1 ∷ [])

pub driven : named_in script run ≡ expected_in run
driven = refl

pub is_driven : IsDriven script run
is_driven = driven_run script run driven (refl, tt) refl refl refl refl refl refl refl
