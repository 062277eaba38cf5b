-- Order of retries.
use Rattle.std.proofs.Common.{◌≡◌, List, [], ◌∷◌, refl}
use Rattle.mk_txn.specs.declared.Value.TheVariants.{Number}
use Rattle.mk_txn.specs.declared.Reason.TheVariants.{ReadPending}
use Rattle.mk_words.specs.declared.Act.TheVariants.{Get, CheckRead, CheckWrite, CommitRead, CommitWrite}
use Rattle.mk_words.specs.declared.Answer.TheVariants.{Version, Okay, Refused, Done}
use Rattle.mk_words.specs.declared.GlobalEntry.{GlobalEntry}
use Rattle.mk_words.specs.declared.MsgKind.TheVariants.{Vote as VoteKind}
use Rattle.mk_proc.specs.declared.Item.TheVariants.{Read, Write}
use Rattle.mk_script.specs.Scripts.{ScriptParts}
use Rattle.mk_script.specs.declared.lines.Fate.TheVariants.{Lose, Late as LateFate, NextRound}
use Rattle.mk_words.specs.declared.Step.{Step}
use Rattle.mk_words.specs.declared.Step.TheVariants.{Begin, Read as ReadStep, Stamp, Validate, Take, Key, Rule}
use Rattle.mk_history.specs.declared.RoundLog.{RoundLog}
use Rattle.mk_history.specs.Histories.{History}
use Rattle.mk_driver.specs.Driven.{IsDriven}
use Rattle.mk_driver.proofs.Cases.Rows.{run_of, named_in, expected_in, driven_run}

abbrev script : ScriptParts
script =
    record {
      version = 1;
      size = 1;
      retry = 1;
      clients = record { name = 98 ∷ []; column = 0; home = 0 } ∷ (record { name = 97 ∷ []; column = 0; home = 0 } ∷ []);
      keys = (120 ∷ []) ∷ ((121 ∷ []) ∷ ((122 ∷ []) ∷ []));
      faults = record { kind = VoteKind; id = record { client = 1; seq = 1 }; replica = 1; nth = 1; fate = Lose } ∷ (record { kind = VoteKind; id = record { client = 1; seq = 1 }; replica = 2; nth = 1; fate = Lose } ∷ (record { kind = VoteKind; id = record { client = 2; seq = 1 }; replica = 1; nth = 1; fate = NextRound } ∷ (record { kind = VoteKind; id = record { client = 2; seq = 1 }; replica = 2; nth = 1; fate = NextRound } ∷ (record { kind = VoteKind; id = record { client = 2; seq = 2 }; replica = 1; nth = 1; fate = LateFate } ∷ (record { kind = VoteKind; id = record { client = 2; seq = 2 }; replica = 2; nth = 1; fate = LateFate } ∷ [])))));
      stops = [];
      rounds = record { txns = record { client = 1; clock = 5; items = Write 0 1 ∷ [] } ∷ (record { client = 2; clock = 10; items = Read 0 ∷ (Write 1 1 ∷ []) } ∷ (record { client = 2; clock = 20; items = Read 0 ∷ (Write 2 2 ∷ []) } ∷ [])); takeovers = []; globals = [] } ∷ (record { txns = []; takeovers = []; globals = [] } ∷ []);
    }

abbrev log_1_0 : List Step
log_1_0 =
    Begin 1 0 ∷ (
    Stamp (record { client = 1; seq = 1 }) 5 (record { key = 0; value = Number 1 } ∷ []) ∷ (
    Begin 2 0 ∷ (
    ReadStep (record { client = 2; seq = 1 }) 0 ∷ (
    Key (record { replica = 0; key = 0; act = Get }) (Version (record { time = 0; client = 0 }) (Number 0)) ∷ (
    Stamp (record { client = 2; seq = 1 }) 10 (record { key = 1; value = Number 1 } ∷ []) ∷ (
    Validate (record { client = 1; seq = 1 }) ∷ (
    Take 1 ∷ (
    Key (record { replica = 0; key = 0; act = CheckWrite (record { time = 5; client = 1 }) }) Okay ∷ (
    Take 4 ∷ (
    Take 2 ∷ (
    Key (record { replica = 1; key = 0; act = CheckWrite (record { time = 5; client = 1 }) }) Okay ∷ (
    Take 3 ∷ (
    Key (record { replica = 2; key = 0; act = CheckWrite (record { time = 5; client = 1 }) }) Okay ∷ (
    Validate (record { client = 2; seq = 1 }) ∷ (
    Take 7 ∷ (
    Key (record { replica = 0; key = 0; act = CheckRead (record { time = 10; client = 2 }) (record { time = 0; client = 0 }) }) (Refused ReadPending (record { time = 5; client = 1 })) ∷ (
    Take 10 ∷ (
    Take 8 ∷ (
    Key (record { replica = 1; key = 0; act = CheckRead (record { time = 10; client = 2 }) (record { time = 0; client = 0 }) }) (Refused ReadPending (record { time = 5; client = 1 })) ∷ (
    Take 9 ∷ (
    Key (record { replica = 2; key = 0; act = CheckRead (record { time = 10; client = 2 }) (record { time = 0; client = 0 }) }) (Refused ReadPending (record { time = 5; client = 1 })) ∷ (
    Begin 2 0 ∷ (
    ReadStep (record { client = 2; seq = 2 }) 0 ∷ (
    Key (record { replica = 0; key = 0; act = Get }) (Version (record { time = 0; client = 0 }) (Number 0)) ∷ (
    Stamp (record { client = 2; seq = 2 }) 20 (record { key = 2; value = Number 2 } ∷ []) ∷ (
    Validate (record { client = 2; seq = 2 }) ∷ (
    Take 13 ∷ (
    Key (record { replica = 0; key = 0; act = CheckRead (record { time = 20; client = 2 }) (record { time = 0; client = 0 }) }) (Refused ReadPending (record { time = 5; client = 1 })) ∷ (
    Take 16 ∷ (
    Take 14 ∷ (
    Key (record { replica = 1; key = 0; act = CheckRead (record { time = 20; client = 2 }) (record { time = 0; client = 0 }) }) (Refused ReadPending (record { time = 5; client = 1 })) ∷ (
    Take 15 ∷ (
    Key (record { replica = 2; key = 0; act = CheckRead (record { time = 20; client = 2 }) (record { time = 0; client = 0 }) }) (Refused ReadPending (record { time = 5; client = 1 })) ∷ (
    Take 17 ∷ (
    Take 18 ∷ (
    Rule (record { client = 2; seq = 2 }) ∷ (
    Take 19 ∷ (
    Take 20 ∷ (
    Take 21 ∷ [])))))))))))))))))))))))))))))))))))))))

abbrev globals_1 : List GlobalEntry
globals_1 = []

abbrev round_1 : RoundLog
round_1 = record { logs = log_1_0 ∷ []; journals = []; globals = globals_1 }

abbrev log_2_0 : List Step
log_2_0 =
    Take 11 ∷ (
    Take 12 ∷ (
    Validate (record { client = 1; seq = 1 }) ∷ (
    Take 22 ∷ (
    Take 25 ∷ (
    Take 23 ∷ (
    Take 26 ∷ (
    Take 24 ∷ (
    Take 27 ∷ (
    Rule (record { client = 1; seq = 1 }) ∷ (
    Take 28 ∷ (
    Key (record { replica = 0; key = 0; act = CommitWrite (record { time = 5; client = 1 }) (Number 1) }) Done ∷ (
    Take 29 ∷ (
    Key (record { replica = 1; key = 0; act = CommitWrite (record { time = 5; client = 1 }) (Number 1) }) Done ∷ (
    Take 30 ∷ (
    Key (record { replica = 2; key = 0; act = CommitWrite (record { time = 5; client = 1 }) (Number 1) }) Done ∷ (
    Validate (record { client = 2; seq = 1 }) ∷ (
    Take 31 ∷ (
    Take 34 ∷ (
    Take 32 ∷ (
    Take 35 ∷ (
    Take 33 ∷ (
    Take 36 ∷ (
    Rule (record { client = 2; seq = 1 }) ∷ (
    Take 37 ∷ (
    Take 38 ∷ (
    Take 39 ∷ (
    Begin 2 0 ∷ (
    ReadStep (record { client = 2; seq = 3 }) 0 ∷ (
    Key (record { replica = 0; key = 0; act = Get }) (Version (record { time = 5; client = 1 }) (Number 1)) ∷ (
    Stamp (record { client = 2; seq = 3 }) 20 (record { key = 2; value = Number 2 } ∷ []) ∷ (
    Validate (record { client = 2; seq = 3 }) ∷ (
    Take 40 ∷ (
    Key (record { replica = 0; key = 0; act = CheckRead (record { time = 21; client = 2 }) (record { time = 5; client = 1 }) }) Okay ∷ (
    Key (record { replica = 0; key = 2; act = CheckWrite (record { time = 21; client = 2 }) }) Okay ∷ (
    Take 43 ∷ (
    Take 41 ∷ (
    Key (record { replica = 1; key = 0; act = CheckRead (record { time = 21; client = 2 }) (record { time = 5; client = 1 }) }) Okay ∷ (
    Key (record { replica = 1; key = 2; act = CheckWrite (record { time = 21; client = 2 }) }) Okay ∷ (
    Take 44 ∷ (
    Take 42 ∷ (
    Key (record { replica = 2; key = 0; act = CheckRead (record { time = 21; client = 2 }) (record { time = 5; client = 1 }) }) Okay ∷ (
    Key (record { replica = 2; key = 2; act = CheckWrite (record { time = 21; client = 2 }) }) Okay ∷ (
    Take 45 ∷ (
    Rule (record { client = 2; seq = 3 }) ∷ (
    Take 46 ∷ (
    Key (record { replica = 0; key = 0; act = CommitRead (record { time = 21; client = 2 }) }) Done ∷ (
    Key (record { replica = 0; key = 2; act = CommitWrite (record { time = 21; client = 2 }) (Number 2) }) Done ∷ (
    Take 47 ∷ (
    Key (record { replica = 1; key = 0; act = CommitRead (record { time = 21; client = 2 }) }) Done ∷ (
    Key (record { replica = 1; key = 2; act = CommitWrite (record { time = 21; client = 2 }) (Number 2) }) Done ∷ (
    Take 48 ∷ (
    Key (record { replica = 2; key = 0; act = CommitRead (record { time = 21; client = 2 }) }) Done ∷ (
    Key (record { replica = 2; key = 2; act = CommitWrite (record { time = 21; client = 2 }) (Number 2) }) Done ∷ (
    Begin 2 0 ∷ (
    ReadStep (record { client = 2; seq = 4 }) 0 ∷ (
    Key (record { replica = 0; key = 0; act = Get }) (Version (record { time = 5; client = 1 }) (Number 1)) ∷ (
    Stamp (record { client = 2; seq = 4 }) 10 (record { key = 1; value = Number 1 } ∷ []) ∷ (
    Validate (record { client = 2; seq = 4 }) ∷ (
    Take 49 ∷ (
    Key (record { replica = 0; key = 0; act = CheckRead (record { time = 22; client = 2 }) (record { time = 5; client = 1 }) }) Okay ∷ (
    Key (record { replica = 0; key = 1; act = CheckWrite (record { time = 22; client = 2 }) }) Okay ∷ (
    Take 52 ∷ (
    Take 50 ∷ (
    Key (record { replica = 1; key = 0; act = CheckRead (record { time = 22; client = 2 }) (record { time = 5; client = 1 }) }) Okay ∷ (
    Key (record { replica = 1; key = 1; act = CheckWrite (record { time = 22; client = 2 }) }) Okay ∷ (
    Take 53 ∷ (
    Take 51 ∷ (
    Key (record { replica = 2; key = 0; act = CheckRead (record { time = 22; client = 2 }) (record { time = 5; client = 1 }) }) Okay ∷ (
    Key (record { replica = 2; key = 1; act = CheckWrite (record { time = 22; client = 2 }) }) Okay ∷ (
    Take 54 ∷ (
    Rule (record { client = 2; seq = 4 }) ∷ (
    Take 55 ∷ (
    Key (record { replica = 0; key = 0; act = CommitRead (record { time = 22; client = 2 }) }) Done ∷ (
    Key (record { replica = 0; key = 1; act = CommitWrite (record { time = 22; client = 2 }) (Number 1) }) Done ∷ (
    Take 56 ∷ (
    Key (record { replica = 1; key = 0; act = CommitRead (record { time = 22; client = 2 }) }) Done ∷ (
    Key (record { replica = 1; key = 1; act = CommitWrite (record { time = 22; client = 2 }) (Number 1) }) Done ∷ (
    Take 57 ∷ (
    Key (record { replica = 2; key = 0; act = CommitRead (record { time = 22; client = 2 }) }) Done ∷ (
    Key (record { replica = 2; key = 1; act = CommitWrite (record { time = 22; client = 2 }) (Number 1) }) Done ∷ []))))))))))))))))))))))))))))))))))))))))))))))))))))))))))))))))))))))))))))))))

abbrev globals_2 : List GlobalEntry
globals_2 = []

abbrev round_2 : RoundLog
round_2 = record { logs = log_2_0 ∷ []; journals = []; globals = globals_2 }

abbrev run : History
run = run_of script 1 (round_1 ∷ (round_2 ∷ []))

pub driven : named_in script run ≡ expected_in run
driven = refl

pub is_driven : IsDriven script run
is_driven = driven_run script run driven (refl, (refl, tt)) refl refl refl refl refl refl refl
