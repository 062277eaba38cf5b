-- A message whose fate is asked last of all in a round is held for the next.
use Rattle.std.proofs.Common.{◌≡◌, List, [], ◌∷◌, refl}
use Rattle.mk_txn.specs.declared.Value.TheVariants.{Number}
use Rattle.mk_txn.specs.declared.Reason.TheVariants.{ReadPending}
use Rattle.mk_words.specs.declared.Act.TheVariants.{Get, CheckRead, CheckWrite, CommitRead, CommitWrite}
use Rattle.mk_words.specs.declared.Answer.TheVariants.{Version, Okay, Refused, Done}
use Rattle.mk_words.specs.declared.GlobalEntry.{GlobalEntry}
use Rattle.mk_words.specs.declared.MsgKind.TheVariants.{Validate as ValidateKind, Vote as VoteKind, Decide as DecideKind}
use Rattle.mk_proc.specs.declared.ProcKind.TheVariants.{Add}
use Rattle.mk_proc.specs.declared.Item.TheVariants.{Read, Compute}
use Rattle.mk_script.specs.Scripts.{ScriptParts}
use Rattle.mk_script.specs.declared.lines.Fate.TheVariants.{Lose, Late as LateFate, NextRound}
use Rattle.mk_words.specs.declared.Step.{Step}
use Rattle.mk_words.specs.declared.Step.TheVariants.{Begin, Read as ReadStep, Stamp, Validate, Take, Key, Rule, Takeover, Pick}
use Rattle.mk_history.specs.declared.RoundLog.{RoundLog}
use Rattle.mk_history.specs.Histories.{History}
use Rattle.mk_driver.specs.Driven.{IsDriven}
use Rattle.mk_driver.proofs.Cases.Rows.{run_of, named_in, expected_in, driven_run}

abbrev script : ScriptParts
script =
    record {
      version = 1;
      size = 1;
      retry = 0;
      clients = record { name = 97 ∷ []; column = 0; home = 2 } ∷ [];
      keys = (122 ∷ []) ∷ ((120 ∷ []) ∷ ((121 ∷ []) ∷ []));
      faults = record { kind = DecideKind; id = record { client = 1; seq = 3 }; replica = 2; nth = 1; fate = NextRound } ∷ (record { kind = VoteKind; id = record { client = 1; seq = 1 }; replica = 0; nth = 1; fate = LateFate } ∷ (record { kind = ValidateKind; id = record { client = 1; seq = 1 }; replica = 1; nth = 2; fate = NextRound } ∷ (record { kind = ValidateKind; id = record { client = 1; seq = 1 }; replica = 1; nth = 1; fate = LateFate } ∷ (record { kind = DecideKind; id = record { client = 1; seq = 1 }; replica = 1; nth = 2; fate = LateFate } ∷ (record { kind = DecideKind; id = record { client = 1; seq = 1 }; replica = 1; nth = 1; fate = Lose } ∷ [])))));
      stops = [];
      rounds = record { txns = record { client = 1; clock = 21; items = Compute 0 Add 3 ∷ [] } ∷ (record { client = 1; clock = 10; items = Compute 1 Add 1 ∷ [] } ∷ []); takeovers = record { id = record { client = 1; seq = 2 }; view = 3 } ∷ []; globals = [] } ∷ (record { txns = record { client = 1; clock = 9; items = Read 2 ∷ [] } ∷ []; takeovers = []; globals = [] } ∷ (record { txns = record { client = 1; clock = 15; items = Read 0 ∷ (Read 0 ∷ (Compute 1 Add 0 ∷ [])) } ∷ []; takeovers = record { id = record { client = 1; seq = 2 }; view = 1 } ∷ []; globals = [] } ∷ []));
    }

abbrev log_1_0 : List Step
log_1_0 =
    Begin 1 2 ∷ (
    Stamp (record { client = 1; seq = 1 }) 21 (record { key = 0; value = Number 3 } ∷ []) ∷ (
    Validate (record { client = 1; seq = 1 }) ∷ (
    Take 1 ∷ (
    Key (record { replica = 0; key = 0; act = CheckWrite (record { time = 21; client = 1 }) }) Okay ∷ (
    Take 3 ∷ (
    Key (record { replica = 2; key = 0; act = CheckWrite (record { time = 21; client = 1 }) }) Okay ∷ (
    Take 5 ∷ (
    Begin 1 2 ∷ (
    Stamp (record { client = 1; seq = 2 }) 10 (record { key = 1; value = Number 1 } ∷ []) ∷ (
    Validate (record { client = 1; seq = 2 }) ∷ (
    Take 6 ∷ (
    Key (record { replica = 0; key = 1; act = CheckWrite (record { time = 22; client = 1 }) }) Okay ∷ (
    Take 9 ∷ (
    Take 7 ∷ (
    Key (record { replica = 1; key = 1; act = CheckWrite (record { time = 22; client = 1 }) }) Okay ∷ (
    Take 10 ∷ (
    Take 8 ∷ (
    Key (record { replica = 2; key = 1; act = CheckWrite (record { time = 22; client = 1 }) }) Okay ∷ (
    Take 11 ∷ (
    Rule (record { client = 1; seq = 2 }) ∷ (
    Take 12 ∷ (
    Key (record { replica = 0; key = 1; act = CommitWrite (record { time = 22; client = 1 }) (Number 1) }) Done ∷ (
    Take 13 ∷ (
    Key (record { replica = 1; key = 1; act = CommitWrite (record { time = 22; client = 1 }) (Number 1) }) Done ∷ (
    Take 14 ∷ (
    Key (record { replica = 2; key = 1; act = CommitWrite (record { time = 22; client = 1 }) (Number 1) }) Done ∷ (
    Takeover (record { client = 1; seq = 2 }) 3 ∷ (
    Take 15 ∷ (
    Take 18 ∷ (
    Take 16 ∷ (
    Take 19 ∷ (
    Take 17 ∷ (
    Take 20 ∷ (
    Pick (record { client = 1; seq = 2 }) 3 ∷ (
    Take 21 ∷ (
    Take 22 ∷ (
    Take 23 ∷ (
    Take 2 ∷ (
    Key (record { replica = 1; key = 0; act = CheckWrite (record { time = 21; client = 1 }) }) Okay ∷ (
    Take 24 ∷ (
    Take 4 ∷ (
    Rule (record { client = 1; seq = 1 }) ∷ (
    Take 25 ∷ (
    Key (record { replica = 0; key = 0; act = CommitWrite (record { time = 21; client = 1 }) (Number 3) }) Done ∷ (
    Take 27 ∷ (
    Key (record { replica = 2; key = 0; act = CommitWrite (record { time = 21; client = 1 }) (Number 3) }) Done ∷ []))))))))))))))))))))))))))))))))))))))))))))))

abbrev globals_1 : List GlobalEntry
globals_1 = []

abbrev round_1 : RoundLog
round_1 = record { logs = log_1_0 ∷ []; journals = []; globals = globals_1 }

abbrev log_2_0 : List Step
log_2_0 =
    Begin 1 2 ∷ (
    ReadStep (record { client = 1; seq = 3 }) 2 ∷ (
    Key (record { replica = 2; key = 2; act = Get }) (Version (record { time = 0; client = 0 }) (Number 0)) ∷ (
    Stamp (record { client = 1; seq = 3 }) 9 [] ∷ (
    Validate (record { client = 1; seq = 3 }) ∷ (
    Take 28 ∷ (
    Key (record { replica = 0; key = 2; act = CheckRead (record { time = 23; client = 1 }) (record { time = 0; client = 0 }) }) Okay ∷ (
    Take 31 ∷ (
    Take 29 ∷ (
    Key (record { replica = 1; key = 2; act = CheckRead (record { time = 23; client = 1 }) (record { time = 0; client = 0 }) }) Okay ∷ (
    Take 32 ∷ (
    Take 30 ∷ (
    Key (record { replica = 2; key = 2; act = CheckRead (record { time = 23; client = 1 }) (record { time = 0; client = 0 }) }) Okay ∷ (
    Take 33 ∷ (
    Rule (record { client = 1; seq = 3 }) ∷ (
    Take 34 ∷ (
    Key (record { replica = 0; key = 2; act = CommitRead (record { time = 23; client = 1 }) }) Done ∷ (
    Take 35 ∷ (
    Key (record { replica = 1; key = 2; act = CommitRead (record { time = 23; client = 1 }) }) Done ∷ []))))))))))))))))))

abbrev globals_2 : List GlobalEntry
globals_2 = []

abbrev round_2 : RoundLog
round_2 = record { logs = log_2_0 ∷ []; journals = []; globals = globals_2 }

abbrev log_3_0 : List Step
log_3_0 =
    Take 36 ∷ (
    Key (record { replica = 2; key = 2; act = CommitRead (record { time = 23; client = 1 }) }) Done ∷ (
    Begin 1 2 ∷ (
    ReadStep (record { client = 1; seq = 4 }) 0 ∷ (
    Key (record { replica = 2; key = 0; act = Get }) (Version (record { time = 21; client = 1 }) (Number 3)) ∷ (
    Stamp (record { client = 1; seq = 4 }) 15 (record { key = 1; value = Number 3 } ∷ []) ∷ (
    Validate (record { client = 1; seq = 4 }) ∷ (
    Take 37 ∷ (
    Key (record { replica = 0; key = 0; act = CheckRead (record { time = 24; client = 1 }) (record { time = 21; client = 1 }) }) Okay ∷ (
    Key (record { replica = 0; key = 1; act = CheckWrite (record { time = 24; client = 1 }) }) Okay ∷ (
    Take 40 ∷ (
    Take 38 ∷ (
    Key (record { replica = 1; key = 0; act = CheckRead (record { time = 24; client = 1 }) (record { time = 21; client = 1 }) }) (Refused ReadPending (record { time = 21; client = 1 })) ∷ (
    Take 41 ∷ (
    Take 39 ∷ (
    Key (record { replica = 2; key = 0; act = CheckRead (record { time = 24; client = 1 }) (record { time = 21; client = 1 }) }) Okay ∷ (
    Key (record { replica = 2; key = 1; act = CheckWrite (record { time = 24; client = 1 }) }) Okay ∷ (
    Take 42 ∷ (
    Rule (record { client = 1; seq = 4 }) ∷ (
    Take 43 ∷ (
    Take 46 ∷ (
    Take 44 ∷ (
    Take 47 ∷ (
    Take 45 ∷ (
    Take 48 ∷ (
    Rule (record { client = 1; seq = 4 }) ∷ (
    Take 49 ∷ (
    Key (record { replica = 0; key = 0; act = CommitRead (record { time = 24; client = 1 }) }) Done ∷ (
    Key (record { replica = 0; key = 1; act = CommitWrite (record { time = 24; client = 1 }) (Number 3) }) Done ∷ (
    Take 50 ∷ (
    Key (record { replica = 1; key = 0; act = CommitRead (record { time = 24; client = 1 }) }) Done ∷ (
    Key (record { replica = 1; key = 1; act = CommitWrite (record { time = 24; client = 1 }) (Number 3) }) Done ∷ (
    Take 51 ∷ (
    Key (record { replica = 2; key = 0; act = CommitRead (record { time = 24; client = 1 }) }) Done ∷ (
    Key (record { replica = 2; key = 1; act = CommitWrite (record { time = 24; client = 1 }) (Number 3) }) Done ∷ (
    Takeover (record { client = 1; seq = 2 }) 1 ∷ (
    Take 52 ∷ (
    Take 55 ∷ (
    Take 53 ∷ (
    Take 56 ∷ (
    Take 54 ∷ (
    Take 57 ∷ (
    Pick (record { client = 1; seq = 2 }) 1 ∷ (
    Take 58 ∷ (
    Take 59 ∷ (
    Take 60 ∷ [])))))))))))))))))))))))))))))))))))))))))))))

abbrev globals_3 : List GlobalEntry
globals_3 = []

abbrev round_3 : RoundLog
round_3 = record { logs = log_3_0 ∷ []; journals = []; globals = globals_3 }

abbrev run : History
run = run_of script 1 (round_1 ∷ (round_2 ∷ (round_3 ∷ [])))

pub driven : named_in script run ≡ expected_in run
driven = refl

pub is_driven : IsDriven script run
is_driven = driven_run script run driven (refl, (refl, (refl, tt))) refl refl refl refl refl refl refl
