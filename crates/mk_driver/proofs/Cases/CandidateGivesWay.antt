-- A candidate gives way to an accepted commit.
use Rattle.std.proofs.Common.{◌≡◌, List, [], ◌∷◌, refl}
use Rattle.mk_txn.specs.declared.Value.TheVariants.{Number}
use Rattle.mk_words.specs.declared.Act.TheVariants.{Get, CheckRead, CheckWrite}
use Rattle.mk_words.specs.declared.Answer.TheVariants.{Version, Okay}
use Rattle.mk_words.specs.declared.GlobalEntry.{GlobalEntry}
use Rattle.mk_words.specs.declared.GlobalLine.TheVariants.{Ask, Promise as PromiseLine, Merge, Adopt, Enter}
use Rattle.mk_words.specs.declared.GlobalAnswer.TheVariants.{Ok as GlobalOk, Counts, Entered}
use Rattle.mk_words.specs.declared.MsgKind.TheVariants.{Validate as ValidateKind, Accept as AcceptKind}
use Rattle.mk_proc.specs.declared.Item.TheVariants.{Read, Write}
use Rattle.mk_script.specs.Scripts.{ScriptParts}
use Rattle.mk_script.specs.declared.lines.Fate.TheVariants.{Lose}
use Rattle.mk_words.specs.declared.Step.{Step}
use Rattle.mk_words.specs.declared.Step.TheVariants.{Begin, Read as ReadStep, Stamp, Validate, Take, Key, Rule}
use Rattle.mk_history.specs.declared.RoundLog.{RoundLog}
use Rattle.mk_history.specs.Histories.{History}
use Rattle.mk_driver.specs.Driven.{IsDriven}
use Rattle.mk_driver.proofs.Cases.Rows.{run_of, named_in, expected_in, driven_run}

abbrev script : ScriptParts
script =
    record {
      version = 1;
      size = 2;
      retry = 0;
      clients = record { name = 97 ∷ []; column = 0; home = 0 } ∷ (record { name = 98 ∷ []; column = 0; home = 0 } ∷ []);
      keys = (120 ∷ []) ∷ ((121 ∷ []) ∷ []);
      faults = record { kind = ValidateKind; id = record { client = 1; seq = 1 }; replica = 2; nth = 1; fate = Lose } ∷ (record { kind = ValidateKind; id = record { client = 1; seq = 1 }; replica = 3; nth = 1; fate = Lose } ∷ (record { kind = ValidateKind; id = record { client = 1; seq = 1 }; replica = 4; nth = 1; fate = Lose } ∷ (record { kind = ValidateKind; id = record { client = 2; seq = 1 }; replica = 0; nth = 1; fate = Lose } ∷ (record { kind = ValidateKind; id = record { client = 2; seq = 1 }; replica = 1; nth = 1; fate = Lose } ∷ (record { kind = AcceptKind; id = record { client = 2; seq = 1 }; replica = 0; nth = 1; fate = Lose } ∷ (record { kind = AcceptKind; id = record { client = 2; seq = 1 }; replica = 1; nth = 1; fate = Lose } ∷ (record { kind = AcceptKind; id = record { client = 2; seq = 1 }; replica = 3; nth = 1; fate = Lose } ∷ (record { kind = AcceptKind; id = record { client = 2; seq = 1 }; replica = 4; nth = 1; fate = Lose } ∷ []))))))));
      stops = [];
      rounds = record { txns = record { client = 1; clock = 20; items = Read 0 ∷ (Write 1 1 ∷ []) } ∷ (record { client = 2; clock = 10; items = Write 0 2 ∷ [] } ∷ []); takeovers = []; globals = Ask 1 ∷ (PromiseLine 1 1 ∷ (PromiseLine 1 0 ∷ (PromiseLine 1 2 ∷ (Merge 1 ∷ (Adopt 1 0 ∷ (Adopt 1 1 ∷ (Adopt 1 2 ∷ (Enter 1 ∷ [])))))))) } ∷ [];
    }

abbrev log_1_0 : List Step
log_1_0 =
    Begin 1 0 ∷ (
    ReadStep (record { client = 1; seq = 1 }) 0 ∷ (
    Key (record { replica = 0; key = 0; act = Get }) (Version (record { time = 0; client = 0 }) (Number 0)) ∷ (
    Stamp (record { client = 1; seq = 1 }) 20 (record { key = 1; value = Number 1 } ∷ []) ∷ (
    Begin 2 0 ∷ (
    Stamp (record { client = 2; seq = 1 }) 10 (record { key = 0; value = Number 2 } ∷ []) ∷ (
    Validate (record { client = 1; seq = 1 }) ∷ (
    Take 1 ∷ (
    Key (record { replica = 0; key = 0; act = CheckRead (record { time = 20; client = 1 }) (record { time = 0; client = 0 }) }) Okay ∷ (
    Key (record { replica = 0; key = 1; act = CheckWrite (record { time = 20; client = 1 }) }) Okay ∷ (
    Take 6 ∷ (
    Take 2 ∷ (
    Key (record { replica = 1; key = 0; act = CheckRead (record { time = 20; client = 1 }) (record { time = 0; client = 0 }) }) Okay ∷ (
    Key (record { replica = 1; key = 1; act = CheckWrite (record { time = 20; client = 1 }) }) Okay ∷ (
    Take 7 ∷ (
    Validate (record { client = 2; seq = 1 }) ∷ (
    Take 10 ∷ (
    Key (record { replica = 2; key = 0; act = CheckWrite (record { time = 10; client = 2 }) }) Okay ∷ (
    Take 13 ∷ (
    Take 11 ∷ (
    Key (record { replica = 3; key = 0; act = CheckWrite (record { time = 10; client = 2 }) }) Okay ∷ (
    Take 14 ∷ (
    Take 12 ∷ (
    Key (record { replica = 4; key = 0; act = CheckWrite (record { time = 10; client = 2 }) }) Okay ∷ (
    Take 15 ∷ (
    Rule (record { client = 2; seq = 1 }) ∷ (
    Take 18 ∷ (
    Take 21 ∷ [])))))))))))))))))))))))))))

abbrev globals_1 : List GlobalEntry
globals_1 = record { line = Ask 1; answer = GlobalOk } ∷ (record { line = PromiseLine 1 1; answer = GlobalOk } ∷ (record { line = PromiseLine 1 0; answer = GlobalOk } ∷ (record { line = PromiseLine 1 2; answer = GlobalOk } ∷ (record { line = Merge 1; answer = Counts 1 1 } ∷ (record { line = Adopt 1 0; answer = GlobalOk } ∷ (record { line = Adopt 1 1; answer = GlobalOk } ∷ (record { line = Adopt 1 2; answer = GlobalOk } ∷ (record { line = Enter 1; answer = Entered 3 } ∷ []))))))))

abbrev round_1 : RoundLog
round_1 = record { logs = log_1_0 ∷ []; journals = []; globals = globals_1 }

abbrev run : History
run = run_of script 1 (round_1 ∷ [])

pub driven : named_in script run ≡ expected_in run
driven = refl

pub is_driven : IsDriven script run
is_driven = driven_run script run driven (refl, tt) refl refl refl refl refl refl refl
