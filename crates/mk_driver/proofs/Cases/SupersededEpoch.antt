-- Two rounds: an attempt of a superseded epoch is tried again.
use Rattle.std.proofs.Common.{◌≡◌, List, [], ◌∷◌, refl}
use Rattle.mk_txn.specs.declared.Value.TheVariants.{Number}
use Rattle.mk_words.specs.declared.Act.TheVariants.{CheckWrite, CommitWrite}
use Rattle.mk_words.specs.declared.Answer.TheVariants.{Okay, Done}
use Rattle.mk_words.specs.declared.GlobalEntry.{GlobalEntry}
use Rattle.mk_words.specs.declared.GlobalLine.TheVariants.{Ask, Promise as PromiseLine, Merge, Adopt, Enter}
use Rattle.mk_words.specs.declared.GlobalAnswer.TheVariants.{Ok as GlobalOk, Counts, Entered, Short}
use Rattle.mk_words.specs.declared.MsgKind.TheVariants.{Validate as ValidateKind}
use Rattle.mk_proc.specs.declared.Item.TheVariants.{Write}
use Rattle.mk_script.specs.Scripts.{ScriptParts}
use Rattle.mk_script.specs.declared.lines.Fate.TheVariants.{Lose}
use Rattle.mk_words.specs.declared.Step.{Step}
use Rattle.mk_words.specs.declared.Step.TheVariants.{Begin, Stamp, Validate, Take, Key, Rule}
use Rattle.mk_history.specs.declared.RoundLog.{RoundLog}
use Rattle.mk_history.specs.Histories.{History}
use Rattle.mk_driver.specs.Driven.{IsDriven}
use Rattle.mk_driver.proofs.Cases.Rows.{run_of, named_in, expected_in, driven_run}

abbrev script : ScriptParts
script =
    record {
      version = 1;
      size = 1;
      retry = 1;
      clients = record { name = 97 ∷ []; column = 0; home = 0 } ∷ [];
      keys = (120 ∷ []) ∷ [];
      faults = record { kind = ValidateKind; id = record { client = 1; seq = 1 }; replica = 1; nth = 1; fate = Lose } ∷ (record { kind = ValidateKind; id = record { client = 1; seq = 1 }; replica = 2; nth = 1; fate = Lose } ∷ []);
      stops = [];
      rounds = record { txns = record { client = 1; clock = 10; items = Write 0 5 ∷ [] } ∷ []; takeovers = []; globals = Ask 1 ∷ (PromiseLine 1 1 ∷ (PromiseLine 1 2 ∷ (Merge 1 ∷ (Adopt 1 1 ∷ (Enter 1 ∷ (Ask 2 ∷ (PromiseLine 2 2 ∷ (PromiseLine 2 0 ∷ (Merge 2 ∷ (Adopt 2 2 ∷ (Adopt 2 0 ∷ (Adopt 2 1 ∷ (Enter 2 ∷ []))))))))))))) } ∷ (record { txns = []; takeovers = []; globals = [] } ∷ []);
    }

abbrev log_1_0 : List Step
log_1_0 =
    Begin 1 0 ∷ (
    Stamp (record { client = 1; seq = 1 }) 10 (record { key = 0; value = Number 5 } ∷ []) ∷ (
    Validate (record { client = 1; seq = 1 }) ∷ (
    Take 1 ∷ (
    Key (record { replica = 0; key = 0; act = CheckWrite (record { time = 10; client = 1 }) }) Okay ∷ (
    Take 4 ∷ [])))))

abbrev globals_1 : List GlobalEntry
globals_1 = record { line = Ask 1; answer = GlobalOk } ∷ (record { line = PromiseLine 1 1; answer = GlobalOk } ∷ (record { line = PromiseLine 1 2; answer = GlobalOk } ∷ (record { line = Merge 1; answer = Counts 0 0 } ∷ (record { line = Adopt 1 1; answer = GlobalOk } ∷ (record { line = Enter 1; answer = Short 1 } ∷ (record { line = Ask 2; answer = GlobalOk } ∷ (record { line = PromiseLine 2 2; answer = GlobalOk } ∷ (record { line = PromiseLine 2 0; answer = GlobalOk } ∷ (record { line = Merge 2; answer = Counts 0 1 } ∷ (record { line = Adopt 2 2; answer = GlobalOk } ∷ (record { line = Adopt 2 0; answer = GlobalOk } ∷ (record { line = Adopt 2 1; answer = GlobalOk } ∷ (record { line = Enter 2; answer = Entered 3 } ∷ [])))))))))))))

abbrev round_1 : RoundLog
round_1 = record { logs = log_1_0 ∷ []; journals = []; globals = globals_1 }

abbrev log_2_0 : List Step
log_2_0 =
    Validate (record { client = 1; seq = 1 }) ∷ (
    Take 5 ∷ (
    Take 8 ∷ (
    Take 6 ∷ (
    Take 9 ∷ (
    Take 7 ∷ (
    Take 10 ∷ (
    Begin 1 0 ∷ (
    Stamp (record { client = 1; seq = 2 }) 10 (record { key = 0; value = Number 5 } ∷ []) ∷ (
    Validate (record { client = 1; seq = 2 }) ∷ (
    Take 11 ∷ (
    Key (record { replica = 0; key = 0; act = CheckWrite (record { time = 11; client = 1 }) }) Okay ∷ (
    Take 14 ∷ (
    Take 12 ∷ (
    Key (record { replica = 1; key = 0; act = CheckWrite (record { time = 11; client = 1 }) }) Okay ∷ (
    Take 15 ∷ (
    Take 13 ∷ (
    Key (record { replica = 2; key = 0; act = CheckWrite (record { time = 11; client = 1 }) }) Okay ∷ (
    Take 16 ∷ (
    Rule (record { client = 1; seq = 2 }) ∷ (
    Take 17 ∷ (
    Key (record { replica = 0; key = 0; act = CommitWrite (record { time = 11; client = 1 }) (Number 5) }) Done ∷ (
    Take 18 ∷ (
    Key (record { replica = 1; key = 0; act = CommitWrite (record { time = 11; client = 1 }) (Number 5) }) Done ∷ (
    Take 19 ∷ (
    Key (record { replica = 2; key = 0; act = CommitWrite (record { time = 11; client = 1 }) (Number 5) }) Done ∷ [])))))))))))))))))))))))))

abbrev globals_2 : List GlobalEntry
globals_2 = []

abbrev round_2 : RoundLog
round_2 = record { logs = log_2_0 ∷ []; journals = []; globals = globals_2 }

abbrev run : History
run = run_of script 1 (round_1 ∷ (round_2 ∷ []))

pub driven : named_in script run ≡ expected_in run
driven = refl

pub is_driven : IsDriven script run
is_driven = driven_run script run driven (refl, (refl, tt)) refl refl refl refl refl refl refl
