-- A stop after learning.
use Rattle.std.proofs.Common.{◌≡◌, List, [], ◌∷◌, refl}
use Rattle.mk_txn.specs.declared.Value.TheVariants.{Number}
use Rattle.mk_words.specs.declared.Act.TheVariants.{CheckWrite, CommitWrite}
use Rattle.mk_words.specs.declared.Answer.TheVariants.{Okay, Done}
use Rattle.mk_words.specs.declared.GlobalEntry.{GlobalEntry}
use Rattle.mk_words.specs.declared.GlobalLine.TheVariants.{Ask, Promise as PromiseLine, Merge, Adopt, Enter}
use Rattle.mk_words.specs.declared.GlobalAnswer.TheVariants.{Ok as GlobalOk, Counts, Entered}
use Rattle.mk_proc.specs.declared.Item.TheVariants.{Write}
use Rattle.mk_script.specs.Scripts.{ScriptParts}
use Rattle.mk_script.specs.declared.lines.Point.TheVariants.{Votes as AfterVotes}
use Rattle.mk_words.specs.declared.Step.{Step}
use Rattle.mk_words.specs.declared.Step.TheVariants.{Begin, Stamp, Validate, Take, Key, Rule}
use Rattle.mk_history.specs.declared.RoundLog.{RoundLog}
use Rattle.mk_history.specs.Histories.{History}
use Rattle.mk_driver.specs.Driven.{IsDriven}
use Rattle.mk_driver.proofs.Cases.Rows.{run_of, named_in, expected_in, driven_run}

abbrev script : ScriptParts
script =
    record {
      version = 1;
      size = 1;
      retry = 1;
      clients = record { name = 97 ∷ []; column = 0; home = 0 } ∷ [];
      keys = (120 ∷ []) ∷ [];
      faults = [];
      stops = record { id = record { client = 1; seq = 1 }; point = AfterVotes } ∷ [];
      rounds = record { txns = []; takeovers = []; globals = Ask 1 ∷ (PromiseLine 1 1 ∷ (PromiseLine 1 2 ∷ (Merge 1 ∷ (Adopt 1 1 ∷ (Adopt 1 2 ∷ (Enter 1 ∷ [])))))) } ∷ (record { txns = record { client = 1; clock = 10; items = Write 0 5 ∷ [] } ∷ []; takeovers = []; globals = [] } ∷ []);
    }

abbrev log_1_0 : List Step
log_1_0 =
    []

abbrev globals_1 : List GlobalEntry
globals_1 = record { line = Ask 1; answer = GlobalOk } ∷ (record { line = PromiseLine 1 1; answer = GlobalOk } ∷ (record { line = PromiseLine 1 2; answer = GlobalOk } ∷ (record { line = Merge 1; answer = Counts 0 0 } ∷ (record { line = Adopt 1 1; answer = GlobalOk } ∷ (record { line = Adopt 1 2; answer = GlobalOk } ∷ (record { line = Enter 1; answer = Entered 2 } ∷ []))))))

abbrev round_1 : RoundLog
round_1 = record { logs = log_1_0 ∷ []; journals = []; globals = globals_1 }

abbrev log_2_0 : List Step
log_2_0 =
    Begin 1 0 ∷ (
    Stamp (record { client = 1; seq = 1 }) 10 (record { key = 0; value = Number 5 } ∷ []) ∷ (
    Validate (record { client = 1; seq = 1 }) ∷ (
    Take 1 ∷ (
    Key (record { replica = 0; key = 0; act = CheckWrite (record { time = 10; client = 1 }) }) Okay ∷ (
    Take 4 ∷ (
    Take 2 ∷ (
    Take 5 ∷ (
    Take 3 ∷ (
    Take 6 ∷ (
    Begin 1 1 ∷ (
    Stamp (record { client = 1; seq = 2 }) 10 (record { key = 0; value = Number 5 } ∷ []) ∷ (
    Validate (record { client = 1; seq = 2 }) ∷ (
    Take 7 ∷ (
    Take 8 ∷ (
    Key (record { replica = 1; key = 0; act = CheckWrite (record { time = 11; client = 1 }) }) Okay ∷ (
    Take 10 ∷ (
    Take 9 ∷ (
    Key (record { replica = 2; key = 0; act = CheckWrite (record { time = 11; client = 1 }) }) Okay ∷ (
    Take 11 ∷ (
    Rule (record { client = 1; seq = 2 }) ∷ (
    Take 12 ∷ (
    Take 13 ∷ (
    Take 15 ∷ (
    Take 14 ∷ (
    Take 16 ∷ (
    Rule (record { client = 1; seq = 2 }) ∷ (
    Take 17 ∷ (
    Take 18 ∷ (
    Key (record { replica = 1; key = 0; act = CommitWrite (record { time = 11; client = 1 }) (Number 5) }) Done ∷ (
    Take 19 ∷ (
    Key (record { replica = 2; key = 0; act = CommitWrite (record { time = 11; client = 1 }) (Number 5) }) Done ∷ [])))))))))))))))))))))))))))))))

abbrev globals_2 : List GlobalEntry
globals_2 = []

abbrev round_2 : RoundLog
round_2 = record { logs = log_2_0 ∷ []; journals = []; globals = globals_2 }

abbrev run : History
run = run_of script 1 (round_1 ∷ (round_2 ∷ []))

pub driven : named_in script run ≡ expected_in run
driven = refl

pub is_driven : IsDriven script run
is_driven = driven_run script run driven (refl, (refl, tt)) refl refl refl refl refl refl refl
