-- Runs that could not have happened: the one run with a take left out, with a log that ends while a key call is wanted, with a wrong
-- answer in a journal, and with a wrong answer of a global line.
use Rattle.std.proofs.Common.{◌≡◌, ℕ, Bool, true, false, inl, inr, ap, arith, List, [], ◌∷◌, Some, None}
use Rattle.mk_txn.specs.declared.Value.TheVariants.{Number}
use Rattle.mk_txn.specs.declared.Reason.TheVariants.{WriteLate}
use Rattle.mk_words.specs.declared.Act.TheVariants.{CheckWrite}
use Rattle.mk_words.specs.declared.Answer.{Answer}
use Rattle.mk_words.specs.declared.Answer.TheVariants.{Version, Okay, Refused, Done}
use Rattle.mk_words.specs.declared.GlobalLine.TheVariants.{Ask, Promise as PromiseLine}
use Rattle.mk_words.specs.declared.GlobalAnswer.{GlobalAnswer}
use Rattle.mk_words.specs.declared.GlobalAnswer.TheVariants.{Ok as GlobalOk, Entered, WordFault}
use Rattle.mk_words.specs.declared.Step.{Step}
use Rattle.mk_words.specs.declared.Step.TheVariants.{Begin, Stamp, Validate, Take}
use Rattle.mk_model.specs.Conditions.{is_idle}
use Rattle.mk_history.specs.declared.RoundLog.{RoundLog}
use Rattle.mk_history.specs.Histories.{History}
use Rattle.mk_history.specs.Legality.{IsLegal}
use Rattle.mk_history.proofs.OneRun.{id, ts, check_at, journal, round_with, run}

-- the one run with another round
abbrev forged : RoundLog → History
forged round = record run { rounds = round ∷ [] }

-- with this log
abbrev with_log : List Step → History
with_log log = let round = round_with journal in forged (record round { logs = log ∷ [] })

abbrev opening : List Step → List Step
opening steps = Begin 1 0 ∷ (Stamp id 10 (record { key = 0; value = Number 5 } ∷ []) ∷ (Validate id ∷ steps))

-- the first check is not enabled where the Validate was not taken
pub take_is_left_out : IsLegal (with_log (opening (check_at 0 ∷ []))) → ⊥
take_is_left_out legal =
    let replays = legal.0.logs 0 (omega arith) in
    let enabled : Some 1 ≡ None = replays.enabled.1.1.1.0 in
    absurd (cc enabled)

-- a check is wanted at the end
pub log_is_unfinished : IsLegal (with_log (opening (Take 1 ∷ []))) → ⊥
log_is_unfinished legal =
    let replays = legal.0.logs 0 (omega arith) in
    let idle : false ≡ true = ap is_idle replays.finished in
    absurd (cc idle)

-- the first check was answered Okay
pub answer_is_wrong : IsLegal (forged (round_with (record { seat = 0; act = CheckWrite ts; answer = Refused WriteLate ts } ∷ []))) → ⊥
answer_is_wrong legal =
    let answered = legal.0.journals 0 0 (omega arith) (omega arith) in
    let same : Okay ≡ Refused WriteLate ts = answered.0 in
    absurd (cc same)

-- with this global line, answered so
abbrev asked_with : GlobalAnswer → History
asked_with answer = let round = round_with journal in forged (record round { globals = record { line = Ask 1; answer = answer } ∷ [] })

-- nothing was entered, and no word is written
pub line_is_not_done : IsLegal (asked_with (Entered 2)) → ⊥
line_is_not_done legal =
    elim legal.0.globals.0 [
      | inl given ↦ (let same : Entered 2 ≡ GlobalOk = given in absurd (cc same))
      | inr fault ↦ (let same : Entered 2 ≡ WordFault = fault.0 in absurd (cc same))
    ]

pub no_word_fails : IsLegal (asked_with WordFault) → ⊥
no_word_fails legal =
    elim legal.0.globals.0 [
      | inl given ↦ (let same : WordFault ≡ GlobalOk = given in absurd (cc same))
      | inr fault ↦ (let writes : false ≡ true = fault.1 in absurd (cc writes))
    ]
