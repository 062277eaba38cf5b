-- A log, a journal, the global lines and a round have no flaw exactly where they replay.
use Rattle.std.proofs.Common.{◌≡◌, ◌∙◌, ℕ, ◌+◌, ◌≤◌, ◌<◌, Bool, true, false, refl, sym, ap, subst, arith, List, [], ◌∷◌, length, Option, Some, None, if◌then◌else◌}
use Rattle.std.specs.Prelude.{is_none, option_map}
use Rattle.std.specs.Option.{option_or}
use Rattle.mk_lists.proofs.Options.{None-from_is_none, None-from_map}
use Rattle.mk_quorum.specs.Sizes.{members}
use Rattle.mk_words.specs.Cells.{CellState, cell_answer, cell_after}
use Rattle.mk_words.specs.Journals.{EachAnswered}
use Rattle.mk_words.specs.declared.Answer.{Answer}
use Rattle.mk_words.specs.declared.GlobalEntry.{GlobalEntry}
use Rattle.mk_words.specs.declared.JournalEntry.{JournalEntry}
use Rattle.mk_words.specs.declared.Step.{Step}
use Rattle.mk_model.specs.ColumnState.{Setting, ColumnState, Work}
use Rattle.mk_model.specs.ColumnState.Work.{Idle, Fetching, Validating, Finishing}
use Rattle.mk_model.specs.Conditions.{is_idle, blocked}
use Rattle.mk_model.specs.GlobalSteps.{IsAnswer}
use Rattle.mk_model.specs.Logs.{LogReplays}
use Rattle.mk_model.specs.Steps.{column_after}
use Rattle.mk_history.specs.declared.RoundLog.{RoundLog}
use Rattle.mk_history.specs.Histories.{History, log_of, journal_of}
use Rattle.mk_history.specs.Legality.{EachGlobalAnswered, IsLegalRound}
use Rattle.mk_history.specs.Matching.{Turn, turns_in_log, turns_in_journal}
use Rattle.mk_history.specs.Wholes.{WholeState, setting_of, column_of, cell_of, after_logs, after_global}
use Rattle.mk_verdict.specs.declared.Flaw.TheVariants.{Disabled, Unfinished, Answer as WrongAnswer, Unmatched}
use Rattle.mk_verdict.specs.declared.PlacedFlaw.{PlacedFlaw}
use Rattle.mk_verdict.specs.declared.Place.TheVariants.{Column, Cell, Match, Global}
use Rattle.mk_verdict.specs.Sameness.{same_answer, may_answer}
use Rattle.mk_verdict.specs.Flaws.{flaw_at, first_from, flaw_of_log, flaw_of_journal, difference, flaw_of_match, flaw_of_globals, flaw_of_logs, flaw_of_journals, flaw_of_matches, flaw_of_round}
use Rattle.mk_verdict.proofs.SameFacts.{same_answer-tells, same_answer-itself, may_answer-tells, may_answer-from}
use Rattle.mk_verdict.proofs.FirstFacts.{option_or-none, option_or-none_from, first_from-none, first_from-none_from, difference-none, difference-itself}

idle_from : (work : Work) → is_idle work ≡ true → work ≡ Idle
idle_from Idle e = refl
idle_from (Fetching id replica key) e = absurd (cc e)
idle_from (Validating txn replica epoch state) e = absurd (cc e)
idle_from (Finishing replica left) e = absurd (cc e)

-- a choice between going on and a flaw that gave none went on
went_on : (t : Bool) (go : Option PlacedFlaw) (flaw : PlacedFlaw) → (if t then go else Some flaw) ≡ None → (t ≡ true) × (go ≡ None)
went_on true go flaw e = (refl, e)
went_on false go flaw e = absurd (cc e)

goes_on : (t : Bool) (go : Option PlacedFlaw) (flaw : PlacedFlaw) → t ≡ true → go ≡ None → (if t then go else Some flaw) ≡ None
goes_on true go flaw e k = k
goes_on false go flaw e k = absurd (cc e)

pub log_replays : (setting : Setting) (column : ColumnState) (c entry : ℕ) (log : List Step) → flaw_of_log setting column c entry log ≡ None → LogReplays setting column log
log_replays setting column c entry [] e =
    record { enabled = tt; finished = idle_from column.work (went_on (is_idle column.work) None (record { place = Column c entry; why = Unfinished }) e).0 }
log_replays setting column c entry (step ∷ steps) e =
    let on = went_on (is_none (blocked setting column step)) (flaw_of_log setting (column_after setting column step) c (entry + 1) steps) (record { place = Column c entry; why = Disabled }) e in
    let rest = log_replays setting (column_after setting column step) c (entry + 1) steps on.1 in
    record { enabled = (None-from_is_none (blocked setting column step) on.0, rest.enabled); finished = rest.finished }

pub log_has_no_flaw : (setting : Setting) (column : ColumnState) (c entry : ℕ) (log : List Step) → LogReplays setting column log → flaw_of_log setting column c entry log ≡ None
log_has_no_flaw setting column c entry [] h =
    goes_on (is_idle column.work) None (record { place = Column c entry; why = Unfinished }) (ap is_idle h.finished) refl
log_has_no_flaw setting column c entry (step ∷ steps) h =
    let rest : LogReplays setting (column_after setting column step) steps = record { enabled = h.enabled.1; finished = h.finished } in
    goes_on (is_none (blocked setting column step)) (flaw_of_log setting (column_after setting column step) c (entry + 1) steps) (record { place = Column c entry; why = Disabled })
    (ap is_none h.enabled.0) (log_has_no_flaw setting (column_after setting column step) c (entry + 1) steps rest)

pub journal_answers : (cell : CellState) (r key entry : ℕ) (journal : List JournalEntry) → flaw_of_journal cell r key entry journal ≡ None → EachAnswered cell journal
journal_answers cell r key entry [] e = tt
journal_answers cell r key entry (turn ∷ journal) e =
    let on = went_on (same_answer (cell_answer cell turn.act) turn.answer) (flaw_of_journal (cell_after cell turn.act) r key (entry + 1) journal) (record { place = Cell r key entry; why = WrongAnswer }) e in
    (same_answer-tells (cell_answer cell turn.act) turn.answer on.0, journal_answers (cell_after cell turn.act) r key (entry + 1) journal on.1)

pub journal_has_no_flaw : (cell : CellState) (r key entry : ℕ) (journal : List JournalEntry) → EachAnswered cell journal → flaw_of_journal cell r key entry journal ≡ None
journal_has_no_flaw cell r key entry [] h = refl
journal_has_no_flaw cell r key entry (turn ∷ journal) h =
    goes_on (same_answer (cell_answer cell turn.act) turn.answer) (flaw_of_journal (cell_after cell turn.act) r key (entry + 1) journal) (record { place = Cell r key entry; why = WrongAnswer })
    (subst (λ (a : Answer). same_answer (cell_answer cell turn.act) a ≡ true) h.0 (same_answer-itself (cell_answer cell turn.act)))
    (journal_has_no_flaw (cell_after cell turn.act) r key (entry + 1) journal h.1)

pub globals_answer : (run : History) (state : WholeState) (entry : ℕ) (lines : List GlobalEntry) → flaw_of_globals run state entry lines ≡ None → EachGlobalAnswered run state lines
globals_answer run state entry [] e = tt
globals_answer run state entry (line ∷ lines) e =
    let on = went_on (may_answer state.epochs line.line line.answer) (flaw_of_globals run (after_global run state line) (entry + 1) lines) (record { place = Global entry; why = WrongAnswer }) e in
    (may_answer-tells state.epochs line.line line.answer on.0, globals_answer run (after_global run state line) (entry + 1) lines on.1)

pub globals_have_no_flaw : (run : History) (state : WholeState) (entry : ℕ) (lines : List GlobalEntry) → EachGlobalAnswered run state lines → flaw_of_globals run state entry lines ≡ None
globals_have_no_flaw run state entry [] h = refl
globals_have_no_flaw run state entry (line ∷ lines) h =
    goes_on (may_answer state.epochs line.line line.answer) (flaw_of_globals run (after_global run state line) (entry + 1) lines) (record { place = Global entry; why = WrongAnswer })
    (may_answer-from state.epochs line.line line.answer h.0)
    (globals_have_no_flaw run (after_global run state line) (entry + 1) lines h.1)

pub round_is_legal : (run : History) (state : WholeState) (round : RoundLog) → flaw_of_round run state round ≡ None → IsLegalRound run round state
round_is_legal run state round e =
    let logs = flaw_of_logs run state round in
    let journals = flaw_of_journals run state round in
    let matches = flaw_of_matches run round in
    let globals = flaw_of_globals run (after_logs run round state) 1 round.globals in
    let first = option_or-none logs (option_or journals (option_or matches globals)) e in
    let second = option_or-none journals (option_or matches globals) first.1 in
    let third = option_or-none matches globals second.1 in
    let keys = length run.key_names in
    let n = members run.faults in
    let by_key : ℕ → Option PlacedFlaw = λ r. first_from (λ key. flaw_of_journal (cell_of state r key) r key 1 (journal_of round r key)) 0 keys in
    let by_column : ℕ → ℕ → Option PlacedFlaw = λ r key. first_from (flaw_of_match round r key) 0 run.columns in
    record {
      logs = λ c below. log_replays (setting_of run state) (column_of state c) c 1 (log_of round c)
          (first_from-none (λ c. flaw_of_log (setting_of run state) (column_of state c) c 1 (log_of round c)) 0 run.columns first.0 c (omega arith) (omega (arith, below)));
      journals = λ r key there within. journal_answers (cell_of state r key) r key 1 (journal_of round r key)
          (first_from-none (λ key. flaw_of_journal (cell_of state r key) r key 1 (journal_of round r key)) 0 keys
          (first_from-none by_key 0 n second.0 r (omega arith) (omega (arith, there))) key (omega arith) (omega (arith, within)));
      matched = λ c r key below there within. difference-none 1 (turns_in_journal c (journal_of round r key)) (turns_in_log r key (log_of round c))
          (None-from_map (λ entry. record { place = Match r key c entry; why = Unmatched }) (difference 1 (turns_in_journal c (journal_of round r key)) (turns_in_log r key (log_of round c)))
          (first_from-none (flaw_of_match round r key) 0 run.columns
          (first_from-none (by_column r) 0 keys
          (first_from-none (λ r. first_from (by_column r) 0 keys) 0 n third.0 r (omega arith) (omega (arith, there))) key (omega arith) (omega (arith, within)))
          c (omega arith) (omega (arith, below))));
      globals = globals_answer run (after_logs run round state) 1 round.globals third.1;
    }

pub round_has_no_flaw : (run : History) (state : WholeState) (round : RoundLog) → IsLegalRound run round state → flaw_of_round run state round ≡ None
round_has_no_flaw run state round h =
    let logs = flaw_of_logs run state round in
    let journals = flaw_of_journals run state round in
    let matches = flaw_of_matches run round in
    let globals = flaw_of_globals run (after_logs run round state) 1 round.globals in
    let keys = length run.key_names in
    let n = members run.faults in
    let by_key : ℕ → Option PlacedFlaw = λ r. first_from (λ key. flaw_of_journal (cell_of state r key) r key 1 (journal_of round r key)) 0 keys in
    let by_column : ℕ → ℕ → Option PlacedFlaw = λ r key. first_from (flaw_of_match round r key) 0 run.columns in
    let no_log = first_from-none_from (λ c. flaw_of_log (setting_of run state) (column_of state c) c 1 (log_of round c)) 0 run.columns
    (λ c low below. log_has_no_flaw (setting_of run state) (column_of state c) c 1 (log_of round c) (h.logs c (omega (arith, below)))) in
    let no_journal = first_from-none_from by_key 0 n
    (λ r low there. first_from-none_from (λ key. flaw_of_journal (cell_of state r key) r key 1 (journal_of round r key)) 0 keys
    (λ key low within. journal_has_no_flaw (cell_of state r key) r key 1 (journal_of round r key) (h.journals r key (omega (arith, there)) (omega (arith, within))))) in
    let no_match = first_from-none_from (λ r. first_from (by_column r) 0 keys) 0 n
    (λ r low there. first_from-none_from (by_column r) 0 keys
    (λ key low within. first_from-none_from (flaw_of_match round r key) 0 run.columns
    (λ c low below. same_lists c r key (h.matched c r key (omega (arith, below)) (omega (arith, there)) (omega (arith, within)))))) in
    option_or-none_from logs (option_or journals (option_or matches globals)) no_log
    (option_or-none_from journals (option_or matches globals) no_journal
    (option_or-none_from matches globals no_match (globals_have_no_flaw run (after_logs run round state) 1 round.globals h.globals)))
  where
    same_lists : (c r key : ℕ) → turns_in_journal c (journal_of round r key) ≡ turns_in_log r key (log_of round c) → flaw_of_match round r key c ≡ None
    same_lists c r key e =
        let journal = turns_in_journal c (journal_of round r key) in
        ap (option_map (λ (entry : ℕ). record { place = Match r key c entry; why = Unmatched }))
        (ap (λ (log : List Turn). difference 1 journal log) (sym e) ∙ difference-itself 1 journal)
