-- A walk through a run, and one round more.
use Rattle.std.proofs.Common.{◌≡◌, ◌∙◌, ◌+◌, ◌==◌, ◌&&◌, ℕ, Bool, true, false, not, refl, sym, ap, subst, List, [], ◌∷◌, ◌++◌, length, map, filter, Option, None, if◌then◌else◌}
use Rattle.std.specs.Prelude.{Result, Ok, Err, OnOk}
use Rattle.std.specs.List.{list_any}
use Rattle.std.proofs.lemmas.List.Elements.{filter-append}
use Rattle.mk_txn.specs.declared.TxnId.{TxnId}
use Rattle.mk_txn.specs.declared.Outcome.{Outcome}
use Rattle.mk_words.specs.Bases.{taught_by}
use Rattle.mk_words.specs.declared.GlobalAnswer.{GlobalAnswer}
use Rattle.mk_words.specs.declared.GlobalEntry.{GlobalEntry}
use Rattle.mk_words.specs.declared.GlobalLine.{GlobalLine}
use Rattle.mk_words.specs.declared.GlobalLine.TheVariants.{Wipe, Ask, Promise, Merge, Adopt, Enter}
use Rattle.mk_words.specs.declared.Step.{Step}
use Rattle.mk_model.specs.ColumnState.{Setting, ColumnState, Learning}
use Rattle.mk_model.specs.EpochState.{made_for}
use Rattle.mk_model.specs.GlobalAnswers.{is_accepted}
use Rattle.mk_model.specs.GlobalSteps.{base_or_empty}
use Rattle.mk_model.specs.Learnings.{learned_in_step}
use Rattle.mk_model.specs.Steps.{column_after}
use Rattle.mk_history.specs.declared.RoundLog.{RoundLog}
use Rattle.mk_history.specs.Histories.{History, log_of}
use Rattle.mk_history.specs.Learning.{Found, found, found_by_enter, found_by_line, found_in_log, found_in_logs, found_in_globals, entered_after, entered_through}
use Rattle.mk_history.specs.Learning.Place.{InLog, InGlobals}
use Rattle.mk_history.specs.Legality.{EachRoundLegal}
use Rattle.mk_history.specs.Wholes.{WholeState, first_state, setting_of, state_through, after_logs, after_global, after_round}
use Rattle.mk_run_laws.proofs.Lines.{legal-first}
use Rattle.mk_verdict.specs.declared.PlacedFlaw.{PlacedFlaw}
use Rattle.mk_verdict.specs.Flaws.{flaw_of_round}
use Rattle.mk_verdict.proofs.Rounds.{round_has_no_flaw}
use Rattle.mk_state.specs.Standings.{IsAt}
use Rattle.mk_whole.specs.Standings.{IsItself, MayReplay}
use Rattle.mk_run.specs.declared.firsts.FirstLearning.{FirstLearning}
use Rattle.mk_run.specs.Firsts.{StandsForFound, all_noted, kept_of_found}
use Rattle.mk_run.specs.News.{told_in, news_by_lines, entered_along, found_along, SameEpochs}
use Rattle.mk_run.specs.Walking.{is_global, told_along, WalkView, HasWalked, MayWalk}
use Rattle.mk_run.proofs.FirstLaws.{all_noted_stand}
use Rattle.mk_run.proofs.JudgeLaws.{state-push}
use Rattle.mk_run.proofs.NotedLaws.{found-push, lines-same, through-same}
use Rattle.mk_run.proofs.RoundLaws.{lines-news}
use Rattle.mk_run.proofs.StandLaws.{legal-at}
use Rattle.mk_run.proofs.TellLaws.{round-tells}
use Rattle.mk_run.proofs.WatchLaws.{entered-push}

pub on_both : {T E P Q R : Type 0} (r : Result T E) → (P → Q → R) → OnOk r P → OnOk r Q → OnOk r R
on_both (Ok x) f h k = f h k
on_both (Err e) f h k = tt

-- found at a global line
abbrev is_told : Found → Bool
is_told f = is_global f.place

-- ---- what is found in a log is told by no Enter, and what is found at a line is

step-tells : (number c entry : ℕ) (learnings : List Learning) → filter is_told (map (found (InLog number c entry)) learnings) ≡ []
step-tells number c entry [] = refl
step-tells number c entry (l ∷ learnings) = step-tells number c entry learnings

log-tells : (number c entry : ℕ) (setting : Setting) (column : ColumnState) (steps : List Step) → filter is_told (found_in_log number c entry setting column steps) ≡ []
log-tells number c entry setting column [] = refl
log-tells number c entry setting column (step ∷ steps) =
    let here = map (found (InLog number c entry)) (learned_in_step setting column step) in
    let rest = found_in_log number c (entry + 1) setting (column_after setting column step) steps in
    let first = step-tells number c entry (learned_in_step setting column step) in
    let later = log-tells number c (entry + 1) setting (column_after setting column step) steps in
    filter-append is_told here rest ∙ (λ i. first i ++ later i)

logs-tell : (number c : ℕ) (setting : Setting) (round : RoundLog) (columns : List ColumnState) → filter is_told (found_in_logs number setting round c columns) ≡ []
logs-tell number c setting round [] = refl
logs-tell number c setting round (column ∷ columns) =
    let here = found_in_log number c 1 setting column (log_of round c) in
    let rest = found_in_logs number setting round (c + 1) columns in
    let first = log-tells number c 1 setting column (log_of round c) in
    let later = logs-tell number (c + 1) setting round columns in
    filter-append is_told here rest ∙ (λ i. first i ++ later i)

enter-tells : (number entry epoch : ℕ) (fates : List (TxnId × Outcome)) →
    filter is_told (map (found_by_enter (InGlobals number entry) epoch) fates) ≡ map (found_by_enter (InGlobals number entry) epoch) fates
enter-tells number entry epoch [] = refl
enter-tells number entry epoch (fate ∷ fates) = ap (λ (fs : List Found). found_by_enter (InGlobals number entry) epoch fate ∷ fs) (enter-tells number entry epoch fates)

line-told : (number entry : ℕ) (state : WholeState) (entered : List ℕ) (answer : GlobalAnswer) (line : GlobalLine) →
    filter is_told (found_by_line (InGlobals number entry) state entered answer line) ≡ found_by_line (InGlobals number entry) state entered answer line
line-told number entry state entered answer (Enter epoch) = by (is_accepted answer && not (list_any (λ e. e == epoch) entered))
  where
    fates : List (TxnId × Outcome)
    fates = taught_by (base_or_empty (made_for epoch state.epochs))

    by : (b : Bool) → filter is_told (if b then map (found_by_enter (InGlobals number entry) epoch) fates else []) ≡ (if b then map (found_by_enter (InGlobals number entry) epoch) fates else [])
    by true = enter-tells number entry epoch fates
    by false = refl
line-told number entry state entered answer (Wipe r) = refl
line-told number entry state entered answer (Ask epoch) = refl
line-told number entry state entered answer (Promise epoch r) = refl
line-told number entry state entered answer (Merge epoch) = refl
line-told number entry state entered answer (Adopt epoch r) = refl

lines-told : (number entry : ℕ) (run : History) (state : WholeState) (entered : List ℕ) (lines : List GlobalEntry) →
    filter is_told (found_in_globals number entry run state entered lines) ≡ found_in_globals number entry run state entered lines
lines-told number entry run state entered [] = refl
lines-told number entry run state entered (line ∷ lines) =
    let here = found_by_line (InGlobals number entry) state entered line.answer line.line in
    let next = entered_after line.answer entered line.line in
    let rest = found_in_globals number (entry + 1) run (after_global run state line) next lines in
    let first = line-told number entry state entered line.answer line.line in
    let later = lines-told number (entry + 1) run (after_global run state line) next lines in
    filter-append is_told here rest ∙ (λ i. first i ++ later i)

-- so what Enters told in one round more is what its lines tell
told-push : (run : History) (done : List RoundLog) (round : RoundLog) →
    told_along run (done ++ round ∷ [])
    ≡ told_along run done ++ found_in_globals (length done + 1) 1 run (after_logs run round (state_through run (first_state run) done)) (entered_along [] done) round.globals
told-push run done round =
    let state = state_through run (first_state run) done in
    let number = length done + 1 in
    let logs = found_in_logs number (setting_of run state) round 0 state.columns in
    let globals = found_in_globals number 1 run (after_logs run round state) (entered_along [] done) round.globals in
    let none = logs-tell number 0 (setting_of run state) round state.columns in
    let all = lines-told number 1 run (after_logs run round state) (entered_along [] done) round.globals in
    ap (filter is_told) (found-push 1 number run (first_state run) [] done round refl)
    ∙ filter-append is_told (found_along run done) (logs ++ globals)
    ∙ ap (λ (fs : List Found). told_along run done ++ fs) (filter-append is_told logs globals ∙ (λ i. none i ++ all i))

-- ---- one round more

pub may-replay : (run : History) (done : List RoundLog) (walk : WalkView) (round : RoundLog) → MayWalk run done walk round → MayReplay run done walk.whole round
may-replay run done walk round may = record {
  rest = may.rest;
  shape = may.shape;
  rounds = may.rounds;
  legal = legal-first run (first_state run) done (round ∷ may.rest) (subst (EachRoundLegal run (first_state run)) may.rounds may.legal);
  at = may.walked.at;
}

pub no-flaw : (run : History) (done : List RoundLog) (walk : WalkView) (round : RoundLog) (flaw : Option PlacedFlaw) → MayWalk run done walk round →
    flaw ≡ flaw_of_round run (state_through run (first_state run) done) round → flaw ≡ None
no-flaw run done walk round flaw may is =
    let now = legal-at run (first_state run) done may.rest round (subst (EachRoundLegal run (first_state run)) may.rounds may.legal) in
    is ∙ round_has_no_flaw run (state_through run (first_state run) done) round now

pub walked-next : (run : History) (done : List RoundLog) (old new : WalkView) (round : RoundLog) (lines : List GlobalEntry) → MayWalk run done old round →
    IsAt IsItself run new.whole (after_round run round (state_through run (first_state run) done)) → lines ≡ round.globals →
    new.settled ≡ all_noted (news_by_lines (told_in (after_round run round (state_through run (first_state run) done)).epochs) old.entered lines) old.settled →
    SameEpochs new.entered (entered_through old.entered lines) →
    HasWalked run new (done ++ round ∷ [])
walked-next run done old new round lines may at lines_is settled_is entered_is =
    let state = state_through run (first_state run) done in
    let told = told_in (after_round run round state).epochs in
    let was = may.walked in
    let before = entered_along [] done in
    let globals = found_in_globals (length done + 1) 1 run (after_logs run round state) before round.globals in
    let replay = may-replay run done old round may in
    let now = legal-at run (first_state run) done may.rest round (subst (EachRoundLegal run (first_state run)) may.rounds may.legal) in
    let news : news_by_lines told old.entered lines ≡ map kept_of_found globals =
    ap (news_by_lines told old.entered) lines_is
    ∙ lines-same told round.globals old.entered before was.entered
    ∙ lines-news told (length done + 1) 1 run (after_logs run round state) before round.globals (round-tells run done round replay.legal now) in
    record {
      at = subst (λ (s : WholeState). IsAt IsItself run new.whole s) (sym (state-push run (first_state run) done round)) at;
      entered = λ epoch.
          entered_is epoch
          ∙ ap (λ (ls : List GlobalEntry). list_any (λ e. e == epoch) (entered_through old.entered ls)) lines_is
          ∙ through-same round.globals old.entered before was.entered epoch
          ∙ ap (λ (es : List ℕ). list_any (λ e. e == epoch) es) (sym (entered-push [] done round));
      settled = subst (λ (fs : List Found). StandsForFound new.settled fs) (sym (told-push run done round))
          (subst (λ (xs : List FirstLearning). StandsForFound xs (told_along run done ++ globals)) (sym (settled_is ∙ ap (λ (ns : List FirstLearning). all_noted ns old.settled) news))
          (all_noted_stand old.settled (told_along run done) globals was.settled));
    }
