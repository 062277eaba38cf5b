-- What is found in a round is what its columns have learned since it began, and what its accepted Enters tell.
use Rattle.std.proofs.Common.{◌≡◌, ◌∙◌, ◌+◌, ◌==◌, ◌&&◌, ℕ, Bool, true, false, not, refl, sym, ap, List, [], ◌∷◌, ◌++◌, length, drop, map, if◌then◌else◌}
use Rattle.std.specs.List.{list_any}
use Rattle.std.proofs.lemmas.List.{map-append}
use Rattle.std.proofs.Math.Seq.{drop-append_seam}
use Rattle.mk_lists.proofs.Changes.{map-map_same}
use Rattle.mk_txn.specs.declared.TxnId.{TxnId}
use Rattle.mk_txn.specs.declared.Outcome.{Outcome}
use Rattle.mk_words.specs.Bases.{taught_by}
use Rattle.mk_words.specs.declared.GlobalAnswer.{GlobalAnswer}
use Rattle.mk_words.specs.declared.GlobalEntry.{GlobalEntry}
use Rattle.mk_words.specs.declared.GlobalLine.{GlobalLine}
use Rattle.mk_words.specs.declared.GlobalLine.TheVariants.{Wipe, Ask, Promise, Merge, Adopt, Enter}
use Rattle.mk_model.specs.ColumnState.{Setting, ColumnState, Learning}
use Rattle.mk_model.specs.EpochState.{made_for}
use Rattle.mk_model.specs.GlobalAnswers.{is_accepted}
use Rattle.mk_model.specs.GlobalSteps.{base_or_empty}
use Rattle.mk_model.specs.Logs.{column_through, reading_ended, replica_reset}
use Rattle.mk_column.specs.ColumnByCode.{ColumnView}
use Rattle.mk_history.specs.declared.RoundLog.{RoundLog}
use Rattle.mk_history.specs.Histories.{History, log_of}
use Rattle.mk_history.specs.Learning.{Place, found_by_enter, found_by_line, found_in_log, found_in_logs, found_in_globals, entered_after}
use Rattle.mk_history.specs.Learning.Place.{InGlobals}
use Rattle.mk_history.specs.Wholes.{WholeState, setting_of, columns_after_logs, after_logs, after_line, after_global, globals_through, after_round}
use Rattle.mk_run.specs.declared.firsts.FirstLearning.{FirstLearning}
use Rattle.mk_run.specs.Firsts.{kept_of_found, kept_of_learning, kept_by_enter}
use Rattle.mk_run.specs.News.{news_of, all_news, news_by_line, news_by_lines}
use Rattle.mk_run.proofs.FoundLaws.{learned_along, learned-through, found-along}

-- what a column has learned
abbrev pub learned_by : ColumnState → List Learning
learned_by column = column.learned

-- the news, by what the columns have learned
abbrev news_in : List (List Learning) → List ℕ → List FirstLearning
news_in [] known = []
news_in (learned ∷ all) [] = []
news_in (learned ∷ all) (k ∷ known) = map kept_of_learning (drop k learned) ++ news_in all known

news-by_learned : (views : List ColumnView) (known : List ℕ) → all_news views known ≡ news_in (map (λ (v : ColumnView). v.state.learned) views) known
news-by_learned [] known = refl
news-by_learned (v ∷ views) [] = refl
news-by_learned (v ∷ views) (k ∷ known) = ap (λ (rest : List FirstLearning). news_of v k ++ rest) (news-by_learned views known)

logs-news : (number c : ℕ) (setting : Setting) (round : RoundLog) (columns : List ColumnState) →
    news_in (map learned_by (columns_after_logs setting round c columns)) (map (λ (column : ColumnState). length column.learned) columns)
    ≡ map kept_of_found (found_in_logs number setting round c columns)
logs-news number c setting round [] = refl
logs-news number c setting round (column ∷ columns) =
    let log = log_of round c in
    let known = length column.learned in
    let here : map kept_of_learning (drop known (column_through setting column log).learned) ≡ map kept_of_found (found_in_log number c 1 setting column log) =
    ap (λ (xs : List Learning). map kept_of_learning (drop known xs)) (learned-through setting column log)
    ∙ ap (map kept_of_learning) (drop-append_seam column.learned (learned_along setting column log))
    ∙ sym (found-along number c 1 setting column log) in
    let rest = logs-news number (c + 1) setting round columns in
    (λ i. here i ++ rest i) ∙ sym (map-append kept_of_found (found_in_log number c 1 setting column log) (found_in_logs number setting round (c + 1) columns))

line-leaves : (run : History) (line : GlobalLine) (state : WholeState) → map learned_by (after_line run line state).columns ≡ map learned_by state.columns
line-leaves run (Wipe r) state = map-map_same learned_by (replica_reset r) (λ x. refl) state.columns
line-leaves run (Adopt epoch r) state = map-map_same learned_by (replica_reset r) (λ x. refl) state.columns
line-leaves run (Ask epoch) state = refl
line-leaves run (Promise epoch r) state = refl
line-leaves run (Merge epoch) state = refl
line-leaves run (Enter epoch) state = refl

entry-leaves : (run : History) (state : WholeState) (entry : GlobalEntry) → map learned_by (after_global run state entry).columns ≡ map learned_by state.columns
entry-leaves run state entry = by_answer (is_accepted entry.answer)
  where
    by_answer : (b : Bool) → map learned_by (if b then after_line run entry.line state else state).columns ≡ map learned_by state.columns
    by_answer true = line-leaves run entry.line state
    by_answer false = refl

lines-leave : (run : History) (state : WholeState) (entries : List GlobalEntry) → map learned_by (globals_through run state entries).columns ≡ map learned_by state.columns
lines-leave run state [] = refl
lines-leave run state (entry ∷ entries) = lines-leave run (after_global run state entry) entries ∙ entry-leaves run state entry

-- what the columns have learned since the round began is what is found along its logs
pub round-news : (run : History) (state : WholeState) (round : RoundLog) (number : ℕ) (views : List ColumnView) →
    map (λ (v : ColumnView). v.state.learned) views ≡ map learned_by (after_round run round state).columns →
    all_news views (map (λ (column : ColumnState). length column.learned) state.columns) ≡ map kept_of_found (found_in_logs number (setting_of run state) round 0 state.columns)
round-news run state round number views same =
    let known = map (λ (column : ColumnState). length column.learned) state.columns in
    let ended = globals_through run (after_logs run round state) round.globals in
    news-by_learned views known
    ∙ ap (λ (all : List (List Learning)). news_in all known)
    (same ∙ map-map_same learned_by reading_ended (λ x. refl) ended.columns ∙ lines-leave run (after_logs run round state) round.globals)
    ∙ logs-news number 0 (setting_of run state) round state.columns

-- ---- what the accepted Enters tell

-- at each accepted Enter its base tells this of its epoch
abbrev pub TellsRightly : (ℕ → List (TxnId × Outcome)) → GlobalAnswer → WholeState → GlobalLine → Type 0
TellsRightly told answer state (Enter epoch) = is_accepted answer ≡ true → told epoch ≡ taught_by (base_or_empty (made_for epoch state.epochs))
TellsRightly told answer state (Wipe r) = Unit {0}
TellsRightly told answer state (Ask epoch) = Unit {0}
TellsRightly told answer state (Promise epoch r) = Unit {0}
TellsRightly told answer state (Merge epoch) = Unit {0}
TellsRightly told answer state (Adopt epoch r) = Unit {0}

abbrev pub EachTellsRightly : (ℕ → List (TxnId × Outcome)) → History → WholeState → List GlobalEntry → Type 0
EachTellsRightly told run state [] = Unit {0}
EachTellsRightly told run state (entry ∷ entries) = TellsRightly told entry.answer state entry.line × EachTellsRightly told run (after_global run state entry) entries

kept-by_enter : (place : Place) (epoch : ℕ) (fates : List (TxnId × Outcome)) → map kept_of_found (map (found_by_enter place epoch) fates) ≡ map (kept_by_enter epoch) fates
kept-by_enter place epoch [] = refl
kept-by_enter place epoch (fate ∷ fates) = ap (λ (rest : List FirstLearning). kept_by_enter epoch fate ∷ rest) (kept-by_enter place epoch fates)

line-news : (told : ℕ → List (TxnId × Outcome)) (place : Place) (state : WholeState) (entered : List ℕ) (answer : GlobalAnswer) (line : GlobalLine) → TellsRightly told answer state line →
    news_by_line told entered answer line ≡ map kept_of_found (found_by_line place state entered answer line)
line-news told place state entered answer (Enter epoch) right = by_tests (is_accepted answer) (not (list_any (λ e. e == epoch) entered)) right
  where
    fates : List (TxnId × Outcome)
    fates = taught_by (base_or_empty (made_for epoch state.epochs))

    by_tests : (accepted new : Bool) → (accepted ≡ true → told epoch ≡ fates) →
        (if accepted && new then map (kept_by_enter epoch) (told epoch) else []) ≡ map kept_of_found (if accepted && new then map (found_by_enter place epoch) fates else [])
    by_tests true true r = ap (map (kept_by_enter epoch)) (r refl) ∙ sym (kept-by_enter place epoch fates)
    by_tests true false r = refl
    by_tests false new r = refl
line-news told place state entered answer (Wipe r) right = refl
line-news told place state entered answer (Ask epoch) right = refl
line-news told place state entered answer (Promise epoch r) right = refl
line-news told place state entered answer (Merge epoch) right = refl
line-news told place state entered answer (Adopt epoch r) right = refl

-- what the Enters tell is what is found along the global lines
pub lines-news : (told : ℕ → List (TxnId × Outcome)) (number entry : ℕ) (run : History) (state : WholeState) (entered : List ℕ) (lines : List GlobalEntry) → EachTellsRightly told run state lines →
    news_by_lines told entered lines ≡ map kept_of_found (found_in_globals number entry run state entered lines)
lines-news told number entry run state entered [] right = refl
lines-news told number entry run state entered (line ∷ lines) right =
    let place = InGlobals number entry in
    let here = line-news told place state entered line.answer line.line right.0 in
    let rest = lines-news told number (entry + 1) run (after_global run state line) (entered_after line.answer entered line.line) lines right.1 in
    (λ i. here i ++ rest i)
    ∙ sym (map-append kept_of_found (found_by_line place state entered line.answer line.line)
    (found_in_globals number (entry + 1) run (after_global run state line) (entered_after line.answer entered line.line) lines))
