-- What is noted round by round stands for what is found along the rounds.
use Rattle.std.proofs.Common.{◌≡◌, ◌∙◌, ◌+◌, ◌==◌, ◌&&◌, ◌||◌, ℕ, Bool, true, false, not, refl, sym, ap, subst, arith, List, [], ◌∷◌, ◌++◌, length, map, if◌then◌else◌, append_assoc}
use Rattle.std.specs.List.{list_any}
use Rattle.std.proofs.lemmas.List.{append-nil, map-append}
use Rattle.mk_txn.specs.declared.TxnId.{TxnId}
use Rattle.mk_txn.specs.declared.Outcome.{Outcome}
use Rattle.mk_words.specs.declared.GlobalAnswer.{GlobalAnswer}
use Rattle.mk_words.specs.declared.GlobalEntry.{GlobalEntry}
use Rattle.mk_words.specs.declared.GlobalLine.{GlobalLine}
use Rattle.mk_words.specs.declared.GlobalLine.TheVariants.{Wipe, Ask, Promise, Merge, Adopt, Enter}
use Rattle.mk_model.specs.ColumnState.{ColumnState}
use Rattle.mk_model.specs.GlobalAnswers.{is_accepted}
use Rattle.mk_column.specs.ColumnByCode.{ColumnView}
use Rattle.mk_history.specs.declared.RoundLog.{RoundLog}
use Rattle.mk_history.specs.Histories.{History}
use Rattle.mk_history.specs.Learning.{Found, found_from, found_in_round, found_in_logs, found_in_globals, entered_after, entered_through}
use Rattle.mk_history.specs.Wholes.{WholeState, first_state, setting_of, state_through, after_logs, after_round}
use Rattle.mk_run.specs.declared.firsts.FirstLearning.{FirstLearning}
use Rattle.mk_run.specs.Firsts.{StandsForFound, all_noted, kept_of_found, kept_by_enter}
use Rattle.mk_run.specs.News.{all_news, news_by_line, news_by_lines, entered_along, found_along, SameEpochs}
use Rattle.mk_run.proofs.FirstLaws.{all_noted_stand}
use Rattle.mk_run.proofs.NewsLaws.{all_noted-append}
use Rattle.mk_run.proofs.RoundLaws.{EachTellsRightly, learned_by, round-news, lines-news}

pub found-push : (first last : ℕ) (run : History) (state : WholeState) (entered : List ℕ) (rounds : List RoundLog) (round : RoundLog) → last ≡ length rounds + first →
    found_from first run state entered (rounds ++ round ∷ [])
    ≡ found_from first run state entered rounds ++ found_in_round last run (state_through run state rounds) (entered_along entered rounds) round
found-push first last run state entered [] round e =
    let same : first ≡ last = omega (arith, e) in
    append-nil (found_in_round first run state entered round) ∙ ap (λ (n : ℕ). found_in_round n run state entered round) same
found-push first last run state entered (r ∷ rounds) round e =
    let here = found_in_round first run state entered r in
    let next = after_round run r state in
    let count : last ≡ length rounds + (first + 1) = omega (arith, e) in
    ap (λ (fs : List Found). here ++ fs) (found-push (first + 1) last run next (entered_through entered r.globals) rounds round count)
    ∙ sym (append_assoc here (found_from (first + 1) run next (entered_through entered r.globals) rounds)
    (found_in_round last run (state_through run next rounds) (entered_along (entered_through entered r.globals) rounds) round))

-- ---- which epochs were entered matters, and not in what order

pub after-same : (answer : GlobalAnswer) (line : GlobalLine) (one other : List ℕ) → SameEpochs one other → SameEpochs (entered_after answer one line) (entered_after answer other line)
after-same answer (Enter epoch) one other same = λ n. by_answer n (is_accepted answer)
  where
    by_answer : (n : ℕ) (b : Bool) → list_any (λ e. e == n) (if b then epoch ∷ one else one) ≡ list_any (λ e. e == n) (if b then epoch ∷ other else other)
    by_answer n true = ap (λ (t : Bool). (epoch == n) || t) (same n)
    by_answer n false = same n
after-same answer (Wipe r) one other same = same
after-same answer (Ask epoch) one other same = same
after-same answer (Promise epoch r) one other same = same
after-same answer (Merge epoch) one other same = same
after-same answer (Adopt epoch r) one other same = same

line-same : (told : ℕ → List (TxnId × Outcome)) (answer : GlobalAnswer) (line : GlobalLine) (one other : List ℕ) → SameEpochs one other → news_by_line told one answer line ≡ news_by_line told other answer line
line-same told answer (Enter epoch) one other same = ap (λ (t : Bool). if is_accepted answer && not t then map (kept_by_enter epoch) (told epoch) else []) (same epoch)
line-same told answer (Wipe r) one other same = refl
line-same told answer (Ask epoch) one other same = refl
line-same told answer (Promise epoch r) one other same = refl
line-same told answer (Merge epoch) one other same = refl
line-same told answer (Adopt epoch r) one other same = refl

pub through-same : (lines : List GlobalEntry) (one other : List ℕ) → SameEpochs one other → SameEpochs (entered_through one lines) (entered_through other lines)
through-same [] one other same = same
through-same (line ∷ lines) one other same =
    through-same lines (entered_after line.answer one line.line) (entered_after line.answer other line.line) (after-same line.answer line.line one other same)

pub lines-same : (told : ℕ → List (TxnId × Outcome)) (lines : List GlobalEntry) (one other : List ℕ) → SameEpochs one other → news_by_lines told one lines ≡ news_by_lines told other lines
lines-same told [] one other same = refl
lines-same told (line ∷ lines) one other same =
    let here = line-same told line.answer line.line one other same in
    let rest = lines-same told lines (entered_after line.answer one line.line) (entered_after line.answer other line.line) (after-same line.answer line.line one other same) in
    λ i. here i ++ rest i

-- ---- one more round

pub round-noted : (run : History) (done : List RoundLog) (round : RoundLog) (firsts : List FirstLearning) (views : List ColumnView) (known entered : List ℕ) (told : ℕ → List (TxnId × Outcome)) →
    StandsForFound firsts (found_along run done) →
    map (λ (v : ColumnView). v.state.learned) views ≡ map learned_by (after_round run round (state_through run (first_state run) done)).columns →
    known ≡ map (λ (column : ColumnState). length column.learned) (state_through run (first_state run) done).columns →
    SameEpochs entered (entered_along [] done) →
    EachTellsRightly told run (after_logs run round (state_through run (first_state run) done)) round.globals →
    StandsForFound (all_noted (news_by_lines told entered round.globals) (all_noted (all_news views known) firsts)) (found_along run (done ++ round ∷ []))
round-noted run done round firsts views known entered told stands learned_is known_is same right =
    let state = state_through run (first_state run) done in
    let number = length done + 1 in
    let before = entered_along [] done in
    let logs = found_in_logs number (setting_of run state) round 0 state.columns in
    let globals = found_in_globals number 1 run (after_logs run round state) before round.globals in
    let columns_news : all_news views known ≡ map kept_of_found logs =
    ap (all_news views) known_is ∙ round-news run state round number views learned_is in
    let lines_news : news_by_lines told entered round.globals ≡ map kept_of_found globals =
    lines-same told round.globals entered before same ∙ lines-news told number 1 run (after_logs run round state) before round.globals right in
    let noted_is : all_noted (news_by_lines told entered round.globals) (all_noted (all_news views known) firsts) ≡ all_noted (map kept_of_found (logs ++ globals)) firsts =
    (λ i. all_noted (lines_news i) (all_noted (columns_news i) firsts))
    ∙ sym (all_noted-append (map kept_of_found logs) (map kept_of_found globals) firsts)
    ∙ ap (λ (xs : List FirstLearning). all_noted xs firsts) (sym (map-append kept_of_found logs globals)) in
    let found_is : found_along run (done ++ round ∷ []) ≡ found_along run done ++ (logs ++ globals) = found-push 1 number run (first_state run) [] done round refl in
    subst (λ (fs : List Found). StandsForFound (all_noted (news_by_lines told entered round.globals) (all_noted (all_news views known) firsts)) fs) (sym found_is)
    (subst (λ (xs : List FirstLearning). StandsForFound xs (found_along run done ++ (logs ++ globals))) (sym noted_is) (all_noted_stand firsts (found_along run done) (logs ++ globals) stands))
