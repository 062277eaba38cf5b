-- The global lines of a round, one after the other.
use Rattle.std.proofs.Common.{◌≡◌, ◌∙◌, ◌<◌, ◌≤◌, ◌+◌, ◌*◌, ◌%◌, ℕ, true, cond, refl, sym, ap, subst, arith, List, [], ◌∷◌, ◌++◌, length, take, Some}
use Rattle.std.specs.Prelude.{nat_lt, slice_get, slice_set, Option, Result, Ok, Err, IfOk, OnOk}
use Rattle.std.specs.List.{list_all}
use Rattle.std.proofs.lemmas.Bool.{and_parts, and_from}
use Rattle.std.proofs.lemmas.Bool.Decides.{nat_tests}
use Rattle.std.proofs.lemmas.List.{length-map, length-take, map-append, take_all}
use Rattle.std.proofs.lemmas.List.Folds.{list_all-append}
use Rattle.std.proofs.lemmas.List.Sums.{sum_by-append}
use Rattle.mk_quorum.specs.Sizes.{members}
use Rattle.mk_txn.specs.declared.NoMemory.{NoMemory}
use Rattle.mk_words.specs.Lines.{line_fits, is_epoch}
use Rattle.mk_words.specs.declared.GlobalAnswer.{GlobalAnswer}
use Rattle.mk_words.specs.declared.GlobalEntry.{GlobalEntry}
use Rattle.mk_words.specs.declared.GlobalLine.{GlobalLine}
use Rattle.mk_words.specs.declared.GlobalLine.TheVariants.{Wipe, Ask, Promise, Merge, Adopt, Enter}
use Rattle.mk_model.specs.EpochState.{EpochState}
use Rattle.mk_snap.specs.Snapshots.{SnapStands}
use Rattle.mk_history.specs.declared.RoundLog.{RoundLog}
use Rattle.mk_history.specs.Histories.{History}
use Rattle.mk_history.specs.Shape.{global_fits}
use Rattle.mk_history.specs.Wholes.{WholeState, after_logs, after_global, globals_through}
use Rattle.mk_kept.specs.declared.head.Head.{Head}
use Rattle.mk_script.specs.Scripts.{ScriptParts}
use Rattle.mk_driver.specs.Driven.{lines_in, round_at}
use Rattle.mk_replay_laws.specs.AtLines.{LinesAreReady}
use Rattle.mk_run_laws.proofs.Splitting.{globals_through-append}
use Rattle.mk_state.specs.Standings.{IsWithin, MayDo, WasDone}
use Rattle.mk_state.specs.Words.{IsWordFor, IsWordAfter, HasFaulted, KeepsWords}
use Rattle.mk_round.specs.Pasts.{run_of, state_behind}
use Rattle.mk_round.specs.Stores.{StoreView}
use Rattle.mk_store.specs.Words.{WordsRead, FaultsAreCounted, failed_at, faults_in}
use Rattle.mk_store.specs.Globals.{word_place, state_within, MayDoLines, WereDone}
use Rattle.mk_store.proofs.NameLaws.{take-next}
use Rattle.mk_store.proofs.ReadyLaws.{ready-within, answered-push}
use Rattle.mk_store.proofs.ShapeLaws.{script-line-fits}
use Rattle.mk_store.proofs.WordLaws.{one-line, word-for, words-after, counted-after, counted-none, counted-more}

-- ---- the place of a line's word

replica-below : (n r : ℕ) → nat_lt r n ≡ true → r < n
replica-below n r e = grind (arith, nat_tests)

leads : (f epoch : ℕ) → epoch % members f < members f
leads f epoch = (let some : 0 < 2 * f + 1 = omega arith in omega arith)

pub place-below : (f : ℕ) (line : GlobalLine) → f ≤ 3 → line_fits (members f) line ≡ true → word_place f line < 7
place-below f (Promise epoch r) small fits = let below = replica-below (members f) r (and_parts (is_epoch epoch) (nat_lt r (members f)) fits).1 in omega (arith, below, small)
place-below f (Adopt epoch r) small fits = let below = replica-below (members f) r (and_parts (is_epoch epoch) (nat_lt r (members f)) fits).1 in omega (arith, below, small)
place-below f (Merge epoch) small fits = let below = leads f epoch in omega (arith, below, small)
place-below f (Wipe r) small fits = omega arith
place-below f (Ask epoch) small fits = omega arith
place-below f (Enter epoch) small fits = omega arith

-- a line that can be done goes with one of seven words
pub there : (line : GlobalLine) (f : ℕ) (store : StoreView) (run : History) (state : WholeState) → MayDo SnapStands run state store.whole line → f ≡ store.whole.faults → f ≤ 3 →
    word_place f line < 7
there line f store run state may size small =
    place-below f line small (subst (λ (n : ℕ). line_fits (members n) line ≡ true) (sym (size ∙ may.within.sizes.faults)) may.range)

-- ---- the word that a line goes with

module _ {W : Type 0} (kept : W → ℕ) (sets : W → Option ℕ) (faults : W → ℕ) (line : GlobalLine) (f place : ℕ) (old : StoreView) (words : List W) (word : W)
    (size : f ≡ old.whole.faults) (is : place ≡ word_place f line) (at : slice_get words place ≡ Some word) where
  at-its : slice_get words (word_place f line) ≡ Some word
  at-its = subst (λ (n : ℕ). slice_get words n ≡ Some word) is at

  pub line-word : (run : History) (state : WholeState) → MayDo SnapStands run state old.whole line → WordsRead kept state.epochs words → IsWordFor line old.whole.epochs (kept word)
  line-word run state may read =
      word-for SnapStands line old.whole.epochs state.epochs f (kept word) may.within.epochs (size ∙ may.within.sizes.faults ∙ sym may.within.sizes.changes) (read (word_place f line) word at-its)

  pub line-words : (new : StoreView) (new_word : W) (r : Result GlobalAnswer NoMemory) →
      IfOk r (λ answer. (run : History) (state : WholeState) → MayDo SnapStands run state old.whole line → WasDone SnapStands run state line answer new.whole) →
      IfOk r (λ answer. IsWordAfter kept sets faults line answer word new_word) → OnOk r (IsWordFor line new.whole.epochs (kept new_word)) →
      OnOk r (KeepsWords line old.whole.epochs new.whole.epochs) →
      IfOk r (λ answer. (run : History) (state : WholeState) → MayDo SnapStands run state old.whole line → WordsRead kept state.epochs words →
      WordsRead kept (after_global run state (one-line line answer)).epochs (slice_set words place new_word))
  line-words new new_word (Ok answer) done after reads keeps =
      λ run state may read.
      let next = after_global run state (one-line line answer) in
      subst (λ (n : ℕ). WordsRead kept next.epochs (slice_set words n new_word)) (sym is)
      (words-after SnapStands kept sets faults line answer f old.whole.epochs new.whole.epochs state.epochs next.epochs words word new_word may.within.epochs (done run state may).within.epochs
      keeps reads after at-its read)
  line-words new new_word (Err error) done after reads keeps = tt

  pub line-faults : (new_word : W) (r : Result GlobalAnswer NoMemory) → IfOk r (λ answer. HasFaulted answer (faults word) (faults new_word)) →
      IfOk r (λ answer. FaultsAreCounted faults words (slice_set words place new_word) (λ n. faults_in n (one-line line answer ∷ [])))
  line-faults new_word (Ok answer) h =
      subst (λ (n : ℕ). FaultsAreCounted faults words (slice_set words n new_word) (λ m. faults_in m (one-line line answer ∷ []))) (sym is)
      (counted-after faults line answer f words word new_word h at-its)
  line-faults new_word (Err error) h = tt

-- ---- none so far

pub none-done : {W : Type 0} (kept faults : W → ℕ) (script : ScriptParts) (done : List RoundLog) (round : RoundLog) (head : Head) (store : StoreView) (lines : List GlobalLine) (words : List W) →
    MayDoLines kept script done round head store lines words → WereDone kept faults script done round store store [] words words []
none-done kept faults script done round head store lines words h =
    record {
      lines_are = refl;
      answered = tt;
      fit = refl;
      done_are = record { round_is = refl; within = h.worked.within; drivers = refl };
      all = refl;
      read = h.read;
      counted = counted-none faults words (λ r. faults_in r []) (λ r. refl);
    }

-- ---- one more

module _ {W : Type 0} (kept faults : W → ℕ) (script : ScriptParts) (done : List RoundLog) (round : RoundLog) (head : Head) (store mid : StoreView) (lines : List GlobalLine) (words mid_words : List W)
    (entries : List GlobalEntry) (i : ℕ) (line : GlobalLine) (may : MayDoLines kept script done round head store lines words)
    (were : WereDone kept faults script done round store mid (take i lines) words mid_words entries) (at : slice_get lines i ≡ Some line) where
  fewer : length entries ≤ length (let its = round_at script (length done) in its.globals)
  fewer =
      let one : length (lines_in entries) ≡ length entries = length-map entries (λ (entry : GlobalEntry). entry.line) in
      let two : length (lines_in entries) ≡ length (take i lines) = ap (λ (ls : List GlobalLine). length ls) were.lines_are in
      let three = length-take i lines in
      let four : length lines ≡ length (let its = round_at script (length done) in its.globals) = ap (λ (ls : List GlobalLine). length ls) may.lines_are in
      omega (arith, one, two, three, four)

  -- the line can be done
  pub line-may : LinesAreReady → MayDo SnapStands (run_of script []) (state_within script done round entries) mid.whole line
  line-may law =
      record {
        within = were.done_are.within;
        ready = ready-within script done round entries law may.whole may.rounds may.left may.shape were.fit may.few fewer may.worked.legal were.answered;
        range = script-line-fits script (length done) i line may.whole may.left (subst (λ (ls : List GlobalLine). slice_get ls i ≡ Some line) may.lines_are at);
      }

  pub line-range : line_fits (members script.size) line ≡ true
  line-range = script-line-fits script (length done) i line may.whole may.left (subst (λ (ls : List GlobalLine). slice_get ls i ≡ Some line) may.lines_are at)

  -- and behind it one more was done
  pub line-next : (new : StoreView) (new_words : List W) (answer : GlobalAnswer) → i < length lines →
      WasDone SnapStands (run_of script []) (state_within script done round entries) line answer new.whole →
      WordsRead kept (after_global (run_of script []) (state_within script done round entries) (one-line line answer)).epochs new_words →
      FaultsAreCounted faults mid_words new_words (λ r. faults_in r (one-line line answer ∷ [])) →
      new ≡ record mid { whole = new.whole } → global_fits (run_of script []) (one-line line answer) ≡ true → length new_words ≡ length mid_words →
      WereDone kept faults script done round store new (take (i + 1) lines) words new_words (entries ++ one-line line answer ∷ [])
  line-next new new_words answer within was read counted rest fits long =
      let run = run_of script [] in
      let entry = one-line line answer in
      let logs = after_logs run round (state_behind script done) in
      let next : globals_through run logs (entries ++ entry ∷ []) ≡ after_global run (state_within script done round entries) entry = globals_through-append run logs entries (entry ∷ []) in
      record {
        lines_are = map-append (λ (e : GlobalEntry). e.line) entries (entry ∷ []) ∙ ap (λ (ls : List GlobalLine). ls ++ line ∷ []) were.lines_are ∙ sym (take-next lines i line at within);
        answered = answered-push run logs entries entry were.answered was.answered;
        fit = list_all-append (global_fits run) entries (entry ∷ [])
            ∙ and_from (list_all (global_fits run) entries) (list_all (global_fits run) (entry ∷ [])) were.fit (and_from (global_fits run entry) true fits refl);
        done_are = record {
          round_is = ap (λ (s : StoreView). s.round) rest ∙ were.done_are.round_is;
          within = subst (λ (s : WholeState). IsWithin SnapStands run new.whole s) (sym next) was.within;
          drivers = ap (λ (s : StoreView). s.drivers) rest ∙ were.done_are.drivers;
        };
        all = long ∙ were.all;
        read = subst (λ (e : EpochState). WordsRead kept e new_words) (sym (ap (λ (s : WholeState). s.epochs) next)) read;
        counted = counted-more faults words mid_words new_words (λ r. faults_in r entries) (λ r. faults_in r (entry ∷ [])) (λ r. faults_in r (entries ++ entry ∷ [])) were.all were.counted counted
            (λ r. sum_by-append (λ (e : GlobalEntry). cond (failed_at r e) 1 0) entries (entry ∷ []));
      }

-- all lines were done
pub all-done : {W : Type 0} (kept faults : W → ℕ) (script : ScriptParts) (done : List RoundLog) (round : RoundLog) (store new : StoreView) (lines : List GlobalLine) (words new_words : List W)
    (entries : List GlobalEntry) (i : ℕ) → length lines ≤ i → WereDone kept faults script done round store new (take i lines) words new_words entries →
    WereDone kept faults script done round store new lines words new_words entries
all-done kept faults script done round store new lines words new_words entries i over h =
    subst (λ (ls : List GlobalLine). WereDone kept faults script done round store new ls words new_words entries) (take_all i lines over) h
