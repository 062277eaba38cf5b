-- The logs of a column tell what it lists, in order.
use Rattle.std.proofs.Common.{◌≡◌, ◌⊎◌, ◌<◌, ℕ, zero, suc, ◌+◌, Bool, true, false, refl, arith, inl, inr, sym, ap, ◌∙◌, List, [], ◌∷◌, ◌++◌, Option, Some, cond, not, ◌&&◌, ◌≤◌, map, length}
use Rattle.std.specs.Prelude.{slice_get, filter, find, is_some, option_map, ◌==◌}
use Rattle.std.specs.List.{list_any}
use Rattle.std.proofs.lemmas.Bool.Decides.{nat_tests}
use Rattle.std.proofs.lemmas.List.{map-append, append-nil, append_assoc}
use Rattle.std.proofs.lemmas.List.Elements.{filter-append}
use Rattle.std.proofs.lemmas.Bool.{eq-eqb}
use Rattle.std.proofs.lemmas.Option.{same_Some}
use Rattle.mk_lists.specs.Among.{Among, Among-append}
use Rattle.mk_lists.proofs.Members.{Among-from_map}
use Rattle.mk_lists.proofs.Lookups.{find-filter, find-map, find_tells}
use Rattle.mk_lists.proofs.Options.{Some-from_map}
use Rattle.mk_txn.specs.declared.TxnId.{TxnId}
use Rattle.mk_txn.specs.declared.Outcome.{Outcome}
use Rattle.mk_txn.specs.Transactions.{same_id}
use Rattle.mk_words.specs.Bases.{taught_by}
use Rattle.mk_words.specs.declared.GlobalEntry.{GlobalEntry}
use Rattle.mk_words.specs.declared.GlobalLine.{GlobalLine}
use Rattle.mk_words.specs.declared.GlobalLine.TheVariants.{Wipe, Ask, Promise, Merge, Adopt, Enter}
use Rattle.mk_words.specs.declared.Step.{Step}
use Rattle.mk_model.specs.ColumnState.{ColumnState, Setting, Learning}
use Rattle.mk_model.specs.Learnings.{learned_in_step}
use Rattle.mk_model.specs.Logs.{column_through, reading_ended}
use Rattle.mk_model.specs.Steps.{column_after}
use Rattle.mk_model.specs.EpochState.{made_for}
use Rattle.mk_model.specs.GlobalAnswers.{is_accepted}
use Rattle.mk_model.specs.GlobalSteps.{base_or_empty}
use Rattle.mk_column_laws.specs.Moments.{replicas_reset}
use Rattle.mk_history.specs.declared.Path.{Path}
use Rattle.mk_history.specs.declared.RoundLog.{RoundLog}
use Rattle.mk_history.specs.Histories.{History, log_of}
use Rattle.mk_history.specs.Learning.{Found, found, found_by_enter, found_by_line, found_in_log, found_in_logs, found_in_globals, found_from, all_found, entered_after, entered_through}
use Rattle.mk_history.specs.Learning.Place.{InLog, InGlobals}
use Rattle.mk_history.specs.Wholes.{WholeState, first_state, last_state, setting_of, after_logs, after_global, after_round, state_through}
use Rattle.mk_run_laws.specs.RunEvents.{moment_of}
use Rattle.mk_run_laws.specs.Ends.{last_moment}
use Rattle.mk_run_laws.specs.Learnt.{is_in_column, without_place, with_way, ColumnsListInOrder, FirstHasSource}
use Rattle.mk_run_laws.proofs.Joined.{HasColumn, has_column, column_first, column_after_round}
use Rattle.mk_run_laws.proofs.Emptied.{emptied_before}
use Rattle.mk_run_laws.proofs.Ending.{begun_after, ends_join, rounds_length, first_length}
use Rattle.mk_run_laws.proofs.FoundLogs.{after_a_round, round_lists}

abbrev Content : Type 0
Content = TxnId × (Outcome × Option Path)

abbrev in_logs : ℕ → Found → Bool
in_logs c f = is_in_column c f.place

module _ (c number : ℕ) (setting : Setting) where
  -- what a step finds is all of its column
  step_kept : (entry : ℕ) (ks : List Learning) → filter (in_logs c) (map (found (InLog number c entry)) ks) ≡ map (found (InLog number c entry)) ks
  step_kept entry [] = refl
  step_kept entry (k ∷ ks) =
      let rest = step_kept entry ks in
      let same = eq-eqb c c refl in
      ap (λ (b : Bool). cond b (found (InLog number c entry) k ∷ filter (in_logs c) (map (found (InLog number c entry)) ks)) (filter (in_logs c) (map (found (InLog number c entry)) ks))) same
      ∙ ap (λ (fs : List Found). found (InLog number c entry) k ∷ fs) rest

  log_kept : (steps : List Step) (entry : ℕ) (column : ColumnState) → filter (in_logs c) (found_in_log number c entry setting column steps) ≡ found_in_log number c entry setting column steps
  log_kept [] entry column = refl
  log_kept (step ∷ steps) entry column =
      let first = map (found (InLog number c entry)) (learned_in_step setting column step) in
      let later = found_in_log number c (entry + 1) setting (column_after setting column step) steps in
      let one = step_kept entry (learned_in_step setting column step) in
      let more = log_kept steps (entry + 1) (column_after setting column step) in
      filter-append (in_logs c) first later ∙ (λ i. one i ++ more i)

  -- and nothing of another
  step_left : (d entry : ℕ) → (d == c) ≡ false → (ks : List Learning) → filter (in_logs c) (map (found (InLog number d entry)) ks) ≡ []
  step_left d entry apart [] = refl
  step_left d entry apart (k ∷ ks) =
      ap (λ (b : Bool). cond b (found (InLog number d entry) k ∷ filter (in_logs c) (map (found (InLog number d entry)) ks)) (filter (in_logs c) (map (found (InLog number d entry)) ks))) apart
      ∙ step_left d entry apart ks

  log_left : (d : ℕ) → (d == c) ≡ false → (steps : List Step) (entry : ℕ) (column : ColumnState) → filter (in_logs c) (found_in_log number d entry setting column steps) ≡ []
  log_left d apart [] entry column = refl
  log_left d apart (step ∷ steps) entry column =
      let first = map (found (InLog number d entry)) (learned_in_step setting column step) in
      let later = found_in_log number d (entry + 1) setting (column_after setting column step) steps in
      let one = step_left d entry apart (learned_in_step setting column step) in
      let more = log_left d apart steps (entry + 1) (column_after setting column step) in
      filter-append (in_logs c) first later ∙ (λ i. one i ++ more i)

  -- the logs of a round
  logs_left : (round : RoundLog) (columns : List ColumnState) (n : ℕ) → c < n → filter (in_logs c) (found_in_logs number setting round n columns) ≡ []
  logs_left round [] n lt = refl
  logs_left round (column ∷ columns) n lt =
      let first = found_in_log number n 1 setting column (log_of round n) in
      let later = found_in_logs number setting round (n + 1) columns in
      let one = log_left n (grind (arith, nat_tests, lt)) (log_of round n) 1 column in
      let more = logs_left round columns (n + 1) (omega (arith, lt)) in
      filter-append (in_logs c) first later ∙ (λ i. one i ++ more i)

  logs_kept : (round : RoundLog) (columns : List ColumnState) (n i : ℕ) (column : ColumnState) → n + i ≡ c → slice_get columns i ≡ Some column →
      filter (in_logs c) (found_in_logs number setting round n columns) ≡ found_in_log number c 1 setting column (log_of round c)
  logs_kept round [] n i column place at = absurd (cc at)
  logs_kept round (x ∷ columns) n zero column place at =
      let same : x ≡ column = cc at in
      let here : n ≡ c = (omega (arith, place)) in
      let first = found_in_log number n 1 setting x (log_of round n) in
      let later = found_in_logs number setting round (n + 1) columns in
      let own : first ≡ found_in_log number c 1 setting column (log_of round c) = λ i. found_in_log number (here i) 1 setting (same i) (log_of round (here i)) in
      let one = ap (filter (in_logs c)) own ∙ log_kept (log_of round c) 1 column in
      let more = logs_left round columns (n + 1) (omega (arith, here)) in
      filter-append (in_logs c) first later ∙ (λ i. one i ++ more i) ∙ append-nil (found_in_log number c 1 setting column (log_of round c))
  logs_kept round (x ∷ columns) n (suc i) column place at =
      let first = found_in_log number n 1 setting x (log_of round n) in
      let later = found_in_logs number setting round (n + 1) columns in
      let below : n < c = omega (arith, place) in
      let one = log_left n (grind (arith, nat_tests, below)) (log_of round n) 1 x in
      let more = logs_kept round columns (n + 1) i column (omega (arith, place)) at in
      filter-append (in_logs c) first later ∙ (λ i. one i ++ more i)

-- a log adds to the list what is found along it
steps_tell : (number c entry : ℕ) (ks : List Learning) → map without_place (map (found (InLog number c entry)) ks) ≡ map with_way ks
steps_tell number c entry [] = refl
steps_tell number c entry (k ∷ ks) = ap (λ (xs : List Content). with_way k ∷ xs) (steps_tell number c entry ks)

log_tells : (number c : ℕ) (setting : Setting) (steps : List Step) (entry : ℕ) (column : ColumnState) →
    map with_way (column_through setting column steps).learned ≡ map with_way column.learned ++ map without_place (found_in_log number c entry setting column steps)
log_tells number c setting [] entry column = sym (append-nil (map with_way column.learned))
log_tells number c setting (step ∷ steps) entry column =
    let here = learned_in_step setting column step in
    let next = column_after setting column step in
    let later = found_in_log number c (entry + 1) setting next steps in
    let told = map without_place later in
    let old = map with_way column.learned in
    let told_here = map without_place (map (found (InLog number c entry)) here) in
    log_tells number c setting steps (entry + 1) next
    ∙ ap (λ (xs : List Content). xs ++ told) (map-append with_way column.learned here ∙ ap (λ (xs : List Content). old ++ xs) (sym (steps_tell number c entry here)))
    ∙ append_assoc old told_here told
    ∙ ap (λ (xs : List Content). old ++ xs) (sym (map-append without_place (map (found (InLog number c entry)) here) later))

-- ---- lines

-- what a line teaches is in no column, and has a path of its own
abbrev pub IsOfLine : Found → Type 0
IsOfLine f = ((c : ℕ) → is_in_column c f.place ≡ false) × (is_some f.own_path ≡ true)

line_told : (number n : ℕ) (state : WholeState) (entered : List ℕ) (entry : GlobalEntry) (f : Found) → Among f (found_by_line (InGlobals number n) state entered entry.answer entry.line) → IsOfLine f
line_told number n state entered entry f a = by entry.line a
  where
    by : (line : GlobalLine) → Among f (found_by_line (InGlobals number n) state entered entry.answer line) → IsOfLine f
    by (Wipe r) a = absurd a
    by (Ask e) a = absurd a
    by (Promise e r) a = absurd a
    by (Merge e) a = absurd a
    by (Adopt e r) a = absurd a
    by (Enter epoch) a = which (is_accepted entry.answer && not (list_any (λ e. e == epoch) entered)) a
      where
        which : (b : Bool) → Among f (cond b (map (found_by_enter (InGlobals number n) epoch) (taught_by (base_or_empty (made_for epoch state.epochs)))) []) → IsOfLine f
        which false a = absurd a
        which true a =
            let g = Among-from_map (found_by_enter (InGlobals number n) epoch) f (taught_by (base_or_empty (made_for epoch state.epochs))) a in
            ((λ c. ap (λ (x : Found). is_in_column c x.place) (sym g.2)), ap (λ (x : Found). is_some x.own_path) (sym g.2))

lines_told : (run : History) (number n : ℕ) (lines : List GlobalEntry) (state : WholeState) (entered : List ℕ) (f : Found) → Among f (found_in_globals number n run state entered lines) → IsOfLine f
lines_told run number n [] state entered f a = absurd a
lines_told run number n (line ∷ lines) state entered f a =
    elim (Among-append f (found_by_line (InGlobals number n) state entered line.answer line.line)
    (found_in_globals number (n + 1) run (after_global run state line) (entered_after line.answer entered line.line) lines) a) [
      | inl now ↦ line_told number n state entered line f now
      | inr then ↦ lines_told run number (n + 1) lines (after_global run state line) (entered_after line.answer entered line.line) f then
    ]

none_kept : (c : ℕ) (fs : List Found) → ((f : Found) → Among f fs → in_logs c f ≡ false) → filter (in_logs c) fs ≡ []
none_kept c [] h = refl
none_kept c (f ∷ fs) h = ap (λ (b : Bool). cond b (f ∷ filter (in_logs c) fs) (filter (in_logs c) fs)) (h f (inl refl)) ∙ none_kept c fs (λ g a. h g (inr a))

-- ---- rounds

rounds_tell : (run : History) (c : ℕ) (rounds : List RoundLog) (number : ℕ) (state : WholeState) (entered : List ℕ) (column late : ColumnState) → HasColumn state c column →
    HasColumn (state_through run state rounds) c late →
    map with_way late.learned ≡ map with_way column.learned ++ map without_place (filter (in_logs c) (found_from number run state entered rounds))
rounds_tell run c [] number state entered column late has ends =
    ap (λ (x : ColumnState). map with_way x.learned) (same_Some late column (sym ends ∙ has)) ∙ sym (append-nil (map with_way column.learned))
rounds_tell run c (round ∷ rounds) number state entered column late has ends =
    let setting = setting_of run state in
    let next = after_a_round run round state c column in
    let logs = found_in_logs number setting round 0 state.columns in
    let lines = found_in_globals number 1 run (after_logs run round state) entered round.globals in
    let rest = found_from (number + 1) run (after_round run round state) (entered_through entered round.globals) rounds in
    let own = found_in_log number c 1 setting column (log_of round c) in
    let no_lines = none_kept c lines (λ f a. (lines_told run number 1 round.globals (after_logs run round state) entered f a).0 c) in
    let one = logs_kept c number setting round state.columns 0 c column (omega arith) has in
    let here : filter (in_logs c) (logs ++ lines) ≡ own = filter-append (in_logs c) logs lines ∙ (λ i. one i ++ no_lines i) ∙ append-nil own in
    let all : filter (in_logs c) ((logs ++ lines) ++ rest) ≡ own ++ filter (in_logs c) rest =
    filter-append (in_logs c) (logs ++ lines) rest ∙ ap (λ (fs : List Found). fs ++ filter (in_logs c) rest) here in
    let old = map with_way column.learned in
    let told = map without_place own in
    let later = map without_place (filter (in_logs c) rest) in
    let listed : map with_way next.learned ≡ old ++ told = ap (map with_way) (round_lists run round state c column) ∙ log_tells number c setting (log_of round c) 1 column in
    rounds_tell run c rounds (number + 1) (after_round run round state) (entered_through entered round.globals) next late (column_after_round run round state c column has) ends
    ∙ ap (λ (xs : List Content). xs ++ later) listed
    ∙ append_assoc old told later
    ∙ ap (λ (xs : List Content). old ++ xs) (sym (ap (map without_place) all ∙ map-append without_place own (filter (in_logs c) rest)))

pub columns_list_in_order : ColumnsListInOrder
columns_list_in_order run c lt =
    let state = last_state run in
    let late = reading_ended (replicas_reset (emptied_before [] run.rounds) (moment_of run c run.rounds).column) in
    let has : HasColumn state c late = begun_after run c lt run.rounds in
    let lists = ap (λ (y : ColumnState). y.learned) (sym (has_column state c late has)) ∙ (ends_join run c lt run.rounds).learned in
    sym (rounds_tell run c run.rounds 1 (first_state run) [] _ late (column_first run c lt) has) ∙ ap (map with_way) lists

-- ---- the first of an attempt

-- it is of a line, or of a column's logs
abbrev pub IsSorted : ℕ → Found → Type 0
IsSorted columns f = IsOfLine f ⊎ ((c : ℕ) × ((c < columns) × (is_in_column c f.place ≡ true)))

log_sorted : (number d : ℕ) (setting : Setting) (steps : List Step) (entry : ℕ) (column : ColumnState) (f : Found) → Among f (found_in_log number d entry setting column steps) → is_in_column d f.place ≡ true
log_sorted number d setting [] entry column f a = absurd a
log_sorted number d setting (step ∷ steps) entry column f a =
    elim (Among-append f (map (found (InLog number d entry)) (learned_in_step setting column step)) (found_in_log number d (entry + 1) setting (column_after setting column step) steps) a) [
      | inl now ↦ (
          let g = Among-from_map (found (InLog number d entry)) f (learned_in_step setting column step) now in
          ap (λ (x : Found). is_in_column d x.place) (sym g.2) ∙ eq-eqb d d refl
          )
      | inr then ↦ log_sorted number d setting steps (entry + 1) (column_after setting column step) f then
    ]

logs_sorted : (number : ℕ) (setting : Setting) (round : RoundLog) (columns : List ColumnState) (n limit : ℕ) → n + length columns ≤ limit → (f : Found) →
    Among f (found_in_logs number setting round n columns) → (c : ℕ) × ((c < limit) × (is_in_column c f.place ≡ true))
logs_sorted number setting round [] n limit le f a = absurd a
logs_sorted number setting round (column ∷ columns) n limit le f a =
    elim (Among-append f (found_in_log number n 1 setting column (log_of round n)) (found_in_logs number setting round (n + 1) columns) a) [
      | inl here ↦ (n, (omega (arith, le), log_sorted number n setting (log_of round n) 1 column f here))
      | inr later ↦ logs_sorted number setting round columns (n + 1) limit (omega (arith, le)) f later
    ]

all_sorted : (run : History) (columns : ℕ) (rounds : List RoundLog) (number : ℕ) (state : WholeState) (entered : List ℕ) → length state.columns ≡ columns → (f : Found) →
    Among f (found_from number run state entered rounds) → IsSorted columns f
all_sorted run columns [] number state entered long f a = absurd a
all_sorted run columns (round ∷ rounds) number state entered long f a =
    let logs = found_in_logs number (setting_of run state) round 0 state.columns in
    let lines = found_in_globals number 1 run (after_logs run round state) entered round.globals in
    let rest = found_from (number + 1) run (after_round run round state) (entered_through entered round.globals) rounds in
    elim (Among-append f (logs ++ lines) rest a) [
      | inr later ↦ all_sorted run columns rounds (number + 1) (after_round run round state) (entered_through entered round.globals) (rounds_length run (round ∷ []) state ∙ long) f later
      | inl here ↦ elim (Among-append f logs lines here) [
        | inl log ↦ inr (logs_sorted number (setting_of run state) round state.columns 0 columns (omega (arith, long)) f log)
        | inr line ↦ inl (lines_told run number 1 round.globals (after_logs run round state) entered f line)
      ]
    ]

pub first_has_source : FirstHasSource
first_has_source run id f e =
    let all = all_found run in
    let among = (find_tells (λ (x : Found). same_id x.id id) all f e).0 in
    elim (all_sorted run run.columns run.rounds 1 (first_state run) [] (first_length run) f among) [
      | inl line ↦ inl line.1
      | inr log ↦ let k = listed log.0 log.1.0 log.1.1 in inr (log.0, log.1.0, k.0, k.1, k.2)
    ]
  where
    listed : (c : ℕ) → c < run.columns → is_in_column c f.place ≡ true →
        (k : Learning) × (find (λ k. same_id k.id id) (last_moment run c).column.learned ≡ Some k) × (without_place f ≡ with_way k)
    listed c lt is =
        let of_id : Content → Bool = λ x. same_id x.0 id in
        let kept = filter (in_logs c) (all_found run) in
        let list = (last_moment run c).column.learned in
        let first = find-filter (λ (x : Found). same_id x.id id) (in_logs c) f (all_found run) e is in
        let told = find-map of_id without_place kept ∙ ap (option_map without_place) first in
        let same = sym (find-map of_id with_way list) ∙ ap (find of_id) (sym (columns_list_in_order run c lt)) ∙ told in
        let k = Some-from_map with_way (find (λ (x : Learning). same_id x.id id) list) (without_place f) same in
        (k.0, k.1, sym k.2)
