-- The events of a column lead to the column that the whole has.
use Rattle.std.proofs.Common.{◌≡◌, ◌<◌, ℕ, zero, suc, ◌+◌, refl, arith, sym, ap, ◌∙◌, List, [], ◌∷◌, ◌++◌, Some, cond, Bool, true, false, map, length}
use Rattle.std.specs.Prelude.{slice_get, option_map}
use Rattle.std.proofs.lemmas.Option.{slice_get-map, get_or_from_slice_get}
use Rattle.mk_words.specs.declared.Step.{Step}
use Rattle.mk_model.specs.ColumnState.{ColumnState, Setting, new_column, numbers_from}
use Rattle.mk_model.specs.Logs.{column_through, reading_ended, replica_reset}
use Rattle.mk_words.specs.declared.GlobalEntry.{GlobalEntry}
use Rattle.mk_words.specs.declared.GlobalLine.{GlobalLine}
use Rattle.mk_words.specs.declared.GlobalLine.TheVariants.{Wipe, Ask, Promise, Merge, Adopt, Enter}
use Rattle.mk_model.specs.EpochState.{views_of}
use Rattle.mk_model.specs.GlobalAnswers.{is_accepted}
use Rattle.mk_column_laws.specs.Moments.{Moment, Event, moment_through, after_event, step_done, replicas_reset}
use Rattle.mk_column_laws.specs.Moments.Event.{NewRound, Doing}
use Rattle.mk_history.specs.declared.RoundLog.{RoundLog}
use Rattle.mk_history.specs.Histories.{History, clients_of, log_of}
use Rattle.mk_history.specs.Wholes.{WholeState, first_state, setting_of, column_of, columns_after_logs, after_logs, after_line, after_global, globals_through, after_round, state_through}
use Rattle.mk_run_laws.specs.RunEvents.{emptied_by, emptied_in, events_from, start_of, moment_of}
use Rattle.mk_run_laws.specs.RunLaws.{RoundsJoin, LinesReset}

-- ---- lists

pub moment_through-append : (m : Moment) (one other : List Event) → moment_through m (one ++ other) ≡ moment_through (moment_through m one) other
moment_through-append m [] other = refl
moment_through-append m (event ∷ one) other = moment_through-append (after_event event m) one other

pub replicas_reset-append : (one other : List ℕ) (column : ColumnState) → replicas_reset (one ++ other) column ≡ replicas_reset other (replicas_reset one column)
replicas_reset-append [] other column = refl
replicas_reset-append (r ∷ one) other column = replicas_reset-append one other (replica_reset r column)

pub slice_get-numbers : (n k c : ℕ) → c < n → slice_get (numbers_from k n) c ≡ Some (k + c)
slice_get-numbers zero k c lt = absurd (omega (arith, lt))
slice_get-numbers (suc n) k zero lt = ap Some (omega arith)
slice_get-numbers (suc n) k (suc c) lt = slice_get-numbers n (k + 1) c (omega (arith, lt)) ∙ ap Some (omega arith)

columns_after_logs-get : (setting : Setting) (round : RoundLog) (n : ℕ) (columns : List ColumnState) (c : ℕ) (column : ColumnState) → slice_get columns c ≡ Some column →
    slice_get (columns_after_logs setting round n columns) c ≡ Some (column_through setting column (log_of round (n + c)))
columns_after_logs-get setting round n [] c column e = absurd (cc e)
columns_after_logs-get setting round n (x ∷ columns) zero column e =
    let same : x ≡ column = cc e in
    let place : n ≡ n + 0 = omega arith in
    ap (λ (y : ColumnState). Some (column_through setting y (log_of round n))) same ∙ ap (λ (k : ℕ). Some (column_through setting column (log_of round k))) place
columns_after_logs-get setting round n (x ∷ columns) (suc c) column e =
    let place : n + 1 + c ≡ n + suc c = omega arith in
    columns_after_logs-get setting round (n + 1) columns c column e ∙ ap (λ (k : ℕ). Some (column_through setting column (log_of round k))) place

-- ---- a column of the whole

-- the whole has this column there
abbrev pub HasColumn : WholeState → ℕ → ColumnState → Type 0
HasColumn state c column = slice_get state.columns c ≡ Some column

pub has_column : (state : WholeState) (c : ℕ) (column : ColumnState) → HasColumn state c column → column_of state c ≡ column
has_column state c column e = get_or_from_slice_get state.columns c column (new_column 0 []) e

pub column_first : (run : History) (c : ℕ) → c < run.columns → HasColumn (first_state run) c (new_column run.faults (clients_of c 1 run.client_columns))
column_first run c lt =
    let make : ℕ → ColumnState = λ k. new_column run.faults (clients_of k 1 run.client_columns) in
    slice_get-map make (numbers_from 0 run.columns) c ∙ ap (option_map make) (slice_get-numbers run.columns 0 c lt) ∙ ap (λ (k : ℕ). Some (make k)) (omega arith)

pub column_after_logs : (run : History) (round : RoundLog) (state : WholeState) (c : ℕ) (column : ColumnState) → HasColumn state c column →
    HasColumn (after_logs run round state) c (column_through (setting_of run state) column (log_of round c))
column_after_logs run round state c column e =
    columns_after_logs-get (setting_of run state) round 0 state.columns c column e
    ∙ ap (λ (k : ℕ). Some (column_through (setting_of run state) column (log_of round k))) (omega arith)

column_mapped : (f : ColumnState → ColumnState) (columns : List ColumnState) (c : ℕ) (column : ColumnState) → slice_get columns c ≡ Some column → slice_get (map f columns) c ≡ Some (f column)
column_mapped f columns c column e = slice_get-map f columns c ∙ ap (option_map f) e

column_after_line : (run : History) (line : GlobalLine) (state : WholeState) (c : ℕ) (column : ColumnState) → HasColumn state c column →
    HasColumn (after_line run line state) c (replicas_reset (emptied_by line) column)
column_after_line run (Wipe r) state c column e = column_mapped (replica_reset r) state.columns c column e
column_after_line run (Adopt epoch r) state c column e = column_mapped (replica_reset r) state.columns c column e
column_after_line run (Ask epoch) state c column e = e
column_after_line run (Promise epoch r) state c column e = e
column_after_line run (Merge epoch) state c column e = e
column_after_line run (Enter epoch) state c column e = e

column_after_global : (run : History) (entry : GlobalEntry) (state : WholeState) (c : ℕ) (column : ColumnState) → HasColumn state c column →
    HasColumn (after_global run state entry) c (replicas_reset (cond (is_accepted entry.answer) (emptied_by entry.line) []) column)
column_after_global run entry state c column e = by (is_accepted entry.answer)
  where
    by : (b : Bool) → HasColumn (cond b (after_line run entry.line state) state) c (replicas_reset (cond b (emptied_by entry.line) []) column)
    by true = column_after_line run entry.line state c column e
    by false = e

pub column_through_globals : (run : History) (entries : List GlobalEntry) (state : WholeState) (c : ℕ) (column : ColumnState) → HasColumn state c column →
    HasColumn (globals_through run state entries) c (replicas_reset (emptied_in entries) column)
column_through_globals run [] state c column e = e
column_through_globals run (entry ∷ entries) state c column e =
    let emptied = cond (is_accepted entry.answer) (emptied_by entry.line) [] in
    column_through_globals run entries (after_global run state entry) c (replicas_reset emptied column) (column_after_global run entry state c column e)
    ∙ ap Some (sym (replicas_reset-append emptied (emptied_in entries) column))

pub column_after_round : (run : History) (round : RoundLog) (state : WholeState) (c : ℕ) (column : ColumnState) → HasColumn state c column →
    HasColumn (after_round run round state) c (reading_ended (replicas_reset (emptied_in round.globals) (column_through (setting_of run state) column (log_of round c))))
column_after_round run round state c column e =
    let ended = globals_through run (after_logs run round state) round.globals in
    column_mapped reading_ended ended.columns c (replicas_reset (emptied_in round.globals) (column_through (setting_of run state) column (log_of round c)))
    (column_through_globals run round.globals (after_logs run round state) c (column_through (setting_of run state) column (log_of round c)) (column_after_logs run round state c column e))

-- ---- the steps of a log

pub column_done : (m : Moment) (log : List Step) → (moment_through m (map Doing log)).column ≡ column_through m.round m.column log
column_done m [] = refl
column_done m (step ∷ log) = column_done (step_done step m) log

pub setting_done : (m : Moment) (log : List Step) → (moment_through m (map Doing log)).round ≡ m.round
setting_done m [] = refl
setting_done m (step ∷ log) = setting_done (step_done step m) log

pub now_done : (m : Moment) (log : List Step) → (moment_through m (map Doing log)).past.now ≡ m.past.now
now_done m [] = refl
now_done m (step ∷ log) = now_done (step_done step m) log

pub left_done : (m : Moment) (log : List Step) → (moment_through m (map Doing log)).past.has_left ≡ m.past.has_left
left_done m [] = refl
left_done m (step ∷ log) = left_done (step_done step m) log

pub served_done : (m : Moment) (log : List Step) → (moment_through m (map Doing log)).past.ever_served ≡ m.past.ever_served
served_done m [] = refl
served_done m (step ∷ log) = served_done (step_done step m) log

-- ---- rounds

-- the moment has the run's setting but for the views
pub record HasSetting (run : History) (m : Moment) : Type 0 where
  pub version : m.round.version ≡ run.version
  pub faults : m.round.faults ≡ run.faults
  pub keys : m.round.keys ≡ length run.key_names

-- the moment in which a round begins
abbrev pub begins : WholeState → List ℕ → Moment → Moment
begins state emptied m = after_event (NewRound (views_of state.epochs) emptied) m

-- the moment after the round's log
abbrev pub works : ℕ → WholeState → List ℕ → RoundLog → Moment → Moment
works c state emptied round m = moment_through (begins state emptied m) (map Doing (log_of round c))

pub setting_begun : (run : History) (state : WholeState) (emptied : List ℕ) (m : Moment) → HasSetting run m → (begins state emptied m).round ≡ setting_of run state
setting_begun run state emptied m h =
    let version = h.version in
    let faults = h.faults in
    let keys = h.keys in
    λ i. record { version = version i; faults = faults i; keys = keys i; views = views_of state.epochs }

pub setting_works : (run : History) (c : ℕ) (state : WholeState) (emptied : List ℕ) (round : RoundLog) (m : Moment) → HasSetting run m →
    (works c state emptied round m).round ≡ setting_of run state
setting_works run c state emptied round m h = setting_done (begins state emptied m) (log_of round c) ∙ setting_begun run state emptied m h

pub keeps_setting : (run : History) (c : ℕ) (state : WholeState) (emptied : List ℕ) (round : RoundLog) (m : Moment) → HasSetting run m → HasSetting run (works c state emptied round m)
keeps_setting run c state emptied round m h =
    let same = setting_works run c state emptied round m h in
    record { version = ap (λ (s : Setting). s.version) same; faults = ap (λ (s : Setting). s.faults) same; keys = ap (λ (s : Setting). s.keys) same }

-- the column where a round begins
abbrev pub Begun : WholeState → ℕ → List ℕ → Moment → Type 0
Begun state c emptied m = HasColumn state c (reading_ended (replicas_reset emptied m.column))

pub column_works : (run : History) (c : ℕ) (state : WholeState) (emptied : List ℕ) (round : RoundLog) (m : Moment) → HasSetting run m →
    (works c state emptied round m).column ≡ column_through (setting_of run state) (reading_ended (replicas_reset emptied m.column)) (log_of round c)
column_works run c state emptied round m h =
    column_done (begins state emptied m) (log_of round c)
    ∙ ap (λ (s : Setting). column_through s (reading_ended (replicas_reset emptied m.column)) (log_of round c)) (setting_begun run state emptied m h)

pub next_begun : (run : History) (c : ℕ) (state : WholeState) (emptied : List ℕ) (round : RoundLog) (m : Moment) → HasSetting run m → Begun state c emptied m →
    Begun (after_round run round state) c (emptied_in round.globals) (works c state emptied round m)
next_begun run c state emptied round m h e =
    column_after_round run round state c (reading_ended (replicas_reset emptied m.column)) e
    ∙ ap (λ (col : ColumnState). Some (reading_ended (replicas_reset (emptied_in round.globals) col))) (sym (column_works run c state emptied round m h))

pub now_works : (c : ℕ) (state : WholeState) (emptied : List ℕ) (round : RoundLog) (m : Moment) → (works c state emptied round m).past.now ≡ m.past.now + 1
now_works c state emptied round m = now_done (begins state emptied m) (log_of round c)

module _ (run : History) (c : ℕ) where
  join_from : (done : List RoundLog) (round : RoundLog) (state : WholeState) (emptied : List ℕ) (m : Moment) → HasSetting run m → Begun state c emptied m →
      (let late = state_through run state done in
      let n = moment_through m (events_from c run state emptied (done ++ round ∷ [])) in
      HasColumn (after_logs run round late) c n.column × (n.round ≡ setting_of run late) × (n.past.now ≡ m.past.now + length done + 1))
  join_from [] round state emptied m h e =
      let log = log_of round c in
      let column = reading_ended (replicas_reset emptied m.column) in
      let same = moment_through-append (begins state emptied m) (map Doing log) [] in
      let has = column_after_logs run round state c column e in
      let now = now_works c state emptied round m in (
        has ∙ ap (λ (col : ColumnState). Some col) (sym (ap (λ (n : Moment). n.column) same ∙ column_works run c state emptied round m h)),
        ap (λ (n : Moment). n.round) same ∙ setting_works run c state emptied round m h,
        ap (λ (n : Moment). n.past.now) same ∙ now ∙ omega arith,
      )
  join_from (first ∷ done) round state emptied m h e =
      let next = works c state emptied first m in
      let later = events_from c run (after_round run first state) (emptied_in first.globals) (done ++ round ∷ []) in
      let same = moment_through-append (begins state emptied m) (map Doing (log_of first c)) later in
      let k = join_from done round (after_round run first state) (emptied_in first.globals) next (keeps_setting run c state emptied first m h) (next_begun run c state emptied first m h e) in
      let now = now_works c state emptied first m in
      let count = k.2 in (
        k.0 ∙ ap (λ (n : Moment). Some n.column) (sym same),
        ap (λ (n : Moment). n.round) same ∙ k.1,
        ap (λ (n : Moment). n.past.now) same ∙ count ∙ (omega (arith, now)),
      )

pub setting_first : (run : History) (c : ℕ) → HasSetting run (start_of run c)
setting_first run c = record { version = refl; faults = refl; keys = refl }

pub rounds_join : RoundsJoin
rounds_join run c lt done round =
    let k = join_from run c done round (first_state run) [] (start_of run c) (setting_first run c) (column_first run c lt) in
    let late = state_through run (first_state run) done in
    (sym (has_column (after_logs run round late) c (moment_of run c (done ++ round ∷ [])).column k.0), k.1, k.2 ∙ omega arith)

pub lines_reset : LinesReset
lines_reset run c lt done round lines =
    let k = join_from run c done round (first_state run) [] (start_of run c) (setting_first run c) (column_first run c lt) in
    let logs = after_logs run round (state_through run (first_state run) done) in
    let column = (moment_of run c (done ++ round ∷ [])).column in
    has_column (globals_through run logs lines) c (replicas_reset (emptied_in lines) column) (column_through_globals run lines logs c column k.0)
