-- The columns of the whole after some rounds are those of the moments, and the run's attempts those of the columns.
use Rattle.std.proofs.Common.{◌≡◌, ◌⊎◌, ◌<◌, ℕ, zero, suc, ◌+◌, Bool, true, false, refl, arith, inl, inr, sym, ap, ◌∙◌, List, [], ◌∷◌, Option, Some, None, subst, cond, map, length}
use Rattle.std.specs.Prelude.{option_map, find}
use Rattle.std.specs.Option.{option_or}
use Rattle.std.proofs.lemmas.List.{length-map, append-nil}
use Rattle.std.proofs.lemmas.Option.{same_Some, slice_get_within}
use Rattle.mk_lists.specs.Among.{Among}
use Rattle.mk_lists.proofs.Members.{Among-slice_get, slice_get-from_Among}
use Rattle.mk_txn.specs.declared.TxnId.{TxnId}
use Rattle.mk_words.specs.declared.GlobalEntry.{GlobalEntry}
use Rattle.mk_words.specs.declared.GlobalLine.{GlobalLine}
use Rattle.mk_words.specs.declared.GlobalLine.TheVariants.{Wipe, Ask, Promise, Merge, Adopt, Enter}
use Rattle.mk_model.specs.ColumnState.{ColumnState, AttemptState, Setting, attempt_of, is_attempt, numbers_from, new_column}
use Rattle.mk_model.specs.Logs.{not_reading, reading_ended, replica_reset}
use Rattle.mk_model.specs.GlobalAnswers.{is_accepted}
use Rattle.mk_column_laws.proofs.Rounds.{find-map}
use Rattle.mk_column_laws.specs.Moments.{Moment, moment_through, replicas_reset}
use Rattle.mk_column_laws.specs.Moments.Event.{Doing}
use Rattle.mk_history.specs.declared.RoundLog.{RoundLog}
use Rattle.mk_history.specs.Histories.{History, clients_of, log_of}
use Rattle.mk_history.specs.Wholes.{WholeState, first_state, last_state, column_of, setting_of, columns_after_logs, after_logs, after_line, after_global, globals_through, after_round, state_through}
use Rattle.mk_run_laws.specs.RunEvents.{emptied_in, events_from, start_of, moment_of}
use Rattle.mk_run_laws.specs.Ends.{last_moment, attempt_among, stamped_epoch}
use Rattle.mk_run_laws.specs.Lifts.{IdsAreOfColumns}
use Rattle.mk_run_laws.specs.Joins.{EndsJoin, HasColumns, ColumnsAreNumbered, AttemptsJoin, EpochsJoin, RunAttemptsAreThere}
use Rattle.mk_run_laws.proofs.Joined.{HasSetting, Begun, HasColumn, has_column, column_first, setting_first, keeps_setting, next_begun, works, begins, moment_through-append}
use Rattle.mk_run_laws.proofs.Emptied.{emptied_before}
use Rattle.mk_run_laws.proofs.Voted.{is_moment}

-- ---- one column

begun_through : (run : History) (c : ℕ) (rounds : List RoundLog) (state : WholeState) (emptied : List ℕ) (m : Moment) → HasSetting run m → Begun state c emptied m →
    Begun (state_through run state rounds) c (emptied_before emptied rounds) (moment_through m (events_from c run state emptied rounds))
begun_through run c [] state emptied m h b = b
begun_through run c (round ∷ rounds) state emptied m h b =
    let next = works c state emptied round m in
    let following = events_from c run (after_round run round state) (emptied_in round.globals) rounds in
    subst (Begun (state_through run (after_round run round state) rounds) c (emptied_before (emptied_in round.globals) rounds))
    (sym (moment_through-append (begins state emptied m) (map Doing (log_of round c)) following))
    (begun_through run c rounds (after_round run round state) (emptied_in round.globals) next (keeps_setting run c state emptied round m h) (next_begun run c state emptied round m h b))

pub begun_after : (run : History) (c : ℕ) → c < run.columns → (done : List RoundLog) → Begun (state_through run (first_state run) done) c (emptied_before [] done) (moment_of run c done)
begun_after run c lt done = begun_through run c done (first_state run) [] (start_of run c) (setting_first run c) (column_first run c lt)

-- what a reset leaves
pub record Leaves (a b : ColumnState) : Type 0 where
  pub clients : b.clients ≡ a.clients
  pub attempts : b.attempts ≡ a.attempts
  pub takeovers : b.takeovers ≡ a.takeovers
  pub link : b.link ≡ a.link
  pub learned : b.learned ≡ a.learned

pub resets_leave : (rs : List ℕ) (column : ColumnState) → Leaves column (replicas_reset rs column)
resets_leave [] column = record { clients = refl; attempts = refl; takeovers = refl; link = refl; learned = refl }
resets_leave (r ∷ rs) column =
    let k = resets_leave rs (replica_reset r column) in
    record { clients = k.clients; attempts = k.attempts; takeovers = k.takeovers; link = k.link; learned = k.learned }

pub ends_join : EndsJoin
ends_join run c lt done =
    let state = state_through run (first_state run) done in
    let m = moment_of run c done in
    let reset = replicas_reset (emptied_before [] done) m.column in
    let same = has_column state c (reading_ended reset) (begun_after run c lt done) in
    let k = resets_leave (emptied_before [] done) m.column in
    record {
      clients = ap (λ (x : ColumnState). x.clients) same ∙ k.clients;
      attempts = ap (λ (x : ColumnState). x.attempts) same ∙ ap (map not_reading) k.attempts;
      takeovers = ap (λ (x : ColumnState). x.takeovers) same ∙ k.takeovers;
      link = ap (λ (x : ColumnState). x.link) same ∙ k.link;
      learned = ap (λ (x : ColumnState). x.learned) same ∙ k.learned;
    }

-- ---- all columns

logs_length : (setting : Setting) (round : RoundLog) (n : ℕ) (columns : List ColumnState) → length (columns_after_logs setting round n columns) ≡ length columns
logs_length setting round n [] = refl
logs_length setting round n (column ∷ columns) = let k = logs_length setting round (n + 1) columns in omega (arith, k)

line_length : (run : History) (line : GlobalLine) (state : WholeState) → length (after_line run line state).columns ≡ length state.columns
line_length run (Wipe r) state = length-map state.columns (replica_reset r)
line_length run (Adopt epoch r) state = length-map state.columns (replica_reset r)
line_length run (Ask epoch) state = refl
line_length run (Promise epoch r) state = refl
line_length run (Merge epoch) state = refl
line_length run (Enter epoch) state = refl

global_length : (run : History) (entry : GlobalEntry) (state : WholeState) → length (after_global run state entry).columns ≡ length state.columns
global_length run entry state = by (is_accepted entry.answer)
  where
    by : (b : Bool) → length (cond b (after_line run entry.line state) state).columns ≡ length state.columns
    by true = line_length run entry.line state
    by false = refl

pub globals_length : (run : History) (entries : List GlobalEntry) (state : WholeState) → length (globals_through run state entries).columns ≡ length state.columns
globals_length run [] state = refl
globals_length run (entry ∷ entries) state = globals_length run entries (after_global run state entry) ∙ global_length run entry state

pub after_logs_length : (run : History) (round : RoundLog) (state : WholeState) → length (after_logs run round state).columns ≡ length state.columns
after_logs_length run round state = logs_length (setting_of run state) round 0 state.columns

pub rounds_length : (run : History) (rounds : List RoundLog) (state : WholeState) → length (state_through run state rounds).columns ≡ length state.columns
rounds_length run [] state = refl
rounds_length run (round ∷ rounds) state =
    rounds_length run rounds (after_round run round state)
    ∙ length-map (globals_through run (after_logs run round state) round.globals).columns reading_ended
    ∙ globals_length run round.globals (after_logs run round state)
    ∙ after_logs_length run round state

numbers_length : (k n : ℕ) → length (numbers_from k n) ≡ n
numbers_length k zero = refl
numbers_length k (suc n) = let h = numbers_length (k + 1) n in omega (arith, h)

pub first_length : (run : History) → length (first_state run).columns ≡ run.columns
first_length run = length-map (numbers_from 0 run.columns) (λ (c : ℕ). new_column run.faults (clients_of c 1 run.client_columns)) ∙ numbers_length 0 run.columns

-- where each number has a column, and there are no more
pub numbered : (run : History) (state : WholeState) → length state.columns ≡ run.columns → ((c : ℕ) → c < run.columns → (column : ColumnState) × HasColumn state c column) → HasColumns run state
numbered run state long has =
    record {
      there = λ c lt.
          let h = has c lt in
          subst (λ (x : ColumnState). Among x state.columns) (sym (has_column state c h.0 h.1)) (Among-slice_get state.columns c h.0 h.1);
      only = λ column a.
          let at = slice_get-from_Among column state.columns a in
          let low = slice_get_within state.columns at.0 column at.1 in
          (at.0, (omega (arith, low, long)), has_column state at.0 column at.1);
    }

pub columns_are_numbered : ColumnsAreNumbered
columns_are_numbered run done =
    let state = state_through run (first_state run) done in
    numbered run state (rounds_length run done (first_state run) ∙ first_length run)
    (λ c lt. (reading_ended (replicas_reset (emptied_before [] done) (moment_of run c done).column), begun_after run c lt done))

-- ---- attempts

-- an attempt at the end, as it was at the last moment
pub attempt_at_end : (run : History) (c : ℕ) → c < run.columns → (done : List RoundLog) (id : TxnId) →
    attempt_of (column_of (state_through run (first_state run) done) c) id ≡ option_map not_reading (attempt_of (moment_of run c done).column id)
attempt_at_end run c lt done id =
    let m = moment_of run c done in
    ap (find (is_attempt id)) (ends_join run c lt done).attempts ∙ find-map not_reading id (λ _. refl) m.column.attempts

-- where columns have no other attempt of a number, the one of a member is found
among_all : (id : TxnId) (b : AttemptState) (columns : List ColumnState) →
    ((column : ColumnState) → Among column columns → (attempt_of column id ≡ None) ⊎ (attempt_of column id ≡ Some b)) →
    (column : ColumnState) → Among column columns → attempt_of column id ≡ Some b → attempt_among id columns ≡ Some b
among_all id b [] all column a there = absurd a
among_all id b (x ∷ columns) all column a there =
    let again : Among column columns → attempt_among id columns ≡ Some b = λ m. among_all id b columns (λ y n. all y (inr n)) column m there in
    elim (all x (inl refl)) [
      | inr found ↦ ap (λ (o : Option AttemptState). option_or o (attempt_among id columns)) found
      | inl none ↦ ap (λ (o : Option AttemptState). option_or o (attempt_among id columns)) none ∙ later again a none
    ]
  where
    later : (Among column columns → attempt_among id columns ≡ Some b) → Among column (x ∷ columns) → attempt_of x id ≡ None → attempt_among id columns ≡ Some b
    later again (inl same) none = absurd (cc (sym none ∙ ap (λ (y : ColumnState). attempt_of y id) same ∙ there))
    later again (inr m) none = again m

pub attempts_join : IdsAreOfColumns → AttemptsJoin
attempts_join ids run legal c lt id a there =
    let state = last_state run in
    let whole = columns_are_numbered run run.rounds in
    among_all id (not_reading a) state.columns (λ column m. others column (whole.only column m)) (column_of state c) (whole.there c lt)
    (attempt_at_end run c lt run.rounds id ∙ ap (option_map not_reading) there)
  where
    others : (column : ColumnState) → (d : ℕ) × (d < run.columns) × (column_of (last_state run) d ≡ column) → (attempt_of column id ≡ None) ⊎ (attempt_of column id ≡ Some (not_reading a))
    others column (d, dlt, is) = by (attempt_of (last_moment run d).column id) refl
      where
        ends : (o : Option AttemptState) → attempt_of (last_moment run d).column id ≡ o → attempt_of column id ≡ option_map not_reading o
        ends o k = ap (λ (y : ColumnState). attempt_of y id) (sym is) ∙ attempt_at_end run d dlt run.rounds id ∙ ap (option_map not_reading) k

        by : (o : Option AttemptState) → attempt_of (last_moment run d).column id ≡ o → (attempt_of column id ≡ None) ⊎ (attempt_of column id ≡ Some (not_reading a))
        by None k = inl (ends None k)
        by (Some b) k =
            let here = ids run legal c lt (last_moment run c) (is_moment run run.rounds [] (sym (append-nil run.rounds)) c) id a there in
            let other = ids run legal d dlt (last_moment run d) (is_moment run run.rounds [] (sym (append-nil run.rounds)) d) id b k in
            let same = same_Some b a (sym k ∙ ap (λ (n : ℕ). attempt_of (last_moment run n).column id) (sym other ∙ here) ∙ there) in
            inr (ends (Some b) k ∙ ap (λ (x : AttemptState). Some (not_reading x)) same)

pub epochs_join : IdsAreOfColumns → EpochsJoin
epochs_join ids run legal c lt id a there stamped =
    ap stamped_epoch (attempts_join ids run legal c lt id a there) ∙ ap (λ (b : Bool). cond b a.epoch 0) stamped

among_one : (id : TxnId) (b : AttemptState) (columns : List ColumnState) → attempt_among id columns ≡ Some b → (column : ColumnState) × Among column columns × (attempt_of column id ≡ Some b)
among_one id b [] e = absurd (cc e)
among_one id b (x ∷ columns) e = by (among_one id b columns) (attempt_of x id) refl e
  where
    by : (attempt_among id columns ≡ Some b → (column : ColumnState) × Among column columns × (attempt_of column id ≡ Some b)) →
        (o : Option AttemptState) → attempt_of x id ≡ o → option_or o (attempt_among id columns) ≡ Some b →
        (column : ColumnState) × Among column (x ∷ columns) × (attempt_of column id ≡ Some b)
    by again (Some y) k e = (x, inl refl, k ∙ e)
    by again None k e = let f = again e in (f.0, inr f.1, f.2)

mapped_some : (o : Option AttemptState) (b : AttemptState) → option_map not_reading o ≡ Some b → (a : AttemptState) × (o ≡ Some a) × (b ≡ not_reading a)
mapped_some None b e = absurd (cc e)
mapped_some (Some a) b e = (a, refl, sym (same_Some (not_reading a) b e))

pub run_attempts_are_there : RunAttemptsAreThere
run_attempts_are_there run id b e =
    let f = among_one id b (last_state run).columns e in
    let o = (columns_are_numbered run run.rounds).only f.0 f.1 in
    let at = sym (attempt_at_end run o.0 o.1 run.rounds id) ∙ ap (λ (y : ColumnState). attempt_of y id) o.2 ∙ f.2 in
    let k = mapped_some (attempt_of (last_moment run o.0).column id) b at in
    (o.0, o.1, k.0, k.1, k.2)
