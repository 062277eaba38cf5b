-- A run goes into its states by its tables alone, so a cut of its rounds has the same.
use Rattle.std.proofs.Common.{◌≡◌, ◌≤◌, ℕ, ◌+◌, Bool, true, refl, arith, sym, ap, ◌∙◌, List, [], ◌∷◌, ◌++◌, subst, cond, map, length}
use Rattle.std.specs.Prelude.{sum, fold, ◌&&◌, ◌^◌, nat_le, nat_lt}
use Rattle.std.specs.List.{list_all}
use Rattle.mk_lists.specs.Among.{Each}
use Rattle.mk_lists.proofs.Tests.{list_all-append_left}
use Rattle.mk_txn.specs.declared.Value.{Value}
use Rattle.mk_txn.specs.declared.Value.TheVariants.{Number, Absent}
use Rattle.mk_txn.specs.declared.WriteItem.{WriteItem}
use Rattle.mk_txn.specs.MarkMaps.{MarkMap, joined_marks}
use Rattle.mk_words.specs.declared.Act.{Act}
use Rattle.mk_words.specs.declared.Act.TheVariants.{Get, CheckRead, CheckWrite, CommitRead, CommitWrite, ReleaseRead, ReleaseWrite}
use Rattle.mk_words.specs.declared.Answer.{Answer}
use Rattle.mk_words.specs.declared.Answer.TheVariants.{Version, Okay, Refused, Done}
use Rattle.mk_words.specs.declared.JournalEntry.{JournalEntry}
use Rattle.mk_words.specs.Acts.{answer_fits}
use Rattle.mk_words.specs.Cells.{CellState}
use Rattle.mk_words.specs.declared.Entry.{Entry}
use Rattle.mk_words.specs.declared.GlobalEntry.{GlobalEntry}
use Rattle.mk_words.specs.declared.GlobalLine.{GlobalLine}
use Rattle.mk_words.specs.declared.GlobalLine.TheVariants.{Wipe, Ask, Promise, Merge, Adopt, Enter}
use Rattle.mk_words.specs.declared.Step.{Step}
use Rattle.mk_words.specs.declared.Step.TheVariants.{Begin, Unread, Read, Stamp as StampStep, Validate, Take, Key, Rule, Again, Takeover, Pick, Stop}
use Rattle.mk_model.specs.ColumnState.{ColumnState, Setting, entries_at, marks_at}
use Rattle.mk_model.specs.Logs.{reading_ended}
use Rattle.mk_model.specs.EpochState.{views_of}
use Rattle.mk_model.specs.GlobalAnswers.{is_accepted}
use Rattle.mk_model.specs.GlobalSteps.{global_outcome}
use Rattle.mk_column_laws.specs.Moments.{Event, moment_through}
use Rattle.mk_column_laws.specs.Moments.Event.{NewRound, Doing}
use Rattle.mk_history.specs.declared.RoundLog.{RoundLog}
use Rattle.mk_history.specs.Histories.{History, log_of}
use Rattle.mk_history.specs.Shape.{IsRoundShape, value_fits, stamp_fits, global_fits, act_in_range, answer_in_range, turn_fits, write_fits, step_fits, entry_fits, id_fits, key_fits, replica_fits, begins_in}
use Rattle.mk_history.specs.Legality.{IsLegalRound, EachGlobalAnswered, EachRoundLegal}
use Rattle.mk_history.specs.Wholes.{WholeState, entries_of, marks_of, first_state, setting_of, handed_in, columns_after_logs, keys_after_journals, cells_after_journals, after_logs, after_line, after_global, globals_through, after_round, state_through}
use Rattle.mk_run_laws.specs.RunEvents.{emptied_in, events_from, start_of, moment_of}
use Rattle.mk_run_laws.specs.Ends.{whole_within}
use Rattle.mk_run_laws.specs.Cuts.{cut_round, RoundsAreCut, CutsAreLegal, CutsHaveMoments, CutsHaveShape}
use Rattle.mk_run_laws.proofs.Lines.{state_through-append}
use Rattle.mk_run_laws.proofs.Splitting.{globals-first}
use Rattle.mk_run_laws.proofs.Emptied.{events_from-append}

-- ---- other lines

columns_same : (setting : Setting) (round : RoundLog) (lines : List GlobalEntry) (n : ℕ) (columns : List ColumnState) →
    columns_after_logs setting (cut_round round lines) n columns ≡ columns_after_logs setting round n columns
columns_same setting round lines n [] = refl
columns_same setting round lines n (column ∷ columns) = let k = columns_same setting round lines (n + 1) columns in λ i. columns_after_logs setting round n (column ∷ []) ++ k i

keys_same : (round : RoundLog) (lines : List GlobalEntry) (r n : ℕ) (cells : List CellState) → keys_after_journals (cut_round round lines) r n cells ≡ keys_after_journals round r n cells
keys_same round lines r n [] = refl
keys_same round lines r n (cell ∷ cells) = let k = keys_same round lines r (n + 1) cells in λ i. keys_after_journals round r n (cell ∷ []) ++ k i

cells_same : (round : RoundLog) (lines : List GlobalEntry) (r : ℕ) (rows : List (List CellState)) → cells_after_journals (cut_round round lines) r rows ≡ cells_after_journals round r rows
cells_same round lines r [] = refl
cells_same round lines r (keys ∷ rows) =
    let first = keys_same round lines r 0 keys in
    let rest = cells_same round lines (r + 1) rows in
    λ i. first i ∷ rest i

pub logs_same : (run : History) (round : RoundLog) (lines : List GlobalEntry) (state : WholeState) → after_logs run (cut_round round lines) state ≡ after_logs run round state
logs_same run round lines state =
    let columns = columns_same (setting_of run state) round lines 0 state.columns in
    let cells = cells_same round lines 0 state.cells in
    λ i. record { columns = columns i; cells = cells i; epochs = state.epochs }

pub rounds_are_cut : RoundsAreCut
rounds_are_cut run round state lines more fine split =
    record {
      logs = fine.logs;
      journals = fine.journals;
      matched = fine.matched;
      globals = subst (λ (s : WholeState). EachGlobalAnswered run s lines) (sym (logs_same run round lines state))
          (globals-first run (after_logs run round state) lines more (subst (EachGlobalAnswered run (after_logs run round state)) split fine.globals));
    }

-- ---- other rounds

module _ (run : History) (rounds : List RoundLog) where
  abbrev other : History
  other = record run { rounds = rounds }

  line_same : (line : GlobalLine) (state : WholeState) → after_line other line state ≡ after_line run line state
  line_same (Wipe r) state = refl
  line_same (Ask epoch) state = refl
  line_same (Promise epoch r) state = refl
  line_same (Merge epoch) state = refl
  line_same (Adopt epoch r) state = refl
  line_same (Enter epoch) state = refl

  global_same : (entry : GlobalEntry) (state : WholeState) → after_global other state entry ≡ after_global run state entry
  global_same entry state =
      let k = line_same entry.line state in
      let epochs = global_outcome state.epochs (handed_in state entry.line) entry.line entry.answer in
      λ i. (let parts = cond (is_accepted entry.answer) (k i) state in record parts { epochs = epochs })

  pub globals_same : (entries : List GlobalEntry) (state : WholeState) → globals_through other state entries ≡ globals_through run state entries
  globals_same [] state = refl
  globals_same (entry ∷ entries) state = globals_same entries (after_global other state entry) ∙ ap (λ (s : WholeState). globals_through run s entries) (global_same entry state)

  abbrev ended : WholeState → WholeState
  ended s = record s { columns = map reading_ended s.columns }

  pub round_same : (round : RoundLog) (state : WholeState) → after_round other round state ≡ after_round run round state
  round_same round state = ap ended (globals_same round.globals (after_logs run round state))

  pub states_same : (done : List RoundLog) (state : WholeState) → state_through other state done ≡ state_through run state done
  states_same [] state = refl
  states_same (round ∷ done) state = states_same done (after_round other round state) ∙ ap (λ (s : WholeState). state_through run s done) (round_same round state)

  answered_same : (entries : List GlobalEntry) (state : WholeState) → EachGlobalAnswered run state entries → EachGlobalAnswered other state entries
  answered_same [] state h = tt
  answered_same (entry ∷ entries) state h =
      (h.0, answered_same entries (after_global other state entry) (subst (λ (s : WholeState). EachGlobalAnswered run s entries) (sym (global_same entry state)) h.1))

  legal_round_same : (round : RoundLog) (state : WholeState) → IsLegalRound run round state → IsLegalRound other round state
  legal_round_same round state h =
      record { logs = h.logs; journals = h.journals; matched = h.matched; globals = answered_same round.globals (after_logs run round state) h.globals }

  pub legal_same : (done : List RoundLog) (state : WholeState) → EachRoundLegal run state done → EachRoundLegal other state done
  legal_same [] state h = tt
  legal_same (round ∷ done) state h =
      (legal_round_same round state h.0, legal_same done (after_round other round state) (subst (λ (s : WholeState). EachRoundLegal run s done) (sym (round_same round state)) h.1))

  pub events_same : (c : ℕ) (done : List RoundLog) (state : WholeState) (emptied : List ℕ) → events_from c other state emptied done ≡ events_from c run state emptied done
  events_same c [] state emptied = refl
  events_same c (round ∷ done) state emptied =
      let rest = events_same c done (after_round other round state) (emptied_in round.globals)
      ∙ ap (λ (s : WholeState). events_from c run s (emptied_in round.globals) done) (round_same round state) in
      ap (λ (es : List Event). NewRound (views_of state.epochs) emptied ∷ (map Doing (log_of round c) ++ es)) rest

  pub moments_same : (c : ℕ) (done : List RoundLog) → moment_of other c done ≡ moment_of run c done
  moments_same c done = ap (moment_through (start_of run c)) (events_same c done (first_state run) [])

legal-join : (run : History) (one more : List RoundLog) (state : WholeState) → EachRoundLegal run state one → EachRoundLegal run (state_through run state one) more → EachRoundLegal run state (one ++ more)
legal-join run [] more state h k = k
legal-join run (round ∷ one) more state h k = (h.0, legal-join run one more (after_round run round state) h.1 k)

entries_ended : (r : ℕ) (columns : List ColumnState) → entries_of (map reading_ended columns) r ≡ entries_of columns r
entries_ended r [] = refl
entries_ended r (column ∷ columns) = ap (λ (es : List Entry). entries_at column r ++ es) (entries_ended r columns)

marks_ended : (r : ℕ) (columns : List ColumnState) (marks : MarkMap) →
    fold (λ (m : MarkMap) (column : ColumnState). joined_marks m (marks_at column r)) marks (map reading_ended columns)
    ≡ fold (λ (m : MarkMap) (column : ColumnState). joined_marks m (marks_at column r)) marks columns
marks_ended r [] marks = refl
marks_ended r (column ∷ columns) marks = marks_ended r columns (joined_marks marks (marks_at column r))

pub cuts_are_legal : CutsAreLegal
cuts_are_legal run done round lines legal fine =
    let rounds = done ++ cut_round round lines ∷ [] in
    let begin = first_state run in
    let before = state_through run begin done in
    let last = states_same run rounds rounds begin ∙ state_through-append run begin done (cut_round round lines ∷ []) in
    let logs = logs_same run round lines before in
    let within = ap (λ (s : WholeState). globals_through run s lines) logs in
    let columns = ap (λ (s : WholeState). s.columns) last ∙ ap (λ (s : WholeState). map reading_ended s.columns) within in
    let there = (whole_within run done round lines).columns in
    record {
      legal = legal_same run rounds rounds begin (legal-join run done (cut_round round lines ∷ []) begin legal (fine, tt));
      epochs = ap (λ (s : WholeState). s.epochs) last ∙ ap (λ (s : WholeState). s.epochs) within;
      cells = ap (λ (s : WholeState). s.cells) last ∙ ap (λ (s : WholeState). s.cells) within;
      columns = columns;
      entries = λ r. ap (λ (cs : List ColumnState). entries_of cs r) columns ∙ entries_ended r there;
      marks = λ r. ap (λ (cs : List ColumnState). marks_of cs r) columns ∙ marks_ended r there [];
    }

pub cuts_have_moments : CutsHaveMoments
cuts_have_moments run done round lines =
    let rounds = done ++ cut_round round lines ∷ [] in
    let begin = first_state run in
    record {
      before = λ c. moments_same run rounds c done;
      last = λ c.
          let early = events_from c run begin [] done in
          moments_same run rounds c rounds
          ∙ ap (moment_through (start_of run c)) (events_from-append c run done (cut_round round lines ∷ []) begin [] ∙ sym (events_from-append c run done (round ∷ []) begin []));
      whole = states_same run rounds done begin;
    }

-- ---- the shape

module _ (run : History) (rounds : List RoundLog) where
  abbrev same_tables : History
  same_tables = record run { rounds = rounds }

  value_same : (value : Value) → value_fits same_tables value ≡ value_fits run value
  value_same (Number n) = refl
  value_same Absent = refl

  act_same : (act : Act) → act_in_range same_tables act ≡ act_in_range run act
  act_same Get = refl
  act_same (CheckRead ts version) = refl
  act_same (CheckWrite ts) = refl
  act_same (CommitRead ts) = refl
  act_same (CommitWrite ts value) = ap (λ (b : Bool). stamp_fits ts && b) (value_same value)
  act_same (ReleaseRead ts) = refl
  act_same (ReleaseWrite ts) = refl

  answer_same : (answer : Answer) → answer_in_range same_tables answer ≡ answer_in_range run answer
  answer_same (Version version value) = ap (λ (b : Bool). stamp_fits version && b) (value_same value)
  answer_same Okay = refl
  answer_same (Refused reason stamp) = refl
  answer_same Done = refl

  turn_same : (act : Act) (answer : Answer) → turn_fits same_tables act answer ≡ turn_fits run act answer
  turn_same act answer =
      let a = act_same act in
      let b = answer_same answer in
      λ i. answer_fits act answer && a i && b i

  write_same : (item : WriteItem) → write_fits same_tables item ≡ write_fits run item
  write_same item = ap (λ (b : Bool). key_fits run item.key && b) (value_same item.value)

  step_same : (step : Step) → step_fits same_tables step ≡ step_fits run step
  step_same (Begin client replica) = refl
  step_same (Unread client) = refl
  step_same (Read id key) = refl
  step_same (StampStep id clock writes) =
      let all : list_all (write_fits same_tables) writes ≡ list_all (write_fits run) writes = λ i. list_all (λ item. write_same item i) writes in
      ap (λ (b : Bool). id_fits run id && nat_le clock (2 ^ 61) && b) all
  step_same (Validate id) = refl
  step_same (Take number) = refl
  step_same (Key call answer) = ap (λ (b : Bool). replica_fits run call.replica && key_fits run call.key && b) (turn_same call.act answer)
  step_same (Rule id) = refl
  step_same (Again id) = refl
  step_same (Takeover id view) = refl
  step_same (Pick id view) = refl
  step_same (Stop id) = refl

  entry_same : (entry : JournalEntry) → entry_fits same_tables entry ≡ entry_fits run entry
  entry_same entry = ap (λ (b : Bool). nat_lt entry.seat run.columns && b) (turn_same entry.act entry.answer)

  round_shape_same : (round : RoundLog) → IsRoundShape run round → IsRoundShape same_tables round
  round_shape_same round h =
      let steps : list_all (list_all (step_fits same_tables)) round.logs ≡ list_all (list_all (step_fits run)) round.logs =
      λ i. list_all (list_all (λ step. step_same step i)) round.logs in
      let entries : list_all (list_all (list_all (entry_fits same_tables))) round.journals ≡ list_all (list_all (list_all (entry_fits run))) round.journals =
      λ i. list_all (list_all (list_all (λ entry. entry_same entry i))) round.journals in
      record { logs = h.logs; journals = h.journals; keys = h.keys; steps = steps ∙ h.steps; entries = entries ∙ h.entries; globals = h.globals }

  pub shapes_same : (done : List RoundLog) → Each (IsRoundShape run) done → Each (IsRoundShape same_tables) done
  shapes_same [] h = tt
  shapes_same (round ∷ done) h = (round_shape_same round h.0, shapes_same done h.1)

fold_add : (n : ℕ) (xs : List ℕ) → fold ◌+◌ n xs ≡ n + sum xs
fold_add n [] = omega arith
fold_add n (x ∷ xs) = let one = fold_add (n + x) xs in let two = fold_add (0 + x) xs in one ∙ sym (ap (λ (k : ℕ). n + k) two ∙ omega arith)

sum_first : (f : RoundLog → ℕ) (round : RoundLog) (rounds : List RoundLog) → sum (map f (round ∷ rounds)) ≡ f round + sum (map f rounds)
sum_first f round rounds = let k = fold_add (0 + f round) (map f rounds) in k ∙ omega arith

-- a sum over rounds falls, where the last round falls
sum_cut : (f : RoundLog → ℕ) (done rest : List RoundLog) (round last : RoundLog) → f last ≤ f round → sum (map f (done ++ last ∷ [])) ≤ sum (map f (done ++ round ∷ rest))
sum_cut f [] rest round last le =
    let one = sum_first f last [] in
    let all = sum_first f round rest in
    let none : sum (map f []) ≡ 0 = refl in
    let goal : sum (map f (last ∷ [])) ≤ sum (map f (round ∷ rest)) = omega (arith, le, one, all, none) in
    goal
sum_cut f (first ∷ done) rest round last le =
    let k = sum_cut f done rest round last le in
    let one = sum_first f first (done ++ last ∷ []) in
    let all = sum_first f first (done ++ round ∷ rest) in
    let goal : sum (map f (first ∷ (done ++ last ∷ []))) ≤ sum (map f (first ∷ (done ++ round ∷ rest))) = omega (arith, k, one, all) in
    goal

length_cut : (done rest : List RoundLog) (round last : RoundLog) → (1 ≤ length (done ++ last ∷ [])) × (length (done ++ last ∷ []) ≤ length (done ++ round ∷ rest))
length_cut [] rest round last = (omega arith, omega arith)
length_cut (first ∷ done) rest round last = let k = (length_cut done rest round last).1 in (omega arith, omega (arith, k))

lines_fewer : (lines more : List GlobalEntry) → length lines ≤ length (lines ++ more)
lines_fewer [] more = omega arith
lines_fewer (line ∷ lines) more = let k = lines_fewer lines more in omega (arith, k)

each_cut : {X : Type 0} (P : X → Type 0) (done rest : List X) (x y : X) → Each P (done ++ x ∷ rest) → (P x → P y) → Each P (done ++ y ∷ [])
each_cut P [] rest x y h k = (k h.0, tt)
each_cut P (first ∷ done) rest x y h k = (h.0, each_cut P done rest x y h.1 k)

pub cuts_have_shape : CutsHaveShape
cuts_have_shape run done rest round lines more shape split cutting =
    let last = cut_round round lines in
    let rounds = done ++ last ∷ [] in
    let long = length_cut done rest round last in
    let same_length : length run.rounds ≡ length (done ++ round ∷ rest) = ap (λ (rs : List RoundLog). length rs) split in
    let counted = shape.few_rounds in
    let fewer : length lines ≤ length round.globals = (let k = lines_fewer lines more in let e = ap (λ (ls : List GlobalEntry). length ls) cutting in omega (arith, k, e)) in
    let globals = sum_cut (λ (r : RoundLog). length r.globals) done rest round last fewer in
    let all_globals = ap (λ (rs : List RoundLog). sum (map (λ (r : RoundLog). length r.globals) rs)) split in
    let few = shape.few_globals in
    record {
      version = shape.version;
      faults = shape.faults;
      columns = shape.columns;
      few_columns = shape.few_columns;
      clients = shape.clients;
      few_clients = shape.few_clients;
      few_keys = shape.few_keys;
      named_clients = shape.named_clients;
      named_keys = shape.named_keys;
      distinct_clients = shape.distinct_clients;
      distinct_keys = shape.distinct_keys;
      some_round = long.0;
      few_rounds = (let le = long.1 in omega (arith, le, same_length, counted));
      few_globals = omega (arith, globals, all_globals, few);
      few_attempts = λ client.
          let begun = sum_cut (begins_in client) done rest round last (omega arith) in
          let all_begun = ap (λ (rs : List RoundLog). sum (map (begins_in client) rs)) split in
          let limit = shape.few_attempts client in
          omega (arith, begun, all_begun, limit);
      rounds = shapes_same run rounds rounds (each_cut (IsRoundShape run) done rest round last (subst (Each (IsRoundShape run)) split shape.rounds) fewer_lines);
    }
  where
    fewer_lines : IsRoundShape run round → IsRoundShape run (cut_round round lines)
    fewer_lines h =
        record {
          logs = h.logs;
          journals = h.journals;
          keys = h.keys;
          steps = h.steps;
          entries = h.entries;
          globals = list_all-append_left (global_fits run) lines more (subst (λ (ls : List GlobalEntry). list_all (global_fits run) ls ≡ true) cutting h.globals);
        }
