-- A round that is replayed: its beginning, its work, its global lines, and its end.
use Rattle.std.proofs.Common.{inl, ◌≡◌, ◌≤◌, ℕ, ◌+◌, suc, true, refl, sym, ap, subst, ◌∙◌, arith, List, [], ◌∷◌, ◌++◌, length, map, Option, Some, None}
use Rattle.std.specs.Prelude.{is_some}
use Rattle.std.specs.Option.{option_or}
use Rattle.mk_lists.specs.Among.{Each, Each-among, Among-append_right}
use Rattle.mk_words.specs.Cells.{CellState}
use Rattle.mk_words.specs.declared.GlobalEntry.{GlobalEntry}
use Rattle.mk_words.specs.declared.JournalEntry.{JournalEntry}
use Rattle.mk_words.specs.declared.Step.{Step}
use Rattle.mk_model.specs.ColumnState.{ColumnState}
use Rattle.mk_model.specs.ColumnState.Work.{Idle}
use Rattle.mk_model.specs.Conditions.{wanted}
use Rattle.mk_model.specs.Logs.{column_through, reading_ended}
use Rattle.mk_column.specs.ColumnByCode.{ColumnView}
use Rattle.mk_history.specs.declared.RoundLog.{RoundLog}
use Rattle.mk_history.specs.Histories.{History}
use Rattle.mk_history.specs.Shape.{HasShape, IsRoundShape}
use Rattle.mk_history.specs.Legality.{EachRoundLegal, EachGlobalAnswered, IsLegalRound}
use Rattle.mk_history.specs.Wholes.{WholeState, first_state, state_through, after_logs, after_round, globals_through}
use Rattle.mk_run_laws.specs.Cuts.{cut_round}
use Rattle.mk_replay_laws.specs.AtLines.{LinesAreReady}
use Rattle.mk_verdict.specs.declared.PlacedFlaw.{PlacedFlaw}
use Rattle.mk_verdict.specs.Flaws.{flaw_of_logs, flaw_of_journals, flaw_of_matches, flaw_of_globals, flaw_of_round}
use Rattle.mk_verdict.proofs.FirstFacts.{option_or-none, option_or-none_from}
use Rattle.mk_verdict.proofs.Rounds.{log_replays, round_is_legal, globals_have_no_flaw}
use Rattle.mk_whole.specs.Journals.{keys_done}
use Rattle.mk_whole.specs.Logs.{flaw_in_column, column_done}
use Rattle.mk_whole.specs.Pairs.{each_done, first_in}
use Rattle.mk_words.specs.Bases.{BaseState}
use Rattle.mk_state.specs.Handing.{numbers_in}
use Rattle.mk_state.specs.Standings.{WholeView, IsOfRun, IsAt, IsWithin, IsBegun}
use Rattle.mk_whole.specs.Standings.{MayReplay, LinesMayBeDone, IsItself}
use Rattle.mk_whole.specs.Working.{MayWork, flaw_of_work}
use Rattle.mk_whole.proofs.PairLaws.{or-some}
use Rattle.mk_whole.proofs.WorkLaws.{work-logs, work-columns, work-cells}

-- ---- its work

-- the round has a round's shape
round-shape : (run : History) (done rest : List RoundLog) (round : RoundLog) → HasShape run → run.rounds ≡ done ++ round ∷ rest → IsRoundShape run round
round-shape run done rest round shape is =
    let each : Each (IsRoundShape run) (done ++ round ∷ rest) = subst (λ (rounds : List RoundLog). Each (IsRoundShape run) rounds) is shape.rounds in
    Each-among (IsRoundShape run) round (done ++ round ∷ rest) each (Among-append_right round done (round ∷ rest) (inl refl))

pub may-work : (run : History) (state : WholeState) (whole : WholeView BaseState) (round : RoundLog) → HasShape run → IsRoundShape run round → IsBegun IsItself run whole state →
    MayWork run state whole.faults whole.keys whole.columns whole.cells round
may-work run state whole round shape fits begun =
    let sizes = begun.within.sizes in
    record {
      faults = sizes.faults;
      keys_are = sizes.keys;
      few_keys = shape.few_keys;
      few_columns = shape.few_columns;
      few_replicas = let few : run.faults ≤ 3 = shape.faults.1 in omega (arith, few);
      shape = fits;
      count = sizes.columns;
      settings = begun.settings;
      states = begun.within.columns;
      cells_are = begun.within.cells;
      replicas = sizes.replicas;
      rows = sizes.rows;
    }

count-done : {X Y : Type 0} (f : X → Y → X) (xs : List X) (ys : List Y) → length (each_done f xs ys) ≡ length xs
count-done f [] ys = refl
count-done f (x ∷ xs) [] = refl
count-done f (x ∷ xs) (y ∷ ys) = ap suc (count-done f xs ys)

numbers-done : (columns : List ColumnView) (logs : List (List Step)) → numbers_in (each_done column_done columns logs) ≡ numbers_in columns
numbers-done [] logs = refl
numbers-done (column ∷ columns) [] = refl
numbers-done (column ∷ columns) (log ∷ logs) = ap (λ (rest : List ℕ). column.number ∷ rest) (numbers-done columns logs)

rows-done : (keys : ℕ) (rows : List (List CellState)) (journals : List (List (List JournalEntry))) → Each (λ row. length row ≡ keys) rows →
    Each (λ row. length row ≡ keys) (each_done keys_done rows journals)
rows-done keys [] journals h = tt
rows-done keys (row ∷ rows) [] h = h
rows-done keys (row ∷ rows) (journal ∷ journals) h = (count-done _ row journal ∙ h.0, rows-done keys rows journals h.1)

-- a column whose log has no flaw wants no key call behind it
of_run-done : (run : History) (c : ℕ) (columns : List ColumnView) (logs : List (List Step)) → Each (IsOfRun run) columns → first_in flaw_in_column c columns logs ≡ None →
    Each (IsOfRun run) (each_done column_done columns logs)
of_run-done run c [] logs h e = tt
of_run-done run c (column ∷ columns) [] h e = h
of_run-done run c (column ∷ columns) (log ∷ logs) h e =
    let both = option_or-none (flaw_in_column c column log) (first_in flaw_in_column (c + 1) columns logs) e in
    let finished : (column_through column.setting column.state log).work ≡ Idle = (log_replays column.setting column.state c 1 log both.0).finished in
    (record { version = h.0.version; faults = h.0.faults; keys = h.0.keys; idle = ap wanted finished }, of_run-done run (c + 1) columns logs h.1 both.1)

-- what is kept behind the round's work
pub work-within : (run : History) (state : WholeState) (whole : WholeView BaseState) (round : RoundLog) → IsBegun IsItself run whole state →
    MayWork run state whole.faults whole.keys whole.columns whole.cells round → flaw_of_work run state round ≡ None →
    IsWithin IsItself run (record whole { columns = each_done column_done whole.columns round.logs; cells = each_done keys_done whole.cells round.journals }) (after_logs run round state)
work-within run state whole round begun may none =
    let sizes = begun.within.sizes in
    let parts = option_or-none (flaw_of_logs run state round) (option_or (flaw_of_journals run state round) (flaw_of_matches run round)) none in
    let no_log : first_in flaw_in_column 0 whole.columns round.logs ≡ None = work-logs run state whole.faults whole.keys whole.columns whole.cells round may ∙ parts.0 in
    record {
      sizes = record {
        faults = sizes.faults;
        keys = sizes.keys;
        changes = sizes.changes;
        columns = count-done column_done whole.columns round.logs ∙ sizes.columns;
        numbers = numbers-done whole.columns round.logs ∙ sizes.numbers;
        each = of_run-done run 0 whole.columns round.logs sizes.each no_log;
        replicas = count-done keys_done whole.cells round.journals ∙ sizes.replicas;
        rows = rows-done (length run.key_names) whole.cells round.journals sizes.rows;
      };
      columns = work-columns run state whole.faults whole.keys whole.columns whole.cells round may;
      cells = work-cells run state whole.faults whole.keys whole.columns whole.cells round may;
      epochs = begun.within.epochs;
      count = begun.within.count;
    }

-- ---- its global lines

or-assoc : {X : Type 0} (a b c d : Option X) → option_or a (option_or b (option_or c d)) ≡ option_or (option_or a (option_or b c)) d
or-assoc None None c d = refl
or-assoc None (Some b) c d = refl
or-assoc (Some a) b c d = refl

-- a round's first flaw is that of its work, and else that of its global lines
pub flaw-parts : (run : History) (state : WholeState) (round : RoundLog) →
    flaw_of_round run state round ≡ option_or (flaw_of_work run state round) (flaw_of_globals run (after_logs run round state) 1 round.globals)
flaw-parts run state round =
    or-assoc (flaw_of_logs run state round) (flaw_of_journals run state round) (flaw_of_matches run round) (flaw_of_globals run (after_logs run round state) 1 round.globals)

-- behind work without a flaw the lines so far make a legal round
cut-legal : (run : History) (state : WholeState) (round : RoundLog) (lines : List GlobalEntry) → flaw_of_work run state round ≡ None →
    EachGlobalAnswered run (after_logs run round state) lines → IsLegalRound run (cut_round round lines) state
cut-legal run state round lines none answered =
    round_is_legal run state (cut_round round lines)
    (flaw-parts run state (cut_round round lines)
    ∙ option_or-none_from (flaw_of_work run state round) (flaw_of_globals run (after_logs run round state) 1 lines) none
    (globals_have_no_flaw run (after_logs run round state) 1 lines answered))

pub lines-may : (run : History) (done rest : List RoundLog) (whole : WholeView BaseState) (round : RoundLog) → LinesAreReady → HasShape run → run.rounds ≡ done ++ round ∷ rest →
    EachRoundLegal run (first_state run) done → flaw_of_work run (state_through run (first_state run) done) round ≡ None →
    IsWithin IsItself run whole (after_logs run round (state_through run (first_state run) done)) →
    LinesMayBeDone run (after_logs run round (state_through run (first_state run) done)) whole round.globals
lines-may run done rest whole round law shape is legal none within =
    record {
      within = within;
      fits = (round-shape run done rest round shape is).globals;
      ready = λ lines more e answered. law run shape done rest round is legal lines more e (cut-legal run (state_through run (first_state run) done) round lines none answered);
    }

-- a flaw of the work is the round's first
pub flaw-early : (run : History) (state : WholeState) (round : RoundLog) (o : Option PlacedFlaw) → o ≡ flaw_of_work run state round → true ≡ is_some o → o ≡ flaw_of_round run state round
flaw-early run state round (Some flaw) is some =
    sym (flaw-parts run state round ∙ or-some (flaw_of_work run state round) (flaw_of_globals run (after_logs run round state) 1 round.globals) flaw (sym is))
flaw-early run state round None is some = absurd (cc)

-- and behind work without a flaw one of the global lines is
pub flaw-late : (run : History) (state : WholeState) (round : RoundLog) (o : Option PlacedFlaw) → flaw_of_work run state round ≡ None →
    o ≡ flaw_of_globals run (after_logs run round state) 1 round.globals → o ≡ flaw_of_round run state round
flaw-late run state round o none is =
    is ∙ sym (flaw-parts run state round ∙ ap (λ (w : Option PlacedFlaw). option_or w (flaw_of_globals run (after_logs run round state) 1 round.globals)) none)

-- ---- its end

pub round-over : (run : History) (state : WholeState) (whole : WholeView BaseState) (round : RoundLog) → IsWithin IsItself run whole (globals_through run (after_logs run round state) round.globals) →
    IsAt IsItself run whole (after_round run round state)
round-over run state whole round within =
    record {
      sizes = within.sizes;
      columns = ap (λ (columns : List ColumnState). map reading_ended columns) within.columns;
      cells = within.cells;
      epochs = within.epochs;
      count = within.count;
    }

pub shape-of : (run : History) (done : List RoundLog) (whole : WholeView BaseState) (round : RoundLog) → MayReplay run done whole round → IsRoundShape run round
shape-of run done whole round may = round-shape run done may.rest round may.shape may.rounds

-- ---- all of it

abbrev pub state_at : History → List RoundLog → WholeState
state_at run done = state_through run (first_state run) done

pub work-may : (run : History) (done : List RoundLog) (start old : WholeView BaseState) (round : RoundLog) → MayReplay run done start round → IsBegun IsItself run old (state_at run done) →
    MayWork run (state_at run done) old.faults old.keys old.columns old.cells round
work-may run done start old round may begun = may-work run (state_at run done) old round may.shape (shape-of run done start round may) begun

pub globals-may : (run : History) (done : List RoundLog) (start old : WholeView BaseState) (round : RoundLog) (columns : List ColumnView) (cells : List (List CellState)) → LinesAreReady →
    MayReplay run done start round → IsBegun IsItself run old (state_at run done) → flaw_of_work run (state_at run done) round ≡ None →
    columns ≡ each_done column_done old.columns round.logs → cells ≡ each_done keys_done old.cells round.journals →
    LinesMayBeDone run (after_logs run round (state_at run done)) (record old { columns = columns; cells = cells }) round.globals
globals-may run done start old round columns cells law may begun none columns_are cells_are =
    let state = state_at run done in
    let within = work-within run state old round begun (work-may run done start old round may begun) none in
    let first = subst (λ (cs : List ColumnView). IsWithin IsItself run (record old { columns = cs; cells = each_done keys_done old.cells round.journals }) (after_logs run round state)) (sym columns_are) within in
    let both = subst (λ (rows : List (List CellState)). IsWithin IsItself run (record old { columns = columns; cells = rows }) (after_logs run round state)) (sym cells_are) first in
    lines-may run done may.rest (record old { columns = columns; cells = cells }) round law may.shape may.rounds may.legal none both
