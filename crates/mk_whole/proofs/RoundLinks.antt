-- A round that is gone through by lists is the round that the definitions of runs go through by number.
use Rattle.std.proofs.Common.{◌≡◌, ◌<◌, ◌≤◌, ℕ, zero, suc, ◌+◌, refl, sym, ap, ◌∙◌, arith, List, [], ◌∷◌, length, map, Option}
use Rattle.std.specs.Prelude.{slice_index_or, option_map}
use Rattle.std.specs.Option.{option_or}
use Rattle.std.proofs.lemmas.List.{length-map}
use Rattle.std.proofs.lemmas.Option.{get_or_from_slice_get}
use Rattle.mk_lists.specs.Among.{Each}
use Rattle.mk_quorum.specs.Sizes.{members}
use Rattle.mk_words.specs.Cells.{CellState, first_cell}
use Rattle.mk_words.specs.Journals.{cell_through}
use Rattle.mk_words.specs.declared.JournalEntry.{JournalEntry}
use Rattle.mk_words.specs.declared.Step.{Step}
use Rattle.mk_model.specs.ColumnState.{Setting, ColumnState, new_column}
use Rattle.mk_model.specs.Logs.{column_through}
use Rattle.mk_column.specs.ColumnByCode.{ColumnView}
use Rattle.mk_history.specs.declared.RoundLog.{RoundLog}
use Rattle.mk_history.specs.Histories.{History, log_of, journal_of}
use Rattle.mk_history.specs.Matching.{turns_in_log, turns_in_journal}
use Rattle.mk_history.specs.Wholes.{WholeState, setting_of, column_of, cell_of, columns_after_logs, keys_after_journals, cells_after_journals}
use Rattle.mk_verdict.specs.declared.PlacedFlaw.{PlacedFlaw}
use Rattle.mk_verdict.specs.Flaws.{first_from, difference, flaw_of_log, flaw_of_journal, flaw_of_match, flaw_of_logs, flaw_of_journals, flaw_of_matches}
use Rattle.mk_whole.specs.Pairs.{each_done, first_in}
use Rattle.mk_whole.specs.Turns.{turns_at}
use Rattle.mk_whole.specs.Logs.{flaw_in_column, column_done}
use Rattle.mk_whole.specs.Journals.{flaw_at_key, flaw_at_replica, keys_done}
use Rattle.mk_whole.specs.Matches.{unmatched_at, flaw_between, unmatched_key, unmatched_replica}
use Rattle.mk_whole.proofs.Linking.{IsPart, part-head, part-tail, in-from}

-- a table's members by number
pub part-of_table : {X : Type 0} (xs : List X) (d : X) → IsPart (λ i. slice_index_or xs i d) 0 xs
part-of_table xs d = record { at = λ i x e. (let same : 0 + i ≡ i = omega arith in ap (λ k. slice_index_or xs k d) same ∙ get_or_from_slice_get xs i x d e) }

-- ---- columns and logs

pub columns-after : (setting : Setting) (round : RoundLog) (c : ℕ) (columns : List ColumnView) (logs : List (List Step)) → length logs ≡ length columns →
    IsPart (log_of round) c logs → Each (λ column. column.setting ≡ setting) columns →
    map (λ column. column.state) (each_done column_done columns logs) ≡ columns_after_logs setting round c (map (λ column. column.state) columns)
columns-after setting round c [] logs same part each = refl
columns-after setting round c (column ∷ columns) [] same part each = absurd (omega (arith, same))
columns-after setting round c (column ∷ columns) (log ∷ logs) same part each =
    ap (λ (rest : List ColumnState). column_through column.setting column.state log ∷ rest)
    (columns-after setting round (c + 1) columns logs (omega (arith, same)) (part-tail (log_of round) c log logs part) each.1)
    ∙ ap (λ (s : Setting). column_through s column.state log ∷ columns_after_logs setting round (c + 1) (map (λ column. column.state) columns)) each.0
    ∙ ap (λ (steps : List Step). column_through setting column.state steps ∷ columns_after_logs setting round (c + 1) (map (λ column. column.state) columns))
    (sym (part-head (log_of round) c log logs part))

-- the flaw of a column's log in this setting
abbrev pub flaw_by_state : Setting → ℕ → ColumnState → List Step → Option PlacedFlaw
flaw_by_state setting c column log = flaw_of_log setting column c 1 log

flaws-by_state : (setting : Setting) (c : ℕ) (columns : List ColumnView) (logs : List (List Step)) → Each (λ column. column.setting ≡ setting) columns →
    first_in flaw_in_column c columns logs ≡ first_in (flaw_by_state setting) c (map (λ column. column.state) columns) logs
flaws-by_state setting c [] logs each = refl
flaws-by_state setting c (column ∷ columns) [] each = refl
flaws-by_state setting c (column ∷ columns) (log ∷ logs) each =
    ap (λ (s : Setting). option_or (flaw_of_log s column.state c 1 log) (first_in flaw_in_column (c + 1) columns logs)) each.0
    ∙ ap (λ (o : Option PlacedFlaw). option_or (flaw_of_log setting column.state c 1 log) o) (flaws-by_state setting (c + 1) columns logs each.1)

pub log-flaws : (run : History) (state : WholeState) (round : RoundLog) (columns : List ColumnView) → Each (λ column. column.setting ≡ setting_of run state) columns →
    map (λ column. column.state) columns ≡ state.columns → length columns ≡ run.columns → length round.logs ≡ run.columns →
    first_in flaw_in_column 0 columns round.logs ≡ flaw_of_logs run state round
log-flaws run state round columns each states count logs =
    flaws-by_state (setting_of run state) 0 columns round.logs each
    ∙ ap (λ (cs : List ColumnState). first_in (flaw_by_state (setting_of run state)) 0 cs round.logs) states
    ∙ in-from (flaw_by_state (setting_of run state)) (column_of state) (log_of round) 0 state.columns round.logs run.columns
    (ap (λ (cs : List ColumnState). length cs) (sym states) ∙ length-map columns (λ column. column.state) ∙ count) logs
    (part-of_table state.columns (new_column 0 [])) (part-of_table round.logs [])

-- ---- cells and journals

pub keys-after : (round : RoundLog) (r key : ℕ) (cells : List CellState) (journals : List (List JournalEntry)) → length journals ≡ length cells →
    IsPart (journal_of round r) key journals → keys_done cells journals ≡ keys_after_journals round r key cells
keys-after round r key [] journals same part = refl
keys-after round r key (cell ∷ cells) [] same part = absurd (omega (arith, same))
keys-after round r key (cell ∷ cells) (journal ∷ journals) same part =
    ap (λ (rest : List CellState). cell_through cell journal ∷ rest) (keys-after round r (key + 1) cells journals (omega (arith, same)) (part-tail (journal_of round r) key journal journals part))
    ∙ ap (λ (entries : List JournalEntry). cell_through cell entries ∷ keys_after_journals round r (key + 1) cells) (sym (part-head (journal_of round r) key journal journals part))

-- the journals of a replica, by number
abbrev pub journals_at : RoundLog → ℕ → List (List JournalEntry)
journals_at round r = slice_index_or round.journals r []

pub cells-after : (keys : ℕ) (round : RoundLog) (r : ℕ) (rows : List (List CellState)) (journals : List (List (List JournalEntry))) → length journals ≡ length rows →
    IsPart (journals_at round) r journals → Each (λ row. length row ≡ keys) rows → Each (λ row. length row ≡ keys) journals →
    each_done keys_done rows journals ≡ cells_after_journals round r rows
cells-after keys round r [] journals same part each other = refl
cells-after keys round r (row ∷ rows) [] same part each other = absurd (omega (arith, same))
cells-after keys round r (row ∷ rows) (here ∷ journals) same part each other =
    let at : here ≡ journals_at round r = sym (part-head (journals_at round) r here journals part) in
    ap (λ (rest : List (List CellState)). keys_done row here ∷ rest)
    (cells-after keys round (r + 1) rows journals (omega (arith, same)) (part-tail (journals_at round) r here journals part) each.1 other.1)
    ∙ ap (λ (js : List (List JournalEntry)). keys_done row js ∷ cells_after_journals round (r + 1) rows) at
    ∙ ap (λ (cells : List CellState). cells ∷ cells_after_journals round (r + 1) rows)
    (keys-after round r 0 row (journals_at round r) (ap (λ (js : List (List JournalEntry)). length js) (sym at) ∙ other.0 ∙ sym each.0) (part-of_table (journals_at round r) []))

-- what is found from k on is the same where it is the same at each number
pub from-same : {X : Type 0} (f g : ℕ → Option X) (k n : ℕ) → ((i : ℕ) → k ≤ i → i < k + n → f i ≡ g i) → first_from f k n ≡ first_from g k n
from-same f g k zero h = refl
from-same f g k (suc n) h =
    ap (λ o. option_or o (first_from f (k + 1) n)) (h k (omega arith) (omega arith))
    ∙ ap (option_or (g k)) (from-same f g (k + 1) n (λ i low high. h i (omega (arith, low)) (omega (arith, high))))

Each-got : {X : Type 0} (P : X → Type 0) (xs : List X) (i : ℕ) (d : X) → Each P xs → i < length xs → P (slice_index_or xs i d)
Each-got P [] i d h within = absurd (omega (arith, within))
Each-got P (x ∷ xs) zero d h within = h.0
Each-got P (x ∷ xs) (suc i) d h within = Each-got P xs i d h.1 (omega (arith, within))

module _ (run : History) (state : WholeState) (round : RoundLog) (replicas : length state.cells ≡ members run.faults) (journals : length round.journals ≡ members run.faults)
    (rows : Each (λ row. length row ≡ length run.key_names) state.cells) (others : Each (λ row. length row ≡ length run.key_names) round.journals) where
  pub journal-flaws : first_in flaw_at_replica 0 state.cells round.journals ≡ flaw_of_journals run state round
  journal-flaws =
      in-from flaw_at_replica (λ r. slice_index_or state.cells r []) (journals_at round) 0 state.cells round.journals (members run.faults) replicas journals
      (part-of_table state.cells []) (part-of_table round.journals [])
      ∙ from-same (λ r. flaw_at_replica r (slice_index_or state.cells r []) (journals_at round r))
      (λ r. first_from (λ key. flaw_of_journal (cell_of state r key) r key 1 (journal_of round r key)) 0 (length run.key_names)) 0 (members run.faults)
      (λ r low high. in-from (flaw_at_key r) (λ key. cell_of state r key) (journal_of round r) 0 (slice_index_or state.cells r []) (journals_at round r) (length run.key_names)
      (Each-got (λ row. length row ≡ length run.key_names) state.cells r [] rows (omega (arith, high, replicas)))
      (Each-got (λ row. length row ≡ length run.key_names) round.journals r [] others (omega (arith, high, journals)))
      (part-of_table (slice_index_or state.cells r []) first_cell) (part-of_table (journals_at round r) []))

  -- the table has the key steps of each column's log
  module _ (table : List (List (List JournalEntry)))
      (kept : (c r key : ℕ) → c < run.columns → r < members run.faults → key < length run.key_names → turns_in_journal c (turns_at table r key) ≡ turns_in_log r key (log_of round c)) where
    pub match-flaws : first_from (unmatched_replica run.columns round.journals table) 0 (length round.journals) ≡ flaw_of_matches run round
    match-flaws =
        ap (first_from (unmatched_replica run.columns round.journals table) 0) journals
        ∙ from-same (unmatched_replica run.columns round.journals table) (λ r. first_from (λ key. first_from (flaw_of_match round r key) 0 run.columns) 0 (length run.key_names)) 0 (members run.faults)
        (λ r low high.
        ap (first_from (unmatched_key run.columns (journals_at round r) table r) 0)
        (Each-got (λ row. length row ≡ length run.key_names) round.journals r [] others (omega (arith, high, journals)))
        ∙ from-same (unmatched_key run.columns (journals_at round r) table r) (λ key. first_from (flaw_of_match round r key) 0 run.columns) 0 (length run.key_names)
        (λ key low_key high_key.
        from-same (flaw_between r key (journal_of round r key) (turns_at table r key)) (flaw_of_match round r key) 0 run.columns
        (λ c low_c high_c.
        ap (λ ts. option_map (unmatched_at r key c) (difference 1 (turns_in_journal c (journal_of round r key)) ts))
        (kept c r key (omega (arith, high_c)) (omega (arith, high)) (omega (arith, high_key))))))
