-- Columns after their logs and cells after their journals, by place.
use Rattle.std.proofs.Common.{◌≡◌, ◌<◌, ℕ, suc, ◌+◌, refl, arith, sym, ap, subst, ◌∙◌, List, [], ◌∷◌, Some, length}
use Rattle.std.specs.Prelude.{slice_get, slice_index_or}
use Rattle.mk_lists.specs.Among.{Each}
use Rattle.mk_words.specs.Cells.{CellState, first_cell}
use Rattle.mk_words.specs.Journals.{cell_through}
use Rattle.mk_model.specs.ColumnState.{ColumnState, Setting}
use Rattle.mk_model.specs.Logs.{column_through}
use Rattle.mk_history.specs.declared.RoundLog.{RoundLog}
use Rattle.mk_history.specs.Histories.{log_of, journal_of}
use Rattle.mk_history.specs.Wholes.{columns_after_logs, keys_after_journals, cells_after_journals}
use Rattle.mk_workers.specs.ByKey.{cell_at}

-- each column is the one after the log of its number
abbrev pub AreAfter : Setting → RoundLog → ℕ → List ColumnState → List ColumnState → Type 0
AreAfter setting round n olds news =
    (k : ℕ) (old new : ColumnState) → slice_get olds k ≡ Some old → slice_get news k ≡ Some new → new ≡ column_through setting old (log_of round (n + k))

pub columns_after : (setting : Setting) (round : RoundLog) (n : ℕ) (olds news : List ColumnState) → length news ≡ length olds →
    AreAfter setting round n olds news → news ≡ columns_after_logs setting round n olds
columns_after setting round n [] [] same after = refl
columns_after setting round n [] (new ∷ news) same after = absurd (omega (arith, same))
columns_after setting round n (old ∷ olds) [] same after = absurd (omega (arith, same))
columns_after setting round n (old ∷ olds) (new ∷ news) same after =
    let here : new ≡ column_through setting old (log_of round n) =
    after 0 old new refl refl ∙ ap (λ k. column_through setting old (log_of round k)) (omega arith) in
    let rest : news ≡ columns_after_logs setting round (n + 1) olds =
    columns_after setting round (n + 1) olds news (omega (arith, same))
    (λ k o w at to. after (suc k) o w at to ∙ ap (λ i. column_through setting o (log_of round i)) (omega arith)) in
    λ i. here i ∷ rest i

-- each cell is the one after the journal of its key
abbrev pub KeysAreAfter : RoundLog → ℕ → ℕ → List CellState → List CellState → Type 0
KeysAreAfter round r n olds news =
    (k : ℕ) → k < length olds → slice_index_or news k first_cell ≡ cell_through (slice_index_or olds k first_cell) (journal_of round r (n + k))

pub keys_after : (round : RoundLog) (r n : ℕ) (olds news : List CellState) → length news ≡ length olds →
    KeysAreAfter round r n olds news → news ≡ keys_after_journals round r n olds
keys_after round r n [] [] same after = refl
keys_after round r n [] (new ∷ news) same after = absurd (omega (arith, same))
keys_after round r n (old ∷ olds) [] same after = absurd (omega (arith, same))
keys_after round r n (old ∷ olds) (new ∷ news) same after =
    let here : new ≡ cell_through old (journal_of round r n) =
    after 0 (omega arith) ∙ ap (λ k. cell_through old (journal_of round r k)) (omega arith) in
    let rest : news ≡ keys_after_journals round r (n + 1) olds =
    keys_after round r (n + 1) olds news (omega (arith, same))
    (λ k lt. after (suc k) (omega (arith, lt)) ∙ ap (λ i. cell_through (slice_index_or olds k first_cell) (journal_of round r i)) (omega arith)) in
    λ i. here i ∷ rest i

-- so of each replica
abbrev pub RowsAreAfter : RoundLog → ℕ → ℕ → List (List CellState) → List (List CellState) → Type 0
RowsAreAfter round keys n olds news =
    (r key : ℕ) → r < length olds → key < keys → cell_at news r key ≡ cell_through (cell_at olds r key) (journal_of round (n + r) key)

pub rows_after : (round : RoundLog) (keys n : ℕ) (olds news : List (List CellState)) → length news ≡ length olds →
    Each (λ row. length row ≡ keys) olds → Each (λ row. length row ≡ keys) news → RowsAreAfter round keys n olds news → news ≡ cells_after_journals round n olds
rows_after round keys n [] [] same each other after = refl
rows_after round keys n [] (new ∷ news) same each other after = absurd (omega (arith, same))
rows_after round keys n (old ∷ olds) [] same each other after = absurd (omega (arith, same))
rows_after round keys n (old ∷ olds) (new ∷ news) same each other after =
    let here : new ≡ keys_after_journals round n 0 old =
    keys_after round n 0 old new (other.0 ∙ sym each.0)
    (λ k lt. after 0 k (omega arith) (subst (λ m. k < m) each.0 lt)
    ∙ ap (λ r. cell_through (slice_index_or old k first_cell) (journal_of round r k)) (omega arith)
    ∙ ap (λ key. cell_through (slice_index_or old k first_cell) (journal_of round n key)) (omega arith)) in
    let rest : news ≡ cells_after_journals round (n + 1) olds =
    rows_after round keys (n + 1) olds news (omega (arith, same)) each.1 other.1
    (λ r key lt below. after (suc r) key (omega (arith, lt)) below
    ∙ ap (λ q. cell_through (cell_at olds r key) (journal_of round q key)) (omega arith)) in
    λ i. here i ∷ rest i
