-- The cells of a replica over a round: its journals, and lines that empty replicas.
use Rattle.std.proofs.Common.{◌≡◌, ◌⊎◌, ◌<◌, ℕ, zero, suc, ◌+◌, Bool, true, false, refl, arith, sym, ap, ◌∙◌, inl, inr, List, [], ◌∷◌, Some, replicate, length}
use Rattle.std.specs.Prelude.{slice_get, slice_set, slice_index_or, option_map}
use Rattle.std.proofs.lemmas.Option.{slice_get-map, get_or_from_slice_get, same_Some, slice_get_within}
use Rattle.std.proofs.lemmas.Bool.{cases_eq, eq-eqb}
use Rattle.mk_lists.proofs.Places.{slice_get-replicate, slice_get-set_other, slice_get-set_same}
use Rattle.mk_words.specs.Cells.{CellState, first_cell}
use Rattle.mk_words.specs.Journals.{cell_through}
use Rattle.mk_quorum.specs.Sizes.{members}
use Rattle.mk_words.specs.Bases.{BaseState, empty_base}
use Rattle.mk_words.specs.Rebuilding.{rebuilt}
use Rattle.mk_words.specs.declared.GlobalLine.{GlobalLine}
use Rattle.mk_words.specs.declared.GlobalLine.TheVariants.{Wipe, Ask, Promise, Merge, Adopt, Enter}
use Rattle.mk_model.specs.ColumnState.{numbers_from}
use Rattle.mk_model.specs.EpochState.{made_for}
use Rattle.mk_model.specs.GlobalSteps.{base_or_empty}
use Rattle.mk_column_laws.specs.Moments.{has_number}
use Rattle.mk_history.specs.declared.RoundLog.{RoundLog}
use Rattle.mk_history.specs.Histories.{History, journal_of}
use Rattle.mk_history.specs.Wholes.{WholeState, first_state, cell_of, keys_after_journals, cells_after_journals, after_logs, after_line, restarted, rebuilt_cells}
use Rattle.mk_run_laws.specs.RunEvents.{emptied_by}
use Rattle.mk_run_laws.proofs.Joined.{slice_get-numbers}

-- ---- the cell of a key

-- the whole has this cell there
abbrev pub HasCell : WholeState → (r key : ℕ) → CellState → Type 0
HasCell state r key cell = (row : List CellState) × (slice_get state.cells r ≡ Some row) × (slice_get row key ≡ Some cell)

pub has_cell : (state : WholeState) (r key : ℕ) (cell : CellState) → HasCell state r key cell → cell_of state r key ≡ cell
has_cell state r key cell (row, at, is) =
    ap (λ (keys : List CellState). slice_index_or keys key first_cell) (get_or_from_slice_get state.cells r row [] at) ∙ get_or_from_slice_get row key cell first_cell is

pub cell_first : (run : History) (r key : ℕ) → r < members run.faults → key < length run.key_names → HasCell (first_state run) r key first_cell
cell_first run r key rlt klt =
    let row = replicate (length run.key_names) first_cell in
    (row, slice_get-replicate (members run.faults) r row rlt, slice_get-replicate (length run.key_names) key first_cell klt)

keys_after-get : (round : RoundLog) (r n : ℕ) (row : List CellState) (key : ℕ) (cell : CellState) → slice_get row key ≡ Some cell →
    slice_get (keys_after_journals round r n row) key ≡ Some (cell_through cell (journal_of round r (n + key)))
keys_after-get round r n [] key cell e = absurd (cc e)
keys_after-get round r n (x ∷ row) zero cell e =
    let same = same_Some x cell e in
    let place : n ≡ n + 0 = omega arith in
    ap (λ (y : CellState). Some (cell_through y (journal_of round r n))) same ∙ ap (λ (k : ℕ). Some (cell_through cell (journal_of round r k))) place
keys_after-get round r n (x ∷ row) (suc key) cell e =
    let place : n + 1 + key ≡ n + suc key = omega arith in
    keys_after-get round r (n + 1) row key cell e ∙ ap (λ (k : ℕ). Some (cell_through cell (journal_of round r k))) place

cells_after-get : (round : RoundLog) (n : ℕ) (cells : List (List CellState)) (r : ℕ) (row : List CellState) → slice_get cells r ≡ Some row →
    slice_get (cells_after_journals round n cells) r ≡ Some (keys_after_journals round (n + r) 0 row)
cells_after-get round n [] r row e = absurd (cc e)
cells_after-get round n (x ∷ cells) zero row e =
    let same = same_Some x row e in
    let place : n ≡ n + 0 = omega arith in
    ap (λ (y : List CellState). Some (keys_after_journals round n 0 y)) same ∙ ap (λ (k : ℕ). Some (keys_after_journals round k 0 row)) place
cells_after-get round n (x ∷ cells) (suc r) row e =
    let place : n + 1 + r ≡ n + suc r = omega arith in
    cells_after-get round (n + 1) cells r row e ∙ ap (λ (k : ℕ). Some (keys_after_journals round k 0 row)) place

pub cell_after_logs : (run : History) (round : RoundLog) (state : WholeState) (r key : ℕ) (cell : CellState) → HasCell state r key cell →
    HasCell (after_logs run round state) r key (cell_through cell (journal_of round r key))
cell_after_logs run round state r key cell (row, at, is) = (
  keys_after_journals round r 0 row,
  cells_after-get round 0 state.cells r row at ∙ ap (λ (k : ℕ). Some (keys_after_journals round k 0 row)) (omega arith),
  keys_after-get round r 0 row key cell is ∙ ap (λ (k : ℕ). Some (cell_through cell (journal_of round r k))) (omega arith),
)

-- ---- lines

-- a replica that was emptied has the base's cells, and another one what it had
cell_restarted : (run : History) (q : ℕ) (base : BaseState) (state : WholeState) (r key : ℕ) (cell : CellState) → key < length run.key_names → HasCell state r key cell →
    ((r ≡ q) × HasCell (restarted run q base state) r key (rebuilt base key)) ⊎ ((r ≡ q → ⊥) × HasCell (restarted run q base state) r key cell)
cell_restarted run q base state r key cell lt (row, at, is) = elim (cases_eq r q) [
  | inl same ↦ inl (
    same,
    (
      rebuilt_cells (length run.key_names) base,
      ap (λ (k : ℕ). slice_get (slice_set state.cells k (rebuilt_cells (length run.key_names) base)) r) (sym same)
          ∙ slice_get-set_same state.cells r (rebuilt_cells (length run.key_names) base) (slice_get_within state.cells r row at),
      slice_get-map (rebuilt base) (numbers_from 0 (length run.key_names)) key
          ∙ ap (option_map (rebuilt base)) (slice_get-numbers (length run.key_names) 0 key lt) ∙ ap (λ (k : ℕ). Some (rebuilt base k)) (omega arith),
    ),
  )
  | inr apart ↦ inr (apart, (row, slice_get-set_other state.cells q r (rebuilt_cells (length run.key_names) base) apart ∙ at, is))
]

-- what a line makes of the cell: nothing where it does not empty the replica, and the cell of the base where the replica adopts
pub record LineCell (run : History) (line : GlobalLine) (state : WholeState) (r key : ℕ) (cell : CellState) : Type 0 where
  pub after : CellState
  pub has : HasCell (after_line run line state) r key after
  pub stays : has_number (emptied_by line) r ≡ false → after ≡ cell
  pub taken : (epoch : ℕ) → line ≡ Adopt epoch r → after ≡ rebuilt (base_or_empty (made_for epoch state.epochs)) key

abbrev of_base : ℕ → WholeState → BaseState
of_base epoch state = base_or_empty (made_for epoch state.epochs)

abbrev adopted_epoch : GlobalLine → ℕ
adopted_epoch (Adopt epoch r) = epoch
adopted_epoch _ = 0

abbrev adopted_by : GlobalLine → ℕ
adopted_by (Adopt epoch r) = r
adopted_by _ = 0

abbrev is_adopt : GlobalLine → Bool
is_adopt (Adopt epoch r) = true
is_adopt _ = false

emptied_here : (q r : ℕ) → r ≡ q → has_number (q ∷ []) r ≡ true
emptied_here q r same = let k = eq-eqb q r (sym same) in grind (arith, k)

module _ (run : History) (state : WholeState) (r key : ℕ) (cell : CellState) (lt : key < length run.key_names) (has : HasCell state r key cell) where
  same_cell : (line : GlobalLine) → is_adopt line ≡ false → HasCell (after_line run line state) r key cell → LineCell run line state r key cell
  same_cell line other k =
      record { after = cell; has = k; stays = λ _. refl; taken = λ epoch e. absurd (cc (sym other ∙ ap is_adopt e)) }

  pub line_cell : (line : GlobalLine) → LineCell run line state r key cell
  line_cell (Wipe q) = elim (cell_restarted run q empty_base state r key cell lt has) [
    | inl here ↦ (let k = emptied_here q r here.0 in
        record {
          after = rebuilt empty_base key;
          has = here.1;
          stays = λ kept. absurd (cc (sym k ∙ kept));
          taken = λ epoch e. absurd (cc (ap is_adopt e));
        })
    | inr there ↦ same_cell (Wipe q) refl there.1
  ]
  line_cell (Adopt epoch q) = elim (cell_restarted run q (of_base epoch state) state r key cell lt has) [
    | inl here ↦ (let k = emptied_here q r here.0 in
        record {
          after = rebuilt (of_base epoch state) key;
          has = here.1;
          stays = λ kept. absurd (cc (sym k ∙ kept));
          taken = λ e l. ap (λ (n : ℕ). rebuilt (of_base n state) key) (ap adopted_epoch l);
        })
    | inr there ↦ record { after = cell; has = there.1; stays = λ _. refl; taken = λ e l. absurd (there.0 (sym (ap adopted_by l))) }
  ]
  line_cell (Ask epoch) = same_cell (Ask epoch) refl has
  line_cell (Promise epoch q) = same_cell (Promise epoch q) refl has
  line_cell (Merge epoch) = same_cell (Merge epoch) refl has
  line_cell (Enter epoch) = same_cell (Enter epoch) refl has
