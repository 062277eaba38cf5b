-- A replica that begins anew: with the cells of a base, no entries and no marks.
use Rattle.std.proofs.Common.{◌≡◌, ◌<◌, ℕ, zero, suc, ◌+◌, refl, sym, ap, subst, ◌∙◌, arith, List, [], ◌∷◌, length, map, replicate, Option, Some, None}
use Rattle.std.specs.Prelude.{find, option_map, slice_get, slice_index_or, slice_set, ◌==◌}
use Rattle.mk_lists.specs.Among.{Among, Each}
use Rattle.mk_lists.proofs.Lookups.{Among-find}
use Rattle.mk_lists.proofs.Places.{slice_get-set_same}
use Rattle.std.proofs.lemmas.Option.{slice_get_within}
use Rattle.mk_words.specs.Bases.{BaseState, empty_base}
use Rattle.mk_words.specs.Cells.{CellState, CellView, first_cell}
use Rattle.mk_words.specs.Rebuilding.{rebuilt, NamesBelow}
use Rattle.mk_words.specs.declared.GlobalLine.TheVariants.{Adopt}
use Rattle.mk_words.specs.declared.GlobalAnswer.TheVariants.{Ok as Done}
use Rattle.mk_merge_laws.specs.Lefts.{AreRebuilt}
use Rattle.mk_model.specs.ColumnState.{numbers_from}
use Rattle.mk_model.specs.EpochState.{EpochState, ReplicaState, MadeBase, made_for}
use Rattle.mk_model.specs.GlobalAnswers.{global_answer, adopt_answer}
use Rattle.mk_model.specs.GlobalSteps.{HandedIn, global_after, base_or_empty, adopting, change_replica, with_adoption}
use Rattle.mk_model.specs.Logs.{replica_reset}
use Rattle.mk_column.specs.ColumnByCode.{ColumnView}
use Rattle.mk_history.specs.Histories.{History}
use Rattle.mk_history.specs.Wholes.{rebuilt_cells}
use Rattle.mk_state.specs.Handing.{states_in, column_reset, numbers_in}
use Rattle.mk_state.specs.Cells.{states_of}
use Rattle.mk_state.specs.Standings.{IsOfRun}

pub columns-reset : (r : ℕ) (columns : List ColumnView) → states_in (map (column_reset r) columns) ≡ map (replica_reset r) (states_in columns)
columns-reset r [] = refl
columns-reset r (column ∷ columns) = ap (λ rest. replica_reset r column.state ∷ rest) (columns-reset r columns)

pub of_run-reset : (run : History) (r : ℕ) (columns : List ColumnView) → Each (IsOfRun run) columns → Each (IsOfRun run) (map (column_reset r) columns)
of_run-reset run r [] h = tt
of_run-reset run r (column ∷ columns) h =
    (record { version = h.0.version; faults = h.0.faults; keys = h.0.keys; idle = h.0.idle }, of_run-reset run r columns h.1)

pub numbers-reset : (r : ℕ) (columns : List ColumnView) → numbers_in (map (column_reset r) columns) ≡ numbers_in columns
numbers-reset r [] = refl
numbers-reset r (column ∷ columns) = ap (λ rest. column.number ∷ rest) (numbers-reset r columns)

pub count-reset : (r : ℕ) (columns : List ColumnView) → length (map (column_reset r) columns) ≡ length columns
count-reset r [] = refl
count-reset r (column ∷ columns) = ap suc (count-reset r columns)

module _ {X : Type 0} where
  pub each-set : (P : X → Type 0) (rows : List X) (r : ℕ) (row : X) → Each P rows → P row → Each P (slice_set rows r row)
  each-set P [] r row h p = tt
  each-set P (other ∷ rows) zero row h p = (p, h.1)
  each-set P (other ∷ rows) (suc r) row h p = (h.0, each-set P rows r row h.1 p)

count-rebuilt : (base : BaseState) (k n : ℕ) → length (map (rebuilt base) (numbers_from k n)) ≡ n
count-rebuilt base k zero = refl
count-rebuilt base k (suc n) = ap suc (count-rebuilt base (k + 1) n)

pub rebuilt-count : (keys : ℕ) (base : BaseState) → length (rebuilt_cells keys base) ≡ keys
rebuilt-count keys base = count-rebuilt base 0 keys

first-rebuilt : (k n : ℕ) → replicate n first_cell ≡ map (rebuilt empty_base) (numbers_from k n)
first-rebuilt k zero = refl
first-rebuilt k (suc n) = ap (λ rest. first_cell ∷ rest) (first-rebuilt (k + 1) n)

-- new cells are those of the empty base
pub new-rebuilt : (keys : ℕ) → replicate keys first_cell ≡ rebuilt_cells keys empty_base
new-rebuilt keys = first-rebuilt 0 keys

cells-from : (base : BaseState) (k n : ℕ) (cells : List CellView) → length cells ≡ n →
    ((i : ℕ) (d : CellView) → i < n → (slice_index_or cells i d).state ≡ rebuilt base (k + i)) → states_of cells ≡ map (rebuilt base) (numbers_from k n)
cells-from base k zero [] all each = refl
cells-from base k zero (cell ∷ cells) all each = absurd (omega (arith, all))
cells-from base k (suc n) [] all each = absurd (omega (arith, all))
cells-from base k (suc n) (cell ∷ cells) all each =
    let none : k + 0 ≡ k = omega arith in
    let here : cell.state ≡ rebuilt base k = subst (λ (j : ℕ). cell.state ≡ rebuilt base j) none (each 0 cell (omega arith)) in
    let rest = cells-from base (k + 1) n cells (omega (arith, all))
    (λ i d below.
    let place : k + suc i ≡ k + 1 + i = omega arith in
    subst (λ (j : ℕ). (slice_index_or cells i d).state ≡ rebuilt base j) place (each (suc i) d (omega (arith, below)))) in
    ap (λ (first : CellState). first ∷ states_of cells) here ∙ ap (λ (more : List CellState). rebuilt base k ∷ more) rest

-- rebuilt cells are those of the base
pub cells-rebuilt : (base : BaseState) (keys : ℕ) (cells : List CellView) → AreRebuilt base keys cells → states_of cells ≡ rebuilt_cells keys base
cells-rebuilt base keys cells h =
    cells-from base 0 keys cells h.all
    (λ i d below. let place : i ≡ 0 + i = omega arith in subst (λ (j : ℕ). (slice_index_or cells i d).state ≡ rebuilt base j) place (h.each i d below))

-- a base that was made names what the others do
pub made-names : (keys epoch : ℕ) (state : EpochState) → ((made : MadeBase) → Among made state.made → NamesBelow keys made.base) →
    NamesBelow keys (base_or_empty (made_for epoch state))
made-names keys epoch state h = by (find (λ m. m.epoch == epoch) state.made) refl
  where
    by : (found : Option MadeBase) → find (λ m. m.epoch == epoch) state.made ≡ found → NamesBelow keys (base_or_empty (option_map (λ m. m.base) found))
    by None e = tt
    by (Some made) e = h made (Among-find (λ m. m.epoch == epoch) state.made made e)

-- a replica that adopted has the epoch's base
pub adopted-base : (state : EpochState) (handed : HandedIn) (epoch r : ℕ) (x : ReplicaState) → Done ≡ global_answer state (Adopt epoch r) →
    slice_get (global_after state handed (Adopt epoch r)).replicas r ≡ Some x → x.base ≡ base_or_empty (made_for epoch state)
adopted-base state handed epoch r x done got = by (slice_get state.replicas r) refl
  where
    by : (found : Option ReplicaState) → slice_get state.replicas r ≡ found → x.base ≡ base_or_empty (made_for epoch state)
    by None e =
        let bad : Done ≡ adopt_answer state epoch None = done ∙ ap (adopt_answer state epoch) e in
        absurd (cc)
    by (Some replica) e =
        let base = base_or_empty (made_for epoch state) in
        let taken : slice_get (slice_set state.replicas r (adopting epoch base replica)) r ≡ Some x =
        subst (λ (o : Option ReplicaState). slice_get (with_adoption epoch r (change_replica r (adopting epoch base) o state)).replicas r ≡ Some x) e got in
        let there : r < length state.replicas = slice_get_within state.replicas r replica e in
        let same : Some (adopting epoch base replica) ≡ Some x = sym (slice_get-set_same state.replicas r (adopting epoch base replica) there) ∙ taken in
        let is : adopting epoch base replica ≡ x = cc in
        ap (λ (y : ReplicaState). y.base) (sym is)
