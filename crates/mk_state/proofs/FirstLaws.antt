-- What is kept before the first round is the state there.
use Rattle.std.proofs.Common.{◌≡◌, ℕ, zero, suc, ◌+◌, refl, sym, ap, subst, ◌∙◌, List, [], ◌∷◌, length, map, replicate}
use Rattle.std.proofs.lemmas.List.{length-map, length-replicate}
use Rattle.mk_lists.specs.Among.{Each}
use Rattle.mk_quorum.specs.Sizes.{members}
use Rattle.mk_words.specs.Bases.{BaseState}
use Rattle.mk_words.specs.Cells.{CellState, first_cell}
use Rattle.mk_model.specs.ColumnState.{ColumnState, new_column, numbers_from}
use Rattle.mk_model.specs.EpochState.{first_epochs, first_replica}
use Rattle.mk_model.specs.Logs.{reading_ended}
use Rattle.mk_column.specs.ColumnByCode.{ColumnView}
use Rattle.mk_epoch.specs.Standing.{StandsFor}
use Rattle.mk_history.specs.declared.RoundLog.{RoundLog}
use Rattle.mk_history.specs.Histories.{clients_of}
use Rattle.mk_history.specs.Wholes.{first_state}
use Rattle.mk_kept.specs.declared.head.Head.{Head}
use Rattle.mk_kept.specs.Heads.{history}
use Rattle.mk_state.specs.Handing.{states_in, numbers_in}
use Rattle.mk_state.specs.Starting.{first_column}
use Rattle.mk_state.specs.Standings.{WholeView, IsOfRun, HasSizes, IsAt}

numbers_length : (k n : ℕ) → length (numbers_from k n) ≡ n
numbers_length k zero = refl
numbers_length k (suc n) = ap suc (numbers_length (k + 1) n)

rows_even : {X : Type 0} (x : X) (n keys : ℕ) → Each (λ row. length row ≡ keys) (replicate n (replicate keys x))
rows_even x zero keys = tt
rows_even x (suc n) keys = (length-replicate keys x, rows_even x n keys)

numbers_first : (f : ℕ) (client_columns : List ℕ) (keys version : ℕ) (ns : List ℕ) → numbers_in (map (first_column f client_columns keys version) ns) ≡ ns
numbers_first f client_columns keys version [] = refl
numbers_first f client_columns keys version (c ∷ ns) = ap (λ (rest : List ℕ). c ∷ rest) (numbers_first f client_columns keys version ns)

states_first : (f : ℕ) (client_columns : List ℕ) (keys version : ℕ) (ns : List ℕ) →
    map reading_ended (states_in (map (first_column f client_columns keys version) ns)) ≡ map (λ c. new_column f (clients_of c 1 client_columns)) ns
states_first f client_columns keys version [] = refl
states_first f client_columns keys version (c ∷ ns) =
    ap (λ (columns : List ColumnState). new_column f (clients_of c 1 client_columns) ∷ columns) (states_first f client_columns keys version ns)

module _ (head : Head) (rounds : List RoundLog) where
  each_first : (ns : List ℕ) →
      Each (IsOfRun (history head rounds)) (map (first_column head.size head.client_columns (length head.key_names.names) head.version) ns)
  each_first [] = tt
  each_first (c ∷ ns) = (record { version = refl; faults = refl; keys = refl; idle = refl }, each_first ns)

  module _ {B : Type 0} (stands : B → BaseState → Type 0) (whole : WholeView B) (faults : whole.faults ≡ head.size) (keys : whole.keys ≡ length head.key_names.names)
      (columns : whole.columns ≡ map (first_column head.size head.client_columns (length head.key_names.names) head.version) (numbers_from 0 head.columns))
      (cells : whole.cells ≡ replicate (members head.size) (replicate (length head.key_names.names) first_cell))
      (changes : whole.epochs.faults ≡ head.size) (epochs : StandsFor stands whole.epochs (first_epochs head.size)) where
    sizes_first : HasSizes (history head rounds) whole
    sizes_first =
        record {
          faults = faults;
          keys = keys;
          changes = changes;
          columns =
              ap (λ (cs : List ColumnView). length cs) columns
              ∙ length-map (numbers_from 0 head.columns) (first_column head.size head.client_columns (length head.key_names.names) head.version)
              ∙ numbers_length 0 head.columns;
          numbers = ap numbers_in columns ∙ numbers_first head.size head.client_columns (length head.key_names.names) head.version (numbers_from 0 head.columns);
          each = subst (λ (cs : List ColumnView). Each (IsOfRun (history head rounds)) cs) (sym columns) (each_first (numbers_from 0 head.columns));
          replicas =
              ap (λ (rows : List (List CellState)). length rows) cells
              ∙ length-replicate (members head.size) (replicate (length head.key_names.names) first_cell);
          rows =
              subst (λ (rows : List (List CellState)). Each (λ row. length row ≡ length head.key_names.names) rows) (sym cells)
              (rows_even first_cell (members head.size) (length head.key_names.names));
        }

    pub first-at : IsAt stands (history head rounds) whole (first_state (history head rounds))
    first-at =
        record {
          sizes = sizes_first;
          columns =
              ap (λ (cs : List ColumnView). map reading_ended (states_in cs)) columns
              ∙ states_first head.size head.client_columns (length head.key_names.names) head.version (numbers_from 0 head.columns);
          cells = cells;
          epochs = epochs;
          count = length-replicate (members head.size) first_replica;
        }
