-- The lines that are made of columns as they are kept are those of the run's state.
use Rattle.std.proofs.Common.{◌≡◌, ◌∙◌, ◌+◌, ℕ, zero, suc, refl, sym, ap, List, [], ◌∷◌, ◌++◌, Option, Some, None, map}
use Rattle.std.specs.Prelude.{option_map}
use Rattle.mk_lists.specs.Among.{Each}
use Rattle.mk_lists.proofs.Lookups.{find-map}
use Rattle.mk_txn.specs.declared.TxnId.{TxnId}
use Rattle.mk_txn.specs.declared.Outcome.{Outcome}
use Rattle.mk_model.specs.ColumnState.{ColumnState, AttemptState, is_attempt, attempt_of}
use Rattle.mk_model.specs.Logs.{not_reading, reading_ended}
use Rattle.mk_column.specs.ColumnByCode.{ColumnView}
use Rattle.mk_history.specs.declared.Path.{Path}
use Rattle.mk_history.specs.Histories.{History}
use Rattle.mk_history.specs.Learning.{all_found}
use Rattle.mk_history.specs.Wholes.{last_state}
use Rattle.mk_run.specs.declared.firsts.FirstLearning.{FirstLearning}
use Rattle.mk_run.specs.declared.line.AttemptLine.{AttemptLine}
use Rattle.mk_run.specs.Attempts.{line_of, with_line, lines_from, begun_by, column_at, lines_of_clients, outcomes_of}
use Rattle.mk_run.specs.Firsts.{StandsForFound}
use Rattle.mk_run.specs.Lines.{first_told, lines_of_client, lines_of_views, view_at}
use Rattle.mk_run.proofs.FoundLaws.{told-first}

-- a column's state
abbrev state_in : ColumnView → ColumnState
state_in column = column.state

-- the lines of a client by the column of this number, for so many faults
abbrev client_lines : ℕ → (TxnId → Option (Outcome × Path)) → List ColumnState → ℕ → ℕ → List AttemptLine
client_lines f first columns client c = lines_from f first (column_at columns c) client 1 (begun_by (column_at columns c) client)

views-client : (f : ℕ) (firsts : List FirstLearning) (columns : List ColumnView) (client c : ℕ) → Each (λ column. column.setting.faults ≡ f) columns →
    lines_of_client firsts (view_at columns c) client ≡ client_lines f (first_told firsts) (map state_in columns) client c
views-client f firsts [] client c h = refl
views-client f firsts (column ∷ columns) client zero h =
    ap (λ (n : ℕ). lines_from n (first_told firsts) column.state client 1 (begun_by column.state client)) h.0
views-client f firsts (column ∷ columns) client (suc c) h = views-client f firsts columns client c h.1

views-clients : (f : ℕ) (firsts : List FirstLearning) (columns : List ColumnView) (client : ℕ) (numbers : List ℕ) → Each (λ column. column.setting.faults ≡ f) columns →
    lines_of_views firsts columns client numbers ≡ lines_of_clients f (first_told firsts) (map state_in columns) client numbers
views-clients f firsts columns client [] h = refl
views-clients f firsts columns client (c ∷ numbers) h =
    let here = views-client f firsts columns client c h in
    let rest = views-clients f firsts columns (client + 1) numbers h in
    λ i. here i ++ rest i

-- the end of reading changes no line
ended-attempt : (column : ColumnState) (id : TxnId) → attempt_of (reading_ended column) id ≡ option_map not_reading (attempt_of column id)
ended-attempt column id = find-map (is_attempt id) not_reading column.attempts

ended-line : (f : ℕ) (first : TxnId → Option (Outcome × Path)) (column : ColumnState) (id : TxnId) →
    option_map (line_of f first (reading_ended column)) (attempt_of (reading_ended column) id) ≡ option_map (line_of f first column) (attempt_of column id)
ended-line f first column id = ap (option_map (line_of f first (reading_ended column))) (ended-attempt column id) ∙ by_attempt (attempt_of column id)
  where
    by_attempt : (o : Option AttemptState) → option_map (line_of f first (reading_ended column)) (option_map not_reading o) ≡ option_map (line_of f first column) o
    by_attempt None = refl
    by_attempt (Some a) = refl

ended-lines : (f : ℕ) (first : TxnId → Option (Outcome × Path)) (column : ColumnState) (client seq n : ℕ) →
    lines_from f first (reading_ended column) client seq n ≡ lines_from f first column client seq n
ended-lines f first column client seq zero = refl
ended-lines f first column client seq (suc n) =
    let here = ended-line f first column (record { client = client; seq = seq }) in
    let rest = ended-lines f first column client (seq + 1) n in
    λ i. with_line (here i) (rest i)

ended-client : (f : ℕ) (first : TxnId → Option (Outcome × Path)) (columns : List ColumnState) (client c : ℕ) →
    client_lines f first (map reading_ended columns) client c ≡ client_lines f first columns client c
ended-client f first [] client c = refl
ended-client f first (column ∷ columns) client zero = ended-lines f first column client 1 (begun_by column client)
ended-client f first (column ∷ columns) client (suc c) = ended-client f first columns client c

ended-clients : (f : ℕ) (first : TxnId → Option (Outcome × Path)) (columns : List ColumnState) (client : ℕ) (numbers : List ℕ) →
    lines_of_clients f first (map reading_ended columns) client numbers ≡ lines_of_clients f first columns client numbers
ended-clients f first columns client [] = refl
ended-clients f first columns client (c ∷ numbers) =
    let here = ended-client f first columns client c in
    let rest = ended-clients f first columns (client + 1) numbers in
    λ i. here i ++ rest i

-- what is made of columns that the run leaves, and of all that is found in it, is how its attempts ended
pub lines-are_outcomes : (run : History) (firsts : List FirstLearning) (columns : List ColumnView) → Each (λ column. column.setting.faults ≡ run.faults) columns →
    map reading_ended (map state_in columns) ≡ (last_state run).columns → StandsForFound firsts (all_found run) →
    lines_of_views firsts columns 1 run.client_columns ≡ outcomes_of run
lines-are_outcomes run firsts columns h ended stands =
    views-clients run.faults firsts columns 1 run.client_columns h
    ∙ sym (ended-clients run.faults (first_told firsts) (map state_in columns) 1 run.client_columns)
    ∙ ap (λ (states : List ColumnState). lines_of_clients run.faults (first_told firsts) states 1 run.client_columns) ended
    ∙ (λ i. lines_of_clients run.faults (λ id. told-first run firsts stands id i) (last_state run).columns 1 run.client_columns)
