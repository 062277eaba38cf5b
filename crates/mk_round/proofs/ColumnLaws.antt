-- The state of a column: before the first round, behind its log, and where the next round begins.
use Rattle.std.proofs.Common.{◌≡◌, ◌<◌, ℕ, zero, suc, Bool, true, false, refl, arith, sym, ap, subst, ◌∙◌, List, [], ◌∷◌, ◌++◌, Some, length, cond}
use Rattle.std.specs.Prelude.{slice_get, slice_index_or}
use Rattle.mk_words.specs.declared.GlobalEntry.{GlobalEntry}
use Rattle.mk_words.specs.declared.GlobalLine.{GlobalLine}
use Rattle.mk_words.specs.declared.GlobalLine.TheVariants.{Wipe, Ask, Promise, Merge, Adopt, Enter}
use Rattle.mk_script.specs.Scripts.{ScriptParts}
use Rattle.mk_model.specs.ColumnState.{ColumnState, new_column}
use Rattle.mk_model.specs.GlobalAnswers.{is_accepted}
use Rattle.mk_model.specs.Logs.{column_through, reading_ended}
use Rattle.mk_column_laws.specs.Moments.{replicas_reset}
use Rattle.mk_history.specs.declared.RoundLog.{RoundLog}
use Rattle.mk_history.specs.Histories.{clients_of, log_of}
use Rattle.mk_history.specs.Wholes.{WholeState, first_state, setting_of, column_of, after_logs, after_round}
use Rattle.mk_run_laws.specs.RunEvents.{emptied_by, emptied_in}
use Rattle.mk_run_laws.proofs.Joined.{HasColumn, has_column, column_first, column_after_logs, column_after_round, replicas_reset-append}
use Rattle.mk_driver.specs.Driven.{client_columns_of, reset_by_line, reset_by_lines}
use Rattle.mk_round.specs.Pasts.{run_of, state_behind}
use Rattle.mk_round.specs.Stores.{column_count}
use Rattle.mk_round.proofs.PastLaws.{behind_more, columns_behind}

-- ---- what lines reset

reset_one : (line : GlobalLine) (column : ColumnState) → reset_by_line line column ≡ replicas_reset (emptied_by line) column
reset_one (Wipe r) column = refl
reset_one (Adopt epoch r) column = refl
reset_one (Ask epoch) column = refl
reset_one (Promise epoch r) column = refl
reset_one (Merge epoch) column = refl
reset_one (Enter epoch) column = refl

reset_entry : (entry : GlobalEntry) (column : ColumnState) →
    cond (is_accepted entry.answer) (reset_by_line entry.line column) column ≡ replicas_reset (cond (is_accepted entry.answer) (emptied_by entry.line) []) column
reset_entry entry column = by (is_accepted entry.answer)
  where
    by : (b : Bool) → cond b (reset_by_line entry.line column) column ≡ replicas_reset (cond b (emptied_by entry.line) []) column
    by true = reset_one entry.line column
    by false = refl

pub reset_is : (entries : List GlobalEntry) (column : ColumnState) → reset_by_lines entries column ≡ replicas_reset (emptied_in entries) column
reset_is [] column = refl
reset_is (entry ∷ entries) column =
    let emptied = cond (is_accepted entry.answer) (emptied_by entry.line) [] in
    ap (reset_by_lines entries) (reset_entry entry column)
    ∙ reset_is entries (replicas_reset emptied column)
    ∙ sym (replicas_reset-append emptied (emptied_in entries) column)

-- ---- columns by number

there : {X : Type 0} (xs : List X) (c : ℕ) (d : X) → c < length xs → slice_get xs c ≡ Some (slice_index_or xs c d)
there [] c d lt = absurd (omega (arith, lt))
there (x ∷ xs) zero d lt = refl
there (x ∷ xs) (suc c) d lt = there xs c d (omega (arith, lt))

-- the column of a number that there is
pub has_behind : (script : ScriptParts) (done : List RoundLog) (c : ℕ) → c < column_count script → HasColumn (state_behind script done) c (column_of (state_behind script done) c)
has_behind script done c lt =
    let state = state_behind script done in
    there state.columns c (new_column 0 []) (subst (λ n. c < n) (sym (columns_behind script done)) lt)

-- before the first round
pub first_column_is : (script : ScriptParts) (c : ℕ) → c < column_count script →
    column_of (state_behind script []) c ≡ new_column script.size (clients_of c 1 (client_columns_of script))
first_column_is script c lt =
    has_column (first_state (run_of script [])) c (new_column script.size (clients_of c 1 (client_columns_of script))) (column_first (run_of script []) c lt)

-- behind its log
pub column_after : (script : ScriptParts) (done : List RoundLog) (round : RoundLog) (c : ℕ) → c < column_count script →
    column_of (after_logs (run_of script []) round (state_behind script done)) c
    ≡ column_through (setting_of (run_of script []) (state_behind script done)) (column_of (state_behind script done) c) (log_of round c)
column_after script done round c lt =
    let run = run_of script [] in
    let state = state_behind script done in
    has_column (after_logs run round state) c (column_through (setting_of run state) (column_of state c) (log_of round c))
    (column_after_logs run round state c (column_of state c) (has_behind script done c lt))

-- where the next round begins, behind these lines
pub next_column : (script : ScriptParts) (done : List RoundLog) (round : RoundLog) (entries : List GlobalEntry) (c : ℕ) → c < column_count script →
    column_of (state_behind script (done ++ record round { globals = entries } ∷ [])) c
    ≡ reading_ended (reset_by_lines entries (column_of (after_logs (run_of script []) round (state_behind script done)) c))
next_column script done round entries c lt =
    let run = run_of script [] in
    let state = state_behind script done in
    let new : RoundLog = record round { globals = entries } in
    let through = column_through (setting_of run state) (column_of state c) (log_of round c) in
    ap (λ (s : WholeState). column_of s c) (behind_more script done new)
    ∙ has_column (after_round run new state) c (reading_ended (replicas_reset (emptied_in entries) through))
    (column_after_round run new state c (column_of state c) (has_behind script done c lt))
    ∙ ap reading_ended (sym (reset_is entries through))
    ∙ ap (λ (column : ColumnState). reading_ended (reset_by_lines entries column)) (sym (column_after script done round c lt))
