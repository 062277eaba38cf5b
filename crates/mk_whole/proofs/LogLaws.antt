-- A log replayed, as far as one has come.
use Rattle.std.proofs.Common.{◌≡◌, ◌<◌, ◌≤◌, ℕ, ◌+◌, true, false, sym, ap, subst, ◌∙◌, arith, List, [], ◌∷◌, ◌++◌, length, map, drop, get_or, append_assoc, Option, None, if◌then◌else◌}
use Rattle.std.specs.Prelude.{is_none, is_some}
use Rattle.std.proofs.lemmas.List.{drop_all, append-nil, length-map}
use Rattle.mk_lists.proofs.Places.{drop_read}
use Rattle.mk_words.specs.declared.JournalEntry.{JournalEntry}
use Rattle.mk_words.specs.declared.Step.{Step}
use Rattle.mk_model.specs.Conditions.{blocked, is_idle}
use Rattle.mk_model.specs.Logs.{column_through}
use Rattle.mk_model.specs.Steps.{column_after}
use Rattle.mk_column.specs.ColumnByCode.{ColumnView}
use Rattle.mk_verdict.specs.declared.Flaw.TheVariants.{Disabled, Unfinished}
use Rattle.mk_verdict.specs.declared.Place.TheVariants.{Column}
use Rattle.mk_verdict.specs.Flaws.{flaw_at, flaw_of_log}
use Rattle.mk_whole.specs.Turns.{after_step, after_steps, after_all_steps}
use Rattle.mk_whole.specs.Logs.{flaw_in_column, column_done}
use Rattle.mk_whole.proofs.PairLaws.{none-not_some, mapped-at}

pub record LogSoFar (number : ℕ) (old : ColumnView) (before : List (List (List JournalEntry))) (log : List Step) (i : ℕ) (column : ColumnView) (turns : List (List (List JournalEntry))) : Type 0 where
  pub done : column_done old log ≡ column_done column (drop i log)
  pub flaw : flaw_in_column number old log ≡ flaw_of_log column.setting column.state number (i + 1) (drop i log)
  pub kept : after_steps number before log ≡ after_steps number turns (drop i log)

-- a column that has done one more step
abbrev pub column_stepped : ColumnView → Step → ColumnView
column_stepped column step = record column { state = column_after column.setting column.state step; log = column.log ++ step ∷ [] }

-- a log done behind a step
pub done-step : (column : ColumnView) (step : Step) (steps : List Step) → column_done column (step ∷ steps) ≡ column_done (column_stepped column step) steps
done-step column step steps =
    λ k. record {
      number = column.number;
      setting = column.setting;
      state = column_through column.setting (column_after column.setting column.state step) steps;
      log = sym (append_assoc column.log (step ∷ []) steps) k;
    }

pub done-none : (column : ColumnView) → column_done column [] ≡ column
done-none column = λ k. record { number = column.number; setting = column.setting; state = column.state; log = append-nil column.log k }

module _ (number : ℕ) (old : ColumnView) (before : List (List (List JournalEntry))) (log : List Step) (i : ℕ) (column : ColumnView) (turns : List (List (List JournalEntry)))
    (h : LogSoFar number old before log i column turns) where
  module _ (step : Step) (within : i < length log) (is : step ≡ get_or log i step) where
    here : flaw_in_column number old log ≡ (if is_none (blocked column.setting column.state step) then flaw_of_log column.setting (column_after column.setting column.state step) number (i + 1 + 1) (drop (i + 1) log) else flaw_at (Column number (i + 1)) Disabled)
    here = h.flaw ∙ ap (flaw_of_log column.setting column.state number (i + 1)) (drop_read log i step within is)

    pub log-disabled : false ≡ is_none (blocked column.setting column.state step) → flaw_in_column number old log ≡ flaw_at (Column number (i + 1)) Disabled
    log-disabled e =
        here
        ∙ ap (λ b. if b then flaw_of_log column.setting (column_after column.setting column.state step) number (i + 1 + 1) (drop (i + 1) log) else flaw_at (Column number (i + 1)) Disabled) (sym e)

    pub log-more : (after : ColumnView) (later : List (List (List JournalEntry))) → true ≡ is_none (blocked column.setting column.state step) →
        after ≡ column_stepped column step → later ≡ after_step number turns step → LogSoFar number old before log (i + 1) after later
    log-more after later e after_is later_is =
        let stepped : LogSoFar number old before log (i + 1) (column_stepped column step) (after_step number turns step) =
        record {
          done = h.done ∙ ap (column_done column) (drop_read log i step within is) ∙ done-step column step (drop (i + 1) log);
          flaw =
              here
              ∙ ap (λ b. if b then flaw_of_log column.setting (column_after column.setting column.state step) number (i + 1 + 1) (drop (i + 1) log) else flaw_at (Column number (i + 1)) Disabled) (sym e);
          kept = h.kept ∙ ap (after_steps number turns) (drop_read log i step within is);
        } in
        subst (λ (a : ColumnView). LogSoFar number old before log (i + 1) a later) (sym after_is)
        (subst (λ (t : List (List (List JournalEntry))). LogSoFar number old before log (i + 1) (column_stepped column step) t) (sym later_is) stepped)

  module _ (over : length log ≤ i) where
    pub log-done : column ≡ column_done old log
    log-done = sym (h.done ∙ ap (column_done column) (drop_all i log over) ∙ done-none column)

    pub log-kept : turns ≡ after_steps number before log
    log-kept = sym (h.kept ∙ ap (after_steps number turns) (drop_all i log over))

    pub log-end : flaw_in_column number old log ≡ (if is_idle column.state.work then None else flaw_at (Column number (i + 1)) Unfinished)
    log-end = h.flaw ∙ ap (flaw_of_log column.setting column.state number (i + 1)) (drop_all i log over)

-- the key steps of one log more are kept
pub turns-on : {W Z : Type 0} (item : W → List Step) (before : List (List (List JournalEntry))) (logs : List W) (i : ℕ) (turns later : List (List (List JournalEntry))) (log d : W) (o : Option Z) →
    false ≡ is_some o → i < length logs → log ≡ get_or logs i d →
    after_all_steps 0 before (map item logs) ≡ after_all_steps i turns (drop i (map item logs)) → (o ≡ None → later ≡ after_steps i turns (item log)) →
    after_all_steps 0 before (map item logs) ≡ after_all_steps (i + 1) later (drop (i + 1) (map item logs))
turns-on item before logs i turns later log d o none within is so_far after =
    so_far
    ∙ ap (after_all_steps i turns) (drop_read (map item logs) i (item log) (omega (arith, length-map logs item, within)) (sym (mapped-at item logs i log d (item log) within is)))
    ∙ ap (λ (table : List (List (List JournalEntry))). after_all_steps (i + 1) table (drop (i + 1) (map item logs))) (sym (after (none-not_some o none)))
