-- The logs and the journals of a round, replayed from a state.
use Rattle.std.proofs.Common.{◌≡◌, ◌≤◌, ℕ, true, false, ◌&&◌, sym, ap, subst, ◌∙◌, arith, List, [], ◌∷◌, length, map, replicate, Option}
use Rattle.std.specs.Prelude.{nat_lt, is_some}
use Rattle.std.specs.List.{list_all}
use Rattle.std.specs.Option.{option_or}
use Rattle.std.proofs.lemmas.Bool.{and_parts}
use Rattle.std.proofs.lemmas.Bool.Decides.{nat_tests}
use Rattle.std.proofs.lemmas.List.{length-map}
use Rattle.mk_lists.specs.Among.{Each}
use Rattle.mk_quorum.specs.Sizes.{members}
use Rattle.mk_words.specs.Cells.{CellState}
use Rattle.mk_words.specs.declared.JournalEntry.{JournalEntry}
use Rattle.mk_words.specs.declared.Step.{Step}
use Rattle.mk_words.specs.declared.Step.TheVariants.{Begin, Unread, Read, Stamp as StampStep, Validate, Take, Key, Rule, Again, Takeover, Pick, Stop}
use Rattle.mk_column.specs.ColumnByCode.{ColumnView}
use Rattle.mk_history.specs.declared.RoundLog.{RoundLog}
use Rattle.mk_history.specs.Histories.{History}
use Rattle.mk_history.specs.Shape.{step_fits, replica_fits, key_fits, turn_fits}
use Rattle.mk_history.specs.Wholes.{WholeState, setting_of, columns_after_logs, cells_after_journals}
use Rattle.mk_verdict.specs.Flaws.{first_from, flaw_of_logs, flaw_of_journals, flaw_of_matches}
use Rattle.mk_whole.specs.Pairs.{each_done, first_in}
use Rattle.mk_whole.specs.Turns.{after_all_steps}
use Rattle.mk_whole.specs.Logs.{flaw_in_column, column_done}
use Rattle.mk_whole.specs.Journals.{flaw_at_replica, keys_done, AreEven}
use Rattle.mk_whole.specs.Matches.{unmatched_replica}
use Rattle.mk_whole.specs.Working.{MayWork}
use Rattle.mk_whole.proofs.PairLaws.{none-not_some, or-there}
use Rattle.mk_whole.proofs.TurnLaws.{StepWithin}
use Rattle.mk_whole.proofs.TableLaws.{table-is}
use Rattle.mk_whole.proofs.RoundLinks.{part-of_table, columns-after, log-flaws, cells-after, journal-flaws, match-flaws}

-- a step in range is at a replica and a key that there are
step-within : (run : History) (step : Step) → step_fits run step ≡ true → StepWithin (members run.faults) (length run.key_names) step
step-within run (Key call answer) e =
    let both = and_parts (replica_fits run call.replica && key_fits run call.key) (turn_fits run call.act answer) e in
    let first = and_parts (replica_fits run call.replica) (key_fits run call.key) both.0 in
    let r : nat_lt call.replica (members run.faults) ≡ true = first.0 in
    let k : nat_lt call.key (length run.key_names) ≡ true = first.1 in
    (grind (arith, nat_tests, r), grind (arith, nat_tests, k))
step-within run (Begin client replica) e = tt
step-within run (Unread client) e = tt
step-within run (Read id key) e = tt
step-within run (StampStep id clock writes) e = tt
step-within run (Validate id) e = tt
step-within run (Take number) e = tt
step-within run (Rule id) e = tt
step-within run (Again id) e = tt
step-within run (Takeover id view) e = tt
step-within run (Pick id view) e = tt
step-within run (Stop id) e = tt

steps-within : (run : History) (steps : List Step) → list_all (step_fits run) steps ≡ true → Each (StepWithin (members run.faults) (length run.key_names)) steps
steps-within run [] e = tt
steps-within run (step ∷ steps) e =
    let both = and_parts (step_fits run step) (list_all (step_fits run) steps) e in
    (step-within run step both.0, steps-within run steps both.1)

logs-within : (run : History) (logs : List (List Step)) → list_all (list_all (step_fits run)) logs ≡ true → Each (Each (StepWithin (members run.faults) (length run.key_names))) logs
logs-within run [] e = tt
logs-within run (log ∷ logs) e =
    let both = and_parts (list_all (step_fits run) log) (list_all (list_all (step_fits run)) logs) e in
    (steps-within run log both.0, logs-within run logs both.1)

module _ (run : History) (state : WholeState) (f keys : ℕ) (columns : List ColumnView) (cells : List (List CellState)) (round : RoundLog) (h : MayWork run state f keys columns cells round) where
  rows_of_state : Each (λ row. length row ≡ length run.key_names) state.cells
  rows_of_state = subst (λ (rows : List (List CellState)). Each (λ row. length row ≡ length run.key_names) rows) h.cells_are h.rows

  replicas_of_state : length state.cells ≡ members run.faults
  replicas_of_state = ap (λ (rows : List (List CellState)). length rows) (sym h.cells_are) ∙ h.replicas

  pub work-logs : first_in flaw_in_column 0 columns round.logs ≡ flaw_of_logs run state round
  work-logs = log-flaws run state round columns h.settings h.states h.count h.shape.logs

  pub work-journals : first_in flaw_at_replica 0 cells round.journals ≡ flaw_of_journals run state round
  work-journals =
      ap (λ (rows : List (List CellState)). first_in flaw_at_replica 0 rows round.journals) h.cells_are
      ∙ journal-flaws run state round replicas_of_state h.shape.journals rows_of_state h.shape.keys

  pub work-matches : first_from (unmatched_replica run.columns round.journals (after_all_steps 0 (replicate (members run.faults) (replicate (length run.key_names) [])) round.logs)) 0 (length round.journals)
      ≡ flaw_of_matches run round
  work-matches =
      match-flaws run state round replicas_of_state h.shape.journals rows_of_state h.shape.keys
      (after_all_steps 0 (replicate (members run.faults) (replicate (length run.key_names) [])) round.logs)
      (λ c r key below there within.
      table-is (members run.faults) (length run.key_names) round.logs (logs-within run round.logs h.shape.steps) c r key (omega (arith, below, h.shape.logs)) there within)

  -- the matches as they are looked for, with what is given there
  pub matches-by : (count n : ℕ) (journals turns : List (List (List JournalEntry))) → count ≡ run.columns → journals ≡ round.journals →
      turns ≡ after_all_steps 0 (replicate (members run.faults) (replicate (length run.key_names) [])) round.logs → n ≡ length journals →
      first_from (unmatched_replica count journals turns) 0 n ≡ flaw_of_matches run round
  matches-by count n journals turns of_count of_journals of_turns of_n =
      ap (λ k. first_from (unmatched_replica k journals turns) 0 n) of_count
      ∙ ap (λ (t : List (List (List JournalEntry))). first_from (unmatched_replica run.columns journals t) 0 n) of_turns
      ∙ ap (λ k. first_from (unmatched_replica run.columns journals (after_all_steps 0 (replicate (members run.faults) (replicate (length run.key_names) [])) round.logs)) 0 k) of_n
      ∙ ap (λ (j : List (List (List JournalEntry))).
      first_from (unmatched_replica run.columns j (after_all_steps 0 (replicate (members run.faults) (replicate (length run.key_names) [])) round.logs)) 0 (length j)) of_journals
      ∙ work-matches

  pub work-columns : map (λ column. column.state) (each_done column_done columns round.logs) ≡ columns_after_logs (setting_of run state) round 0 state.columns
  work-columns =
      columns-after (setting_of run state) round 0 columns round.logs (h.shape.logs ∙ sym h.count) (part-of_table round.logs []) h.settings
      ∙ ap (columns_after_logs (setting_of run state) round 0) h.states

  pub work-cells : each_done keys_done cells round.journals ≡ cells_after_journals round 0 state.cells
  work-cells =
      cells-after (length run.key_names) round 0 cells round.journals (h.shape.journals ∙ sym h.replicas) (part-of_table round.journals []) h.rows h.shape.keys
      ∙ ap (cells_after_journals round 0) h.cells_are

  pub work-even : AreEven cells round.journals
  work-even = record { keys = length run.key_names; few = h.few_keys; each = h.rows; other = h.shape.keys }

-- the first flaw of three parts, that of the first part, of the second, or of the third
module _ {T : Type 0} (a b c : Option T) where
  pub flaw-first : (flaw : Option T) → flaw ≡ a → true ≡ is_some flaw → flaw ≡ option_or a (option_or b c)
  flaw-first flaw e some = or-there flaw (option_or b c) some ∙ ap (λ o. option_or o (option_or b c)) e

  pub flaw-second : (first flaw : Option T) → first ≡ a → false ≡ is_some first → flaw ≡ b → true ≡ is_some flaw → flaw ≡ option_or a (option_or b c)
  flaw-second first flaw is none e some =
      or-there flaw c some
      ∙ ap (λ o. option_or o c) e
      ∙ ap (λ o. option_or o (option_or b c)) (sym (none-not_some first none) ∙ is)

  pub flaw-third : (first second flaw : Option T) → first ≡ a → false ≡ is_some first → second ≡ b → false ≡ is_some second → flaw ≡ c →
      flaw ≡ option_or a (option_or b c)
  flaw-third first second flaw is none is_too none_too e =
      e
      ∙ ap (λ o. option_or o c) (sym (none-not_some second none_too) ∙ is_too)
      ∙ ap (λ o. option_or o (option_or b c)) (sym (none-not_some first none) ∙ is)

-- rows that are few once each of their items is viewed are few
pub rows-few : {R E Y : Type 0} (items : R → List E) (view : E → Y) (keys : ℕ) (rows : List R) → keys ≤ 256 →
    Each (λ row. length row ≡ keys) (map (λ row. map view (items row)) rows) → Each (λ row. length (items row) ≤ 256) rows
rows-few items view keys [] few each = tt
rows-few items view keys (row ∷ rows) few each =
    (omega (arith, few, each.0, length-map (items row) view), rows-few items view keys rows few each.1)
