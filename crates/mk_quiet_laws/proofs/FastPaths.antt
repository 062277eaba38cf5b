-- What is found along the logs of a run of one round without global lines stands in its columns' logs.
use Rattle.std.proofs.Common.{◌≡◌, ◌<◌, ℕ, ◌+◌, true, refl, arith, inl, inr, subst, List, [], ◌∷◌, map, length}
use Rattle.std.proofs.lemmas.Bool.{eq-eqb}
use Rattle.mk_lists.specs.Among.{Among, Among-append}
use Rattle.mk_lists.proofs.Members.{Among-from_map}
use Rattle.mk_words.specs.declared.GlobalEntry.{GlobalEntry}
use Rattle.mk_words.specs.declared.Step.{Step}
use Rattle.mk_model.specs.ColumnState.{ColumnState, Setting}
use Rattle.mk_model.specs.Learnings.{learned_in_step}
use Rattle.mk_model.specs.Steps.{column_after}
use Rattle.mk_history.specs.declared.RoundLog.{RoundLog}
use Rattle.mk_history.specs.Histories.{History, log_of}
use Rattle.mk_history.specs.Learning.{Found, found, found_in_log, found_in_logs, found_in_globals, found_in_round, found_from, all_found}
use Rattle.mk_history.specs.Learning.Place.{InLog}
use Rattle.mk_history.specs.Wholes.{first_state, setting_of, after_logs}
use Rattle.mk_run_laws.specs.Learnt.{is_in_column}

-- the place is in the log of a column
abbrev pub IsInLogs : ℕ → Found → Type 0
IsInLogs n f = (c : ℕ) × (c < n) × (is_in_column c f.place ≡ true)

in_log : (number c entry : ℕ) (setting : Setting) (column : ColumnState) (steps : List Step) (f : Found) → Among f (found_in_log number c entry setting column steps) → is_in_column c f.place ≡ true
in_log number c entry setting column [] f a = absurd a
in_log number c entry setting column (step ∷ steps) f a =
    elim (Among-append f (map (found (InLog number c entry)) (learned_in_step setting column step)) (found_in_log number c (entry + 1) setting (column_after setting column step) steps) a) [
      | inl here ↦ (let k = Among-from_map (found (InLog number c entry)) f (learned_in_step setting column step) here in
          subst (λ (x : Found). is_in_column c x.place ≡ true) k.2 (eq-eqb c c refl))
      | inr later ↦ in_log number c (entry + 1) setting (column_after setting column step) steps f later
    ]

in_logs : (number : ℕ) (setting : Setting) (round : RoundLog) (c n : ℕ) (columns : List ColumnState) → c + length columns ≡ n → (f : Found) → Among f (found_in_logs number setting round c columns) → IsInLogs n f
in_logs number setting round c n [] e f a = absurd a
in_logs number setting round c n (column ∷ columns) e f a =
    elim (Among-append f (found_in_log number c 1 setting column (log_of round c)) (found_in_logs number setting round (c + 1) columns) a) [
      | inl here ↦ (c, omega (arith, e), in_log number c 1 setting column (log_of round c) f here)
      | inr later ↦ in_logs number setting round (c + 1) n columns (omega (arith, e)) f later
    ]

pub found_in_columns : (run : History) (round : RoundLog) → run.rounds ≡ round ∷ [] → round.globals ≡ [] → (f : Found) → Among f (all_found run) → IsInLogs (length (first_state run).columns) f
found_in_columns run round one none f a =
    let b = subst (λ (rounds : List RoundLog). Among f (found_from 1 run (first_state run) [] rounds)) one a in
    elim (Among-append f (found_in_round 1 run (first_state run) [] round) [] b) [
      | inl here ↦ elim (Among-append f (found_in_logs 1 (setting_of run (first_state run)) round 0 (first_state run).columns) (found_in_globals 1 1 run (after_logs run round (first_state run)) [] round.globals) here) [
        | inl logs ↦ in_logs 1 (setting_of run (first_state run)) round 0 (length (first_state run).columns) (first_state run).columns (omega arith) f logs
        | inr lines ↦ absurd (subst (λ (entries : List GlobalEntry). Among f (found_in_globals 1 1 run (after_logs run round (first_state run)) [] entries)) none lines)
      ]
      | inr nothing ↦ absurd nothing
    ]
