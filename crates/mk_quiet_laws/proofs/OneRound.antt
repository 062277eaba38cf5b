-- The one round of a quiet script.
use Rattle.std.proofs.Common.{◌≡◌, ◌<◌, ℕ, zero, suc, true, refl, arith, sym, ap, ◌∙◌, subst, List, [], ◌∷◌, map, length, Option, Some, None}
use Rattle.std.specs.Prelude.{replicate, slice_get, slice_index_or}
use Rattle.std.proofs.lemmas.List.{append-nil}
use Rattle.mk_words.specs.declared.Msg.{Msg}
use Rattle.mk_words.specs.Links.{message, place_of}
use Rattle.mk_quorum.specs.Sizes.{members}
use Rattle.mk_words.specs.declared.GlobalEntry.{GlobalEntry}
use Rattle.mk_script.specs.declared.lines.Round.{Round}
use Rattle.mk_script.specs.declared.lines.Fate.TheVariants.{Deliver}
use Rattle.mk_script.specs.declared.lines.FaultLine.{FaultLine}
use Rattle.mk_script.specs.declared.lines.StopLine.{StopLine}
use Rattle.mk_script.specs.Scripts.{ScriptParts}
use Rattle.mk_script.specs.Quiet.{IsQuiet}
use Rattle.mk_faults.specs.Fates.{RuleLines, rules_of, fate_at, fate_of_msg, stop_of}
use Rattle.mk_words.specs.declared.Step.{Step}
use Rattle.mk_model.specs.ColumnState.{Setting, new_column}
use Rattle.mk_model.specs.Replicas.{serves}
use Rattle.mk_model.specs.Logs.{column_through, reading_ended}
use Rattle.mk_model.specs.EpochState.{first_epochs, first_replica, views_of, view_of}
use Rattle.mk_column_laws.specs.Moments.{Event, moment_through, round_begun}
use Rattle.mk_column_laws.specs.Moments.Event.{Doing}
use Rattle.mk_history.specs.declared.RoundLog.{RoundLog}
use Rattle.mk_history.specs.Histories.{History, log_of, clients_of}
use Rattle.mk_history.specs.Wholes.{WholeState, first_state, after_round, after_logs, globals_through, state_through}
use Rattle.mk_driver.specs.Driven.{Standing, IsDriven, IsTurned, EachRoundTurned, round_at, empty_round, first_standing, setting_in, standing_begun, standing_through, standing_after}
use Rattle.mk_run_laws.specs.Ends.{last_moment}
use Rattle.mk_run_laws.specs.RunEvents.{start_of, moment_of}
use Rattle.mk_run_laws.proofs.Joined.{setting_done, column_done, now_done}
use Rattle.mk_quiet_laws.specs.QuietRounds.{QuietRunsHaveOneRound, QuietMomentsAreStandings, AllServeFirst, QuietIsUndisturbed, first_views, quiet_setting, quiet_begun, quiet_opening, quiet_moment}

-- ---- the replicas

serving : (n r : ℕ) → r < n → serves 0 (slice_get (map view_of (replicate n first_replica)) r) ≡ true
serving zero r h = absurd (omega arith)
serving (suc n) zero h = refl
serving (suc n) (suc r) h = serving n r (omega arith)

pub all_serve_first : AllServeFirst
all_serve_first script r h = serving (members script.size) r h

-- ---- the round

no_members : {X Y : Type 0} (f : X → Y) (xs : List X) → map f xs ≡ [] → xs ≡ []
no_members f [] e = refl
no_members f (x ∷ xs) e = absurd (cc e)

quiet_round : (script : ScriptParts) → IsQuiet script → (round_at script 0).globals ≡ []
quiet_round script q = ap (λ (rounds : List Round). (slice_index_or rounds 0 empty_round).globals) q.one_round

quiet_length : (script : ScriptParts) → IsQuiet script → length script.rounds ≡ 1
quiet_length script q = ap (λ (rounds : List Round). length rounds) q.one_round

the_one : (rounds : List RoundLog) → length rounds ≡ 1 → (round : RoundLog) × (rounds ≡ round ∷ [])
the_one [] e = absurd (cc e)
the_one (round ∷ []) e = (round, refl)
the_one (round ∷ (other ∷ rounds)) e = absurd (omega arith)

no_epochs : (run : History) (round : RoundLog) → round.globals ≡ [] → (state : WholeState) → (after_round run round state).epochs ≡ state.epochs
no_epochs run round e state = ap (λ (entries : List GlobalEntry). (globals_through run (after_logs run round state) entries).epochs) e

one_moment : (script : ScriptParts) (run : History) (c : ℕ) (round : RoundLog) → run.faults ≡ script.size → run.rounds ≡ round ∷ [] → last_moment run c ≡ quiet_moment script run c (log_of round c)
one_moment script run c round size rounds =
    ap (λ (rs : List RoundLog). moment_of run c rs) rounds
    ∙ ap (λ (es : List Event). moment_through (round_begun (views_of (first_epochs run.faults)) [] (start_of run c)) es) (append-nil (map Doing (log_of round c)))
    ∙ ap (λ (f : ℕ). moment_through (round_begun (views_of (first_epochs f)) [] (start_of run c)) (map Doing (log_of round c))) size

pub one_round : QuietRunsHaveOneRound
one_round script run q d =
    let only = the_one run.rounds (d.rounds ∙ quiet_length script q) in
    let turned : EachRoundTurned script run [] (first_state run) (only.0 ∷ []) = subst (λ (rs : List RoundLog). EachRoundTurned script run [] (first_state run) rs) only.1 d.turns in
    let no_lines : only.0.globals ≡ [] = no_members (λ (entry : GlobalEntry). entry.line) only.0.globals (turned.1 ∙ quiet_round script q) in
    record {
      round = only.0;
      rounds = only.1;
      no_lines = no_lines;
      turns = λ c lt. subst (λ (f : ℕ). IsTurned script (setting_in script (views_of (first_epochs f))) (standing_begun script 0 (first_standing script c)) (log_of only.0 c)) d.size (turned.0 c lt);
      ends = λ c. one_moment script run c only.0 d.size only.1;
      epochs = ap (λ (rs : List RoundLog). (state_through run (first_state run) rs).epochs) only.1 ∙ no_epochs run only.0 no_lines (first_state run);
    }

-- ---- moments and standings

standing_column : (script : ScriptParts) (round : Setting) (log : List Step) (standing : Standing) → (standing_through script round standing log).column ≡ column_through round standing.column log
standing_column script round [] standing = refl
standing_column script round (step ∷ log) standing = standing_column script round log (standing_after script round standing step)

opening_setting : (script : ScriptParts) (run : History) → IsDriven script run → (c : ℕ) → (quiet_opening script run c).round ≡ quiet_setting script
opening_setting script run d c = λ i. record { version = d.version i; faults = d.size i; keys = length (d.key_names i); views = first_views script }

opening_column : (script : ScriptParts) (run : History) → IsDriven script run → (c : ℕ) → (quiet_opening script run c).column ≡ (quiet_begun script c).column
opening_column script run d c = λ i. reading_ended (new_column (d.size i) (clients_of c 1 (d.client_columns i)))

pub moments_are_standings : QuietMomentsAreStandings
moments_are_standings script run d c log =
    record {
      setting = setting_done (quiet_opening script run c) log ∙ opening_setting script run d c;
      column = column_done (quiet_opening script run c) log
          ∙ (λ i. column_through (opening_setting script run d c i) (opening_column script run d c i) log)
          ∙ sym (standing_column script (quiet_setting script) log (quiet_begun script c));
      now = now_done (quiet_opening script run c) log;
    }

-- ---- no faults, no stops

no_fault : (rules : RuleLines) → rules.faults ≡ [] → (link : List Msg) (number : ℕ) → fate_at rules link number ≡ Deliver
no_fault rules e link number = by (message link number) (place_of link number)
  where
    by : (msg : Option Msg) (nth : Option ℕ) → fate_of_msg rules msg nth ≡ Deliver
    by (Some msg) (Some nth) = ap (λ (faults : List FaultLine). fate_of_msg (record rules { faults = faults }) (Some msg) (Some nth)) e
    by (Some msg) None = refl
    by None nth = refl

pub quiet_is_undisturbed : QuietIsUndisturbed
quiet_is_undisturbed script q =
    record {
      delivered = λ link number. no_fault (rules_of script) q.faultless link number;
      unstopped = λ id. ap (λ (stops : List StopLine). stop_of (record { faults = script.faults; stops = stops }) id) q.unstopped;
    }
