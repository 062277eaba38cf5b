-- A driver between two rounds: before the first, and behind one that is at its end.
use Rattle.std.proofs.Common.{◌≡◌, ◌<◌, ℕ, ◌+◌, refl, sym, ap, subst, ◌∙◌, List, [], ◌∷◌, ◌++◌, Some, length, map}
use Rattle.std.specs.Prelude.{slice_get, IsSome}
use Rattle.mk_trim.specs.declared.ReplicaView.{ReplicaView}
use Rattle.mk_words.specs.declared.GlobalEntry.{GlobalEntry}
use Rattle.mk_words.specs.declared.Step.{Step}
use Rattle.mk_script.specs.Scripts.{ScriptParts}
use Rattle.mk_model.specs.ColumnState.{ColumnState}
use Rattle.mk_model.specs.Logs.{reading_ended}
use Rattle.mk_column.specs.ColumnByCode.{ColumnView}
use Rattle.mk_history.specs.declared.RoundLog.{RoundLog}
use Rattle.mk_history.specs.Histories.{log_of}
use Rattle.mk_driver.specs.declared.RoundLines.{RoundLines}
use Rattle.mk_driver.specs.Drivers.{DriverView, after_lines}
use Rattle.mk_driver.specs.Driven.{PastRound, lines_of_round, reset_by_lines}
use Rattle.mk_driver.specs.Standings.{Stands, IsFirst, IsNextRound, driver_of}
use Rattle.mk_driver_laws.specs.Enabled.{HasCome, HasComeAtFirst, HasComeAfterRound}
use Rattle.mk_round.specs.Pasts.{views_behind, past_of}
use Rattle.mk_round.specs.Turning.{driver_begun, IsNext, IsOver}
use Rattle.mk_round.specs.Stores.{column_count}
use Rattle.mk_round.proofs.PastLaws.{past_more, past_length, length_more}
use Rattle.mk_round.proofs.ColumnLaws.{first_column_is, next_column}

-- what the laws of drivers say
abbrev pub StandAtFirst : Type 0
StandAtFirst =
    (script : ScriptParts) (views : List ReplicaView) (driver : DriverView) (column : ColumnView) (number : ℕ) →
    IsFirst script number views driver column → Stands script driver column [] views []

abbrev pub LinesAreLeft : Type 0
LinesAreLeft =
    (script : ScriptParts) (rounds : List PastRound) (views : List ReplicaView) (log : List Step) (driver : DriverView) (column : ColumnView) →
    Stands script driver column rounds views log → length rounds + 1 < length script.rounds → IsSome (slice_get driver.rounds 0)

abbrev pub StandAfterRound : Type 0
StandAfterRound =
    (script : ScriptParts) (rounds : List PastRound) (past : PastRound) (views : List ReplicaView) (driver new_driver : DriverView) (column new_column : ColumnView) →
    Stands script driver column rounds past.views (log_of past.round driver.column) → IsNextRound script past views driver new_driver column new_column →
    Stands script new_driver new_column (rounds ++ past ∷ []) views []

-- a list whose first is known
first_of : (rounds : List RoundLines) (lines : RoundLines) → slice_get rounds 0 ≡ Some lines → rounds ≡ lines ∷ after_lines rounds
first_of [] lines e = absurd (cc e)
first_of (first ∷ rest) lines e = let same : first ≡ lines = cc e in ap (λ (x : RoundLines). x ∷ rest) same

-- before the first round
pub next_first : StandAtFirst → HasComeAtFirst → (script : ScriptParts) (c : ℕ) → c < column_count script →
    (0 < length script.rounds → IsSome (slice_get (map (lines_of_round script) script.rounds) 0)) → IsNext script [] c (driver_of script c)
next_first stands_law come_law script c lt left =
    record {
      column = refl;
      round = refl;
      left = left;
      stands = λ views lines column at number setting state. stands_law script views (driver_begun lines (driver_of script c)) column c record {
        lines = lines;
        rest = after_lines (map (lines_of_round script) script.rounds);
        rounds = first_of (map (lines_of_round script) script.rounds) lines at;
        driver_is = refl;
        number_is = number;
        setting = setting;
        state = state ∙ first_column_is script c lt;
      };
      come = λ views. come_law script c views;
    }

module _ (left_law : LinesAreLeft) (round_law : StandAfterRound) (come_law : HasComeAfterRound) where
  -- behind a round at its end
  pub next_behind : (script : ScriptParts) (done : List RoundLog) (round : RoundLog) (entries : List GlobalEntry) (c : ℕ) (driver : DriverView) → c < column_count script →
      IsOver script done round c driver → IsNext script (done ++ record round { globals = entries } ∷ []) c driver
  next_behind script done round entries c driver lt over =
      let new : RoundLog = record round { globals = entries } in
      let views = views_behind script done in
      let past : PastRound = record { views = views; round = new } in
      let own : driver.column ≡ c = sym over.stands.number ∙ over.number in
      let stands : Stands script driver over.column (past_of script done) views (log_of new driver.column) =
      subst (λ k. Stands script driver over.column (past_of script done) views (log_of round k)) (sym own) over.stands in
      let long = length_more done new in
      let longer = past_length script done in
      record {
        column = own;
        round = over.stands.round ∙ ap (λ n. n + 1) longer ∙ sym long;
        left = λ more. left_law script (past_of script done) views (log_of round c) driver over.column over.stands
            (subst (λ n. n < length script.rounds) (long ∙ ap (λ n. n + 1) (sym longer)) more);
        stands = λ next lines column at number setting state.
            subst (λ rounds. Stands script (driver_begun lines driver) column rounds next []) (sym (past_more script done new))
            (round_law script (past_of script done) past next driver (driver_begun lines driver) over.column column stands record {
              over = over.over;
              lines = lines;
              rest = after_lines driver.rounds;
              rounds = first_of driver.rounds lines at;
              driver_is = refl;
              number = number ∙ sym over.number;
              setting = setting;
              state = state ∙ next_column script done round entries c lt
                  ∙ ap (λ (x : ColumnState). reading_ended (reset_by_lines entries x)) (sym over.state);
            });
        come = λ next. subst (λ rounds. HasCome script c rounds next []) (sym (past_more script done new))
            (come_law script c (past_of script done) past next over.come over.turn_is);
      }
