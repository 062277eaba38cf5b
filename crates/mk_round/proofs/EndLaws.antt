-- One column with its driver at the end of a round.
use Rattle.std.proofs.Common.{◌≡◌, ◌<◌, ℕ, refl, sym, ap, subst, ◌∙◌, List, [], ◌++◌}
use Rattle.mk_script.specs.Scripts.{ScriptParts}
use Rattle.mk_faults.specs.Fates.{rules_of}
use Rattle.mk_words.specs.declared.Step.{Step}
use Rattle.mk_model.specs.ColumnState.{ColumnState, Setting}
use Rattle.mk_model.specs.ColumnState.Work.{Idle}
use Rattle.mk_model.specs.Logs.{EachEnabled, LogReplays, column_through}
use Rattle.mk_column.specs.ColumnByCode.{ColumnView}
use Rattle.mk_history.specs.declared.RoundLog.{RoundLog}
use Rattle.mk_history.specs.Histories.{log_of}
use Rattle.mk_history.specs.Wholes.{column_of}
use Rattle.mk_driver.specs.Drivers.{DriverView}
use Rattle.mk_driver.specs.Driven.{PastRound, Standing, IsTurned, setting_in, standing_at}
use Rattle.mk_driver.specs.Standings.{Stands}
use Rattle.mk_workers.specs.Going.{HasEnded, stood_at}
use Rattle.mk_round.specs.Pasts.{state_behind, views_behind, past_of}
use Rattle.mk_round.specs.Turning.{IsOver}
use Rattle.mk_round.specs.Stores.{column_count}
use Rattle.mk_round.specs.Begun.{IsReady}
use Rattle.mk_round.proofs.ColumnLaws.{column_after}
use Rattle.mk_round.proofs.DoneLaws.{done_by, over_at_end}

-- a column and its driver in a round that has begun, and as they ended, with this log
pub record Ends (script : ScriptParts) (done : List RoundLog) (c : ℕ) (log : List Step) (driver new_driver : DriverView) (column new_column : ColumnView) : Type 0 where
  pub number : column.number ≡ c
  pub setting : column.setting ≡ setting_in script (views_behind script done)
  pub state : column.state ≡ column_of (state_behind script done) c
  pub fresh : column.log ≡ []
  pub ready : IsReady script done c driver
  pub ended : HasEnded (rules_of script) driver new_driver column new_column
  pub log_is : new_column.log ≡ log

module _ (script : ScriptParts) (done : List RoundLog) (c : ℕ) (log : List Step) (driver new_driver : DriverView) (column new_column : ColumnView)
    (e : Ends script done c log driver new_driver column new_column) where
  abbrev pub setting : Setting
  setting = setting_in script (views_behind script done)

  abbrev pub past : List PastRound
  past = past_of script done

  abbrev pub before : ColumnState
  before = column_of (state_behind script done) c

  more_is : e.ended.more ≡ log
  more_is = ap (λ (l : List Step). l ++ e.ended.more) (sym e.fresh) ∙ sym e.ended.log ∙ e.log_is

  stands_first : Stands script driver column past (views_behind script done) column.log
  stands_first = subst (Stands script driver column past (views_behind script done)) (sym e.fresh) (e.ready.stands column e.number e.setting e.state)

  stood : stood_at driver column script past (views_behind script done) ≡ standing_at script c past (views_behind script done) []
  stood =
      ap (λ k. standing_at script k past (views_behind script done) column.log) e.ready.column
      ∙ ap (standing_at script c past (views_behind script done)) e.fresh

  pub ends_turned : IsTurned script setting (standing_at script c past (views_behind script done) []) log
  ends_turned =
      subst (IsTurned script setting (standing_at script c past (views_behind script done) [])) more_is
      (subst (λ s. IsTurned script setting s e.ended.more) stood (e.ended.turned script past (views_behind script done) refl stands_first))

  standing_column : before ≡ (standing_at script c past (views_behind script done) []).column
  standing_column = sym e.state ∙ stands_first.state ∙ ap (λ (s : Standing). s.column) stood

  pub ends_replays : LogReplays setting before log
  ends_replays =
      subst (LogReplays setting before) more_is
      (subst (λ s. LogReplays setting s e.ended.more) e.state (subst (λ s. LogReplays s column.state e.ended.more) e.setting e.ended.replays))

  pub ends_state : new_column.state ≡ column_through setting before log
  ends_state =
      e.ended.state
      ∙ ap (λ s. column_through s column.state e.ended.more) e.setting
      ∙ ap (λ s. column_through setting s e.ended.more) e.state
      ∙ ap (column_through setting before) more_is

  pub ends_idle : new_column.state.work ≡ Idle
  ends_idle = ap (λ (s : ColumnState). s.work) ends_state ∙ ends_replays.finished

  pub ends_setting : new_column.setting ≡ setting
  ends_setting = e.ended.same.setting ∙ e.setting

  pub ends_number : new_column.number ≡ c
  ends_number = e.ended.same.number ∙ e.number

  stands_last : Stands script new_driver new_column past (views_behind script done) log
  stands_last = subst (Stands script new_driver new_column past (views_behind script done)) e.log_is (e.ended.stands script past (views_behind script done) refl stands_first)

-- so the driver is at its end
pub ends_over : (script : ScriptParts) (done : List RoundLog) (round : RoundLog) (c : ℕ) (driver new_driver : DriverView) (column new_column : ColumnView) → c < column_count script →
    Ends script done c (log_of round c) driver new_driver column new_column → IsOver script done round c new_driver
ends_over script done round c driver new_driver column new_column lt e =
    let log = log_of round c in
    let setting = setting_in script (views_behind script done) in
    let standing = standing_at script c (past_of script done) (views_behind script done) [] in
    let turned = ends_turned script done c log driver new_driver column new_column e in
    let replays = ends_replays script done c log driver new_driver column new_column e in
    record {
      column = new_column;
      number = ends_number script done c log driver new_driver column new_column e;
      setting = ends_setting script done c log driver new_driver column new_column e;
      state = ends_state script done c log driver new_driver column new_column e ∙ sym (column_after script done round c lt);
      stands = stands_last script done c log driver new_driver column new_column e;
      over = e.ended.over;
      come = record {
        past = e.ready.come.past;
        done = done_by script setting standing log turned
            (subst (λ s. EachEnabled setting s log) (standing_column script done c log driver new_driver column new_column e) replays.enabled);
      };
      turn_is = over_at_end script setting standing log turned;
    }
