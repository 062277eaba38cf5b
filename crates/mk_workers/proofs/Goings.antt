-- How a column's steps go on, one after another, to the end of its round.
use Rattle.std.proofs.Common.{◌≡◌, ◌∙◌, List, [], ◌∷◌, ◌++◌, None, refl, sym, ap, subst}
use Rattle.std.proofs.lemmas.List.{append-nil, append_assoc}
use Rattle.mk_trim.specs.declared.ReplicaView.{ReplicaView}
use Rattle.mk_words.specs.declared.Step.{Step}
use Rattle.mk_script.specs.Scripts.{ScriptParts}
use Rattle.mk_faults.specs.Fates.{RuleLines}
use Rattle.mk_model.specs.ColumnState.{Setting, ColumnState}
use Rattle.mk_model.specs.Conditions.{blocked}
use Rattle.mk_model.specs.Steps.{column_after}
use Rattle.mk_model.specs.Logs.{EachEnabled, column_through}
use Rattle.mk_column.specs.ColumnByCode.{ColumnView}
use Rattle.mk_driver.specs.declared.Next.TheVariants.{Over}
use Rattle.mk_driver.specs.Driven.{Standing, PastRound, IsNamed, IsTurned, first_standing, next_at, setting_in, standing_after, standing_past, standing_through, turn}
use Rattle.mk_driver.specs.Drivers.{DriverView}
use Rattle.mk_workers.specs.Going.{AreNamed, HasGone, HasEnded, HasStepped, IsOver, stood_at}

through_more : (round : Setting) (column : ColumnState) (log : List Step) (step : Step) → column_through round column (log ++ step ∷ []) ≡ column_after round (column_through round column log) step
through_more round column [] step = refl
through_more round column (first ∷ log) step = through_more round (column_after round column first) log step

enabled_more : (round : Setting) (column : ColumnState) (log : List Step) (step : Step) → EachEnabled round column log → blocked round (column_through round column log) step ≡ None →
    EachEnabled round column (log ++ step ∷ [])
enabled_more round column [] step all now = (now, tt)
enabled_more round column (first ∷ log) step all now = (all.0, enabled_more round (column_after round column first) log step all.1 now)

named_more : (script : ScriptParts) (round : Setting) (standing : Standing) (log : List Step) (step : Step) → AreNamed script round standing log →
    IsNamed (next_at script round (standing_through script round standing log)) step → AreNamed script round standing (log ++ step ∷ [])
named_more script round standing [] step all now = (now, tt)
named_more script round standing (first ∷ log) step all now = (all.0, named_more script round (standing_after script round standing first) log step all.1 now)

named_end : (script : ScriptParts) (round : Setting) (standing : Standing) (log : List Step) → AreNamed script round standing log →
    next_at script round (standing_through script round standing log) ≡ Over → IsTurned script round standing log
named_end script round standing [] all over = over
named_end script round standing (first ∷ log) all over = (all.0, named_end script round (standing_after script round standing first) log all.1 over)

-- a log and what comes after it
pub standing-append : (script : ScriptParts) (round : Setting) (standing : Standing) (log more : List Step) →
    standing_through script round standing (log ++ more) ≡ standing_through script round (standing_through script round standing log) more
standing-append script round standing [] more = refl
standing-append script round standing (first ∷ log) more = standing-append script round (standing_after script round standing first) log more

-- what is named after the longer log, from where the column stood
turn_later : (script : ScriptParts) (driver : DriverView) (column : ColumnView) (rounds : List PastRound) (views : List ReplicaView) (log more : List Step) → log ≡ column.log ++ more →
    turn script driver.column rounds views log ≡ next_at script (setting_in script views) (standing_through script (setting_in script views) (stood_at driver column script rounds views) more)
turn_later script driver column rounds views log more is =
    let round = setting_in script views in
    let begun = standing_past script driver.column 0 (first_standing script driver.column) rounds in
    ap (λ steps. next_at script round (standing_through script round begun steps)) is ∙ ap (next_at script round) (standing-append script round begun column.log more)

-- nothing was done yet
pub gone_first : (rules : RuleLines) (driver : DriverView) (column : ColumnView) → HasGone rules driver driver column column []
gone_first rules driver column =
    record {
      log = sym (append-nil column.log);
      enabled = tt;
      state = refl;
      same = record { number = refl; setting = refl; driver_is = refl };
      named = λ script rounds views is stands. tt;
      stands = λ script rounds views is stands. stands;
    }

module _ (rules : RuleLines) (first driver next : DriverView) (start column after : ColumnView) (more : List Step) where
  -- and a step more
  pub gone_more : HasGone rules first driver start column more → (stepped : HasStepped rules driver next column after) → HasGone rules first next start after (more ++ stepped.step ∷ [])
  gone_more gone stepped =
      let done = stepped.done in
      let blocked_then : blocked start.setting (column_through start.setting start.state more) stepped.step ≡ None =
      subst (λ (z : Setting × ColumnState). blocked z.0 z.1 stepped.step ≡ None) (λ i. (gone.same.setting i, gone.state i)) done.enabled in
      record {
        log = ap (λ (c : ColumnView). c.log) done.after ∙ (ap (λ log. log ++ stepped.step ∷ []) gone.log ∙ append_assoc start.log more (stepped.step ∷ []));
        enabled = enabled_more start.setting start.state more stepped.step gone.enabled blocked_then;
        state = ap (λ (c : ColumnView). c.state) done.after
            ∙ ((λ i. column_after (gone.same.setting i) (gone.state i) stepped.step) ∙ sym (through_more start.setting start.state more stepped.step));
        same = record {
          number = ap (λ (c : ColumnView). c.number) done.after ∙ gone.same.number;
          setting = ap (λ (c : ColumnView). c.setting) done.after ∙ gone.same.setting;
          driver_is = stepped.driver_is ∙ ap (λ (d : DriverView). record d { driver = next.driver }) gone.same.driver_is;
        };
        named = λ script rounds views is stands.
            let stood = gone.stands script rounds views is stands in
            let named = stepped.named script rounds views is stood in
            let column_is = ap (λ (d : DriverView). d.column) gone.same.driver_is in
            let named_here : IsNamed (turn script first.column rounds views column.log) stepped.step =
            subst (λ c. IsNamed (turn script c rounds views column.log) stepped.step) column_is named in
            named_more script (setting_in script views) (stood_at first start script rounds views) more stepped.step (gone.named script rounds views is stands)
            (subst (λ n. IsNamed n stepped.step) (turn_later script first start rounds views column.log more gone.log) named_here);
        stands = λ script rounds views is stands. stepped.stands script rounds views is (gone.stands script rounds views is stands);
      }

  -- and nothing more
  pub gone_to_end : HasGone rules first driver start column more → IsOver rules driver next column → HasEnded rules first next start column
  gone_to_end gone over =
      record {
        more = more;
        log = gone.log;
        replays = record { enabled = gone.enabled; finished = ap (λ (c : ColumnState). c.work) (sym gone.state) ∙ over.idle };
        state = gone.state;
        same = record {
          number = gone.same.number;
          setting = gone.same.setting;
          driver_is = over.driver_is ∙ ap (λ (d : DriverView). record d { driver = next.driver }) gone.same.driver_is;
        };
        over = over.again;
        turned = λ script rounds views is stands.
            let stood = gone.stands script rounds views is stands in
            let column_is = ap (λ (d : DriverView). d.column) gone.same.driver_is in
            let over_here : turn script first.column rounds views column.log ≡ Over = subst (λ c. turn script c rounds views column.log ≡ Over) column_is (over.over script rounds views is stood) in
            named_end script (setting_in script views) (stood_at first start script rounds views) more (gone.named script rounds views is stands)
            (sym (turn_later script first start rounds views column.log more gone.log) ∙ over_here);
        stands = λ script rounds views is stands. over.stands script rounds views is (gone.stands script rounds views is stands);
      }
