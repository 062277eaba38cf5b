-- One step of a column, as its driver named it, and what stays of its script.
use Rattle.std.proofs.Common.{◌≡◌, ◌∙◌, ℕ, ◌<◌, List, [], ◌∷◌, ◌++◌, None, Option, Some, sym, ap, subst}
use Rattle.mk_quorum.specs.Slots.{passes}
use Rattle.mk_trim.specs.declared.ReplicaView.{ReplicaView}
use Rattle.mk_words.specs.declared.KeyCall.{KeyCall}
use Rattle.mk_words.specs.Acts.{answer_fits}
use Rattle.mk_words.specs.declared.Step.{Step}
use Rattle.mk_words.specs.declared.Step.TheVariants.{Begin, Unread, Read, Stamp, Validate, Take, Key, Rule, Again, Takeover, Pick, Stop}
use Rattle.mk_script.specs.Scripts.{ScriptParts}
use Rattle.mk_faults.specs.Fates.{RuleLines}
use Rattle.mk_model.specs.ColumnState.{Setting, ColumnState}
use Rattle.mk_model.specs.Conditions.{blocked, wanted, first_failing, same_call}
use Rattle.mk_column.specs.ColumnByCode.{ColumnView}
use Rattle.mk_driver.specs.declared.Next.{Next}
use Rattle.mk_driver.specs.declared.Next.TheVariants.{Over}
use Rattle.mk_driver.specs.Turns.{choice}
use Rattle.mk_driver.specs.Driven.{PastRound, IsNamed, turn}
use Rattle.mk_driver.specs.Drivers.{DriverView}
use Rattle.mk_driver.specs.Standings.{Stands, StandsAlike, IsStepped}
use Rattle.mk_driver_laws.specs.Enabled.{HasCome, HasComeAfterStep, RoundEndsIdle, WantedIsThere}
use Rattle.mk_workers.specs.Going.{HasDone, HasStepped, IsOver, IsOfScript, NamesNothing, WhereStanding}
use Rattle.mk_workers.specs.Seating.{IsElsewhere}

-- a step that is enabled where no key call is wanted is no key step
pub elsewhere : (round : Setting) (column : ColumnState) (step : Step) → wanted column.work ≡ None → blocked round column step ≡ None → IsElsewhere step
elsewhere round column (Key call answer) none enabled =
    absurd (no_key (ap (λ w. first_failing 1 (passes (same_call call) w ∷ (answer_fits call.act answer ∷ []))) (sym none) ∙ enabled))
  where
    first : Option ℕ
    first = Some 1

    no_key : first ≡ None → ⊥
    no_key e = cc e
elsewhere round column (Begin client replica) none enabled = tt
elsewhere round column (Unread client) none enabled = tt
elsewhere round column (Read id item) none enabled = tt
elsewhere round column (Stamp id clock writes) none enabled = tt
elsewhere round column (Validate id) none enabled = tt
elsewhere round column (Take number) none enabled = tt
elsewhere round column (Rule id) none enabled = tt
elsewhere round column (Again id) none enabled = tt
elsewhere round column (Takeover id view) none enabled = tt
elsewhere round column (Pick id view) none enabled = tt
elsewhere round column (Stop id) none enabled = tt

-- after a step that the driver named, the two stand for the log with that step
abbrev pub StandsAfterStep : Type 0
StandsAfterStep =
    (script : ScriptParts) (rounds : List PastRound) (views : List ReplicaView) (log : List Step) (step : Step) (driver new_driver : DriverView) (column new_column : ColumnView) →
    Stands script driver column rounds views log → IsStepped script step driver new_driver column new_column → Stands script new_driver new_column rounds views (log ++ step ∷ [])

module _ (rules : RuleLines) (driver new_driver : DriverView) (column new_column : ColumnView) where
  -- the driver named what was done
  pub stepped_as : StandsAfterStep → (next : Next) (step : Step) →
      choice rules column.setting column.state driver.driver ≡ record { next = next; driver = new_driver.driver } →
      new_driver ≡ record driver { driver = new_driver.driver } →
      WhereStanding rules driver column (λ script rounds views. next ≡ turn script driver.column rounds views column.log) →
      IsNamed next step → HasDone step column new_column → HasStepped rules driver new_driver column new_column
  stepped_as law next step named rest turned is done =
      record {
        step = step;
        done = done;
        driver_is = rest;
        named = λ script rounds views rules_are stands. subst (λ n. IsNamed n step) (turned script rounds views rules_are stands) is;
        stands = λ script rounds views rules_are stands.
            subst (Stands script new_driver new_column rounds views) (sym (ap (λ (c : ColumnView). c.log) done.after))
            (law script rounds views column.log step driver new_driver column new_column stands
            record {
              next = next;
              named = ap (λ r. choice r column.setting column.state driver.driver) (sym rules_are) ∙ named;
              rest = rest;
              number = ap (λ (c : ColumnView). c.number) done.after;
              setting = ap (λ (c : ColumnView). c.setting) done.after;
              state = ap (λ (c : ColumnView). c.state) done.after;
            });
      }

  -- the two are of the script still
  pub of_script_more : HasComeAfterStep → (replicas keys : ℕ) → IsOfScript rules replicas keys driver column → HasStepped rules driver new_driver column new_column →
      IsOfScript rules replicas keys new_driver new_column
  of_script_more law replicas keys of stepped =
      let named = stepped.named of.script of.rounds of.views of.rules_are of.stands in
      let come = law of.script driver.column of.rounds of.views column.log of.come stepped.step named
      (subst (λ (z : Setting × ColumnState). blocked z.0 z.1 stepped.step ≡ None) (λ i. (of.stands.setting i, of.stands.state i)) stepped.done.enabled) in
      let column_is : new_driver.column ≡ driver.column = ap (λ (d : DriverView). d.column) stepped.driver_is in
      let log_is : new_column.log ≡ column.log ++ stepped.step ∷ [] = ap (λ (c : ColumnView). c.log) stepped.done.after in
      record {
        script = of.script;
        rounds = of.rounds;
        views = of.views;
        whole = of.whole;
        rules_are = of.rules_are;
        stands = stepped.stands of.script of.rounds of.views of.rules_are of.stands;
        come = subst (λ (z : ℕ × List Step). HasCome of.script z.0 of.rounds of.views z.1) (λ i. (sym column_is i, sym log_is i)) come;
        past_views = of.past_views;
        few_views = of.few_views;
        size = of.size;
        keys_are = of.keys_are;
      }

-- a wanted call is at one of the replicas and keys
pub call_there : WantedIsThere → (rules : RuleLines) (replicas keys : ℕ) (driver : DriverView) (column : ColumnView) → IsOfScript rules replicas keys driver column → (call : KeyCall) →
    wanted column.state.work ≡ Some call → (call.replica < replicas) × (call.key < keys)
call_there law rules replicas keys driver column of call wants =
    let there = law of.script driver.column of.rounds of.views column.log of.come of.past_views of.few_views call (ap (λ (c : ColumnState). wanted c.work) (sym of.stands.state) ∙ wants) in
    (subst (λ n. call.replica < n) (sym of.size) there.0, subst (λ n. call.key < n) (sym of.keys_are) there.1)

-- the column has as many replicas as its driver
pub faults_are : (rules : RuleLines) (replicas keys : ℕ) (driver : DriverView) (column : ColumnView) → IsOfScript rules replicas keys driver column → column.setting.faults ≡ driver.size
faults_are rules replicas keys driver column of = ap (λ (s : Setting). s.faults) of.stands.setting ∙ sym of.stands.size

module _ (rules : RuleLines) (replicas keys : ℕ) (driver new_driver : DriverView) (column : ColumnView) where
  -- nothing more is named
  pub is_over : RoundEndsIdle → IsOfScript rules replicas keys driver column → new_driver ≡ record driver { driver = new_driver.driver } → NamesNothing rules new_driver column →
      WhereStanding rules driver column (λ script rounds views. Over ≡ turn script driver.column rounds views column.log) → StandsAlike rules driver new_driver column →
      IsOver rules driver new_driver column
  is_over law of rest again turned alike =
      let over = turned of.script of.rounds of.views of.rules_are of.stands in
      record {
        idle = ap (λ (c : ColumnState). c.work) of.stands.state ∙ law of.script of.whole driver.column of.rounds of.views column.log of.come (sym over);
        again = again;
        driver_is = rest;
        over = λ script rounds views rules_are stands. sym (turned script rounds views rules_are stands);
        stands = λ script rounds views rules_are stands. alike script rounds views column.log rules_are stands;
      }

  -- and the two are of the script still
  pub of_script_over : IsOfScript rules replicas keys driver column → IsOver rules driver new_driver column → IsOfScript rules replicas keys new_driver column
  of_script_over of over =
      let column_is : new_driver.column ≡ driver.column = ap (λ (d : DriverView). d.column) over.driver_is in
      record {
        script = of.script;
        rounds = of.rounds;
        views = of.views;
        whole = of.whole;
        rules_are = of.rules_are;
        stands = over.stands of.script of.rounds of.views of.rules_are of.stands;
        come = subst (λ c. HasCome of.script c of.rounds of.views column.log) (sym column_is) of.come;
        past_views = of.past_views;
        few_views = of.few_views;
        size = of.size;
        keys_are = of.keys_are;
      }
