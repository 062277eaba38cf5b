-- At every place of a quiet column's log: each message was taken or waits, nothing is proposed, and the attempts are in order.
use Rattle.std.proofs.Common.{◌≡◌, ◌⊎◌, ◌<◌, ◌≤◌, ◌∙◌, ℕ, Bool, true, refl, arith, inl, inr, sym, ap, subst, List, [], ◌∷◌, ◌++◌, length, map, Option, Some, None, not, ◌||◌}
use Rattle.std.specs.Prelude.{slice_get, flat_map}
use Rattle.std.specs.List.{list_any}
use Rattle.std.proofs.lemmas.Bool.Decides.{nat_tests}
use Rattle.std.proofs.lemmas.List.{length-append}
use Rattle.std.proofs.lemmas.Option.{same_Some}
use Rattle.mk_lists.specs.Among.{Among, Each-among}
use Rattle.mk_lists.specs.Changed.{change}
use Rattle.mk_lists.proofs.Lookups.{find_tells}
use Rattle.mk_txn.specs.declared.TxnId.{TxnId}
use Rattle.mk_txn.specs.declared.Outcome.TheVariants.{Commit}
use Rattle.mk_words.specs.declared.Answer.{Answer}
use Rattle.mk_words.specs.declared.Msg.{Msg}
use Rattle.mk_words.specs.declared.Ruling.TheVariants.{Fast}
use Rattle.mk_words.specs.Rulings.{ruling}
use Rattle.mk_quorum.specs.Sizes.{members}
use Rattle.mk_quorum.specs.Slots.{passes}
use Rattle.mk_quorum.proofs.Slots.{passes-some}
use Rattle.mk_trim.specs.declared.ReplicaView.{ReplicaView}
use Rattle.mk_script.specs.declared.lines.Fate.TheVariants.{Deliver as DeliverFate}
use Rattle.mk_script.specs.declared.lines.Point.TheVariants.{Read as AfterRead, Votes as AfterVotes}
use Rattle.mk_script.specs.Scripts.{ScriptParts}
use Rattle.mk_script.specs.Whole.{IsWhole}
use Rattle.mk_script.specs.Quiet.{IsQuiet}
use Rattle.mk_faults.specs.Fates.{RuleLines, rules_of, fate_at, stop_of}
use Rattle.mk_words.specs.declared.KeyCall.{KeyCall}
use Rattle.mk_words.specs.declared.Step.{Step}
use Rattle.mk_words.specs.declared.Step.TheVariants.{Begin, Unread, Read, Stamp, Validate, Take, Key, Rule, Again, Takeover, Pick as PickStep, Stop}
use Rattle.mk_model.specs.ColumnState.{Setting, ColumnState, AttemptState, ClientState, Work, attempt_of, client_of, is_client}
use Rattle.mk_model.specs.ColumnState.Work.{Idle}
use Rattle.mk_model.specs.Conditions.{blocked, wanted, same_call, serves_from, heard_by}
use Rattle.mk_model.specs.Replicas.{serves, is_serving}
use Rattle.mk_model.specs.Steps.{column_after, epoch_of, new_attempt}
use Rattle.mk_model.proofs.Frames.{enabled}
use Rattle.mk_column_laws.specs.Moments.{Moment, Taught, StaysTaught, IsReached, CanHappen, EachHappens, moment_through, step_done}
use Rattle.mk_column_laws.specs.Moments.Event.{Doing}
use Rattle.mk_column_laws.specs.Facts.{Grows}
use Rattle.mk_column_laws.proofs.Growing.{grows}
use Rattle.mk_column_laws.proofs.Rounds.{reached_facts, event_moves}
use Rattle.mk_column_laws.proofs.SortedSteps.{steps_sorted, idle_from}
use Rattle.mk_driver.specs.declared.Next.{Next}
use Rattle.mk_driver.specs.declared.Next.TheVariants.{Step as StepNext, Key as KeyNext, Over}
use Rattle.mk_driver.specs.declared.Part.{Part}
use Rattle.mk_driver.specs.declared.Part.TheVariants.{Resume as ResumePart, Turns as TurnsPart}
use Rattle.mk_driver.specs.declared.Task.{Task}
use Rattle.mk_driver.specs.declared.DriverState.{DriverState}
use Rattle.mk_driver.specs.declared.Caller.{Caller}
use Rattle.mk_driver.specs.Driven.{Standing, IsNamed, next_at, standing_after, standing_at, standing_through}
use Rattle.mk_driver.specs.Turns.{Choice, choice, unless_wanted, in_agenda, in_parts, with_agenda, with_part, attempt_tasks}
use Rattle.mk_driver.specs.Agenda.{is_caller}
use Rattle.mk_driver.specs.Stages.{begun as begun_caller, resting}
use Rattle.mk_driver_laws.specs.Enabled.{HasCome}
use Rattle.mk_driver_laws.proofs.ColumnMoves.{ColumnFits}
use Rattle.mk_driver_laws.proofs.DriverFits.{WholeFits}
use Rattle.mk_driver_laws.proofs.Frames.{begun_found, idle_by}
use Rattle.mk_driver_laws.proofs.Standing.{come_fits}
use Rattle.mk_quiet_laws.specs.QuietRounds.{first_views, quiet_setting}
use Rattle.mk_quiet_laws.specs.Sequence.{NoneIsRefused}
use Rattle.mk_quiet_laws.specs.Waiting.{Waits, IsWaiting}
use Rattle.mk_quiet_laws.proofs.Calm.{IsCalm, IsCalmStep, AllFirst, HasHeardNothing, calm_after}
use Rattle.mk_quiet_laws.proofs.Course.{Focus, InCourse, later_parts, stage_at, Ready, StepCourse, IsNamedIn, AllSettled, IsAskedAll}
use Rattle.mk_quiet_laws.proofs.Course.Focus.{Free, Fetches, Reaches}
use Rattle.mk_quiet_laws.proofs.CourseSteps.{Keeps, Forth, IsKeeping, step_keeps, ready_on, ready_hand, ready_done, ready_begun, ready_stamped, point_on, validate_asks, rule_keeps, rule_settles, begin_keeps}
use Rattle.mk_quiet_laws.proofs.CourseWalk.{Goes, GoesOn, choice_goes, begins_goes}
use Rattle.mk_quiet_laws.proofs.Lower.{Lower}
use Rattle.mk_quiet_laws.proofs.OneRound.{quiet_is_undisturbed}
use Rattle.mk_quiet_laws.proofs.VotesCome.{reached_step, told_learned, unmoved, epochs, finals, rules_fast}
use Rattle.mk_quiet_laws.proofs.WaitingSteps.{beside, chosen, step_waits, key_waits}

-- the parts before the turns
abbrev pub first_parts : List Part
first_parts = ResumePart ∷ (TurnsPart ∷ later_parts)

-- the turns are still to begin
pub record ToBegin (m : Moment) (d : DriverState) : Type 0 where
  pub parts : d.parts ≡ first_parts
  pub agenda : d.agenda ≡ []
  pub takeovers : d.takeovers ≡ []
  pub ready : Ready m.round.faults m.column Free d.callers
  pub idle : m.column.work ≡ Idle
  pub resumes : flat_map (λ (caller : Caller). attempt_tasks m.column ResumePart caller.number) d.callers ≡ []

-- they go on
pub record GoingOn (m : Moment) (d : DriverState) : Type 0 where
  pub focus : Focus
  pub agenda : InCourse focus d.agenda
  pub ready : Ready m.round.faults m.column focus d.callers
  pub parts : d.parts ≡ later_parts
  pub takeovers : d.takeovers ≡ []

module _ (laws : Lower) (script : ScriptParts) (whole : IsWhole script) (quiet : IsQuiet script) (c : ℕ) (taught : Taught) (stays : StaysTaught taught)
    (opening : Moment) (begun : IsReached taught opening) (at_round : opening.round ≡ quiet_setting script)
    (serving : (r : ℕ) → r < members script.size → serves 0 (slice_get (first_views script) r) ≡ true) (first : AllFirst (first_views script)) (some_view : (view : ReplicaView) × (slice_get (first_views script) 0 ≡ Some view)) where
  abbrev rules : RuleLines
  rules = rules_of script

  delivered : (link : List Msg) (number : ℕ) → fate_at rules link number ≡ DeliverFate
  delivered = (quiet_is_undisturbed script quiet).delivered

  unstopped : (id : TxnId) → stop_of rules id ≡ None
  unstopped = (quiet_is_undisturbed script quiet).unstopped

  -- what holds at a place of a log
  pub record Place (log : List Step) (s : Standing) (m : Moment) : Type 0 where
    pub leads : moment_through opening (map Doing log) ≡ m
    pub happens : EachHappens taught opening (map Doing log)
    pub reached : IsReached taught m
    pub column : m.column ≡ s.column
    pub setting : m.round ≡ quiet_setting script
    pub come : HasCome script c [] (first_views script) log
    pub at : s ≡ standing_at script c [] (first_views script) log
    pub waiting : IsWaiting (beside s.driver m.column) log
    pub course : ToBegin m s.driver ⊎ GoingOn m s.driver
    pub calm : IsCalm m.column

  module _ (log : List Step) (s : Standing) (m : Moment) (p : Place log s m) where
    d : DriverState
    d = s.driver

    -- what is named, with the moment's column
    pub named_is : (step : Step) → IsNamed (next_at script (quiet_setting script) s) step → IsNamed ((choice rules m.round m.column s.driver).next) step
    named_is step n = subst (λ (next : Next). IsNamed next step) (λ i. (choice rules (sym p.setting i) (sym p.column i) s.driver).next) n

    firsts : AllFirst m.round.views
    firsts = subst (λ (r : Setting). AllFirst r.views) (sym p.setting) first

    -- ---- what the driver's laws say

    pub fits : ColumnFits m.round.faults m.column × WholeFits m.column s.driver s.driver.agenda
    fits =
        let k = come_fits script whole c [] (first_views script) log p.come in (
          subst (λ (r : Setting). ColumnFits r.faults m.column) (sym p.setting)
              (subst (λ (x : ColumnState). ColumnFits script.size x) (sym p.column) (subst (λ (x : Standing). ColumnFits script.size x.column) (sym p.at) k.column)),
          subst (λ (x : ColumnState). WholeFits x s.driver s.driver.agenda) (sym p.column) (subst (λ (x : Standing). WholeFits x.column x.driver x.driver.agenda) (sym p.at) k.driver),
        )

    -- ---- what is named

    module _ (okay : NoneIsRefused m) (idle : m.column.work ≡ Idle) where
      ruled : ((number : ℕ) → 1 ≤ number → number ≤ length m.column.link → Among (Take number) log) → (id : TxnId) (a : AttemptState) → attempt_of m.column id ≡ Some a → a.coord.learned ≡ None →
          IsAskedAll m.round.faults m.column id → ruling m.round.faults a.coord ≡ Fast Commit
      ruled all id a found none asked =
          rules_fast laws taught stays m p.reached p.calm opening begun
          (λ r lt. subst (λ (x : Setting). serves 0 (slice_get x.views r) ≡ true) (sym at_round) (serving r (subst (λ (x : Setting). r < members x.faults) at_round lt)))
          log p.happens p.leads (p.setting ∙ sym at_round) all okay idle id a found none asked

      abbrev GoesHere : Choice → Type 0
      GoesHere chosen = Goes rules delivered unstopped m.round m.column p.calm.takeovers log ruled chosen

      begins : ToBegin m s.driver → GoesHere (choice rules m.round m.column s.driver)
      begins b =
          subst (λ (o : Option KeyCall). GoesHere (unless_wanted rules m.round m.column o s.driver)) (sym (ap wanted idle))
          (subst (λ (ps : List Part). GoesHere (in_agenda rules m.round m.column (in_parts rules m.round m.column ps) s.driver.agenda s.driver)) (sym b.parts)
          (subst (λ (ts : List Task). GoesHere (in_agenda rules m.round m.column (in_parts rules m.round m.column first_parts) ts s.driver)) (sym b.agenda)
          (subst (λ (ts : List Task). GoesHere (in_agenda rules m.round m.column (in_parts rules m.round m.column (TurnsPart ∷ later_parts)) ts (with_part m.column ResumePart (TurnsPart ∷ later_parts) (with_agenda [] s.driver)))) (sym b.resumes)
          (begins_goes rules delivered unstopped m.round m.column p.calm.takeovers log ruled s.driver b.ready p.waiting.not_late b.takeovers
          (λ number low high. elim (p.waiting.sent number low high) [ inl t ↦ t | inr x ↦ absurd (subst (Waits number) b.agenda x) ])))))

      goes : GoesHere (choice rules m.round m.column s.driver)
      goes = elim p.course [
        | inl b ↦ begins b
        | inr g ↦ choice_goes rules delivered unstopped m.round m.column p.calm.takeovers log ruled g.focus s.driver g.agenda fits.1 g.ready g.parts p.waiting.not_late g.takeovers p.waiting.sent
      ]

    -- ---- a step

    module _ (step : Step) (can : blocked m.round m.column step ≡ None) where
      next : Moment
      next = step_done step m

      pub grown : Grows m (step_done step m)
      grown = grows taught m (step_done step m) (reached_facts taught stays m p.reached) (event_moves taught stays m (reached_facts taught stays m p.reached) (Doing step) can)

      forth : Forth m.column (column_after m.round m.column step)
      forth = record { attempts = λ id a e. (let b = grown.attempts id a e in (b.0, b.1)); sent = grown.sent }

      longer : length m.column.link ≤ length (column_after m.round m.column step).link
      longer =
          let sorted = steps_sorted taught m (reached_facts taught stays m p.reached) step (enabled m.round m.column step can) in
          let e = ap (λ (l : List Msg). length l) sorted.grows in
          let g = length-append m.column.link sorted.link in
          omega (arith, e, g)

      pub keeps : IsKeeping step → Keeps m.column (column_after m.round m.column step)
      keeps k = step_keeps m.round m.column (told_learned laws taught stays m p.reached p.calm) (unmoved laws taught stays m p.reached p.calm) step k

      calm_then : IsCalmStep m.round m.column step → IsCalm (column_after m.round m.column step)
      calm_then k = calm_after m.round firsts m.column p.calm (epochs laws taught stays m p.reached p.calm) (finals laws taught stays m p.reached p.calm) step k

      -- the place after it, once the driver is known
      placed : (named : IsNamed (next_at script (quiet_setting script) s) step) (e : DriverState) → (choice rules m.round m.column s.driver).driver ≡ e → IsWaiting (beside e (column_after m.round m.column step)) (log ++ step ∷ []) →
          GoingOn (step_done step m) e ⊎ ToBegin (step_done step m) e → IsCalm (column_after m.round m.column step) → Place (log ++ step ∷ []) (standing_after script (quiet_setting script) s step) (step_done step m)
      placed named e is waits on calm =
          record {
            leads = through_map opening log ∙ ap (step_done step) p.leads;
            happens = happens_map opening log p.happens (subst (λ (n : Moment). blocked n.round n.column step ≡ None) (sym p.leads) can);
            reached = reached_step taught m p.reached step can;
            column = λ i. column_after (p.setting i) (p.column i) step;
            setting = p.setting;
            come = laws.come_step script c [] (first_views script) log p.come step (subst (λ (x : Standing). IsNamed (next_at script (quiet_setting script) x) step) p.at named)
                (subst (λ (x : Standing). blocked (quiet_setting script) x.column step ≡ None) p.at (subst (λ (x : ColumnState). blocked (quiet_setting script) x step ≡ None) p.column
                (subst (λ (r : Setting). blocked r m.column step ≡ None) p.setting can)));
            at = ap (λ (x : Standing). standing_after script (quiet_setting script) x step) p.at ∙ sym (stands_more (standing_at script c [] (first_views script) []) log);
            waiting = subst (λ (x : DriverState). IsWaiting (beside x (column_after m.round m.column step)) (log ++ step ∷ [])) (sym is ∙ driver_is) waits;
            course = elim on [
              | inl g ↦ inr (subst (GoingOn (step_done step m)) (sym is ∙ driver_is) g)
              | inr b ↦ inl (subst (ToBegin (step_done step m)) (sym is ∙ driver_is) b)
            ];
            calm = calm;
          }
        where
          driver_is : (choice rules m.round m.column s.driver).driver ≡ (choice rules (quiet_setting script) s.column s.driver).driver
          driver_is = λ i. (choice rules (p.setting i) (p.column i) s.driver).driver

          through_map : (n : Moment) (steps : List Step) → moment_through n (map Doing (steps ++ step ∷ [])) ≡ step_done step (moment_through n (map Doing steps))
          through_map n [] = refl
          through_map n (x ∷ steps) = through_map (step_done x n) steps

          happens_map : (n : Moment) (steps : List Step) → EachHappens taught n (map Doing steps) → CanHappen taught (Doing step) (moment_through n (map Doing steps)) → EachHappens taught n (map Doing (steps ++ step ∷ []))
          happens_map n [] h k = (k, tt)
          happens_map n (x ∷ steps) h k = (h.0, happens_map (step_done x n) steps h.1 k)

          stands_more : (x : Standing) (steps : List Step) → standing_through script (quiet_setting script) x (steps ++ step ∷ []) ≡ standing_after script (quiet_setting script) (standing_through script (quiet_setting script) x steps) step
          stands_more x [] = refl
          stands_more x (y ∷ steps) = stands_more (standing_after script (quiet_setting script) x y) steps

    -- ---- where the attempts are after it

    fresh : (client : ℕ) (cl : ClientState) → client_of m.column client ≡ Some cl → (other : TxnId) (a : AttemptState) → attempt_of m.column other ≡ Some a → other ≡ record { client = client; seq = cl.next_seq } → ⊥
    fresh client cl known other a found same =
        let below = fits.0.below other a found cl (ap (λ (i : TxnId). client_of m.column i.client) same ∙ known) in
        let is = ap (λ (i : TxnId). i.seq) same in
        omega (arith, below, is)

    pub unread_never : (client : ℕ) → blocked m.round m.column (Unread client) ≡ None → ⊥
    unread_never client can =
        let h = enabled m.round m.column (Unread client) can in
        let v = some_view in
        let there : slice_get m.round.views 0 ≡ Some v.0 = ap (λ (r : Setting). slice_get r.views 0) p.setting ∙ v.1 in
        none m.round.views there (firsts 0 v.0 there).0 (firsts 0 v.0 there).1 heard h.1.1.0
      where
        heard : heard_by m.column client ≡ 0
        heard = by (client_of m.column client) refl
          where
            by : (o : Option ClientState) → client_of m.column client ≡ o → heard_by m.column client ≡ 0
            by None e = grind (arith, e)
            by (Some cl) e =
                let zero_heard : cl.heard ≡ 0 = Each-among HasHeardNothing cl m.column.clients p.calm.clients (find_tells (is_client client) m.column.clients cl e).0 in
                grind (arith, e, zero_heard)

        none : (views : List ReplicaView) → slice_get views 0 ≡ Some some_view.0 → is_serving (some_view.0).phase ≡ true → (some_view.0).epoch ≡ 0 → heard_by m.column client ≡ 0 →
            not (list_any (serves_from (heard_by m.column client)) views) ≡ true → ⊥
        none [] e p q h k = cc e
        none (view ∷ views) e s q h k =
            let same : view ≡ some_view.0 = same_Some view some_view.0 e in
            let low : serves_from (heard_by m.column client) view ≡ true =
            ap (λ (n : ℕ). serves_from n view) h ∙ ap (serves_from 0) same ∙ from_zero some_view.0 s q in
            cc (sym k ∙ ap (λ (b : Bool). not (b || list_any (serves_from (heard_by m.column client)) views)) low)
          where
            from_zero : (x : ReplicaView) → is_serving x.phase ≡ true → x.epoch ≡ 0 → serves_from 0 x ≡ true
            from_zero x s q = grind (arith, nat_tests, s, q)

    ready_next : (step : Step) (can : blocked m.round m.column step ≡ None) (e : DriverState) → IsNamedIn m.round.faults m.column step e →
        (new : Focus) × InCourse new e.agenda × Ready m.round.faults (column_after m.round m.column step) new e.callers
    ready_next step can e n = by step can n.course
      where
        f : ℕ
        f = m.round.faults

        Result : Step → Type 0
        Result x = (new : Focus) × InCourse new e.agenda × Ready f (column_after m.round m.column x) new e.callers

        finish : (x : Step) (new : Focus) (callers : List Caller) → n.new ≡ new → e.callers ≡ callers → Ready f (column_after m.round m.column x) new callers → Result x
        finish x new callers same is r = (new, subst (λ (z : Focus). InCourse z e.agenda) same n.agenda, subst (Ready f (column_after m.round m.column x) new) (sym is) r)

        ready_at : (new : Focus) → n.focus ≡ new → Ready f m.column new n.old
        ready_at new same = subst (λ (z : Focus). Ready f m.column z n.old) same n.ready

        by : (x : Step) → blocked m.round m.column x ≡ None → StepCourse f m.column n.focus n.old n.new e.callers x → Result x
        by (Take number) k h =
            finish (Take number) n.focus n.old h.0 h.1 (ready_on f m.column (column_after m.round m.column (Take number)) (forth (Take number) k) n.focus n.old (keeps (Take number) k tt) n.ready)
        by (Read id key) k h =
            finish (Read id key) (Fetches id) n.old h.1 h.2
            (ready_on f m.column (column_after m.round m.column (Read id key)) (forth (Read id key) k) (Fetches id) n.old (keeps (Read id key) k tt) (ready_at (Fetches id) h.0))
        by (Stamp id clock writes) k h =
            finish (Stamp id clock writes) (Reaches id AfterRead) n.old h.1 h.2
            (ready_stamped f (column_after m.round m.column (Stamp id clock writes)) id n.old
            (ready_on f m.column (column_after m.round m.column (Stamp id clock writes)) (forth (Stamp id clock writes) k) (Fetches id) n.old (keeps (Stamp id clock writes) k tt) (ready_at (Fetches id) h.0)))
        by (Begin client replica) k h =
            let cl = h.2.0 in
            let known = h.2.1 in
            let id : TxnId = record { client = client; seq = cl.next_seq } in
            let found = begun_found m.round m.column fits.0 client replica cl known in
            finish (Begin client replica) (Fetches id) (change (is_caller client) (begun_caller cl.next_seq) n.old) h.2.2 h.2.3
            (ready_begun f m.column (column_after m.round m.column (Begin client replica)) (forth (Begin client replica) k) id cl.next_seq n.old (ready_at Free h.0) h.1
            (λ other apart. begin_keeps m.round m.column client replica cl known other apart) (new_attempt f id replica (epoch_of (slice_get m.round.views replica)), found, refl) (fresh client cl known))
        by (Unread client) k h = absurd (unread_never client k)
        by (Validate id) k h =
            let r = ready_at Free h.0 in
            let unlearned = (r.stages id.client (stage_at id AfterRead) h.1).1 in
            finish (Validate id) (Reaches id AfterVotes) (change (is_caller id.client) resting n.old) h.2 h.3
            (ready_hand f m.column (column_after m.round m.column (Validate id)) (forth (Validate id) k) id AfterRead n.old r h.1 AfterVotes (keeps (Validate id) k tt)
            (point_on f m.column (column_after m.round m.column (Validate id)) (forth (Validate id) k) id AfterRead (keeps (Validate id) k tt id) unlearned, validate_asks m.round m.column id unlearned.0 unlearned.1))
        by (Rule id) k h =
            let r = ready_at Free h.0 in
            let a = h.4 in
            finish (Rule id) Free (change (is_caller id.client) resting n.old) h.2 h.3
            (ready_done f m.column (column_after m.round m.column (Rule id)) (forth (Rule id) k) id AfterVotes n.old r h.1
            (λ other apart. rule_keeps m.round m.column id a.0 a.1 a.3 other apart) (λ b found. rule_settles m.round m.column id a.0 a.1 a.3 a.2 b found))
        by (Key call answer) k h = absurd h
        by (Again id) k h = absurd h
        by (Takeover id view) k h = absurd h
        by (PickStep id view) k h = absurd h
        by (Stop id) k h = absurd h

    calm_step : (step : Step) → blocked m.round m.column step ≡ None → (e : DriverState) → (n : IsNamedIn m.round.faults m.column step e) → IsCalmStep m.round m.column step
    calm_step step can e n = by step can n.course
      where
        by : (x : Step) → blocked m.round m.column x ≡ None → StepCourse m.round.faults m.column n.focus n.old n.new e.callers x → IsCalmStep m.round m.column x
        by (Rule id) k h = λ a found. (let b = h.4 in subst (λ (x : AttemptState). ruling m.round.faults x.coord ≡ Fast Commit) (same_Some b.0 a (sym b.1 ∙ found)) b.3)
        by (Take number) k h = tt
        by (Read id key) k h = tt
        by (Stamp id clock writes) k h = tt
        by (Begin client replica) k h = tt
        by (Validate id) k h = tt
        by (Unread client) k h = unread_never client k
        by (Key call answer) k h = tt
        by (Again id) k h = h
        by (Takeover id view) k h = h
        by (PickStep id view) k h = h
        by (Stop id) k h = h

    -- no key call is under way where none is named
    pub idle_unless : (chosen_next : Next) → (choice rules m.round m.column s.driver).next ≡ chosen_next → ((call : KeyCall) → chosen_next ≡ KeyNext call → ⊥) → m.column.work ≡ Idle
    idle_unless chosen_next e other = by (wanted m.column.work) refl
      where
        by : (o : Option KeyCall) → wanted m.column.work ≡ o → m.column.work ≡ Idle
        by (Some call) w = absurd (other call (sym e ∙ ap (λ (x : Option KeyCall). (unless_wanted rules m.round m.column x s.driver).next) w))
        by None w = idle_from m.column.work (idle_by m.column.link m.column.work fits.0.work w)

    -- the step that is named is in order
    pub named_in : NoneIsRefused m → m.column.work ≡ Idle → (step : Step) → (choice rules m.round m.column s.driver).next ≡ StepNext step → IsNamedIn m.round.faults m.column step (choice rules m.round m.column s.driver).driver
    named_in okay idle step e = subst (λ (x : Next). GoesOn rules delivered unstopped m.round m.column p.calm.takeovers log (ruled okay idle) x (choice rules m.round m.column s.driver).driver) e (goes okay idle)

    pub over_in : NoneIsRefused m → m.column.work ≡ Idle → (choice rules m.round m.column s.driver).next ≡ Over → AllSettled m.round.faults m.column
    over_in okay idle e = (subst (λ (x : Next). GoesOn rules delivered unstopped m.round m.column p.calm.takeovers log (ruled okay idle) x (choice rules m.round m.column s.driver).driver) e (goes okay idle)).0

    -- so the next place holds
    pub place_next : NoneIsRefused m → (step : Step) → IsNamed (next_at script (quiet_setting script) s) step → blocked m.round m.column step ≡ None →
        Place (log ++ step ∷ []) (standing_after script (quiet_setting script) s step) (step_done step m)
    place_next okay step named can = by (choice rules m.round m.column s.driver).next refl (named_is step named)
      where
        stepped : (choice rules m.round m.column s.driver).next ≡ StepNext step → Place (log ++ step ∷ []) (standing_after script (quiet_setting script) s step) (step_done step m)
        stepped e =
            let idle = idle_unless (StepNext step) e (λ call z. cc z) in
            let n = named_in okay idle step e in
            let r = ready_next step can (choice rules m.round m.column s.driver).driver n in
            placed step can named (choice rules m.round m.column s.driver).driver refl
            (step_waits rules delivered m.round m.column s.driver log p.waiting idle step e (longer step can))
            (inl (record { focus = r.0; agenda = r.1; ready = r.2; parts = n.parts; takeovers = n.takeovers }))
            (calm_then step can (calm_step step can (choice rules m.round m.column s.driver).driver n))

        never : (call : KeyCall) (answer : Answer) → blocked m.round m.column (Key call answer) ≡ None → ToBegin m s.driver → ⊥
        never call answer k b = let h = enabled m.round m.column (Key call answer) k in cc (sym h.0 ∙ ap (λ (w : Work). passes (same_call call) (wanted w)) b.idle)

        on : (call : KeyCall) (answer : Answer) → (k : blocked m.round m.column (Key call answer) ≡ None) → ToBegin m s.driver ⊎ GoingOn m s.driver →
            GoingOn (step_done (Key call answer) m) s.driver ⊎ ToBegin (step_done (Key call answer) m) s.driver
        on call answer k (inr g) =
            inl (record {
              focus = g.focus;
              agenda = g.agenda;
              ready = ready_on m.round.faults m.column (column_after m.round m.column (Key call answer)) (forth (Key call answer) k) g.focus s.driver.callers (keeps (Key call answer) k tt) g.ready;
              parts = g.parts;
              takeovers = g.takeovers;
            })
        on call answer k (inl b) = absurd (never call answer k b)

        -- a key call leaves the driver
        keyed : (x : Step) → IsNamed (next_at script (quiet_setting script) s) x → blocked m.round m.column x ≡ None → (call : KeyCall) → IsNamed (KeyNext call) x →
            Place (log ++ x ∷ []) (standing_after script (quiet_setting script) s x) (step_done x m)
        keyed (Key called answer) n k call same =
            placed (Key called answer) k n s.driver driver_same (key_waits rules delivered m.round m.column s.driver log p.waiting called answer) (on called answer k p.course) (calm_then (Key called answer) k tt)
          where
            driver_same : (choice rules m.round m.column s.driver).driver ≡ s.driver
            driver_same =
                let w = passes-some (same_call called) (wanted m.column.work) (enabled m.round m.column (Key called answer) k).0 in
                ap (λ (x : Option KeyCall). (unless_wanted rules m.round m.column x s.driver).driver) w.1
        keyed _ n k call same = absurd same

        by : (x : Next) → (choice rules m.round m.column s.driver).next ≡ x → IsNamed x step → Place (log ++ step ∷ []) (standing_after script (quiet_setting script) s step) (step_done step m)
        by (StepNext x) q n = stepped (q ∙ ap StepNext (sym n))
        by (KeyNext call) q n = keyed step named can call n
        by Over q n = absurd n
