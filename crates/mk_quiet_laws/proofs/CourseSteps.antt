-- What a step makes of where the attempts of a quiet column are.
use Rattle.std.proofs.Common.{◌≡◌, ◌⊎◌, ◌<◌, ◌≤◌, ◌∙◌, ℕ, zero, suc, ◌+◌, ◌==◌, Bool, true, false, refl, arith, inl, inr, sym, ap, subst, List, [], ◌∷◌, ◌++◌, map, Option, Some, None}
use Rattle.std.specs.Prelude.{find, option_map, is_some, slice_get}
use Rattle.std.specs.Option.{option_or}
use Rattle.std.proofs.lemmas.Bool.Decides.{nat_tests}
use Rattle.std.proofs.lemmas.Bool.{cond_both, eqb-true}
use Rattle.std.proofs.lemmas.Option.{same_Some}
use Rattle.mk_lists.specs.Among.{Among, Among-append_right}
use Rattle.mk_lists.specs.Changed.{change}
use Rattle.mk_lists.proofs.Changes.{find-change, find-change_other}
use Rattle.mk_lists.proofs.Lookups.{find_push_cases, find-passes}
use Rattle.mk_txn.specs.declared.TxnId.{TxnId}
use Rattle.mk_txn.specs.declared.Stamp.{Stamp as StampType}
use Rattle.mk_txn.specs.declared.WriteItem.{WriteItem}
use Rattle.mk_txn.specs.declared.Outcome.{Outcome}
use Rattle.mk_txn.specs.declared.Outcome.TheVariants.{Commit}
use Rattle.mk_txn.specs.Stamps.{next_stamp_of}
use Rattle.mk_txn.specs.Transactions.{Transaction, same_id}
use Rattle.mk_txn.proofs.IdOrder.{same_id-tells, same_id-itself}
use Rattle.mk_words.specs.declared.Answer.{Answer}
use Rattle.mk_words.specs.declared.Told.{Told}
use Rattle.mk_words.specs.declared.Moved.{Moved}
use Rattle.mk_words.specs.declared.Msg.{Msg}
use Rattle.mk_words.specs.declared.Body.{Body}
use Rattle.mk_words.specs.declared.Body.TheVariants.{Validate as ValidateBody, Voted, Accept, Accepted as AcceptedBody, Decide, Ask, Told as ToldBody, Moved as MovedBody}
use Rattle.mk_words.specs.Links.{message, goes_to_replica}
use Rattle.mk_words.specs.Checks.{KeyAct}
use Rattle.mk_words.specs.Validations.{ValidationState, next_act, after_answer}
use Rattle.mk_words.specs.declared.Ruling.{Ruling}
use Rattle.mk_words.specs.declared.Ruling.TheVariants.{Fast}
use Rattle.mk_words.specs.Rulings.{ruling}
use Rattle.mk_quorum.specs.Sizes.{members}
use Rattle.mk_script.specs.declared.lines.Point.{Point}
use Rattle.mk_script.specs.declared.lines.Point.TheVariants.{Read as AfterRead, Votes as AfterVotes, Accepts as AfterAccepts}
use Rattle.mk_words.specs.declared.Step.{Step}
use Rattle.mk_words.specs.declared.Step.TheVariants.{Begin, Unread, Read, Stamp, Validate, Take, Key, Rule, Again, Takeover, Pick as PickStep, Stop}
use Rattle.mk_model.specs.ColumnState.{Setting, ColumnState, AttemptState, ClientState, Work, attempt_of, client_of, is_attempt, is_client, send, to_all, mark_sent, numbers_from}
use Rattle.mk_model.specs.ColumnState.Work.{Idle, Fetching, Validating, Finishing}
use Rattle.mk_model.specs.Answers.{attempt_answered, listens}
use Rattle.mk_model.specs.Answers.{is_led}
use Rattle.mk_model.specs.Learnings.{txn_of}
use Rattle.mk_model.specs.Sending.{Sent, msg_of}
use Rattle.mk_model.specs.Steps.{on_some, beginning, new_attempt, next_id, stamping, stamped, with_txn, taught, ruled, replica_takes, taken, answered, validated, with_read, epoch_of, column_after}
use Rattle.mk_model.proofs.Frames.{on_some-keeps}
use Rattle.mk_model.proofs.Parts.{attempt_of-id}
use Rattle.mk_column_laws.proofs.SortedAttempts.{message_among}
use Rattle.mk_driver.specs.declared.Caller.{Caller}
use Rattle.mk_driver.specs.declared.Stage.{Stage}
use Rattle.mk_driver.specs.Keeping.{IsRising, numbers_of}
use Rattle.mk_driver.specs.Agenda.{is_caller}
use Rattle.mk_driver.specs.Stages.{resting, begun}
use Rattle.mk_driver_laws.proofs.DriverFits.{numbers_same}
use Rattle.mk_driver_laws.proofs.ClientTurns.{kept_by}
use Rattle.mk_quiet_laws.proofs.Course.{Focus, stage_in, stage_of, IsAtRest, stage_at, PointFits, FocusFits, IsUnlearned, IsAskedAll, HasCourse, IsOnItsWay, IsSettledAll, Ready, find_here, find_else, stage_kept, same_or_not}
use Rattle.mk_quiet_laws.proofs.Course.Focus.{Free, Fetches, Reaches}

-- ---- what own coordinators have learned

-- every attempt was there, and has learned what it had
abbrev pub KeepsIn : List AttemptState → List AttemptState → Type 0
KeepsIn old new = (id : TxnId) (b : AttemptState) → find (is_attempt id) new ≡ Some b → (a : AttemptState) × (find (is_attempt id) old ≡ Some a) × (b.coord.learned ≡ a.coord.learned)

abbrev pub Keeps : ColumnState → ColumnState → Type 0
Keeps c new = KeepsIn c.attempts new.attempts

keeps_list : (xs : List AttemptState) → KeepsIn xs xs
keeps_list xs id b found = (b, found, refl)

keeps_change : (xs : List AttemptState) (i : TxnId) (g : AttemptState → AttemptState) → ((x : AttemptState) → (g x).id ≡ x.id) →
    ((x : AttemptState) → find (is_attempt i) xs ≡ Some x → (g x).coord.learned ≡ x.coord.learned) → KeepsIn xs (change (is_attempt i) g xs)
keeps_change xs i g own same id b there = by (same_id i id) refl
  where
    mapped : (o : Option AttemptState) → find (is_attempt i) xs ≡ o → option_map g o ≡ Some b → (a : AttemptState) × (find (is_attempt i) xs ≡ Some a) × (b.coord.learned ≡ a.coord.learned)
    mapped None is k = absurd (cc k)
    mapped (Some a) is k = (a, is, ap (λ (x : AttemptState). x.coord.learned) (sym (same_Some (g a) b k)) ∙ same a is)

    by : (t : Bool) → same_id i id ≡ t → (a : AttemptState) × (find (is_attempt id) xs ≡ Some a) × (b.coord.learned ≡ a.coord.learned)
    by true k =
        let is : i ≡ id = same_id-tells i id k in
        subst (λ (j : TxnId). (a : AttemptState) × (find (is_attempt j) xs ≡ Some a) × (b.coord.learned ≡ a.coord.learned)) is
        (mapped (find (is_attempt i) xs) refl (sym (find-change (is_attempt i) g xs (λ x. ap (λ (j : TxnId). same_id j i) (own x)))
        ∙ subst (λ (j : TxnId). find (is_attempt j) (change (is_attempt i) g xs) ≡ Some b) (sym is) there))
    by false k = (b, sym (find-change_other (is_attempt i) (is_attempt id) g xs (λ x t. other x t) (λ x. ap (λ (j : TxnId). same_id j id) (own x))) ∙ there, refl)
      where
        other : (x : AttemptState) → is_attempt i x ≡ true → is_attempt id x ≡ false
        other x t = let is : x.id ≡ i = same_id-tells x.id i t in ap (λ (j : TxnId). same_id j id) is ∙ k

-- the steps that teach no own coordinator
abbrev pub IsKeeping : Step → Type 0
IsKeeping (Read id key) = Unit {0}
IsKeeping (Stamp id clock writes) = Unit {0}
IsKeeping (Validate id) = Unit {0}
IsKeeping (Take number) = Unit {0}
IsKeeping (Key call answer) = Unit {0}
IsKeeping _ = ⊥

module _ (round : Setting) (c : ColumnState) (told : (msg : Msg) (t : Told) → Among msg c.link → msg.body ≡ ToldBody t → (a : AttemptState) → attempt_of c msg.id ≡ Some a → is_some a.coord.learned ≡ true)
    (unmoved : (msg : Msg) (moved : Moved) → Among msg c.link → msg.body ≡ MovedBody moved → ⊥) where
  -- what is learned first stays
  stays_first : (o p : Option Outcome) → is_some o ≡ true → option_or o p ≡ o
  stays_first None p e = absurd (cc e)
  stays_first (Some x) p e = refl

  answer_keeps : (msg : Msg) → Among msg c.link → (a : AttemptState) → attempt_of c msg.id ≡ Some a → (b : Body) → msg.body ≡ b → (attempt_answered msg.replica b a).coord.learned ≡ a.coord.learned
  answer_keeps msg m a found (Voted vote) e = refl
  answer_keeps msg m a found AcceptedBody e = refl
  answer_keeps msg m a found (ToldBody t) e = stays_first a.coord.learned t.last (told msg t m e a found)
  answer_keeps msg m a found (MovedBody moved) e = absurd (unmoved msg moved m e)
  answer_keeps msg m a found (ValidateBody mark) e = refl
  answer_keeps msg m a found (Accept outcome) e = refl
  answer_keeps msg m a found (Decide outcome) e = refl
  answer_keeps msg m a found Ask e = refl

  taken_keeps : (msg : Msg) → Among msg c.link → Keeps c (taken round msg c)
  taken_keeps msg m =
      cond_both (goes_to_replica msg.body) _ _ (Keeps c)
      (λ _. on_some-keeps (Keeps c) (replica_takes round msg) (txn_of c msg.id) c (λ txn e. keeps_list c.attempts) (keeps_list c.attempts))
      (λ _. cond_both (msg.view == 0) _ _ (Keeps c)
      (λ _. cond_both (listens (attempt_of c msg.id)) _ _ (Keeps c)
      (λ _. keeps_change c.attempts msg.id (attempt_answered msg.replica msg.body) (λ x. refl) (λ x found. answer_keeps msg m x found msg.body refl)) (λ _. keeps_list c.attempts))
      (λ _. cond_both (is_led round msg.epoch msg.view) _ _ (Keeps c) (λ _. keeps_list c.attempts) (λ _. keeps_list c.attempts)))

  stamped_keeps : (id : TxnId) (writes : List WriteItem) (stamp : Option StampType) → Keeps c (stamped id writes stamp c)
  stamped_keeps id writes None = keeps_list c.attempts
  stamped_keeps id writes (Some stamp) = keeps_change c.attempts id (with_txn stamp writes) (λ x. refl) (λ x found. refl)

  validated_keeps : (txn : Transaction) (replica epoch : ℕ) (state : ValidationState) (o : Option KeyAct) → Keeps c (validated txn replica epoch state o c)
  validated_keeps txn replica epoch state (Some act) = keeps_list c.attempts
  validated_keeps txn replica epoch state None = keeps_list c.attempts

  answered_keeps : (answer : Answer) (w : Work) → Keeps c (answered answer w c)
  answered_keeps answer Idle = keeps_list c.attempts
  answered_keeps answer (Fetching id replica key) = keeps_change c.attempts id (with_read key answer) (λ x. refl) (λ x found. refl)
  answered_keeps answer (Validating txn replica epoch state) = let next = after_answer state answer in validated_keeps txn replica epoch next (next_act next)
  answered_keeps answer (Finishing replica []) = keeps_list c.attempts
  answered_keeps answer (Finishing replica (act ∷ acts)) = keeps_list c.attempts

  pub step_keeps : (step : Step) → IsKeeping step → Keeps c (column_after round c step)
  step_keeps (Read id key) k = on_some-keeps (Keeps c) (λ a col. record col { work = Fetching id a.replica key }) (attempt_of c id) c (λ a e. keeps_list c.attempts) (keeps_list c.attempts)
  step_keeps (Stamp id clock writes) k =
      on_some-keeps (Keeps c) (stamping clock writes) (attempt_of c id) c
      (λ a e. on_some-keeps (Keeps c) (λ cl col. stamped a.id writes (next_stamp_of cl.number cl.last_time clock a.reads) col) (client_of c (a.id).client) c
      (λ cl q. stamped_keeps a.id writes (next_stamp_of cl.number cl.last_time clock a.reads)) (keeps_list c.attempts)) (keeps_list c.attempts)
  step_keeps (Validate id) k =
      on_some-keeps (Keeps c) (λ a col. send (to_all round.faults a.epoch id 0 (ValidateBody (mark_sent round col id.client))) col) (attempt_of c id) c (λ a e. keeps_list c.attempts) (keeps_list c.attempts)
  step_keeps (Take number) k = on_some-keeps (Keeps c) (taken round) (message c.link number) c (λ msg e. taken_keeps msg (message_among c.link number msg e)) (keeps_list c.attempts)
  step_keeps (Key call answer) k = answered_keeps answer c.work
  step_keeps (Begin client replica) k = absurd k
  step_keeps (Unread client) k = absurd k
  step_keeps (Rule id) k = absurd k
  step_keeps (Again id) k = absurd k
  step_keeps (Takeover id view) k = absurd k
  step_keeps (PickStep id view) k = absurd k
  step_keeps (Stop id) k = absurd k

-- ---- the column changes

-- what was there is there
pub record Forth (c new : ColumnState) : Type 0 where
  pub attempts : (id : TxnId) (a : AttemptState) → attempt_of c id ≡ Some a → (b : AttemptState) × (attempt_of new id ≡ Some b)
  pub sent : (msg : Msg) → Among msg c.link → Among msg new.link

module _ (f : ℕ) (c new : ColumnState) (forth : Forth c new) where
  sent_on : (id : TxnId) (r view : ℕ) (body : Body) → Sent c.link id r view body → Sent new.link id r view body
  sent_on id r view body s = (s.0, forth.sent (msg_of s.0 id r view body) s.1)

  pub asked_on : (id : TxnId) → IsAskedAll f c id → IsAskedAll f new id
  asked_on id (mark, all) = (mark, λ r lt. sent_on id r 0 (ValidateBody mark) (all r lt))

  pub told_on : (id : TxnId) → ((r : ℕ) → r < members f → Sent c.link id r 0 (Decide Commit)) → (r : ℕ) → r < members f → Sent new.link id r 0 (Decide Commit)
  told_on id all r lt = sent_on id r 0 (Decide Commit) (all r lt)

  -- an attempt that has learned as before
  abbrev pub KeepsAt : TxnId → Type 0
  KeepsAt id = (b : AttemptState) → attempt_of new id ≡ Some b → (a : AttemptState) × (attempt_of c id ≡ Some a) × (b.coord.learned ≡ a.coord.learned)

  unlearned_on : (id : TxnId) → KeepsAt id → IsUnlearned c id → IsUnlearned new id
  unlearned_on id k (a, found, none) =
      let b = forth.attempts id a found in
      let old = k b.0 b.1 in
      (b.0, b.1, old.2 ∙ ap (λ (x : AttemptState). x.coord.learned) (same_Some old.0 a (sym old.1 ∙ found)) ∙ none)

  pub point_on : (id : TxnId) (point : Point) → KeepsAt id → PointFits f c id point → PointFits f new id point
  point_on id AfterRead k fits = unlearned_on id k fits
  point_on id AfterVotes k fits = (unlearned_on id k fits.0, asked_on id fits.1)
  point_on id AfterAccepts k fits = absurd fits

  focus_on : (callers : List Caller) (focus : Focus) → Keeps c new → FocusFits f c callers focus → FocusFits f new callers focus
  focus_on callers Free k fits = tt
  focus_on callers (Fetches id) k fits = (fits.0, unlearned_on id (k id) fits.1)
  focus_on callers (Reaches id point) k fits = (fits.0, point_on id point (k id) fits.1)

  settled_on : (id : TxnId) (a b : AttemptState) → b.coord.learned ≡ a.coord.learned → IsSettledAll f c id a → IsSettledAll f new id b
  settled_on id a b e (l, all) = (e ∙ l, told_on id all)

  -- where no own coordinator learned
  pub ready_on : (focus : Focus) (callers : List Caller) → Keeps c new → Ready f c focus callers → Ready f new focus callers
  ready_on focus callers k h =
      record {
        courses = λ id b e. (let old = k id b e in elim (h.courses id old.0 old.1) [ inl done ↦ inl (settled_on id old.0 b old.2 done) | inr way ↦ inr way ]);
        focus_fits = focus_on callers focus k h.focus_fits;
        stages = λ client stage e. (let was = h.stages client stage e in (was.0, point_on stage.id stage.reached (k stage.id) was.1));
        rising = h.rising;
      }

  -- ---- a client's attempt is in hand again, or done

  module _ (id : TxnId) (point : Point) (callers : List Caller) (h : Ready f c Free callers) (there : stage_of callers id.client ≡ Some (stage_at id point)) where
    abbrev pub left : List Caller
    left = change (is_caller id.client) resting callers

    found_of : (o : Option Caller) → stage_in o ≡ Some (stage_at id point) → (x : Caller) × (o ≡ Some x)
    found_of None e = absurd (cc e)
    found_of (Some x) e = (x, refl)

    rests_now : IsAtRest left id.client
    rests_now =
        let x = found_of (find (is_caller id.client) callers) there in
        (resting x.0, find_here resting (λ y. refl) id.client callers ∙ ap (option_map resting) x.1, refl)

    left_else : (client : ℕ) → (client ≡ id.client → ⊥) → stage_of left client ≡ stage_of callers client
    left_else client apart = ap stage_in (find_else resting (λ y. refl) id.client client callers apart)

    left_here : stage_of left id.client ≡ None
    left_here = ap stage_in rests_now.1 ∙ rests_now.2

    left_stages : ((other : TxnId) → (other ≡ id → ⊥) → KeepsAt other) → (client : ℕ) (stage : Stage) → stage_of left client ≡ Some stage → (stage.id.client ≡ client) × PointFits f new stage.id stage.reached
    left_stages k client stage e = elim (same_or_not client id.client) [
      | inl same ↦ absurd (let none : stage_of left client ≡ None = ap (stage_of left) same ∙ left_here in cc (sym none ∙ e))
      | inr apart ↦
          let was = h.stages client stage (sym (left_else client apart) ∙ e) in
          (was.0, point_on stage.id stage.reached (k stage.id (λ same. apart (sym was.0 ∙ ap (λ (i : TxnId). i.client) same))) was.1)
    ]

    -- another attempt on its way is its client's under way
    left_way : (focus : Focus) (other : TxnId) → IsOnItsWay Free callers other → (other ≡ id) ⊎ IsOnItsWay focus left other
    left_way focus other (inl k) = absurd (cc k)
    left_way focus other (inr (p, inl k)) = absurd (cc k)
    left_way focus other (inr (p, inr s)) = elim (same_or_not other.client id.client) [
      | inl same ↦ inl (ap (λ (st : Stage). st.id) (same_Some (stage_at other p) (stage_at id point) (sym s ∙ ap (stage_of callers) same ∙ there)))
      | inr apart ↦ inr (inr (p, inr (left_else other.client apart ∙ s)))
    ]

    left_rising : IsRising (numbers_of left)
    left_rising = subst IsRising (sym (numbers_same (is_caller id.client) resting (λ x. refl) callers)) h.rising

    -- it is in hand again, at a later point
    pub ready_hand : (later : Point) → Keeps c new → PointFits f new id later → Ready f new (Reaches id later) left
    ready_hand later k fits =
        record {
          courses = λ other b e. (let old = k other b e in elim (h.courses other old.0 old.1) [
            | inl done ↦ inl (settled_on other old.0 b old.2 done)
            | inr way ↦ inr (elim (left_way (Reaches id later) other way) [ inl same ↦ inr (later, inl (ap (λ (i : TxnId). Reaches i later) (sym same))) | inr on ↦ on ])
          ]);
          focus_fits = (rests_now, fits);
          stages = left_stages (λ other apart. k other);
          rising = left_rising;
        }

    -- it is done
    pub ready_done : ((other : TxnId) → (other ≡ id → ⊥) → KeepsAt other) → ((b : AttemptState) → attempt_of new id ≡ Some b → IsSettledAll f new id b) → Ready f new Free left
    ready_done k fits =
        record {
          courses = λ other b e. by other b e (same_id other id) refl;
          focus_fits = tt;
          stages = left_stages k;
          rising = left_rising;
        }
      where
        by : (other : TxnId) (b : AttemptState) → attempt_of new other ≡ Some b → (t : Bool) → same_id other id ≡ t → HasCourse f new Free left other b
        by other b e true t =
            let same = same_id-tells other id t in
            inl (subst (λ (i : TxnId). IsSettledAll f new i b) (sym same) (fits b (ap (attempt_of new) (sym same) ∙ e)))
        by other b e false t =
            let old = k other apart b e in
            elim (h.courses other old.0 old.1) [
              | inl done ↦ inl (settled_on other old.0 b old.2 done)
              | inr way ↦ inr (elim (left_way Free other way) [ inl same ↦ absurd (apart same) | inr on ↦ on ])
            ]
          where
            apart : other ≡ id → ⊥
            apart same = cc (sym t ∙ ap (λ (i : TxnId). same_id i id) same ∙ same_id-itself id)

  -- ---- an attempt begins

  pub ready_begun : (id : TxnId) (seq : ℕ) (callers : List Caller) → Ready f c Free callers → IsAtRest callers id.client → ((other : TxnId) → (other ≡ id → ⊥) → KeepsAt other) → IsUnlearned new id →
      ((other : TxnId) (a : AttemptState) → attempt_of c other ≡ Some a → other ≡ id → ⊥) → Ready f new (Fetches id) (change (is_caller id.client) (begun seq) callers)
  ready_begun id seq callers h rests k unlearned fresh =
      record {
        courses = λ other b e. by other b e (same_id other id) refl;
        focus_fits = ((begun seq rests.0, find_here (begun seq) number id.client callers ∙ ap (option_map (begun seq)) rests.1, under rests.0 ∙ rests.2), unlearned);
        stages = λ client stage e. (let was = h.stages client stage (sym (kept client) ∙ e) in
            (was.0, point_on stage.id stage.reached (k stage.id (old_apart stage.id stage.reached was.1)) was.1));
        rising = subst IsRising (sym (numbers_same (is_caller id.client) (begun seq) number callers)) h.rising;
      }
    where
      number : (x : Caller) → (begun seq x).number ≡ x.number
      number x = (kept_by x.retries x).0

      under : (x : Caller) → (begun seq x).under_way ≡ x.under_way
      under x = (kept_by x.retries x).1

      kept : (m : ℕ) → stage_of (change (is_caller id.client) (begun seq) callers) m ≡ stage_of callers m
      kept m = stage_kept (begun seq) number under id.client m callers

      old_apart : (i : TxnId) (point : Point) → PointFits f c i point → i ≡ id → ⊥
      old_apart i AfterRead fits = fresh i fits.0 fits.1
      old_apart i AfterVotes fits = fresh i fits.0.0 fits.0.1
      old_apart i AfterAccepts fits = absurd fits

      by : (other : TxnId) (b : AttemptState) → attempt_of new other ≡ Some b → (t : Bool) → same_id other id ≡ t → HasCourse f new (Fetches id) (change (is_caller id.client) (begun seq) callers) other b
      by other b e true t = inr (inl (ap Fetches (sym (same_id-tells other id t))))
      by other b e false t =
          let old = k other (λ same. cc (sym t ∙ ap (λ (i : TxnId). same_id i id) same ∙ same_id-itself id)) b e in
          elim (h.courses other old.0 old.1) [
            | inl done ↦ inl (settled_on other old.0 b old.2 done)
            | inr way ↦ elim way [
              | inl z ↦ absurd (cc z)
              | inr z ↦ elim z.1 [ inl y ↦ absurd (cc y) | inr s ↦ inr (inr (z.0, inr (kept other.client ∙ s))) ]
            ]
          ]

-- it fetched, and has come to its stamp
pub ready_stamped : (f : ℕ) (c : ColumnState) (id : TxnId) (callers : List Caller) → Ready f c (Fetches id) callers → Ready f c (Reaches id AfterRead) callers
ready_stamped f c id callers h =
    record {
      courses = λ other a e. elim (h.courses other a e) [
        | inl done ↦ inl done
        | inr way ↦ inr (elim way [
          | inl k ↦ inr (AfterRead, inl (ap (λ (i : TxnId). Reaches i AfterRead) (same id other k)))
          | inr k ↦ elim k.1 [ inl z ↦ absurd (cc z) | inr s ↦ inr (k.0, inr s) ]
        ])
      ];
      focus_fits = h.focus_fits;
      stages = h.stages;
      rising = h.rising;
    }
  where
    same : (i j : TxnId) → Fetches i ≡ Fetches j → i ≡ j
    same i j e = cc e

-- ---- what a Validate and a Rule send, and what a Begin adds

all_among : (epoch : ℕ) (id : TxnId) (body : Body) (r n : ℕ) (q : ℕ) → r ≤ q → q < r + n → Among (msg_of epoch id q 0 body) (map (λ (k : ℕ). record { epoch = epoch; id = id; replica = k; view = 0; body = body }) (numbers_from r n))
all_among epoch id body r zero q low high = absurd (omega (arith, low, high))
all_among epoch id body r (suc n) q low high = by (λ a b. all_among epoch id body (r + 1) n q a b) (r == q) refl
  where
    by : (r + 1 ≤ q → q < r + 1 + n → Among (msg_of epoch id q 0 body) (map (λ (k : ℕ). record { epoch = epoch; id = id; replica = k; view = 0; body = body }) (numbers_from (r + 1) n))) → (b : Bool) → (r == q) ≡ b →
        Among (msg_of epoch id q 0 body) (map (λ (k : ℕ). record { epoch = epoch; id = id; replica = k; view = 0; body = body }) (numbers_from r (suc n)))
    by again true e = inl (ap (λ (k : ℕ). msg_of epoch id k 0 body) (eqb-true r q e))
    by again false e = let apart : r < q = grind (arith, nat_tests, e, low) in inr (again (omega (arith, apart)) (omega (arith, high)))

pub to_all_sent : (f epoch : ℕ) (id : TxnId) (body : Body) (link : List Msg) (r : ℕ) → r < members f → Sent (link ++ to_all f epoch id 0 body) id r 0 body
to_all_sent f epoch id body link r lt =
    (epoch, Among-append_right (msg_of epoch id r 0 body) link (to_all f epoch id 0 body) (all_among epoch id body 0 (members f) r (omega arith) (omega (arith, lt))))

-- a Validate asks all
pub validate_asks : (round : Setting) (c : ColumnState) (id : TxnId) (a : AttemptState) → attempt_of c id ≡ Some a → IsAskedAll round.faults (column_after round c (Validate id)) id
validate_asks round c id a found = (
  mark_sent round c id.client,
  λ r lt. subst (λ (o : Option AttemptState). Sent (on_some (λ x col. send (to_all round.faults x.epoch id 0 (ValidateBody (mark_sent round col id.client))) col) o c).link id r 0 (ValidateBody (mark_sent round c id.client)))
      (sym found) (to_all_sent round.faults a.epoch id (ValidateBody (mark_sent round c id.client)) c.link r lt),
)

-- a Rule that is fast settles
module _ (round : Setting) (c : ColumnState) (id : TxnId) (a : AttemptState) (found : attempt_of c id ≡ Some a) (fast : ruling round.faults a.coord ≡ Fast Commit) where
  abbrev Ruled : ColumnState
  Ruled = column_after round c (Rule id)

  own : a.id ≡ id
  own = attempt_of-id c id a found

  attempts_are : Ruled.attempts ≡ change (is_attempt a.id) (taught Commit) c.attempts
  attempts_are =
      ap (λ (o : Option AttemptState). (on_some (λ x col. ruled round.faults x (ruling round.faults x.coord) col) o c).attempts) found
      ∙ ap (λ (r : Ruling). (ruled round.faults a r c).attempts) fast

  link_is : Ruled.link ≡ c.link ++ to_all round.faults a.epoch a.id 0 (Decide Commit)
  link_is =
      ap (λ (o : Option AttemptState). (on_some (λ x col. ruled round.faults x (ruling round.faults x.coord) col) o c).link) found
      ∙ ap (λ (r : Ruling). (ruled round.faults a r c).link) fast

  pub rule_keeps : (other : TxnId) → (other ≡ id → ⊥) → (b : AttemptState) → attempt_of Ruled other ≡ Some b → (x : AttemptState) × (attempt_of c other ≡ Some x) × (b.coord.learned ≡ x.coord.learned)
  rule_keeps other apart b e =
      (b, sym (find-change_other (is_attempt a.id) (is_attempt other) (taught Commit) c.attempts elsewhere (λ x. refl)) ∙ sym (ap (find (is_attempt other)) attempts_are) ∙ e, refl)
    where
      elsewhere : (x : AttemptState) → is_attempt a.id x ≡ true → is_attempt other x ≡ false
      elsewhere x t = by (is_attempt other x) refl
        where
          by : (z : Bool) → is_attempt other x ≡ z → is_attempt other x ≡ false
          by false k = k
          by true k = absurd (apart (sym (same_id-tells x.id other k) ∙ same_id-tells x.id a.id t ∙ own))

  pub rule_settles : a.coord.learned ≡ None → (b : AttemptState) → attempt_of Ruled id ≡ Some b → IsSettledAll round.faults Ruled id b
  rule_settles none b e =
      let there : attempt_of Ruled id ≡ Some (taught Commit a) =
      ap (find (is_attempt id)) attempts_are ∙ ap (λ (i : TxnId). find (is_attempt id) (change (is_attempt i) (taught Commit) c.attempts)) own
      ∙ find-change (is_attempt id) (taught Commit) c.attempts (λ x. refl) ∙ ap (option_map (taught Commit)) found in (
        ap (λ (x : AttemptState). x.coord.learned) (sym (same_Some (taught Commit a) b (sym there ∙ e))) ∙ ap (λ (o : Option Outcome). option_or o (Some Commit)) none,
        λ r lt. subst (λ (link : List Msg). Sent link id r 0 (Decide Commit)) (sym link_is)
            (subst (λ (i : TxnId). Sent (c.link ++ to_all round.faults a.epoch a.id 0 (Decide Commit)) i r 0 (Decide Commit)) own (to_all_sent round.faults a.epoch a.id (Decide Commit) c.link r lt)),
      )

-- a Begin adds one
pub begin_keeps : (round : Setting) (c : ColumnState) (client replica : ℕ) (cl : ClientState) → client_of c client ≡ Some cl → (other : TxnId) → (other ≡ record { client = client; seq = cl.next_seq } → ⊥) → (b : AttemptState) →
    attempt_of (column_after round c (Begin client replica)) other ≡ Some b → (a : AttemptState) × (attempt_of c other ≡ Some a) × (b.coord.learned ≡ a.coord.learned)
begin_keeps round c client replica cl known other apart b e =
    elim (find_push_cases (is_attempt other) c.attempts new b (sym (ap (λ (o : Option ClientState). find (is_attempt other) (on_some (beginning round replica (epoch_of (slice_get round.views replica))) o c).attempts) known) ∙ e)) [
      | inl old ↦ (b, old, refl)
      | inr k ↦ absurd (apart (sym (same_id-tells new.id other k.1.1) ∙ (λ i. record { client = number i; seq = cl.next_seq })))
    ]
  where
    new : AttemptState
    new = new_attempt round.faults (next_id cl) replica (epoch_of (slice_get round.views replica))

    number : cl.number ≡ client
    number = eqb-true cl.number client (find-passes (is_client client) c.clients cl known)
