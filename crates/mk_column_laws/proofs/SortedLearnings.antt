-- What is learned in each step, with its reason; and all that a step does.
use Rattle.std.proofs.Common.{◌≡◌, ◌∙◌, ℕ, true, refl, arith, inl, inr, sym, ap, subst, List, [], ◌∷◌, Option, Some, None}
use Rattle.std.specs.Prelude.{option_map, find, is_none, is_some, if◌then◌else◌}
use Rattle.std.proofs.lemmas.Bool.{cond_both}
use Rattle.mk_quorum.specs.Slots.{passes}
use Rattle.mk_lists.specs.Among.{Among, Among-append, Among-append_left}
use Rattle.mk_lists.specs.Changed.{change}
use Rattle.mk_lists.proofs.Changes.{find-change}
use Rattle.mk_lists.proofs.Options.{None-from_is_none}
use Rattle.mk_model.proofs.Parts.{attempt_of-id, attempt_of-own}
use Rattle.mk_txn.specs.declared.TxnId.{TxnId}
use Rattle.mk_txn.specs.declared.Outcome.{Outcome}
use Rattle.mk_words.specs.declared.Msg.{Msg}
use Rattle.mk_words.specs.declared.Body.{Body}
use Rattle.mk_words.specs.declared.Body.TheVariants.{Decide, Told as ToldBody, Moved as MovedBody}
use Rattle.mk_words.specs.Links.{message}
use Rattle.mk_words.specs.declared.Ruling.{Ruling}
use Rattle.mk_words.specs.declared.Ruling.TheVariants.{Fast, Propose, Learned, Short, Unaccepted}
use Rattle.mk_words.specs.Rulings.{ruling}
use Rattle.mk_words.specs.declared.Pick.{Pick}
use Rattle.mk_words.specs.declared.Pick.TheVariants.{Known, Learned as PickLearned, Propose as PickPropose, Short as PickShort, Unaccepted as PickUnaccepted, Unclear}
use Rattle.mk_words.specs.Picks.{pick}
use Rattle.mk_words.specs.declared.Step.{Step}
use Rattle.mk_words.specs.declared.Step.TheVariants.{Take, Rule, Pick as PickStep}
use Rattle.mk_model.specs.ColumnState.{AttemptState, TakeoverOf, Learning, Way, attempt_of, takeover_of, is_attempt}
use Rattle.mk_model.specs.ColumnState.Way.{ByMoved, ByTelling, ByFinishing}
use Rattle.mk_model.specs.Conditions.{conditions, blocked}
use Rattle.mk_model.specs.Answers.{moved_outcome}
use Rattle.mk_model.specs.Learnings.{learning, learning_of, by_rule, by_ruling, by_takeover, by_pick, by_taken, by_message, is_finished_by, is_heard, learned_in_step}
use Rattle.mk_model.specs.Steps.{ruled, taught as having_learned, on_some}
use Rattle.mk_model.proofs.Frames.{AllTrue, enabled}
use Rattle.mk_column_laws.specs.Moments.{Moment, Taught, step_done}
use Rattle.mk_column_laws.specs.Moves.{Moves, NewLearning}
use Rattle.mk_column_laws.specs.Moves.NewLearning.{LearnsFast, LearnsByAccepts, LearnsKnown, LearnsByPick, LearnsTold, LearnsMoved, LearnsFinishing}
use Rattle.mk_column_laws.specs.Facts.{Facts}
use Rattle.mk_column_laws.proofs.SortedAttempts.{message_among, attempts_sorted}
use Rattle.mk_column_laws.proofs.SortedTakeovers.{takeovers_sorted}
use Rattle.mk_column_laws.proofs.SortedEntries.{sent_as}
use Rattle.mk_column_laws.proofs.SortedSteps.{steps_sorted}

module _ (m : Moment) where
  abbrev LearnsRight : Step → Learning → Type 0
  LearnsRight step l = NewLearning m (step_done step m) l

  -- the attempt after its own coordinator ruled
  ruled_attempt : (id : TxnId) (a : AttemptState) (o : Outcome) → attempt_of m.column id ≡ Some a → ruling m.round.faults a.coord ≡ Fast o →
      attempt_of (step_done (Rule id) m).column id ≡ Some (having_learned o a)
  ruled_attempt id a o e is =
      let same = attempt_of-id m.column id a e in
      let to_a : attempt_of (step_done (Rule id) m).column id ≡ find (is_attempt id) (ruled m.round.faults a (ruling m.round.faults a.coord) m.column).attempts =
      ap (λ (x : Option AttemptState). find (is_attempt id) (on_some (λ b col. ruled m.round.faults b (ruling m.round.faults b.coord) col) x m.column).attempts) e in
      let to_fast : find (is_attempt id) (ruled m.round.faults a (ruling m.round.faults a.coord) m.column).attempts ≡ find (is_attempt id) (change (is_attempt a.id) (having_learned o) m.column.attempts) =
      ap (λ (r : Ruling). find (is_attempt id) (ruled m.round.faults a r m.column).attempts) is in
      let changed : find (is_attempt a.id) (change (is_attempt a.id) (having_learned o) m.column.attempts) ≡ Some (having_learned o a) =
      find-change (is_attempt a.id) (having_learned o) m.column.attempts (λ x. refl) ∙ ap (option_map (having_learned o)) (attempt_of-own m.column id a e) in
      to_a ∙ to_fast ∙ subst (λ (x : TxnId). find (is_attempt x) (change (is_attempt a.id) (having_learned o) m.column.attempts) ≡ Some (having_learned o a)) same changed

  by_rule_right : (id : TxnId) (a : AttemptState) (r : Ruling) → attempt_of m.column id ≡ Some a → a.coord.learned ≡ None → ruling m.round.faults a.coord ≡ r →
      (l : Learning) → Among l (by_ruling id r) → LearnsRight (Rule id) l
  by_rule_right id a (Fast o) e none is l (inl same) = subst (LearnsRight (Rule id)) same (LearnsFast a refl e none is (ruled_attempt id a o e is))
  by_rule_right id a (Fast o) e none is l (inr no_more) = absurd no_more
  by_rule_right id a (Learned o) e none is l (inl same) = subst (LearnsRight (Rule id)) same (LearnsByAccepts a refl e none is)
  by_rule_right id a (Learned o) e none is l (inr no_more) = absurd no_more
  by_rule_right id a (Propose o) e none is l among = absurd among
  by_rule_right id a (Short k) e none is l among = absurd among
  by_rule_right id a (Unaccepted k) e none is l among = absurd among

  by_pick_right : (id : TxnId) (view : ℕ) (t : TakeoverOf) (p : Pick) → takeover_of m.column id view ≡ Some t → pick m.round.faults t.state ≡ p →
      (l : Learning) → Among l (by_pick id view p) → LearnsRight (PickStep id view) l
  by_pick_right id view t (Known o) e is l (inl same) = subst (LearnsRight (PickStep id view)) same (LearnsKnown view t refl e is)
  by_pick_right id view t (Known o) e is l (inr no_more) = absurd no_more
  by_pick_right id view t (PickLearned o) e is l (inl same) = subst (LearnsRight (PickStep id view)) same (LearnsByPick view t refl e is)
  by_pick_right id view t (PickLearned o) e is l (inr no_more) = absurd no_more
  by_pick_right id view t (PickPropose o) e is l among = absurd among
  by_pick_right id view t (PickShort k) e is l among = absurd among
  by_pick_right id view t (PickUnaccepted k) e is l among = absurd among
  by_pick_right id view t (Unclear x y) e is l among = absurd among

  module _ (number : ℕ) (msg : Msg) (sent : Among msg m.column.link) where
    one_right : (id : TxnId) (way : Way) (o : Outcome) → LearnsRight (Take number) (learning id way o) → (l : Learning) → Among l (learning id way o ∷ []) → LearnsRight (Take number) l
    one_right id way o k l (inl same) = subst (LearnsRight (Take number)) same k
    one_right id way o k l (inr no_more) = absurd no_more

    learning_right : (id : TxnId) (way : Way) (o : Option Outcome) → ((x : Outcome) → o ≡ Some x → LearnsRight (Take number) (learning id way x)) →
        (l : Learning) → Among l (learning_of id way o) → LearnsRight (Take number) l
    learning_right id way None k l among = absurd among
    learning_right id way (Some x) k l among = one_right id way x (k x refl) l among

    by_message_right : (b : Body) → msg.body ≡ b → (l : Learning) → Among l (by_message m.round m.column msg b) → LearnsRight (Take number) l
    by_message_right (Decide o) is l =
        cond_both (is_finished_by m.round m.column msg) _ _ (λ (xs : List Learning). Among l xs → LearnsRight (Take number) l) (λ _ among. one_right msg.id ByFinishing o (LearnsFinishing msg.replica msg.view refl (sent_as m.column.link msg (Decide o) sent is)) l among) (λ _ among. absurd among)
    by_message_right (ToldBody told) is l =
        cond_both (is_heard m.round m.column msg) _ _ (λ (xs : List Learning). Among l xs → LearnsRight (Take number) l) (λ _ among. learning_right msg.id ByTelling told.last (λ x e. LearnsTold msg.replica msg.view told refl (sent_as m.column.link msg (ToldBody told) sent is) e) l among) (λ _ among. absurd among)
    by_message_right (MovedBody moved) is l =
        cond_both (is_heard m.round m.column msg) _ _ (λ (xs : List Learning). Among l xs → LearnsRight (Take number) l) (λ _ among. learning_right msg.id (ByMoved moved.to) (moved_outcome moved) (λ x e. LearnsMoved msg.replica msg.view moved refl (sent_as m.column.link msg (MovedBody moved) sent is) e) l among) (λ _ among. absurd among)
    by_message_right _ is l = λ among. absurd among

  learned_right : (step : Step) → AllTrue (conditions m.round m.column step) → (l : Learning) → Among l (learned_in_step m.round m.column step) → LearnsRight step l
  learned_right (Rule id) c l = by (attempt_of m.column id) refl c.1.1.1.0
    where
      by : (o : Option AttemptState) → attempt_of m.column id ≡ o → passes (λ (a : AttemptState). is_none a.coord.learned) o ≡ true →
          Among l (by_rule m.round id o) → LearnsRight (Rule id) l
      by None e t among = absurd among
      by (Some a) e t among = by_rule_right id a (ruling m.round.faults a.coord) e (None-from_is_none a.coord.learned t) refl l among
  learned_right (PickStep id view) c l = by (takeover_of m.column id view) refl
    where
      by : (o : Option TakeoverOf) → takeover_of m.column id view ≡ o → Among l (by_takeover m.round id view o) → LearnsRight (PickStep id view) l
      by None e among = absurd among
      by (Some t) e among = by_pick_right id view t (pick m.round.faults t.state) e refl l among
  learned_right (Take number) c l = by (message m.column.link number) refl
    where
      by : (o : Option Msg) → message m.column.link number ≡ o → Among l (by_taken m.round m.column o) → LearnsRight (Take number) l
      by None e among = absurd among
      by (Some msg) e among = by_message_right number msg (message_among m.column.link number msg e) msg.body refl l among
  learned_right _ c l = λ among. absurd among

begun_same : (now before : ℕ) (o : Option AttemptState) (a : AttemptState) → o ≡ Some a → (if is_some o then before else now) ≡ before
begun_same now before o a e = ap (λ (x : Option AttemptState). if is_some x then before else now) e

begun_new : (now before : ℕ) (o : Option AttemptState) → o ≡ None → (if is_some o then before else now) ≡ now
begun_new now before o e = ap (λ (x : Option AttemptState). if is_some x then before else now) e

-- every enabled step is sorted
pub step_moves : (taught : Taught) (m : Moment) → Facts taught m → (step : Step) → blocked m.round m.column step ≡ None → Moves m (step_done step m)
step_moves taught m h step able =
    let c = enabled m.round m.column step able in
    let s = steps_sorted taught m h step c in
    record {
      same_faults = refl;
      attempts = attempts_sorted m step c;
      takeovers = takeovers_sorted m (λ msg a. (h.messages msg a).0) step c;
      entries = λ r id. (s.entries r id).0;
      stays_sent = λ msg a. subst (λ (l : List Msg). Among msg l) (sym s.grows) (Among-append_left msg m.column.link s.link a);
      messages = λ msg a. elim (Among-append msg m.column.link s.link (subst (λ (l : List Msg). Among msg l) s.grows a)) [
        | inl old ↦ inl old
        | inr new ↦ inr ((s.messages msg new).1, (s.messages msg new).2)
      ];
      stays_learned = λ l a. Among-append_left l m.column.learned (learned_in_step m.round m.column step) a;
      learnings = λ l a. elim (Among-append l m.column.learned (learned_in_step m.round m.column step) a) [
        | inl old ↦ inl old
        | inr new ↦ inr (learned_right m step c l new)
      ];
      work = s.work;
      rises = omega arith;
      begun_stays = λ id a e. begun_same m.past.now (m.past.begun_in id) (attempt_of m.column id) a e;
      begun_now = λ id b e f. begun_new m.past.now (m.past.begun_in id) (attempt_of m.column id) e;
      stays_ever = λ r epoch k. k;
    }
