-- Every enabled step has its shape.
use Rattle.std.proofs.Common.{◌≡◌, ◌⊎◌, ◌∙◌, ℕ, zero, suc, Bool, true, false, refl, inl, inr, sym, ap, subst, List, [], ◌∷◌, ◌++◌, Option, Some, None, not, ◌&&◌}
use Rattle.std.specs.Prelude.{◌==◌, slice_get, slice_set, slice_index_or, if◌then◌else◌}
use Rattle.std.proofs.lemmas.Bool.{cond_both}
use Rattle.std.proofs.lemmas.Option.{same_Some}
use Rattle.mk_lists.specs.Among.{Among, Among-append}
use Rattle.mk_lists.proofs.Options.{option_or-cases}
use Rattle.mk_model.proofs.Parts.{attempt_of-id, attempt_of-own, state_answered-view}
use Rattle.mk_txn.specs.declared.TxnId.{TxnId}
use Rattle.mk_txn.specs.declared.Stamp.{Stamp as StampType}
use Rattle.mk_txn.specs.declared.WriteItem.{WriteItem}
use Rattle.mk_txn.specs.declared.Outcome.{Outcome}
use Rattle.mk_txn.specs.Outcomes.{is_ok_vote}
use Rattle.mk_txn.specs.MarkMaps.{MarkMap}
use Rattle.mk_txn.specs.Stamps.{next_stamp_of}
use Rattle.mk_txn.specs.Transactions.{Transaction}
use Rattle.mk_words.specs.declared.Answer.{Answer}
use Rattle.mk_words.specs.declared.Entry.{Entry}
use Rattle.mk_words.specs.Entries.{entry_of, change_entry, with_vote}
use Rattle.mk_words.specs.declared.Msg.{Msg}
use Rattle.mk_words.specs.declared.Body.{Body}
use Rattle.mk_words.specs.declared.Body.TheVariants.{Validate as ValidateBody, Voted, Accept, Accepted as AcceptedBody, Decide, Ask, Told as ToldBody, Moved as MovedBody}
use Rattle.mk_words.specs.Links.{message, goes_to_replica}
use Rattle.mk_quorum.specs.Slots.{passes}
use Rattle.mk_quorum.proofs.Slots.{passes-at}
use Rattle.mk_words.specs.declared.Ruling.{Ruling}
use Rattle.mk_words.specs.declared.Ruling.TheVariants.{Fast, Propose, Learned, Short, Unaccepted}
use Rattle.mk_words.specs.Rulings.{CoordState, ruling}
use Rattle.mk_words.specs.declared.Pick.{Pick}
use Rattle.mk_words.specs.declared.Pick.TheVariants.{Known, Learned as PickLearned, Propose as PickPropose, Short as PickShort, Unaccepted as PickUnaccepted, Unclear}
use Rattle.mk_words.specs.Picks.{TakeoverState, pick, new_takeover}
use Rattle.mk_words.specs.Checks.{KeyAct, finish_acts}
use Rattle.mk_words.specs.Validations.{ValidationState, next_act, after_answer, vote_of}
use Rattle.mk_words.specs.declared.Step.{Step}
use Rattle.mk_words.specs.declared.Step.TheVariants.{Begin, Unread, Read, Stamp, Validate, Take, Key, Rule, Again, Takeover, Pick as PickStep, Stop}
use Rattle.mk_model.specs.ColumnState.{ColumnState, AttemptState, TakeoverOf, Way, Work, attempt_of, takeover_of, client_of, entries_at, marks_at, to_all, mark_sent, send}
use Rattle.mk_model.specs.ColumnState.Work.{Idle, Fetching, Validating, Finishing}
use Rattle.mk_model.specs.ColumnState.Way.{ByVotes, ByAccepts, ByPick, ByTelling, ByMoved}
use Rattle.mk_model.specs.Conditions.{conditions}
use Rattle.mk_model.specs.Replicas.{finishing, Held, Reaction, reaction_by_view, held_at, reacted, serves}
use Rattle.mk_model.specs.Answers.{attempt_answered, takeover_answered, coord_answered, state_answered, moved_outcome, listens, is_led}
use Rattle.mk_model.specs.Learnings.{learning, learning_of, txn_of, by_rule, by_ruling, by_takeover, by_pick, by_taken, by_message, is_heard, learned_in_step}
use Rattle.mk_model.specs.Steps.{stepped, new_attempt, unread_attempt, next_id, epoch_of, stamped, with_txn, with_read, ruled, picked, proposing, taught as having_learned, closing, takeover_proposing, taken, taken_over, replica_takes, answered, validated, voted_msg}
use Rattle.mk_model.proofs.Frames.{AllTrue, on_some-keeps}
use Rattle.mk_column_laws.specs.Moments.{Moment, Taught}
use Rattle.mk_column_laws.specs.Moves.{IsStampedIn}
use Rattle.mk_column_laws.specs.Facts.{Facts}
use Rattle.mk_column_laws.proofs.SortedAttempts.{message_among}
use Rattle.mk_column_laws.proofs.SortedEntries.{txn_of-some}
use Rattle.mk_column_laws.proofs.SortedSteps.{among_all}
use Rattle.mk_column_laws.proofs.Identities.{number_of}
use Rattle.mk_record_laws.specs.Listed.{IsListed}
use Rattle.mk_record_laws.proofs.Shapes.{EntriesMove, MarksMove, RecordStep, MarksStep, SendStep, AttemptStep, AttemptsStep, TakeoversStep, StepShape}
use Rattle.mk_record_laws.proofs.Shapes.SendStep.{SendsAnswer, SendsAsk, SendsAccept, SendsValidate, SendsDecide}
use Rattle.mk_record_laws.proofs.Shapes.AttemptsStep.{AttemptsStay, AttemptAdded, AttemptChanged}
use Rattle.mk_record_laws.proofs.Shapes.TakeoversStep.{TakeoversStay, TakeoverAdded, TakeoverChanged}
use Rattle.mk_record_laws.proofs.ReactionShapes.{ReactionShape, view_right, change_final}

-- a list changed at one place, read at any: there what was set, or else as before
pub set_at : {X : Type 0} (l : List X) (q r : ℕ) (x d : X) →
    ((r ≡ q) × (slice_index_or (slice_set l q x) r d ≡ x)) ⊎ (slice_index_or (slice_set l q x) r d ≡ slice_index_or l r d)
set_at [] zero r x d = inr refl
set_at [] (suc q) r x d = inr refl
set_at (y ∷ l) zero zero x d = inl (refl, refl)
set_at (y ∷ l) zero (suc r) x d = inr refl
set_at (y ∷ l) (suc q) zero x d = inr refl
set_at (y ∷ l) (suc q) (suc r) x d = elim (set_at l q r x d) [ inl k ↦ inl (ap suc k.0, k.1) | inr k ↦ inr k ]

-- what is heard is listed
heard_listed : (id : TxnId) (heard : Bool) → heard ≡ true → (way : Way) (x : Option Outcome) (o : Outcome) → x ≡ Some o →
    Among (learning id way o) (if heard then learning_of id way x else [])
heard_listed id true h way x o e = subst (λ (y : Option Outcome). Among (learning id way o) (learning_of id way y)) (sym e) (inl refl)
heard_listed id false h way x o e = absurd (cc h)

answered_keeps : (r : ℕ) (b : Body) (t : TakeoverOf) → ((takeover_answered r b t).id ≡ t.id) × ((takeover_answered r b t).state.view ≡ t.state.view)
answered_keeps r b t =
    cond_both t.closed _ _ (λ (x : TakeoverOf). (x.id ≡ t.id) × (x.state.view ≡ t.state.view)) (λ _. (refl, refl)) (λ _. (refl, state_answered-view r b t.state))

module _ (taught : Taught) (m : Moment) (h : Facts taught m) (step : Step) where
  abbrev Fine : ColumnState → Type 0
  Fine c = StepShape m step c

  -- nothing but attempts and takeovers changes
  aside : (c : ColumnState) → c.records ≡ m.column.records → c.marks ≡ m.column.marks → c.link ≡ m.column.link → AttemptsStep m step c.attempts → TakeoversStep m step c.takeovers → Fine c
  aside c records marks link attempts takeovers =
      record {
        entries = λ r. inl (ap (λ (l : List (List Entry)). slice_index_or l r []) records);
        ends = λ r id e o found last. inl (e, ap (λ (l : List (List Entry)). entry_of id (slice_index_or l r [])) (sym records) ∙ found, last);
        marks = λ r. inl (ap (λ (l : List MarkMap). slice_index_or l r []) marks);
        sends = λ msg a. inl (subst (λ (l : List Msg). Among msg l) link a);
        attempts = attempts;
        takeovers = takeovers;
      }

  same : Fine m.column
  same = aside m.column refl refl refl (AttemptsStay refl) (TakeoversStay refl)

  -- messages are sent to all
  sends_all : (c : ColumnState) (ep : ℕ) (id : TxnId) (v : ℕ) (b : Body) → c.records ≡ m.column.records → c.marks ≡ m.column.marks → c.link ≡ m.column.link ++ to_all m.round.faults ep id v b →
      ((msg : Msg) → msg.id ≡ id → msg.body ≡ b → SendStep m step msg) → AttemptsStep m step c.attempts → TakeoversStep m step c.takeovers → Fine c
  sends_all c ep id v b records marks link new attempts takeovers =
      record {
        entries = λ r. inl (ap (λ (l : List (List Entry)). slice_index_or l r []) records);
        ends = λ r id e o found last. inl (e, ap (λ (l : List (List Entry)). entry_of id (slice_index_or l r [])) (sym records) ∙ found, last);
        marks = λ r. inl (ap (λ (l : List MarkMap). slice_index_or l r []) marks);
        sends = λ msg a. elim (Among-append msg m.column.link (to_all m.round.faults ep id v b) (subst (λ (l : List Msg). Among msg l) link a)) [
          | inl old ↦ inl old
          | inr more ↦ inr (let k = among_all m.round.faults ep id v b msg more in new msg (ap (λ (x : Msg). x.id) (sym k.2)) (ap (λ (x : Msg). x.body) (sym k.2)))
        ];
        attempts = attempts;
        takeovers = takeovers;
      }

  decides : (id : TxnId) (o : Outcome) → IsListed (learned_in_step m.round m.column step) id o → (msg : Msg) → msg.id ≡ id → msg.body ≡ Decide o → SendStep m step msg
  decides id o l msg same_id body = SendsDecide o body (subst (λ (x : TxnId). IsListed (learned_in_step m.round m.column step) x o) (sym same_id) l)

  -- an attempt changes in something that is of no matter here
  quiet_attempt : (id : TxnId) (a b : AttemptState) → b.unread ≡ a.unread → b.txn ≡ a.txn → b.reading ≡ a.reading → b.coord.learned ≡ a.coord.learned → AttemptStep m step id a b
  quiet_attempt id a b unread txn reading learned =
      record { unread = unread; txn = λ _. txn; reading = λ e. reading ∙ e; learned = λ o e. inl (sym learned ∙ e) }

  learned_attempt : (id : TxnId) (o : Outcome) (a : AttemptState) → IsListed (learned_in_step m.round m.column step) id o → AttemptStep m step id a (having_learned o a)
  learned_attempt id o a l =
      record {
        unread = refl;
        txn = λ _. refl;
        reading = λ e. e;
        learned = λ p e. elim (option_or-cases a.coord.learned (Some o) p e) [
          | inl old ↦ inl old
          | inr new ↦ inr (subst (λ (x : Outcome). IsListed (learned_in_step m.round m.column step) id x) (same_Some o p new) l)
        ];
      }

  ruled_fine : (a : AttemptState) (r : Ruling) → ((o : Outcome) → (r ≡ Fast o) ⊎ (r ≡ Learned o) → IsListed (learned_in_step m.round m.column step) a.id o) → Fine (ruled m.round.faults a r m.column)
  ruled_fine a (Fast o) listed =
      sends_all (ruled m.round.faults a (Fast o) m.column) a.epoch a.id 0 (Decide o) refl refl refl (decides a.id o (listed o (inl refl)))
      (AttemptChanged a.id (having_learned o) (λ _. refl) (λ b _. learned_attempt a.id o b (listed o (inl refl))) refl) (TakeoversStay refl)
  ruled_fine a (Learned o) listed =
      sends_all (ruled m.round.faults a (Learned o) m.column) a.epoch a.id 0 (Decide o) refl refl refl (decides a.id o (listed o (inr refl)))
      (AttemptChanged a.id (having_learned o) (λ _. refl) (λ b _. learned_attempt a.id o b (listed o (inr refl))) refl) (TakeoversStay refl)
  ruled_fine a (Propose o) listed =
      sends_all (ruled m.round.faults a (Propose o) m.column) a.epoch a.id 0 (Accept o) refl refl refl (λ msg i b. SendsAccept o b)
      (AttemptChanged a.id (proposing o) (λ _. refl) (λ b _. quiet_attempt a.id b (proposing o b) refl refl refl refl) refl) (TakeoversStay refl)
  ruled_fine a (Short k) listed = same
  ruled_fine a (Unaccepted k) listed = same

  picked_fine : (view : ℕ) (a : AttemptState) (p : Pick) → ((o : Outcome) → (p ≡ Known o) ⊎ (p ≡ PickLearned o) → IsListed (learned_in_step m.round m.column step) a.id o) → Fine (picked m.round.faults view a p m.column)
  picked_fine view a (Known o) listed =
      sends_all (picked m.round.faults view a (Known o) m.column) a.epoch a.id view (Decide o) refl refl refl (decides a.id o (listed o (inl refl)))
      (AttemptsStay refl) (TakeoverChanged a.id view closing (λ _. (refl, refl)) (λ t _ p e. inl e) refl)
  picked_fine view a (PickLearned o) listed =
      sends_all (picked m.round.faults view a (PickLearned o) m.column) a.epoch a.id view (Decide o) refl refl refl (decides a.id o (listed o (inr refl)))
      (AttemptsStay refl) (TakeoverChanged a.id view closing (λ _. (refl, refl)) (λ t _ p e. inl e) refl)
  picked_fine view a (PickPropose o) listed =
      sends_all (picked m.round.faults view a (PickPropose o) m.column) a.epoch a.id view (Accept o) refl refl refl (λ msg i b. SendsAccept o b)
      (AttemptsStay refl) (TakeoverChanged a.id view (takeover_proposing o) (λ _. (refl, refl)) (λ t _ p e. inl e) refl)
  picked_fine view a (PickShort k) listed = same
  picked_fine view a (PickUnaccepted k) listed = same
  picked_fine view a (Unclear x y) listed = same

  -- ---- a message is taken

  module _ (msg : Msg) (among : Among msg m.column.link) where
    module _ (txn : Transaction) (is_txn : txn_of m.column msg.id ≡ Some txn) (re : Reaction) (shape : ReactionShape (slice_get m.round.views msg.replica) msg (held_at m.column msg.replica) re) where
      at_home : RecordStep m step msg.replica re.held.entries × MarksStep m step msg.replica re.held.marks
      at_home = by shape.holds
        where
          s : IsStampedIn m msg.id msg.epoch
          s = (h.messages msg among).0

          by : (re.held ≡ held_at m.column msg.replica)
              ⊎ ((serves msg.epoch (slice_get m.round.views msg.replica) ≡ true) × EntriesMove msg.id (entries_at m.column msg.replica) re.held.entries × MarksMove msg (marks_at m.column msg.replica) re.held.marks) →
              RecordStep m step msg.replica re.held.entries × MarksStep m step msg.replica re.held.marks
          by (inl e) = (inl (ap (λ (x : Held). x.entries) e), inl (ap (λ (x : Held). x.marks) e))
          by (inr k) =
              let served = subst (λ (n : ℕ). serves n (slice_get m.round.views msg.replica) ≡ true) (sym s.same_epoch) k.0 in
              (inr (inr (msg.id, s.attempt, s.found, served, k.1)), inr (msg, among, k.2))

      pub reacted_fine : Fine (reacted msg.replica re m.column)
      reacted_fine =
          record {
            entries = λ r. elim (set_at m.column.records msg.replica r re.held.entries []) [
              | inl k ↦ subst (λ (l : List Entry). RecordStep m step r l) (sym k.1) (subst (λ (n : ℕ). RecordStep m step n re.held.entries) (sym k.0) at_home.0)
              | inr k ↦ inl k
            ];
            ends = λ r id e o found last. elim (set_at m.column.records msg.replica r re.held.entries []) [
              | inl k ↦ elim (shape.ends id e o (ap (entry_of id) (sym k.1) ∙ found) last) [
                | inl was ↦ inl (was.0, ap (λ (n : ℕ). entry_of id (entries_at m.column n)) k.0 ∙ was.1, was.2)
                | inr work ↦ inr (work ∙ ap (λ (n : ℕ). finishing n (finish_acts e.txn o (passes is_ok_vote e.vote))) (sym k.0))
              ]
              | inr k ↦ inl (e, ap (entry_of id) (sym k) ∙ found, last)
            ];
            marks = λ r. elim (set_at m.column.marks msg.replica r re.held.marks []) [
              | inl k ↦ subst (λ (l : MarkMap). MarksStep m step r l) (sym k.1) (subst (λ (n : ℕ). MarksStep m step n re.held.marks) (sym k.0) at_home.1)
              | inr k ↦ inl k
            ];
            sends = λ new a. elim (Among-append new m.column.link re.sent a) [ inl old ↦ inl old | inr more ↦ inr (SendsAnswer (shape.answers new more)) ];
            attempts = AttemptsStay refl;
            takeovers = TakeoversStay refl;
          }

    -- what a message teaches is listed
    module _ (listed : (way : Way) (o : Outcome) → Among (learning msg.id way o) (by_message m.round m.column msg msg.body) → IsListed (learned_in_step m.round m.column step) msg.id o) where
      told_here : is_heard m.round m.column msg ≡ true → (r : ℕ) (b : Body) → msg.body ≡ b → (coord : CoordState) (o : Outcome) → (coord_answered r b coord).learned ≡ Some o →
          (coord.learned ≡ Some o) ⊎ ((way : Way) × Among (learning msg.id way o) (by_message m.round m.column msg b))
      told_here heard r (ToldBody told) is coord o e =
          elim (option_or-cases coord.learned told.last o e) [ inl old ↦ inl old | inr new ↦ inr (ByTelling, heard_listed msg.id (is_heard m.round m.column msg) heard ByTelling told.last o new) ]
      told_here heard r (MovedBody moved) is coord o e =
          elim (option_or-cases coord.learned (moved_outcome moved) o e) [
            | inl old ↦ inl old
            | inr new ↦ inr (ByMoved moved.to, heard_listed msg.id (is_heard m.round m.column msg) heard (ByMoved moved.to) (moved_outcome moved) o new)
          ]
      told_here heard r (Voted vote) is coord o e = inl e
      told_here heard r AcceptedBody is coord o e = inl e
      told_here heard r _ is coord o e = inl e

      told_there : is_heard m.round m.column msg ≡ true → (r : ℕ) (b : Body) → msg.body ≡ b → (state : TakeoverState) (o : Outcome) → (state_answered r b state).learned ≡ Some o →
          (state.learned ≡ Some o) ⊎ ((way : Way) × Among (learning msg.id way o) (by_message m.round m.column msg b))
      told_there heard r (ToldBody told) is state o e =
          elim (option_or-cases state.learned told.last o e) [ inl old ↦ inl old | inr new ↦ inr (ByTelling, heard_listed msg.id (is_heard m.round m.column msg) heard ByTelling told.last o new) ]
      told_there heard r (MovedBody moved) is state o e =
          elim (option_or-cases state.learned (moved_outcome moved) o e) [
            | inl old ↦ inl old
            | inr new ↦ inr (ByMoved moved.to, heard_listed msg.id (is_heard m.round m.column msg) heard (ByMoved moved.to) (moved_outcome moved) o new)
          ]
      told_there heard r AcceptedBody is state o e = inl e
      told_there heard r _ is state o e = inl e

      own_heard : (msg.view == 0) ≡ true → listens (attempt_of m.column msg.id) ≡ true → is_heard m.round m.column msg ≡ true
      own_heard zero_view hears = cond_both (msg.view == 0) _ _ (λ (b : Bool). b ≡ true) (λ _. hears) (λ other. absurd (cc (zero_view, other)))

      takeover_heard : (msg.view == 0) ≡ false → is_led m.round msg.epoch msg.view ≡ true → (t : TakeoverOf) → takeover_of m.column msg.id msg.view ≡ Some t → t.closed ≡ false → is_heard m.round m.column msg ≡ true
      takeover_heard other led t found open_one =
          cond_both (msg.view == 0) _ _ (λ (b : Bool). b ≡ true) (λ zero_view. absurd (cc (zero_view, other))) (λ _. both (is_led m.round msg.epoch msg.view) (passes (λ (x : TakeoverOf). not x.closed) (takeover_of m.column msg.id msg.view)) led
          (ap (passes (λ (x : TakeoverOf). not x.closed)) found ∙ ap not open_one))
        where
          both : (a b : Bool) → a ≡ true → b ≡ true → (a && b) ≡ true
          both true true p q = refl
          both true false p q = cc q
          both false b p q = cc p

      answered_attempt : (msg.view == 0) ≡ true → listens (attempt_of m.column msg.id) ≡ true → (a : AttemptState) → AttemptStep m step msg.id a (attempt_answered msg.replica msg.body a)
      answered_attempt zero_view hears a =
          record {
            unread = refl;
            txn = λ _. refl;
            reading = λ e. e;
            learned = λ o e. elim (told_here (own_heard zero_view hears) msg.replica msg.body refl a.coord o e) [ inl old ↦ inl old | inr new ↦ inr (listed new.0 o new.1) ];
          }

      answered_takeover : (msg.view == 0) ≡ false → is_led m.round msg.epoch msg.view ≡ true → (t : TakeoverOf) → takeover_of m.column msg.id msg.view ≡ Some t → (o : Outcome) →
          (takeover_answered msg.replica msg.body t).state.learned ≡ Some o → (t.state.learned ≡ Some o) ⊎ IsListed (learned_in_step m.round m.column step) msg.id o
      answered_takeover other led t found o =
          cond_both t.closed _ _ (λ (x : TakeoverOf). x.state.learned ≡ Some o → (t.state.learned ≡ Some o) ⊎ IsListed (learned_in_step m.round m.column step) msg.id o) (λ _ e. inl e) (λ open_one e. elim (told_there (takeover_heard other led t found open_one) msg.replica msg.body refl t.state o e) [ inl old ↦ inl old | inr new ↦ inr (listed new.0 o new.1) ])

      pub taken_fine : Fine (taken m.round msg m.column)
      taken_fine =
          cond_both (goes_to_replica msg.body) _ _ Fine (λ _. on_some-keeps Fine (replica_takes m.round msg) (txn_of m.column msg.id) m.column
          (λ txn e. let a = txn_of-some m.column msg.id txn e in
          reacted_fine txn e (reaction_by_view txn (held_at m.column msg.replica) msg (slice_get m.round.views msg.replica))
          (view_right msg txn (held_at m.column msg.replica) ((h.attempts msg.id a.0 a.1).txn_id txn a.2) (slice_get m.round.views msg.replica))) same) (λ _. cond_both (msg.view == 0) _ _ Fine (λ zero_view. cond_both (listens (attempt_of m.column msg.id)) _ _ Fine (λ hears. aside _ refl refl refl (AttemptChanged msg.id (attempt_answered msg.replica msg.body) (λ _. refl) (λ a _. answered_attempt zero_view hears a) refl) (TakeoversStay refl)) (λ _. same)) (λ other. cond_both (is_led m.round msg.epoch msg.view) _ _ Fine (λ led. aside _ refl refl refl (AttemptsStay refl)
          (TakeoverChanged msg.id msg.view (takeover_answered msg.replica msg.body) (answered_keeps msg.replica msg.body) (λ t e o k. answered_takeover other led t e o k) refl)) (λ _. same)))

  -- ---- key calls

  validated_fine : (txn : Transaction) (r ep : ℕ) (state : ValidationState) (next : Option KeyAct) → Fine (validated txn r ep state next m.column)
  validated_fine txn r ep state (Some act) = aside (validated txn r ep state (Some act) m.column) refl refl refl (AttemptsStay refl) (TakeoversStay refl)
  validated_fine txn r ep state None =
      let new = change_entry txn.id (with_vote (vote_of state)) (entries_at m.column r) in
      record {
        entries = λ q. elim (set_at m.column.records r q new []) [
          | inl k ↦ inr (inl (txn.id, (with_vote (vote_of state), (λ _. refl), k.1 ∙ ap (λ (n : ℕ). change_entry txn.id (with_vote (vote_of state)) (entries_at m.column n)) (sym k.0))))
          | inr k ↦ inl k
        ];
        ends = λ q id e o found last. elim (set_at m.column.records r q new []) [
          | inl k ↦
              let was = change_final txn.id (with_vote (vote_of state)) (entries_at m.column r) (λ _. refl) (λ _. refl) id e o (ap (entry_of id) (sym k.1) ∙ found) last in
              inl (was.0, ap (λ (n : ℕ). entry_of id (entries_at m.column n)) k.0 ∙ was.1, was.2)
          | inr k ↦ inl (e, ap (entry_of id) (sym k) ∙ found, last)
        ];
        marks = λ q. inl refl;
        sends = λ msg a. elim (Among-append msg m.column.link (voted_msg txn r ep (vote_of state) ∷ []) a) [
          | inl old ↦ inl old
          | inr more ↦ inr (one msg more)
        ];
        attempts = AttemptsStay refl;
        takeovers = TakeoversStay refl;
      }
    where
      one : (msg : Msg) → Among msg (voted_msg txn r ep (vote_of state) ∷ []) → SendStep m step msg
      one msg (inl e) = SendsAnswer (subst (λ (x : Msg). goes_to_replica x.body ≡ false) e refl)
      one msg (inr none) = absurd none

  answered_fine : (answer : Answer) (w : Work) → Fine (answered answer w m.column)
  answered_fine answer Idle = same
  answered_fine answer (Fetching id r key) =
      aside (answered answer (Fetching id r key) m.column) refl refl refl
      (AttemptChanged id (with_read key answer) (λ _. refl) (λ a _. quiet_attempt id a (with_read key answer a) refl refl refl refl) refl) (TakeoversStay refl)
  answered_fine answer (Validating txn r ep state) = validated_fine txn r ep (after_answer state answer) (next_act (after_answer state answer))
  answered_fine answer (Finishing r []) = aside (answered answer (Finishing r []) m.column) refl refl refl (AttemptsStay refl) (TakeoversStay refl)
  answered_fine answer (Finishing r (act ∷ acts)) = aside (answered answer (Finishing r (act ∷ acts)) m.column) refl refl refl (AttemptsStay refl) (TakeoversStay refl)

  -- ---- a stamp

  stamped_fine : (a : AttemptState) (writes : List WriteItem) (s : Option StampType) → attempt_of m.column a.id ≡ Some a → a.reading ≡ true → Fine (stamped a.id writes s m.column)
  stamped_fine a writes None e reads = same
  stamped_fine a writes (Some stamp) e reads =
      aside (stamped a.id writes (Some stamp) m.column) refl refl refl
      (AttemptChanged a.id (with_txn stamp writes) (λ _. refl)
      (λ b k. record {
        unread = refl;
        txn = λ quiet. absurd (let same_one = same_Some a b (sym e ∙ k) in let r : b.reading ≡ true = subst (λ (x : AttemptState). x.reading ≡ true) same_one reads in cc (quiet, r));
        reading = λ _. refl;
        learned = λ o l. inl l;
      }) refl) (TakeoversStay refl)

-- what a ruling and a pick teach is listed
ruling_listed : (id : TxnId) (r : Ruling) (o : Outcome) → (r ≡ Fast o) ⊎ (r ≡ Learned o) → IsListed (by_ruling id r) id o
ruling_listed id r o (inl e) = (ByVotes, subst (λ (x : Ruling). Among (learning id ByVotes o) (by_ruling id x)) (sym e) (inl refl))
ruling_listed id r o (inr e) = (ByAccepts, subst (λ (x : Ruling). Among (learning id ByAccepts o) (by_ruling id x)) (sym e) (inl refl))

pick_listed : (id : TxnId) (view : ℕ) (p : Pick) (o : Outcome) → (p ≡ Known o) ⊎ (p ≡ PickLearned o) → IsListed (by_pick id view p) id o
pick_listed id view p o (inl e) = (ByTelling, subst (λ (x : Pick). Among (learning id ByTelling o) (by_pick id view x)) (sym e) (inl refl))
pick_listed id view p o (inr e) = (ByPick view, subst (λ (x : Pick). Among (learning id (ByPick view) o) (by_pick id view x)) (sym e) (inl refl))

module _ (taught : Taught) (m : Moment) (h : Facts taught m) where
  pub step_shape : (step : Step) → AllTrue (conditions m.round m.column step) → StepShape m step (stepped m.round m.column step)
  step_shape (Begin client replica) c =
      let step = Begin client replica in
      on_some-keeps (StepShape m step) _ (client_of m.column client) m.column
      (λ d e. aside taught m h step _ refl refl refl
      (AttemptAdded d (new_attempt m.round.faults (next_id d) replica (epoch_of (slice_get m.round.views replica)))
      (subst (λ (n : ℕ). client_of m.column n ≡ Some d) (sym (number_of m.column.clients client d e)) e) refl refl refl (λ u. absurd (cc u)) refl) (TakeoversStay refl))
      (same taught m h step)
  step_shape (Unread client) c =
      let step = Unread client in
      on_some-keeps (StepShape m step) _ (client_of m.column client) m.column
      (λ d e. aside taught m h step _ refl refl refl
      (AttemptAdded d (unread_attempt m.round.faults (next_id d))
      (subst (λ (n : ℕ). client_of m.column n ≡ Some d) (sym (number_of m.column.clients client d e)) e) refl refl refl (λ u. refl) refl) (TakeoversStay refl))
      (same taught m h step)
  step_shape (Read id key) c =
      let step = Read id key in
      on_some-keeps (StepShape m step) _ (attempt_of m.column id) m.column (λ a _. aside taught m h step _ refl refl refl (AttemptsStay refl) (TakeoversStay refl)) (same taught m h step)
  step_shape (Stamp id clock writes) c =
      let step = Stamp id clock writes in
      on_some-keeps (StepShape m step) _ (attempt_of m.column id) m.column
      (λ a e. on_some-keeps (StepShape m step) _ (client_of m.column a.id.client) m.column
      (λ d k. stamped_fine taught m h step a writes (next_stamp_of d.number d.last_time clock a.reads) (attempt_of-own m.column id a e)
      (passes-at (λ (x : AttemptState). x.reading) (attempt_of m.column id) a e c.1.0)) (same taught m h step)) (same taught m h step)
  step_shape (Validate id) c =
      let step = Validate id in
      on_some-keeps (StepShape m step) _ (attempt_of m.column id) m.column
      (λ a e. sends_all taught m h step _ a.epoch id 0 (ValidateBody (mark_sent m.round m.column id.client)) refl refl refl
      (λ msg i b. SendsValidate (b ∙ ap (λ (x : TxnId). ValidateBody (mark_sent m.round m.column x.client)) (sym i))) (AttemptsStay refl) (TakeoversStay refl))
      (same taught m h step)
  step_shape (Take number) c =
      let step = Take number in
      on_some-keeps (StepShape m step) _ (message m.column.link number) m.column
      (λ msg e. taken_fine taught m h step msg (message_among m.column.link number msg e)
      (λ way o a. (way, subst (λ (x : Option Msg). Among (learning msg.id way o) (by_taken m.round m.column x)) (sym e) a))) (same taught m h step)
  step_shape (Key call answer) c = answered_fine taught m h (Key call answer) answer m.column.work
  step_shape (Rule id) c =
      let step = Rule id in
      on_some-keeps (StepShape m step) _ (attempt_of m.column id) m.column
      (λ a e. ruled_fine taught m h step a (ruling m.round.faults a.coord)
      (λ o k. subst (λ (x : Option AttemptState). IsListed (by_rule m.round id x) a.id o) (sym e)
      (subst (λ (x : TxnId). IsListed (by_ruling id (ruling m.round.faults a.coord)) x o) (sym (attempt_of-id m.column id a e)) (ruling_listed id (ruling m.round.faults a.coord) o k)))) (same taught m h step)
  step_shape (Again id) c =
      let step = Again id in
      on_some-keeps (StepShape m step) _ (attempt_of m.column id) m.column
      (λ a e. on_some-keeps (StepShape m step) _ a.coord.proposed m.column
      (λ o p. sends_all taught m h step (send (to_all m.round.faults a.epoch a.id 0 (Accept o)) m.column) a.epoch a.id 0 (Accept o) refl refl refl (λ msg i b. SendsAccept o b) (AttemptsStay refl) (TakeoversStay refl))
      (same taught m h step)) (same taught m h step)
  step_shape (Takeover id view) c =
      let step = Takeover id view in
      on_some-keeps (StepShape m step) _ (attempt_of m.column id) m.column
      (λ a e. sends_all taught m h step (taken_over m.round.faults view a m.column) a.epoch a.id view Ask refl refl refl (λ msg i b. SendsAsk b) (AttemptsStay refl)
      (TakeoverAdded (record { id = a.id; closed = false; state = new_takeover m.round.faults view }) refl refl)) (same taught m h step)
  step_shape (PickStep id view) c =
      let step = PickStep id view in
      on_some-keeps (StepShape m step) _ (attempt_of m.column id) m.column
      (λ a e. on_some-keeps (StepShape m step) _ (takeover_of m.column a.id view) m.column
      (λ t k. picked_fine taught m h step view a (pick m.round.faults t.state)
      (λ o p. let same_one = attempt_of-id m.column id a e in
      let found : takeover_of m.column id view ≡ Some t = subst (λ (x : TxnId). takeover_of m.column x view ≡ Some t) same_one k in
      subst (λ (x : Option TakeoverOf). IsListed (by_takeover m.round id view x) a.id o) (sym found)
      (subst (λ (x : TxnId). IsListed (by_pick id view (pick m.round.faults t.state)) x o) (sym same_one) (pick_listed id view (pick m.round.faults t.state) o p)))) (same taught m h step)) (same taught m h step)
  step_shape (Stop id) c =
      aside taught m h (Stop id) _ refl refl refl
      (AttemptChanged id (λ a. record a { stopped = true }) (λ _. refl) (λ a _. quiet_attempt taught m h (Stop id) id a (record a { stopped = true }) refl refl refl refl) refl) (TakeoversStay refl)
