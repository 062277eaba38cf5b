-- What each step does to the takeovers.
use Rattle.std.proofs.Common.{◌≡◌, ◌≤◌, ◌∙◌, ℕ, Bool, true, false, refl, arith, sym, ap, subst, List, [], ◌∷◌, ◌++◌, Option, Some, None, ◌&&◌}
use Rattle.std.specs.Prelude.{option_map, find, is_some, ◌==◌}
use Rattle.std.proofs.lemmas.Bool.Decides.{nat_tests}
use Rattle.std.proofs.lemmas.Bool.{and_parts, cond_both, eqb-true}
use Rattle.std.proofs.lemmas.Option.{same_Some}
use Rattle.mk_lists.specs.Among.{Among, Among-append_right}
use Rattle.mk_lists.specs.Changed.{change}
use Rattle.mk_lists.proofs.Tests.{Among-from_list_any}
use Rattle.mk_lists.proofs.Changes.{find-change, find-change_other}
use Rattle.mk_lists.proofs.Lookups.{find-append_some, find_push, find_push_other}
use Rattle.mk_model.proofs.Parts.{attempt_of-id, takeover_answered-id, takeover_answered-view}
use Rattle.mk_txn.specs.declared.TxnId.{TxnId}
use Rattle.mk_txn.specs.declared.Stamp.{Stamp as StampType}
use Rattle.mk_txn.specs.declared.WriteItem.{WriteItem}
use Rattle.mk_txn.specs.Stamps.{next_stamp_of}
use Rattle.mk_txn.specs.Transactions.{Transaction, same_id}
use Rattle.mk_txn.proofs.IdOrder.{same_id-tells}
use Rattle.mk_words.specs.declared.Answer.{Answer}
use Rattle.mk_words.specs.declared.Msg.{Msg}
use Rattle.mk_model.specs.Sending.{msg_of}
use Rattle.mk_words.specs.declared.Body.TheVariants.{Accept}
use Rattle.mk_words.specs.Links.{message, goes_to_replica}
use Rattle.mk_words.specs.declared.Ruling.{Ruling}
use Rattle.mk_words.specs.declared.Ruling.TheVariants.{Fast, Propose, Learned, Short, Unaccepted}
use Rattle.mk_words.specs.Rulings.{ruling}
use Rattle.mk_words.specs.declared.Pick.{Pick}
use Rattle.mk_words.specs.declared.Pick.TheVariants.{Known, Learned as PickLearned, Propose as PickPropose, Short as PickShort, Unaccepted as PickUnaccepted, Unclear}
use Rattle.mk_words.specs.Picks.{pick, new_takeover}
use Rattle.mk_words.specs.Checks.{KeyAct}
use Rattle.mk_words.specs.Validations.{ValidationState, next_act, after_answer}
use Rattle.mk_words.specs.declared.Step.{Step}
use Rattle.mk_words.specs.declared.Step.TheVariants.{Begin, Unread, Read, Stamp, Validate, Take, Key, Rule, Again, Takeover, Pick as PickStep, Stop}
use Rattle.mk_model.specs.ColumnState.{ColumnState, AttemptState, TakeoverOf, Work, attempt_of, takeover_of, client_of, is_takeover, to_all}
use Rattle.mk_model.specs.ColumnState.Work.{Idle, Fetching, Validating, Finishing}
use Rattle.mk_model.specs.Conditions.{conditions, is_validate_of}
use Rattle.mk_model.specs.Answers.{takeover_answered, listens, is_led}
use Rattle.mk_model.specs.Steps.{stepped, stamped, ruled, picked, closing, takeover_proposing, taken, replica_takes, answered, validated}
use Rattle.mk_model.specs.Learnings.{txn_of}
use Rattle.mk_model.proofs.Frames.{AllTrue, on_some-keeps}
use Rattle.mk_column_laws.specs.Moments.{Moment}
use Rattle.mk_column_laws.specs.Moves.{TakeoverMove, TakeoverChange, IsStampedIn}
use Rattle.mk_column_laws.specs.Moves.TakeoverMove.{TakeoverStays, TakeoverBegins, TakeoverChanges}
use Rattle.mk_column_laws.specs.Moves.TakeoverChange.{Picks, Closes, TakeoverHears}
use Rattle.mk_column_laws.proofs.SortedAttempts.{message_among, with_learned, first_of_all}

pub apart_views : (x id other : TxnId) (m v w : ℕ) → (same_id id other && v == w) ≡ false → (same_id x id && m == v) ≡ true → (same_id x other && m == w) ≡ false
apart_views x id other m v w h k = grind (arith, nat_tests)

module _ (m : Moment) (step : Step) (stamped_sent : (msg : Msg) → Among msg m.column.link → IsStampedIn m msg.id msg.epoch) where
  abbrev pub TakeoversSorted : ColumnState → Type 0
  TakeoversSorted c = (id : TxnId) (view : ℕ) → TakeoverMove m (with_learned m step c) id view (takeover_of m.column id view) (takeover_of c id view)

  takeovers_changed : (next : ColumnState) (id : TxnId) (v : ℕ) (g : TakeoverOf → TakeoverOf) → ((t : TakeoverOf) → (g t).id ≡ t.id) → ((t : TakeoverOf) → (g t).state.view ≡ t.state.view) →
      ((t : TakeoverOf) → takeover_of m.column id v ≡ Some t → TakeoverChange m next id v t (g t)) →
      (other : TxnId) (w : ℕ) → TakeoverMove m next other w (takeover_of m.column other w) (find (is_takeover other w) (change (is_takeover id v) g m.column.takeovers))
  takeovers_changed next id v g same view step other w = by (same_id id other && v == w) refl
    where
      keeps : (x : TxnId) (n : ℕ) (t : TakeoverOf) → is_takeover x n (g t) ≡ is_takeover x n t
      keeps x n t = ap (λ (y : TxnId). same_id y x && (g t).state.view == n) (same t) ∙ ap (λ (k : ℕ). same_id t.id x && k == n) (view t)

      here : (o : Option TakeoverOf) → takeover_of m.column id v ≡ o → TakeoverMove m next id v (takeover_of m.column id v) (find (is_takeover id v) (change (is_takeover id v) g m.column.takeovers))
      here None e = TakeoverStays (find-change (is_takeover id v) g m.column.takeovers (keeps id v) ∙ ap (option_map g) e ∙ sym e)
      here (Some t) e = TakeoverChanges t (g t) e (find-change (is_takeover id v) g m.column.takeovers (keeps id v) ∙ ap (option_map g) e) (step t e)

      by : (b : Bool) → (same_id id other && v == w) ≡ b → TakeoverMove m next other w (takeover_of m.column other w) (find (is_takeover other w) (change (is_takeover id v) g m.column.takeovers))
      by true e =
          subst (λ (n : ℕ). TakeoverMove m next other n (takeover_of m.column other n) (find (is_takeover other n) (change (is_takeover id v) g m.column.takeovers))) (eqb-true v w (and_parts (same_id id other) (v == w) e).1)
          (subst (λ (x : TxnId). TakeoverMove m next x v (takeover_of m.column x v) (find (is_takeover x v) (change (is_takeover id v) g m.column.takeovers))) (same_id-tells id other (and_parts (same_id id other) (v == w) e).0)
          (here (takeover_of m.column id v) refl))
      by false e = TakeoverStays (find-change_other (is_takeover id v) (is_takeover other w) g m.column.takeovers (λ t k. apart_views t.id id other t.state.view v w e k) (keeps other w))

  takeovers_pushed : (next : ColumnState) (id : TxnId) (v : ℕ) (a : AttemptState) → attempt_of m.column id ≡ Some a → is_some a.txn ≡ true → 1 ≤ v →
      (other : TxnId) (w : ℕ) →
      TakeoverMove m next other w (takeover_of m.column other w) (find (is_takeover other w) (m.column.takeovers ++ record { id = id; closed = false; state = new_takeover m.round.faults v } ∷ []))
  takeovers_pushed next id v a found stamped from_one other w = by (takeover_of m.column other w) refl (is_takeover other w new) refl
    where
      new : TakeoverOf
      new = record { id = id; closed = false; state = new_takeover m.round.faults v }

      begins : (x : TxnId) (n : ℕ) → id ≡ x → v ≡ n → takeover_of m.column x n ≡ None → find (is_takeover x n) (m.column.takeovers ++ new ∷ []) ≡ Some new →
          TakeoverMove m next x n (takeover_of m.column x n) (find (is_takeover x n) (m.column.takeovers ++ new ∷ []))
      begins x n e k none is =
          TakeoverBegins a none (subst (λ (y : TxnId). attempt_of m.column y ≡ Some a) e found) stamped (subst (λ (y : ℕ). 1 ≤ y) k from_one)
          (is ∙ (λ i. Some (record { id = e i; closed = false; state = new_takeover m.round.faults (k i) })))

      by : (o : Option TakeoverOf) → takeover_of m.column other w ≡ o → (b : Bool) → is_takeover other w new ≡ b →
          TakeoverMove m next other w (takeover_of m.column other w) (find (is_takeover other w) (m.column.takeovers ++ new ∷ []))
      by (Some t) e b k = TakeoverStays (find-append_some (is_takeover other w) m.column.takeovers (new ∷ []) t e ∙ sym e)
      by None e true k =
          begins other w (same_id-tells id other (and_parts (same_id id other) (v == w) k).0) (eqb-true v w (and_parts (same_id id other) (v == w) k).1) e
          (find_push (is_takeover other w) m.column.takeovers new e k)
      by None e false k = TakeoverStays (find_push_other (is_takeover other w) m.column.takeovers new k)

  stamped_one : (id : TxnId) (a : AttemptState) → Rattle.std.specs.List.list_any (is_validate_of id) m.column.link ≡ true → attempt_of m.column id ≡ Some a → is_some a.txn ≡ true
  stamped_one id a any e =
      let msg = Among-from_list_any (is_validate_of id) m.column.link any in
      let s = stamped_sent msg.0 msg.1 in
      let same : msg.0.id ≡ id = same_id-tells msg.0.id id (and_parts _ _ msg.2).1 in
      let one : s.attempt ≡ a = same_Some s.attempt a (sym s.found ∙ ap (λ (x : TxnId). attempt_of m.column x) same ∙ e) in
      subst (λ (x : AttemptState). is_some x.txn ≡ true) one s.stamped

  stamping_sorted : (id : TxnId) (writes : List WriteItem) (s : Option StampType) → TakeoversSorted (stamped id writes s m.column)
  stamping_sorted id writes None = (λ x n. TakeoverStays refl)
  stamping_sorted id writes (Some stamp) = (λ x n. TakeoverStays refl)

  ruled_sorted : (a : AttemptState) (r : Ruling) → TakeoversSorted (ruled m.round.faults a r m.column)
  ruled_sorted a (Fast o) = (λ x n. TakeoverStays refl)
  ruled_sorted a (Learned o) = (λ x n. TakeoverStays refl)
  ruled_sorted a (Propose o) = (λ x n. TakeoverStays refl)
  ruled_sorted a (Short k) = (λ x n. TakeoverStays refl)
  ruled_sorted a (Unaccepted k) = (λ x n. TakeoverStays refl)

  picked_sorted : (view : ℕ) (a : AttemptState) (t : TakeoverOf) (p : Pick) → takeover_of m.column a.id view ≡ Some t → pick m.round.faults t.state ≡ p →
      TakeoversSorted (picked m.round.faults view a p m.column)
  picked_sorted view a t (Known o) e is = takeovers_changed _ a.id view closing (λ _. refl) (λ _. refl) (λ x k. Closes refl)
  picked_sorted view a t (PickLearned o) e is = takeovers_changed _ a.id view closing (λ _. refl) (λ _. refl) (λ x k. Closes refl)
  picked_sorted view a t (PickPropose o) e is =
      takeovers_changed (with_learned m step (picked m.round.faults view a (PickPropose o) m.column)) a.id view (takeover_proposing o) (λ _. refl) (λ _. refl)
      (λ x k. subst (λ (y : TakeoverOf). TakeoverChange m (with_learned m step (picked m.round.faults view a (PickPropose o) m.column)) a.id view y (takeover_proposing o y)) (same_Some t x (sym e ∙ k)) (Picks o is refl (0, (a.epoch, Among-append_right (msg_of a.epoch a.id 0 view (Accept o)) m.column.link (to_all m.round.faults a.epoch a.id view (Accept o)) (first_of_all m.round.faults a.epoch a.id view (Accept o))))))
  picked_sorted view a t (PickShort k) e is = (λ x n. TakeoverStays refl)
  picked_sorted view a t (PickUnaccepted k) e is = (λ x n. TakeoverStays refl)
  picked_sorted view a t (Unclear x y) e is = (λ x n. TakeoverStays refl)

  taken_sorted : (msg : Msg) → Among msg m.column.link → TakeoversSorted (taken m.round msg m.column)
  taken_sorted msg among =
      let Fine : ColumnState → Type 0 = TakeoversSorted in
      cond_both (goes_to_replica msg.body) _ _ Fine (λ _. on_some-keeps Fine (replica_takes m.round msg) (txn_of m.column msg.id) m.column (λ txn e. (λ x n. TakeoverStays refl)) (λ x n. TakeoverStays refl)) (λ _. cond_both (msg.view == 0) _ _ Fine (λ _. cond_both (listens (attempt_of m.column msg.id)) _ _ Fine (λ _. (λ x n. TakeoverStays refl)) (λ _. (λ x n. TakeoverStays refl))) (λ _. cond_both (is_led m.round msg.epoch msg.view) _ _ Fine (λ _. takeovers_changed _ msg.id msg.view (takeover_answered msg.replica msg.body) (takeover_answered-id msg.replica msg.body) (takeover_answered-view msg.replica msg.body)
      (λ t e. TakeoverHears msg among refl refl refl)) (λ _. (λ x n. TakeoverStays refl))))

  validated_sorted : (txn : Transaction) (r ep : ℕ) (state : ValidationState) (next : Option KeyAct) → TakeoversSorted (validated txn r ep state next m.column)
  validated_sorted txn r ep state (Some act) = (λ x n. TakeoverStays refl)
  validated_sorted txn r ep state None = (λ x n. TakeoverStays refl)

  answered_sorted : (answer : Answer) (work : Work) → TakeoversSorted (answered answer work m.column)
  answered_sorted answer Idle = (λ x n. TakeoverStays refl)
  answered_sorted answer (Fetching id replica key) = (λ x n. TakeoverStays refl)
  answered_sorted answer (Validating txn replica epoch state) = validated_sorted txn replica epoch (after_answer state answer) (next_act (after_answer state answer))
  answered_sorted answer (Finishing replica []) = (λ x n. TakeoverStays refl)
  answered_sorted answer (Finishing replica (act ∷ acts)) = (λ x n. TakeoverStays refl)

module _ (m : Moment) (stamped_sent : (msg : Msg) → Among msg m.column.link → IsStampedIn m msg.id msg.epoch) where
  pub takeovers_sorted : (step : Step) → AllTrue (conditions m.round m.column step) → TakeoversSorted m step stamped_sent (stepped m.round m.column step)
  takeovers_sorted (Begin client replica) c =
      let step = Begin client replica in
      on_some-keeps (TakeoversSorted m step stamped_sent) _ (client_of m.column client) m.column (λ d _. (λ x n. TakeoverStays refl)) (λ x n. TakeoverStays refl)
  takeovers_sorted (Unread client) c =
      let step = Unread client in
      on_some-keeps (TakeoversSorted m step stamped_sent) _ (client_of m.column client) m.column (λ d _. (λ x n. TakeoverStays refl)) (λ x n. TakeoverStays refl)
  takeovers_sorted (Read id key) c =
      let step = Read id key in
      on_some-keeps (TakeoversSorted m step stamped_sent) _ (attempt_of m.column id) m.column (λ a _. (λ x n. TakeoverStays refl)) (λ x n. TakeoverStays refl)
  takeovers_sorted (Stamp id clock writes) c =
      let step = Stamp id clock writes in
      on_some-keeps (TakeoversSorted m step stamped_sent) _ (attempt_of m.column id) m.column
      (λ a e. on_some-keeps (TakeoversSorted m step stamped_sent) _ (client_of m.column a.id.client) m.column (λ d _. stamping_sorted m step stamped_sent a.id writes (next_stamp_of d.number d.last_time clock a.reads)) (λ x n. TakeoverStays refl)) (λ x n. TakeoverStays refl)
  takeovers_sorted (Validate id) c =
      let step = Validate id in
      on_some-keeps (TakeoversSorted m step stamped_sent) _ (attempt_of m.column id) m.column (λ a _. (λ x n. TakeoverStays refl)) (λ x n. TakeoverStays refl)
  takeovers_sorted (Take number) c =
      let step = Take number in
      on_some-keeps (TakeoversSorted m step stamped_sent) _ (message m.column.link number) m.column (λ msg e. taken_sorted m step stamped_sent msg (message_among m.column.link number msg e)) (λ x n. TakeoverStays refl)
  takeovers_sorted (Key call answer) c =
      let step = Key call answer in
      answered_sorted m step stamped_sent answer m.column.work
  takeovers_sorted (Rule id) c =
      let step = Rule id in
      on_some-keeps (TakeoversSorted m step stamped_sent) _ (attempt_of m.column id) m.column (λ a e. ruled_sorted m step stamped_sent a (ruling m.round.faults a.coord)) (λ x n. TakeoverStays refl)
  takeovers_sorted (Again id) c =
      let step = Again id in
      on_some-keeps (TakeoversSorted m step stamped_sent) _ (attempt_of m.column id) m.column
      (λ a _. on_some-keeps (TakeoversSorted m step stamped_sent) _ a.coord.proposed m.column (λ o _. (λ x n. TakeoverStays refl)) (λ x n. TakeoverStays refl)) (λ x n. TakeoverStays refl)
  takeovers_sorted (Takeover id view) c =
      let step = Takeover id view in
      on_some-keeps (TakeoversSorted m step stamped_sent) _ (attempt_of m.column id) m.column
      (λ a e. takeovers_pushed m step stamped_sent _ a.id view a (subst (λ (x : TxnId). attempt_of m.column x ≡ Some a) (sym (attempt_of-id m.column id a e)) e)
      (stamped_one m step stamped_sent id a c.1.0 e) (grind (arith, nat_tests, c.1.1.0))) (λ x n. TakeoverStays refl)
  takeovers_sorted (PickStep id view) c =
      let step = PickStep id view in
      on_some-keeps (TakeoversSorted m step stamped_sent) _ (attempt_of m.column id) m.column
      (λ a _. on_some-keeps (TakeoversSorted m step stamped_sent) _ (takeover_of m.column a.id view) m.column (λ t e. picked_sorted m step stamped_sent view a t (pick m.round.faults t.state) e refl) (λ x n. TakeoverStays refl)) (λ x n. TakeoverStays refl)
  takeovers_sorted (Stop id) c =
      let step = Stop id in
      (λ x n. TakeoverStays refl)
