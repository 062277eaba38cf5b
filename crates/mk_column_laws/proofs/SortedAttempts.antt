-- What each step does to the attempts.
use Rattle.std.proofs.Common.{◌≡◌, ◌∙◌, ℕ, Bool, true, false, refl, arith, inl, ◌*◌, add-one, sym, ap, subst, List, [], ◌∷◌, ◌++◌, Option, Some, None, not, ◌||◌, ◌⊎◌, inr, ◌+◌, length, nat_lt}
use Rattle.std.specs.Prelude.{option_map, find, is_some, is_none, ◌==◌, ◌-◌, nat_le, slice_get, if◌then◌else◌}
use Rattle.std.proofs.lemmas.Bool.Decides.{nat_tests}
use Rattle.std.proofs.lemmas.Bool.{cond_both}
use Rattle.std.proofs.lemmas.Option.{same_Some}
use Rattle.mk_lists.specs.Among.{Among, Among-append_right}
use Rattle.mk_lists.specs.Changed.{change}
use Rattle.mk_lists.proofs.Changes.{find-change, find-change_other}
use Rattle.mk_lists.proofs.Lookups.{find-append_some, find_push, find_push_other}
use Rattle.mk_lists.proofs.Options.{None-from_is_none}
use Rattle.mk_lists.proofs.Members.{Among-slice_get}
use Rattle.mk_model.proofs.Parts.{attempt_of-id, attempt_of-own}
use Rattle.mk_txn.specs.declared.TxnId.{TxnId}
use Rattle.mk_txn.specs.declared.Stamp.{Stamp as StampType}
use Rattle.mk_txn.specs.declared.WriteItem.{WriteItem}
use Rattle.mk_txn.specs.declared.Outcome.{Outcome}
use Rattle.mk_txn.specs.Stamps.{next_stamp_of}
use Rattle.mk_txn.specs.Transactions.{Transaction, same_id}
use Rattle.mk_txn.proofs.IdOrder.{same_id-apart, same_id-tells}
use Rattle.mk_words.specs.declared.Answer.{Answer}
use Rattle.mk_words.specs.declared.Msg.{Msg}
use Rattle.mk_words.specs.Links.{message, goes_to_replica}
use Rattle.mk_words.specs.declared.Ruling.{Ruling}
use Rattle.mk_words.specs.declared.Ruling.TheVariants.{Fast, Propose, Learned, Short, Unaccepted}
use Rattle.mk_words.specs.Rulings.{ruling, new_coord}
use Rattle.mk_words.specs.declared.Pick.{Pick}
use Rattle.mk_words.specs.declared.Pick.TheVariants.{Known, Learned as PickLearned, Propose as PickPropose, Short as PickShort, Unaccepted as PickUnaccepted, Unclear}
use Rattle.mk_words.specs.Picks.{pick}
use Rattle.mk_words.specs.Checks.{KeyAct}
use Rattle.mk_words.specs.Validations.{ValidationState, next_act, after_answer}
use Rattle.mk_words.specs.declared.Step.{Step}
use Rattle.mk_words.specs.declared.Step.TheVariants.{Begin, Unread, Read, Stamp, Validate, Take, Key, Rule, Again, Takeover, Pick as PickStep, Stop}
use Rattle.mk_model.specs.ColumnState.{ColumnState, AttemptState, ClientState, Work, attempt_of, takeover_of, client_of, is_attempt, to_all, Learning}
use Rattle.mk_model.specs.ColumnState.Work.{Idle, Fetching, Validating, Finishing}
use Rattle.mk_model.specs.Conditions.{conditions, serves_from, heard_by, writes_fit}
use Rattle.mk_model.specs.Answers.{attempt_answered, listens, is_led}
use Rattle.mk_model.specs.Steps.{stepped, new_attempt, unread_attempt, next_id, epoch_of, stamped, with_txn, with_read, ruled, picked, proposing, taught, taken, replica_takes, answered, validated}
use Rattle.mk_model.specs.Learnings.{txn_of, learning, by_rule, by_ruling, learned_in_step}
use Rattle.mk_model.specs.ColumnState.Way.{ByVotes}
use Rattle.mk_words.specs.declared.Body.{Body}
use Rattle.mk_words.specs.declared.Body.TheVariants.{Accept}
use Rattle.mk_model.specs.Sending.{msg_of}
use Rattle.mk_model.specs.Replicas.{serves}
use Rattle.mk_trim.specs.declared.ReplicaView.{ReplicaView}
use Rattle.mk_quorum.specs.Slots.{passes}
use Rattle.mk_quorum.proofs.Slots.{passes-at}
use Rattle.mk_model.proofs.Frames.{AllTrue, on_some-keeps}
use Rattle.mk_column_laws.specs.Moments.{Moment}
use Rattle.mk_column_laws.specs.Moves.{AttemptMove, AttemptChange}
use Rattle.mk_column_laws.specs.Moves.AttemptMove.{AttemptStays, AttemptBegins, AttemptChanges}
use Rattle.mk_column_laws.specs.Moves.AttemptChange.{Reads, Stamps, RulesFast, RulesLearned, Proposes, Hears, Stops}

-- the messages that there are
pub message_among : (link : List Msg) (number : ℕ) (msg : Msg) → message link number ≡ Some msg → Among msg link
message_among link number msg e = by (nat_le 1 number) e
  where
    by : (b : Bool) → (if b then slice_get link (number - 1) else None) ≡ Some msg → Among msg link
    by true k = Among-slice_get link (number - 1) msg k
    by false k = absurd (cc k)

-- a fast ruling is learned
pub learned_fast : (m : Moment) (a : AttemptState) (r : Ruling) (o : Outcome) → ruling m.round.faults a.coord ≡ r → r ≡ Fast o → (id : TxnId) → attempt_of m.column id ≡ Some a → a.id ≡ id →
    Among (learning a.id ByVotes o) (by_rule m.round id (attempt_of m.column id))
learned_fast m a r o is fast id e same =
    let rule : by_rule m.round id (attempt_of m.column id) ≡ learning id ByVotes o ∷ [] = ap (by_rule m.round id) e ∙ ap (by_ruling id) (is ∙ fast) in
    subst (λ (l : List Learning). Among (learning a.id ByVotes o) l) (sym rule) (inl (ap (λ (x : TxnId). learning x ByVotes o) (sym same)))

-- a message to all goes to replica 0
pub first_of_all : (f ep : ℕ) (id : TxnId) (v : ℕ) (b : Body) → Among (msg_of ep id 0 v b) (to_all f ep id v b)
first_of_all f ep id v b = rw (add-one (2 * f)) (inl refl)

module _ (m : Moment) (step : Step) where
  -- the column after the step, where it is this one but for what was learned
  abbrev pub with_learned : ColumnState → ColumnState
  with_learned c = record c { learned = m.column.learned ++ learned_in_step m.round m.column step }

  abbrev pub AttemptsSorted : ColumnState → Type 0
  AttemptsSorted c = (id : TxnId) → AttemptMove m (with_learned c) id (attempt_of m.column id) (attempt_of c id)

  pub attempts_changed : (next : ColumnState) (id : TxnId) (g : AttemptState → AttemptState) → ((a : AttemptState) → (g a).id ≡ a.id) →
      ((a : AttemptState) → attempt_of m.column id ≡ Some a → AttemptChange m next id a (g a)) →
      (other : TxnId) → AttemptMove m next other (attempt_of m.column other) (find (is_attempt other) (change (is_attempt id) g m.column.attempts))
  attempts_changed next id g same step other = by (same_id id other) refl
    where
      keeps : (x : TxnId) (a : AttemptState) → is_attempt x (g a) ≡ is_attempt x a
      keeps x a = ap (λ (y : TxnId). same_id y x) (same a)

      here : (o : Option AttemptState) → attempt_of m.column id ≡ o → AttemptMove m next id (attempt_of m.column id) (find (is_attempt id) (change (is_attempt id) g m.column.attempts))
      here None e = AttemptStays (find-change (is_attempt id) g m.column.attempts (keeps id) ∙ ap (option_map g) e ∙ sym e)
      here (Some a) e = AttemptChanges a (g a) e (find-change (is_attempt id) g m.column.attempts (keeps id) ∙ ap (option_map g) e) (step a e)

      by : (b : Bool) → same_id id other ≡ b → AttemptMove m next other (attempt_of m.column other) (find (is_attempt other) (change (is_attempt id) g m.column.attempts))
      by true e =
          subst (λ (x : TxnId). AttemptMove m next x (attempt_of m.column x) (find (is_attempt x) (change (is_attempt id) g m.column.attempts))) (same_id-tells id other e)
          (here (attempt_of m.column id) refl)
      by false e = AttemptStays (find-change_other (is_attempt id) (is_attempt other) g m.column.attempts (λ a t. same_id-apart a.id id other e t) (keeps other))

  attempts_pushed : (next : ColumnState) (new : AttemptState) → new.coord ≡ new_coord m.round.faults → new.txn ≡ None → new.reads ≡ [] →
      ((new.unread ≡ true) × (new.reading ≡ false)) ⊎ (serves new.epoch (slice_get m.round.views new.replica) ≡ true) →
      (other : TxnId) → AttemptMove m next other (attempt_of m.column other) (find (is_attempt other) (m.column.attempts ++ new ∷ []))
  attempts_pushed next new coord none reads home other = by (attempt_of m.column other) refl (is_attempt other new) refl
    where
      by : (o : Option AttemptState) → attempt_of m.column other ≡ o → (b : Bool) → is_attempt other new ≡ b →
          AttemptMove m next other (attempt_of m.column other) (find (is_attempt other) (m.column.attempts ++ new ∷ []))
      by (Some a) e b t = AttemptStays (find-append_some (is_attempt other) m.column.attempts (new ∷ []) a e ∙ sym e)
      by None e true t = AttemptBegins new e (find_push (is_attempt other) m.column.attempts new e t) (same_id-tells new.id other t) coord none reads home
      by None e false t = AttemptStays (find_push_other (is_attempt other) m.column.attempts new t)

  stamping_sorted : (a : AttemptState) (clock : ℕ) (writes : List WriteItem) (c : ClientState) (s : Option StampType) → attempt_of m.column a.id ≡ Some a → a.reading ≡ true → writes_fit m.round.keys writes ≡ true →
      nat_lt 0 (length a.reads + length writes) ≡ true → client_of m.column a.id.client ≡ Some c → next_stamp_of c.number c.last_time clock a.reads ≡ s → AttemptsSorted (stamped a.id writes s m.column)
  stamping_sorted a clock writes c None e reading fit some client is = (λ x. AttemptStays refl)
  stamping_sorted a clock writes c (Some stamp) e reading fit some client is =
      attempts_changed (with_learned (stamped a.id writes (Some stamp) m.column)) a.id (with_txn stamp writes) (λ _. refl)
      (λ b k. subst (λ (x : AttemptState). AttemptChange m (with_learned (stamped a.id writes (Some stamp) m.column)) a.id x (with_txn stamp writes x)) (same_Some a b (sym e ∙ k))
      (Stamps c clock stamp writes reading fit some client is refl))

  ruled_sorted : (a : AttemptState) (r : Ruling) → attempt_of m.column a.id ≡ Some a → a.coord.learned ≡ None → ruling m.round.faults a.coord ≡ r →
      ((o : Outcome) → r ≡ Fast o → Among (learning a.id ByVotes o) (m.column.learned ++ learned_in_step m.round m.column step)) → AttemptsSorted (ruled m.round.faults a r m.column)
  ruled_sorted a (Fast o) e none is fast =
      attempts_changed (with_learned (ruled m.round.faults a (Fast o) m.column)) a.id (taught o) (λ _. refl)
      (λ b k. subst (λ (x : AttemptState). AttemptChange m (with_learned (ruled m.round.faults a (Fast o) m.column)) a.id x (taught o x)) (same_Some a b (sym e ∙ k)) (RulesFast o none is refl (fast o refl)))
  ruled_sorted a (Learned o) e none is fast =
      attempts_changed (with_learned (ruled m.round.faults a (Learned o) m.column)) a.id (taught o) (λ _. refl)
      (λ b k. subst (λ (x : AttemptState). AttemptChange m (with_learned (ruled m.round.faults a (Learned o) m.column)) a.id x (taught o x)) (same_Some a b (sym e ∙ k)) (RulesLearned o none is refl))
  ruled_sorted a (Propose o) e none is fast =
      attempts_changed (with_learned (ruled m.round.faults a (Propose o) m.column)) a.id (proposing o) (λ _. refl)
      (λ b k. subst (λ (x : AttemptState). AttemptChange m (with_learned (ruled m.round.faults a (Propose o) m.column)) a.id x (proposing o x)) (same_Some a b (sym e ∙ k)) (Proposes o none is refl (0, (a.epoch, Among-append_right (msg_of a.epoch a.id 0 0 (Accept o)) m.column.link (to_all m.round.faults a.epoch a.id 0 (Accept o)) (first_of_all m.round.faults a.epoch a.id 0 (Accept o))))))
  ruled_sorted a (Short k) e none is fast = (λ x. AttemptStays refl)
  ruled_sorted a (Unaccepted k) e none is fast = (λ x. AttemptStays refl)

  picked_sorted : (view : ℕ) (a : AttemptState) (p : Pick) → AttemptsSorted (picked m.round.faults view a p m.column)
  picked_sorted view a (Known o) = (λ x. AttemptStays refl)
  picked_sorted view a (PickLearned o) = (λ x. AttemptStays refl)
  picked_sorted view a (PickPropose o) = (λ x. AttemptStays refl)
  picked_sorted view a (PickShort k) = (λ x. AttemptStays refl)
  picked_sorted view a (PickUnaccepted k) = (λ x. AttemptStays refl)
  picked_sorted view a (Unclear x y) = (λ x. AttemptStays refl)

  not_learned : (o : Option AttemptState) (a : AttemptState) → o ≡ Some a → listens o ≡ true → a.coord.learned ≡ None
  not_learned None a e l = absurd (cc e)
  not_learned (Some b) a e l = by b.coord.learned a.coord.learned (ap (λ (x : AttemptState). x.coord.learned) (same_Some b a e)) b.stopped l
    where
      by : (x y : Option Outcome) → x ≡ y → (s : Bool) → not (s || is_some x) ≡ true → y ≡ None
      by None y p s t = sym p
      by (Some z) y p true t = absurd (cc t)
      by (Some z) y p false t = absurd (cc t)

  taken_sorted : (msg : Msg) → Among msg m.column.link → AttemptsSorted (taken m.round msg m.column)
  taken_sorted msg among =
      let Fine : ColumnState → Type 0 = AttemptsSorted in
      cond_both (goes_to_replica msg.body) _ _ Fine (λ _. on_some-keeps Fine (replica_takes m.round msg) (txn_of m.column msg.id) m.column (λ txn e. (λ x. AttemptStays refl)) (λ x. AttemptStays refl)) (λ _. cond_both (msg.view == 0) _ _ Fine (λ zero_view. cond_both (listens (attempt_of m.column msg.id)) _ _ Fine (λ hears. attempts_changed _ msg.id (attempt_answered msg.replica msg.body) (λ _. refl)
      (λ a e. Hears msg among refl (grind (arith, nat_tests, zero_view)) (not_learned (attempt_of m.column msg.id) a e hears) refl)) (λ _. (λ x. AttemptStays refl))) (λ _. cond_both (is_led m.round msg.epoch msg.view) _ _ Fine (λ _. (λ x. AttemptStays refl)) (λ _. (λ x. AttemptStays refl))))

  validated_sorted : (txn : Transaction) (r ep : ℕ) (state : ValidationState) (next : Option KeyAct) → AttemptsSorted (validated txn r ep state next m.column)
  validated_sorted txn r ep state (Some act) = (λ x. AttemptStays refl)
  validated_sorted txn r ep state None = (λ x. AttemptStays refl)

  answered_sorted : (answer : Answer) (work : Work) → m.column.work ≡ work → AttemptsSorted (answered answer work m.column)
  answered_sorted answer Idle e = (λ x. AttemptStays refl)
  answered_sorted answer (Fetching id replica key) e = attempts_changed _ id (with_read key answer) (λ _. refl) (λ a k. Reads replica key answer e refl)
  answered_sorted answer (Validating txn replica epoch state) e = validated_sorted txn replica epoch (after_answer state answer) (next_act (after_answer state answer))
  answered_sorted answer (Finishing replica []) e = (λ x. AttemptStays refl)
  answered_sorted answer (Finishing replica (act ∷ acts)) e = (λ x. AttemptStays refl)

-- a replica at which an attempt may begin serves its epoch
home_serves : (epoch : ℕ) (view : Option ReplicaView) → passes (serves_from epoch) view ≡ true → serves (epoch_of view) view ≡ true
home_serves epoch None e = absurd (cc e)
home_serves epoch (Some v) e = grind (arith, nat_tests, e)

module _ (m : Moment) where
  pub attempts_sorted : (step : Step) → AllTrue (conditions m.round m.column step) → AttemptsSorted m step (stepped m.round m.column step)
  attempts_sorted (Begin client replica) c =
      let step = Begin client replica in
      on_some-keeps (AttemptsSorted m step) _ (client_of m.column client) m.column
      (λ d _. attempts_pushed m step _ (new_attempt m.round.faults (next_id d) replica (epoch_of (slice_get m.round.views replica))) refl refl refl
      (inr (home_serves (heard_by m.column client) (slice_get m.round.views replica) c.1.1.0))) (λ x. AttemptStays refl)
  attempts_sorted (Unread client) c =
      let step = Unread client in
      on_some-keeps (AttemptsSorted m step) _ (client_of m.column client) m.column (λ d _. attempts_pushed m step _ (unread_attempt m.round.faults (next_id d)) refl refl refl (inl (refl, refl))) (λ x. AttemptStays refl)
  attempts_sorted (Read id key) c =
      let step = Read id key in
      on_some-keeps (AttemptsSorted m step) _ (attempt_of m.column id) m.column (λ a _. (λ x. AttemptStays refl)) (λ x. AttemptStays refl)
  attempts_sorted (Stamp id clock writes) c =
      let step = Stamp id clock writes in
      on_some-keeps (AttemptsSorted m step) _ (attempt_of m.column id) m.column
      (λ a e. on_some-keeps (AttemptsSorted m step) _ (client_of m.column a.id.client) m.column
      (λ d k. stamping_sorted m step a clock writes d (next_stamp_of d.number d.last_time clock a.reads) (attempt_of-own m.column id a e)
      (passes-at (λ (x : AttemptState). x.reading) (attempt_of m.column id) a e c.1.0) c.1.1.0
      (passes-at (λ (x : AttemptState). nat_lt 0 (length x.reads + length writes)) (attempt_of m.column id) a e c.1.1.1.1.0) k refl) (λ x. AttemptStays refl)) (λ x. AttemptStays refl)
  attempts_sorted (Validate id) c =
      let step = Validate id in
      on_some-keeps (AttemptsSorted m step) _ (attempt_of m.column id) m.column (λ a _. (λ x. AttemptStays refl)) (λ x. AttemptStays refl)
  attempts_sorted (Take number) c =
      let step = Take number in
      on_some-keeps (AttemptsSorted m step) _ (message m.column.link number) m.column (λ msg e. taken_sorted m step msg (message_among m.column.link number msg e)) (λ x. AttemptStays refl)
  attempts_sorted (Key call answer) c =
      let step = Key call answer in
      answered_sorted m step answer m.column.work refl
  attempts_sorted (Rule id) c =
      let step = Rule id in
      on_some-keeps (AttemptsSorted m step) _ (attempt_of m.column id) m.column
      (λ a e. ruled_sorted m step a (ruling m.round.faults a.coord) (attempt_of-own m.column id a e)
      (None-from_is_none a.coord.learned (passes-at (λ (x : AttemptState). is_none x.coord.learned) (attempt_of m.column id) a e c.1.1.1.0)) refl
      (λ o fast. Among-append_right (learning a.id ByVotes o) m.column.learned (by_rule m.round id (attempt_of m.column id))
      (learned_fast m a (ruling m.round.faults a.coord) o refl fast id e (attempt_of-id m.column id a e)))) (λ x. AttemptStays refl)
  attempts_sorted (Again id) c =
      let step = Again id in
      on_some-keeps (AttemptsSorted m step) _ (attempt_of m.column id) m.column
      (λ a _. on_some-keeps (AttemptsSorted m step) _ a.coord.proposed m.column (λ o _. (λ x. AttemptStays refl)) (λ x. AttemptStays refl)) (λ x. AttemptStays refl)
  attempts_sorted (Takeover id view) c =
      let step = Takeover id view in
      on_some-keeps (AttemptsSorted m step) _ (attempt_of m.column id) m.column (λ a _. (λ x. AttemptStays refl)) (λ x. AttemptStays refl)
  attempts_sorted (PickStep id view) c =
      let step = PickStep id view in
      on_some-keeps (AttemptsSorted m step) _ (attempt_of m.column id) m.column
      (λ a _. on_some-keeps (AttemptsSorted m step) _ (takeover_of m.column a.id view) m.column (λ t _. picked_sorted m step view a (pick m.round.faults t.state)) (λ x. AttemptStays refl)) (λ x. AttemptStays refl)
  attempts_sorted (Stop id) c =
      let step = Stop id in
      attempts_changed m step _ id (λ a. record a { stopped = true }) (λ _. refl) (λ a _. Stops refl)
