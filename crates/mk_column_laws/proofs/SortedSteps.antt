-- What each step does to entries, messages and key calls, and what is learned in it.
use Rattle.std.proofs.Common.{◌≡◌, ◌<◌, ◌≤◌, ◌∙◌, ℕ, zero, suc, ◌+◌, true, false, refl, arith, inl, inr, sym, ap, subst, List, [], ◌∷◌, ◌++◌, Option, Some, None, length-set, map}
use Rattle.std.specs.Prelude.{option_map, find, is_some, is_none, ◌==◌, slice_index_or, length}
use Rattle.std.proofs.lemmas.Bool.Decides.{nat_tests}
use Rattle.std.specs.List.{list_any}
use Rattle.std.proofs.lemmas.Bool.{and_parts, cond_both}
use Rattle.std.proofs.lemmas.Option.{same_Some}
use Rattle.mk_lists.specs.Among.{Among, Among-append_right}
use Rattle.mk_lists.specs.Changed.{change}
use Rattle.mk_lists.proofs.Tests.{Among-from_list_any}
use Rattle.mk_lists.proofs.Options.{None-from_is_none}
use Rattle.mk_lists.proofs.Changes.{find-change}
use Rattle.mk_lists.proofs.Lookups.{find_push}
use Rattle.mk_model.proofs.Parts.{attempt_of-id, attempt_of-own}
use Rattle.mk_txn.specs.declared.TxnId.{TxnId}
use Rattle.mk_txn.specs.declared.Stamp.{Stamp as StampType}
use Rattle.mk_txn.specs.declared.WriteItem.{WriteItem}
use Rattle.mk_txn.specs.declared.Outcome.{Outcome}
use Rattle.mk_txn.specs.Stamps.{next_stamp_of}
use Rattle.mk_txn.specs.Transactions.{Transaction, same_id}
use Rattle.mk_txn.proofs.IdOrder.{same_id-itself, same_id-tells}
use Rattle.mk_words.specs.declared.Answer.{Answer}
use Rattle.mk_words.specs.declared.Entry.{Entry}
use Rattle.mk_words.specs.Entries.{entry_of}
use Rattle.mk_words.specs.declared.Msg.{Msg}
use Rattle.mk_words.specs.declared.Body.{Body}
use Rattle.mk_words.specs.declared.Body.TheVariants.{Validate as ValidateBody, Accept, Decide, Ask}
use Rattle.mk_words.specs.Links.{message, goes_to_replica}
use Rattle.mk_quorum.specs.Sizes.{members}
use Rattle.mk_quorum.proofs.Slots.{passes-at}
use Rattle.mk_words.specs.declared.Ruling.{Ruling}
use Rattle.mk_words.specs.declared.Ruling.TheVariants.{Fast, Propose, Learned, Short, Unaccepted}
use Rattle.mk_words.specs.Rulings.{ruling}
use Rattle.mk_words.specs.declared.Pick.{Pick}
use Rattle.mk_words.specs.declared.Pick.TheVariants.{Known, Learned as PickLearned, Propose as PickPropose, Short as PickShort, Unaccepted as PickUnaccepted, Unclear}
use Rattle.mk_words.specs.Picks.{pick, new_takeover}
use Rattle.mk_words.specs.Checks.{KeyAct}
use Rattle.mk_words.specs.Validations.{ValidationState, next_act, after_answer}
use Rattle.mk_words.specs.declared.Step.{Step}
use Rattle.mk_words.specs.declared.Step.TheVariants.{Begin, Unread, Read, Stamp, Validate, Take, Key, Rule, Again, Takeover, Pick as PickStep, Stop}
use Rattle.mk_model.specs.ColumnState.{ColumnState, AttemptState, TakeoverOf, Work, Learning, attempt_of, takeover_of, client_of, is_attempt, is_takeover, to_all, numbers_from, mark_sent, send}
use Rattle.mk_model.specs.ColumnState.Work.{Idle, Fetching, Validating, Finishing}
use Rattle.mk_model.specs.ColumnState.Way.{ByVotes}
use Rattle.mk_model.specs.Conditions.{conditions, is_idle, is_validate_of, may_read}
use Rattle.mk_model.specs.Replicas.{finishing}
use Rattle.mk_model.specs.Answers.{listens, is_led}
use Rattle.mk_model.specs.Learnings.{learning, txn_of, by_rule, by_ruling, learned_in_step}
use Rattle.mk_model.specs.Steps.{stepped, stamped, ruled, picked, proposing, taught as having_learned, takeover_proposing, taken, replica_takes, answered, validated, taken_over}
use Rattle.mk_model.proofs.Frames.{AllTrue, on_some-keeps}
use Rattle.mk_column_laws.specs.Moments.{Moment, Taught}
use Rattle.mk_model.specs.Sending.{msg_of}
use Rattle.mk_column_laws.specs.Moves.{Newborn, WorkMove, IsStampedIn}
use Rattle.mk_column_laws.specs.Moves.Newborn.{ValidateSent, AskSent, ProposalSent, FastSent, LearnedSent, KnownSent, PickSent}
use Rattle.mk_column_laws.specs.Moves.WorkMove.{WorkRests, WorkFetches, WorkGoesOn, WorkFinishes}
use Rattle.mk_column_laws.specs.Facts.{Facts}
use Rattle.mk_column_laws.proofs.SortedAttempts.{message_among}
use Rattle.mk_column_laws.proofs.SortedEntries.{moment_with, EntrySorted, entry_untouched, entries_stay, replica_sorted, replica_sends, replica_works, validated_sorted, validated_sends}

pub idle_from : (w : Work) → is_idle w ≡ true → w ≡ Idle
idle_from Idle e = refl
idle_from (Fetching id r k) e = absurd (cc e)
idle_from (Validating t r ep s) e = absurd (cc e)
idle_from (Finishing r l) e = absurd (cc e)

-- a message to all is to one of the replicas
pub among_numbered : (n k ep : ℕ) (id : TxnId) (v : ℕ) (b : Body) (msg : Msg) → Among msg (map (λ r. msg_of ep id r v b) (numbers_from k n)) →
    (r : ℕ) × (r < k + n) × (msg_of ep id r v b ≡ msg)
among_numbered zero k ep id v b msg a = absurd a
among_numbered (suc n) k ep id v b msg (inl e) = (k, omega arith, e)
among_numbered (suc n) k ep id v b msg (inr a) = let m = among_numbered n (k + 1) ep id v b msg a in (m.0, omega (arith, m.1), m.2)

pub among_all : (f ep : ℕ) (id : TxnId) (v : ℕ) (b : Body) (msg : Msg) → Among msg (to_all f ep id v b) → (r : ℕ) × (r < members f) × (msg_of ep id r v b ≡ msg)
among_all f ep id v b msg a = let m = among_numbered (members f) 0 ep id v b msg a in (m.0, omega (arith, m.1), m.2)

module _ (taught : Taught) (m : Moment) (h : Facts taught m) (step : Step) where
  pub record StepSorted (c : ColumnState) : Type 0 where
    pub entries : (r : ℕ) (id : TxnId) → EntrySorted taught m h step c r id
    pub link : List Msg
    pub grows : c.link ≡ m.column.link ++ link
    pub messages : (msg : Msg) → Among msg link → (msg.replica < members m.round.faults) × IsStampedIn (moment_with m step c) msg.id msg.epoch × Newborn m (moment_with m step c) msg
    pub work : WorkMove m (moment_with m step c) m.column.work c.work
    pub sized : length c.records ≡ length m.column.records

  nothing_sent : (link : List Msg) → link ≡ link ++ []
  nothing_sent [] = refl
  nothing_sent (x ∷ xs) = ap (λ l. x ∷ l) (nothing_sent xs)

  -- nothing but clients, attempts and takeovers changes
  untouched : (c : ColumnState) → c.records ≡ m.column.records → c.link ≡ m.column.link → WorkMove m (moment_with m step c) m.column.work c.work → StepSorted c
  untouched c records link work =
      record {
        entries = λ r id. entry_untouched taught m h step c r id (ap (λ (l : List (List Entry)). entry_of id (slice_index_or l r [])) records);
        link = [];
        grows = link ∙ nothing_sent m.column.link;
        messages = λ msg a. absurd a;
        work = work;
        sized = ap length records;
      }

  -- no key call is under way
  module _ (idle : m.column.work ≡ Idle) where
    stays : StepSorted m.column
    stays = untouched m.column refl refl (WorkRests idle)

    -- messages are sent to all
    sends_all : (c : ColumnState) (ep : ℕ) (id : TxnId) (v : ℕ) (b : Body) → c.records ≡ m.column.records → c.link ≡ m.column.link ++ to_all m.round.faults ep id v b → c.work ≡ m.column.work →
        IsStampedIn (moment_with m step c) id ep → ((r : ℕ) → Newborn m (moment_with m step c) (msg_of ep id r v b)) → StepSorted c
    sends_all c ep id v b records link work stamped_in newborn =
        record {
          entries = λ r x. entry_untouched taught m h step c r x (ap (λ (l : List (List Entry)). entry_of x (slice_index_or l r [])) records);
          link = to_all m.round.faults ep id v b;
          grows = link;
          messages = λ msg a.
              let k = among_all m.round.faults ep id v b msg a in
              subst (λ (x : Msg). (x.replica < members m.round.faults) × IsStampedIn (moment_with m step c) x.id x.epoch × Newborn m (moment_with m step c) x) k.2 (k.1, stamped_in, newborn k.0);
          work = WorkRests (work ∙ idle);
          sized = ap length records;
        }

    stamping_sorted : (id : TxnId) (writes : List WriteItem) (s : Option StampType) → StepSorted (stamped id writes s m.column)
    stamping_sorted id writes None = stays
    stamping_sorted id writes (Some stamp) = untouched (stamped id writes (Some stamp) m.column) refl refl (WorkRests idle)

    -- an attempt that changes in place is found where it was
    changed_attempt : (a : AttemptState) (g : AttemptState → AttemptState) → ((x : AttemptState) → (g x).id ≡ x.id) → attempt_of m.column a.id ≡ Some a →
        find (is_attempt a.id) (change (is_attempt a.id) g m.column.attempts) ≡ Some (g a)
    changed_attempt a g same e =
        find-change (is_attempt a.id) g m.column.attempts (λ x. ap (λ (y : TxnId). same_id y a.id) (same x)) ∙ ap (option_map g) e

    ruled_sorted : (a : AttemptState) (r : Ruling) → attempt_of m.column a.id ≡ Some a → is_some a.txn ≡ true → a.coord.learned ≡ None → ruling m.round.faults a.coord ≡ r →
        ((o : Outcome) → r ≡ Fast o → Among (learning a.id ByVotes o) (m.column.learned ++ learned_in_step m.round m.column step)) →
        StepSorted (ruled m.round.faults a r m.column)
    ruled_sorted a (Fast o) e txn none is learned =
        sends_all (ruled m.round.faults a (Fast o) m.column) a.epoch a.id 0 (Decide o) refl refl refl
        (record { attempt = having_learned o a; found = changed_attempt a (having_learned o) (λ _. refl) e; stamped = txn; same_epoch = refl })
        (λ r. FastSent o a refl e none is (learned o refl))
    ruled_sorted a (Learned o) e txn none is learned =
        sends_all (ruled m.round.faults a (Learned o) m.column) a.epoch a.id 0 (Decide o) refl refl refl
        (record { attempt = having_learned o a; found = changed_attempt a (having_learned o) (λ _. refl) e; stamped = txn; same_epoch = refl })
        (λ r. LearnedSent o a refl e none is)
    ruled_sorted a (Propose o) e txn none is learned =
        let found = changed_attempt a (proposing o) (λ _. refl) e in
        sends_all (ruled m.round.faults a (Propose o) m.column) a.epoch a.id 0 (Accept o) refl refl refl
        (record { attempt = proposing o a; found = found; stamped = txn; same_epoch = refl })
        (λ r. ProposalSent o refl (inl (refl, (proposing o a, found, refl))))
    ruled_sorted a (Short k) e txn none is learned = stays
    ruled_sorted a (Unaccepted k) e txn none is learned = stays

    again_sorted : (a : AttemptState) (o : Outcome) → attempt_of m.column a.id ≡ Some a → is_some a.txn ≡ true → a.coord.proposed ≡ Some o →
        StepSorted (send (to_all m.round.faults a.epoch a.id 0 (Accept o)) m.column)
    again_sorted a o e txn is =
        sends_all (send (to_all m.round.faults a.epoch a.id 0 (Accept o)) m.column) a.epoch a.id 0 (Accept o) refl refl refl
        (record { attempt = a; found = e; stamped = txn; same_epoch = refl })
        (λ r. ProposalSent o refl (inl (refl, (a, e, is))))

    begins_takeover : (a : AttemptState) (view : ℕ) → attempt_of m.column a.id ≡ Some a → is_some a.txn ≡ true → 1 ≤ view → takeover_of m.column a.id view ≡ None →
        StepSorted (taken_over m.round.faults view a m.column)
    begins_takeover a view e txn from_one none =
        let new : TakeoverOf = record { id = a.id; closed = false; state = new_takeover m.round.faults view } in
        let passes : is_takeover a.id view new ≡ true = (let k = same_id-itself a.id in grind (arith, nat_tests, k)) in
        sends_all (taken_over m.round.faults view a m.column) a.epoch a.id view Ask refl refl refl
        (record { attempt = a; found = e; stamped = txn; same_epoch = refl })
        (λ r. AskSent new refl from_one (find_push (is_takeover a.id view) m.column.takeovers new none passes))

    changed_takeover : (id : TxnId) (view : ℕ) (t : TakeoverOf) (g : TakeoverOf → TakeoverOf) → ((x : TakeoverOf) → is_takeover id view (g x) ≡ is_takeover id view x) → takeover_of m.column id view ≡ Some t →
        find (is_takeover id view) (change (is_takeover id view) g m.column.takeovers) ≡ Some (g t)
    changed_takeover id view t g same e = find-change (is_takeover id view) g m.column.takeovers same ∙ ap (option_map g) e

    picked_sorted : (view : ℕ) (a : AttemptState) (t : TakeoverOf) (p : Pick) → attempt_of m.column a.id ≡ Some a → is_some a.txn ≡ true → 1 ≤ view →
        takeover_of m.column a.id view ≡ Some t → pick m.round.faults t.state ≡ p → StepSorted (picked m.round.faults view a p m.column)
    picked_sorted view a t (Known o) e txn from_one found is =
        sends_all (picked m.round.faults view a (Known o) m.column) a.epoch a.id view (Decide o) refl refl refl
        (record { attempt = a; found = e; stamped = txn; same_epoch = refl }) (λ r. KnownSent o t refl found is)
    picked_sorted view a t (PickLearned o) e txn from_one found is =
        sends_all (picked m.round.faults view a (PickLearned o) m.column) a.epoch a.id view (Decide o) refl refl refl
        (record { attempt = a; found = e; stamped = txn; same_epoch = refl }) (λ r. PickSent o t refl found is)
    picked_sorted view a t (PickPropose o) e txn from_one found is =
        sends_all (picked m.round.faults view a (PickPropose o) m.column) a.epoch a.id view (Accept o) refl refl refl
        (record { attempt = a; found = e; stamped = txn; same_epoch = refl })
        (λ r. ProposalSent o refl (inr (from_one, (takeover_proposing o t, changed_takeover a.id view t (takeover_proposing o) (λ _. refl) found, refl))))
    picked_sorted view a t (PickShort k) e txn from_one found is = stays
    picked_sorted view a t (PickUnaccepted k) e txn from_one found is = stays
    picked_sorted view a t (Unclear x y) e txn from_one found is = stays

    taken_sorted : (msg : Msg) → Among msg m.column.link → StepSorted (taken m.round msg m.column)
    taken_sorted msg among =
        cond_both (goes_to_replica msg.body) _ _ StepSorted (λ _. on_some-keeps StepSorted (replica_takes m.round msg) (txn_of m.column msg.id) m.column
        (λ txn e. record {
          entries = replica_sorted taught m h step msg among txn e idle;
          link = _;
          grows = refl;
          messages = replica_sends taught m h step msg among txn e idle;
          work = replica_works taught m h step msg among txn e idle;
          sized = length-set m.column.records msg.replica _;
        }) stays) (λ _. cond_both (msg.view == 0) _ _ StepSorted (λ _. cond_both (listens (attempt_of m.column msg.id)) _ _ StepSorted (λ _. untouched _ refl refl (WorkRests idle)) (λ _. stays)) (λ _. cond_both (is_led m.round msg.epoch msg.view) _ _ StepSorted (λ _. untouched _ refl refl (WorkRests idle)) (λ _. stays)))

  validating_sorted : (answer : Answer) (txn : Transaction) (r ep : ℕ) (state : ValidationState) (next : Option KeyAct) → m.column.work ≡ Validating txn r ep state →
      next_act (after_answer state answer) ≡ next → StepSorted (validated txn r ep (after_answer state answer) next m.column)
  validating_sorted answer txn r ep state (Some act) work is =
      record {
        entries = validated_sorted taught m h step txn r ep state answer work (Some act) is;
        link = [];
        grows = nothing_sent m.column.link;
        messages = λ msg a. absurd a;
        work = WorkGoesOn txn r ep state answer refl work refl (λ q id. entries_stay taught m h step q id);
        sized = refl;
      }
  validating_sorted answer txn r ep state None work is =
      record {
        entries = validated_sorted taught m h step txn r ep state answer work None is;
        link = _;
        grows = refl;
        messages = validated_sends taught m h step txn r ep state answer work is;
        work = WorkRests refl;
        sized = length-set m.column.records r _;
      }

  finishing_sorted : (r : ℕ) (act : KeyAct) (acts : List KeyAct) → m.column.work ≡ Finishing r (act ∷ acts) → StepSorted (record (m.column) { work = finishing r acts })
  finishing_sorted r act [] e = untouched _ refl refl (WorkRests refl)
  finishing_sorted r act (next ∷ acts) e = untouched _ refl refl (WorkFinishes r act (next ∷ acts) refl e refl (λ q id. entries_stay taught m h step q id))

  answered_sorted : (answer : Answer) (work : Work) → m.column.work ≡ work → StepSorted (answered answer work m.column)
  answered_sorted answer Idle e = untouched m.column refl refl (WorkRests e)
  answered_sorted answer (Fetching id replica key) e = untouched _ refl refl (WorkRests refl)
  answered_sorted answer (Validating txn replica epoch state) e = validating_sorted answer txn replica epoch state (next_act (after_answer state answer)) e refl
  answered_sorted answer (Finishing replica []) e = untouched _ refl refl (WorkRests refl)
  answered_sorted answer (Finishing replica (act ∷ acts)) e = finishing_sorted replica act acts e

  nothing_learned : (a : AttemptState) (r : Ruling) (o : Outcome) → ruling m.round.faults a.coord ≡ r → r ≡ Fast o → (id : TxnId) → attempt_of m.column id ≡ Some a → a.id ≡ id →
      Among (learning a.id ByVotes o) (by_rule m.round id (attempt_of m.column id))
  nothing_learned a r o is fast id e same =
      let rule : by_rule m.round id (attempt_of m.column id) ≡ learning id ByVotes o ∷ [] =
      ap (by_rule m.round id) e ∙ ap (by_ruling id) (is ∙ fast) in
      subst (λ (l : List Learning). Among (learning a.id ByVotes o) l) (sym rule) (inl (ap (λ (x : TxnId). learning x ByVotes o) (sym same)))

module _ (taught : Taught) (m : Moment) (h : Facts taught m) where
  by_view : (id : TxnId) (view : ℕ) (a : AttemptState) (t : TakeoverOf) → takeover_of m.column id view ≡ Some t → attempt_of m.column id ≡ Some a → is_some a.txn ≡ true
  by_view id view a t e k =
      let b = (h.takeovers id view t e).begun in
      subst (λ (x : AttemptState). is_some x.txn ≡ true) (same_Some b.0 a (sym b.1 ∙ k)) b.2

  from_validate : (id : TxnId) (a : AttemptState) → list_any (is_validate_of id) m.column.link ≡ true → attempt_of m.column id ≡ Some a → is_some a.txn ≡ true
  from_validate id a any e =
      let msg = Among-from_list_any (is_validate_of id) m.column.link any in
      let s = (h.messages msg.0 msg.1).0 in
      let same : msg.0.id ≡ id = same_id-tells msg.0.id id (and_parts _ _ msg.2).1 in
      subst (λ (x : AttemptState). is_some x.txn ≡ true) (same_Some s.attempt a (sym s.found ∙ ap (λ (x : TxnId). attempt_of m.column x) same ∙ e)) s.stamped

  pub steps_sorted : (step : Step) → AllTrue (conditions m.round m.column step) → StepSorted taught m h step (stepped m.round m.column step)
  steps_sorted (Begin client replica) c =
      let step = Begin client replica in
      on_some-keeps (StepSorted taught m h step) _ (client_of m.column client) m.column (λ d _. untouched taught m h step _ refl refl (WorkRests (idle_from m.column.work c.0))) (stays taught m h step (idle_from m.column.work c.0))
  steps_sorted (Unread client) c =
      let step = Unread client in
      on_some-keeps (StepSorted taught m h step) _ (client_of m.column client) m.column (λ d _. untouched taught m h step _ refl refl (WorkRests (idle_from m.column.work c.0))) (stays taught m h step (idle_from m.column.work c.0))
  steps_sorted (Read id key) c =
      let step = Read id key in
      on_some-keeps (StepSorted taught m h step) _ (attempt_of m.column id) m.column
      (λ a e. untouched taught m h step _ refl refl (WorkFetches id a.replica key a e e (passes-at (λ (x : AttemptState). x.reading) (attempt_of m.column id) a e c.1.0) c.1.1.0
      (passes-at (may_read key) (attempt_of m.column id) a e c.1.1.1.0) refl (idle_from m.column.work c.0) refl)) (stays taught m h step (idle_from m.column.work c.0))
  steps_sorted (Stamp id clock writes) c =
      let step = Stamp id clock writes in
      on_some-keeps (StepSorted taught m h step) _ (attempt_of m.column id) m.column
      (λ a e. on_some-keeps (StepSorted taught m h step) _ (client_of m.column a.id.client) m.column
      (λ d _. stamping_sorted taught m h step (idle_from m.column.work c.0) a.id writes (next_stamp_of d.number d.last_time clock a.reads)) (stays taught m h step (idle_from m.column.work c.0))) (stays taught m h step (idle_from m.column.work c.0))
  steps_sorted (Validate id) c =
      let step = Validate id in
      on_some-keeps (StepSorted taught m h step) _ (attempt_of m.column id) m.column
      (λ a e. sends_all taught m h step (idle_from m.column.work c.0) _ a.epoch id 0 (ValidateBody (mark_sent m.round m.column id.client)) refl refl refl
      (record { attempt = a; found = e; stamped = passes-at (λ (x : AttemptState). is_some x.txn) (attempt_of m.column id) a e c.1.0; same_epoch = refl })
      (λ r. ValidateSent (mark_sent m.round m.column id.client) refl)) (stays taught m h step (idle_from m.column.work c.0))
  steps_sorted (Take number) c =
      let step = Take number in
      on_some-keeps (StepSorted taught m h step) _ (message m.column.link number) m.column
      (λ msg e. taken_sorted taught m h step (idle_from m.column.work c.0) msg (message_among m.column.link number msg e)) (stays taught m h step (idle_from m.column.work c.0))
  steps_sorted (Key call answer) c = answered_sorted taught m h (Key call answer) answer m.column.work refl
  steps_sorted (Rule id) c =
      let step = Rule id in
      on_some-keeps (StepSorted taught m h step) _ (attempt_of m.column id) m.column
      (λ a e. ruled_sorted taught m h step (idle_from m.column.work c.0) a (ruling m.round.faults a.coord) (attempt_of-own m.column id a e)
      (passes-at (λ (x : AttemptState). is_some x.txn) (attempt_of m.column id) a e c.1.0)
      (None-from_is_none a.coord.learned (passes-at (λ (x : AttemptState). is_none x.coord.learned) (attempt_of m.column id) a e c.1.1.1.0)) refl
      (λ o fast. Among-append_right (learning a.id ByVotes o) m.column.learned (by_rule m.round id (attempt_of m.column id))
      (nothing_learned taught m h step a (ruling m.round.faults a.coord) o refl fast id e (attempt_of-id m.column id a e)))) (stays taught m h step (idle_from m.column.work c.0))
  steps_sorted (Again id) c =
      let step = Again id in
      on_some-keeps (StepSorted taught m h step) _ (attempt_of m.column id) m.column
      (λ a e. on_some-keeps (StepSorted taught m h step) _ a.coord.proposed m.column
      (λ o p. again_sorted taught m h step (idle_from m.column.work c.0) a o (attempt_of-own m.column id a e) (passes-at (λ (x : AttemptState). is_some x.txn) (attempt_of m.column id) a e c.1.0) p) (stays taught m h step (idle_from m.column.work c.0))) (stays taught m h step (idle_from m.column.work c.0))
  steps_sorted (Takeover id view) c =
      let step = Takeover id view in
      on_some-keeps (StepSorted taught m h step) _ (attempt_of m.column id) m.column
      (λ a e. begins_takeover taught m h step (idle_from m.column.work c.0) a view (attempt_of-own m.column id a e) (from_validate id a c.1.0 e) (grind (arith, nat_tests, c.1.1.0))
      (subst (λ (x : TxnId). takeover_of m.column x view ≡ None) (sym (attempt_of-id m.column id a e)) (None-from_is_none (takeover_of m.column id view) (grind (arith, c.1.1.0))))) (stays taught m h step (idle_from m.column.work c.0))
  steps_sorted (PickStep id view) c =
      let step = PickStep id view in
      on_some-keeps (StepSorted taught m h step) _ (attempt_of m.column id) m.column
      (λ a e. on_some-keeps (StepSorted taught m h step) _ (takeover_of m.column a.id view) m.column
      (λ t k. picked_sorted taught m h step (idle_from m.column.work c.0) view a t (pick m.round.faults t.state) (attempt_of-own m.column id a e) (by_view a.id view a t k (attempt_of-own m.column id a e))
      (h.takeovers a.id view t k).from_one k refl) (stays taught m h step (idle_from m.column.work c.0))) (stays taught m h step (idle_from m.column.work c.0))
  steps_sorted (Stop id) c = untouched taught m h (Stop id) _ refl refl (WorkRests (idle_from m.column.work c.0))
