-- What the remaining steps do to a column, and each enabled step.
use Rattle.std.proofs.Common.{◌≡◌, ◌∙◌, ◌≤◌, ℕ, ◌+◌, Bool, true, false, refl, sym, subst, ap, arith, inl, inr, List, [], ◌∷◌, ◌++◌, map, length, Option, Some, None, ◌&&◌, nat_lt, if◌then◌else◌}
use Rattle.std.specs.Prelude.{is_some, is_none, find, option_and_then, slice_get, ◌-◌, nat_le, ◌==◌}
use Rattle.std.proofs.lemmas.Option.{same_Some}
use Rattle.std.proofs.lemmas.Bool.{and_parts, eqb-true}
use Rattle.std.proofs.lemmas.List.{append-nil}
use Rattle.mk_lists.specs.Among.{Each, Each-weaker}
use Rattle.mk_lists.specs.Changed.{change}
use Rattle.mk_lists.proofs.Lookups.{find-passes}
use Rattle.mk_model.proofs.Parts.{attempt_of-id, attempt_of-own, heard_of-number, heard_of-same, state_answered-view}
use Rattle.mk_quorum.proofs.Slots.{passes-at, passes-some}
use Rattle.mk_txn.specs.declared.TxnId.{TxnId}
use Rattle.mk_txn.specs.declared.Stamp.{Stamp as StampType}
use Rattle.mk_txn.specs.declared.WriteItem.{WriteItem}
use Rattle.mk_txn.specs.Stamps.{next_stamp_of}
use Rattle.mk_txn.specs.Transactions.{Transaction, same_id}
use Rattle.mk_txn.proofs.IdOrder.{same_id-itself}
use Rattle.mk_words.specs.declared.Answer.{Answer}
use Rattle.mk_words.specs.declared.Msg.{Msg}
use Rattle.mk_words.specs.declared.Body.{Body}
use Rattle.mk_words.specs.declared.Body.TheVariants.{Validate as ValidateBody, Voted, Accept, Accepted as AcceptedBody, Decide, Ask, Told as ToldBody, Moved as MovedBody}
use Rattle.mk_words.specs.Links.{message, goes_to_replica}
use Rattle.mk_words.specs.Checks.{KeyAct}
use Rattle.mk_words.specs.Validations.{ValidationState, next_act, after_answer, validation_of, vote_of}
use Rattle.mk_words.specs.Rulings.{ruling}
use Rattle.mk_words.specs.Picks.{TakeoverState, pick}
use Rattle.mk_words.specs.declared.KeyCall.{KeyCall}
use Rattle.mk_words.specs.declared.Step.{Step}
use Rattle.mk_words.specs.declared.Step.TheVariants.{Begin, Unread, Read, Stamp, Validate, Take, Key, Rule, Again, Takeover, Pick as PickStep, Stop}
use Rattle.mk_model.specs.ColumnState.{Setting, ColumnState, AttemptState, TakeoverOf, ClientState, Learning, Work, attempt_of, client_of, takeover_of, is_attempt, is_client, is_takeover, change_attempt, change_client, change_takeover, send, to_all, mark_sent}
use Rattle.mk_model.specs.ColumnState.Work.{Idle, Fetching, Validating, Finishing}
use Rattle.mk_model.specs.Conditions.{blocked, conditions, is_validate_of, is_stamped, on_attempt, acts_on}
use Rattle.mk_model.specs.Replicas.{Reaction, reaction_by_view, held_at}
use Rattle.mk_model.specs.Answers.{state_answered, own_answered, takeover_heard, takeover_answered, attempt_answered, heard_of, listens, is_led}
use Rattle.mk_model.specs.Learnings.{txn_of, learned_in_step}
use Rattle.mk_model.specs.Steps.{on_some, beginning, left_unread, next_id, new_attempt, unread_attempt, epoch_of, stamping, stamped, with_txn, with_last_time, ruled, sent_again, taken_over, picking, replica_takes, taken, answered, fetched, with_read, validated, voted_msg, column_after, stepped}
use Rattle.mk_driver_laws.proofs.Lookups.{any-right, changed_from, none_changed, member-slice_get}
use Rattle.mk_model.proofs.Frames.{AllTrue-from_first_failing}
use Rattle.mk_driver_laws.proofs.ColumnMoves.{WasSent, stops, validates, ColumnFits, WorkFits, AttemptKept, MessageFits, Moves}
use Rattle.mk_driver_laws.proofs.ColumnMoves.AttemptMove.{Stays}
use Rattle.mk_driver_laws.proofs.StepParts.{changed_moves, plain_fits, some_to_all, has_checks, moves_by, moves_plain, moves_changed}
use Rattle.mk_driver_laws.proofs.Replies.{ReplyFits, ReactionFits, by_view_fits, finishing_fits}
use Rattle.mk_driver_laws.proofs.ColumnSteps.{with_learned, same_attempt, sent_attempt, nothing_moves, begin_moves, send_moves, acts_sent, proposed_sent, rule_moves, again_moves, takeover_moves, pick_moves, takeover_changed}

-- clients that change keep or raise their next place
counted : (cs : List ClientState) (p : ClientState → Bool) (g : ClientState → ClientState) → ((x : ClientState) → (g x).number ≡ x.number) → ((x : ClientState) → (g x).next_seq ≡ x.next_seq) →
    (n : ℕ) (d : ClientState) → find (is_client n) (change p g cs) ≡ Some d → (before : ClientState) × (find (is_client n) cs ≡ Some before) × (before.next_seq ≤ d.next_seq)
counted cs p g same kept n d e =
    let h = changed_from p (is_client n) g cs d (λ x. ap (λ (z : ℕ). z == n) (same x)) e in (
      h.0,
      h.1,
      elim h.2 [
        | inl s ↦ (let x = h.0 in let q : d.next_seq ≡ x.next_seq = ap (λ (y : ClientState). y.next_seq) s in omega (arith, q))
        | inr s ↦ (let x = h.0 in let q : d.next_seq ≡ x.next_seq = ap (λ (y : ClientState). y.next_seq) s ∙ kept x in omega (arith, q))
      ],
    )

module _ (f : ℕ) (c : ColumnState) (k : ColumnFits f c) (l : List Learning) where
  -- attempts of one number change, and clients of one number
  both_change : (step : Step) → ((id : TxnId) → validates step id ≡ false) → (other : TxnId) (g : AttemptState → AttemptState) (n : ℕ) (h : ClientState → ClientState) →
      ((a : AttemptState) → (g a).id ≡ a.id) → ((a : AttemptState) → attempt_of c other ≡ Some a → AttemptKept c.link (stops step other) other a (g a)) →
      ((x : ClientState) → (h x).number ≡ x.number) → ((x : ClientState) → (h x).next_seq ≡ x.next_seq) →
      Moves f c (with_learned l (change_client n h (change_attempt other g c))) step
  both_change step v other g n h same kept number next =
      record {
        attempts = λ id. changed_moves f c.link step other g c.attempts same kept id;
        messages = [];
        link = (sym (append-nil c.link));
        fit = tt;
        validated = λ id w. absurd (cc (sym (v id) ∙ w));
        takeovers = k.takeovers;
        work = k.work;
        clients = counted c.clients (is_client n) h number next;
        begun = λ id a o e. absurd (cc (sym (none_changed (is_attempt other) (is_attempt id) g c.attempts (λ x. ap (λ (z : TxnId). same_id z id) (same x)) o) ∙ e));
      }

  stamp_moves : (id : TxnId) (clock : ℕ) (writes : List WriteItem) (a : AttemptState) (stamp : Option StampType) → attempt_of c a.id ≡ Some a →
      nat_lt 0 (length a.reads + length writes) ≡ true → Moves f c (with_learned l (stamped a.id writes stamp c)) (Stamp id clock writes)
  stamp_moves id clock writes a None e n = nothing_moves f c k l (Stamp id clock writes) (λ i z. absurd (cc z))
  stamp_moves id clock writes a (Some stamp) e n =
      both_change (Stamp id clock writes) (λ i. refl) a.id (with_txn stamp writes) a.id.client (with_last_time stamp.time) (λ x. refl) kept (λ x. refl) (λ x. refl)
    where
      kept : (x : AttemptState) → attempt_of c a.id ≡ Some x → AttemptKept c.link false a.id x (with_txn stamp writes x)
      kept x g =
          let same : a ≡ x = same_Some a x (sym e ∙ g) in
          let some : nat_lt 0 (length x.reads + length writes) ≡ true = subst (λ (y : AttemptState). nat_lt 0 (length y.reads + length writes) ≡ true) same n in
          let made : Transaction = record { id = x.id; stamp = stamp; reads = x.reads; writes = writes } in
          record {
            txn = λ t. refl;
            coord = inl refl;
            acts = λ h txn t. subst (λ (y : Transaction). (y.id ≡ a.id) × (is_some (next_act (validation_of y)) ≡ true)) (same_Some made txn t)
                (attempt_of-id c a.id x g, has_checks made some);
            stopped = λ t. refl;
          }

  stamping_moves : (id : TxnId) (clock : ℕ) (writes : List WriteItem) (a : AttemptState) (o : Option ClientState) → attempt_of c a.id ≡ Some a →
      nat_lt 0 (length a.reads + length writes) ≡ true →
      Moves f c (with_learned l (on_some (λ cl col. stamped a.id writes (next_stamp_of cl.number cl.last_time clock a.reads) col) o c)) (Stamp id clock writes)
  stamping_moves id clock writes a (Some cl) e n = stamp_moves id clock writes a (next_stamp_of cl.number cl.last_time clock a.reads) e n
  stamping_moves id clock writes a None e n = nothing_moves f c k l (Stamp id clock writes) (λ i z. absurd (cc z))

  validate_moves : (id : TxnId) (epoch mark : ℕ) → on_attempt c id is_stamped ≡ true →
      Moves f c (with_learned l (send (to_all f epoch id 0 (ValidateBody mark)) c)) (Validate id)
  validate_moves id epoch mark s =
      send_moves f c k l (Validate id) (to_all f epoch id 0 (ValidateBody mark)) (each_fit (to_all_each f))
      (λ i e. any-right (is_validate_of i) c.link (to_all f epoch id 0 (ValidateBody mark)) (some_to_all (is_validate_of i) f epoch id 0 (ValidateBody mark) (λ r. e)))
    where
      One : Msg → Type 0
      One m = (r : ℕ) × (m ≡ record { epoch = epoch; id = id; replica = r; view = 0; body = ValidateBody mark })

      to_all_each : (f : ℕ) → Each One (to_all f epoch id 0 (ValidateBody mark))
      to_all_each f = each_of (Rattle.mk_model.specs.ColumnState.numbers_from 0 (Rattle.mk_quorum.specs.Sizes.members f))
        where
          each_of : (ns : List ℕ) → Each One (map (λ r. record { epoch = epoch; id = id; replica = r; view = 0; body = ValidateBody mark }) ns)
          each_of [] = tt
          each_of (n ∷ ns) = ((n, refl), each_of ns)

      each_fit : Each One (to_all f epoch id 0 (ValidateBody mark)) → Each (MessageFits c (Validate id)) (to_all f epoch id 0 (ValidateBody mark))
      each_fit = Each-weaker One (MessageFits c (Validate id)) fits (to_all f epoch id 0 (ValidateBody mark))
        where
          fits : (m : Msg) → One m → MessageFits c (Validate id) m
          fits m h = subst (λ (x : Msg). MessageFits c (Validate id) x) (sym h.1)
              (record { stamped = s; sent = inr (same_id-itself id); quiet = λ i e. e })

  -- ---- taking

  replica_moves : (number : ℕ) (msg : Msg) (r : Reaction) → WasSent c.link msg.id → ReactionFits c.link msg r →
      (records : List (List Rattle.mk_words.specs.declared.Entry.Entry)) (marks : List Rattle.mk_txn.specs.MarkMaps.MarkMap) →
      Moves f c (with_learned l (record c { records = records; marks = marks; link = c.link ++ r.sent; work = r.work })) (Take number)
  replica_moves number msg r w h records marks =
      moves_plain f c _ (Take number) k refl refl refl r.sent refl
      (Each-weaker (ReplyFits msg) (MessageFits c (Take number))
      (λ m q. plain_fits c (Take number) m (subst (λ (i : TxnId). on_attempt c i is_stamped ≡ true) (sym q.same) (k.stamped msg.id w))
      (subst (λ (i : TxnId). WasSent c.link i) (sym q.same) w) q.quiet) r.sent h.sent)
      (λ i z. absurd (cc z)) h.work

  if_moves : (step : Step) (b : Bool) (one other : ColumnState) → Moves f c (with_learned l one) step → Moves f c (with_learned l other) step →
      Moves f c (with_learned l (if b then one else other)) step
  if_moves step true one other h g = h
  if_moves step false one other h g = g

  replica_takes_moves : (round : Setting) (number : ℕ) (msg : Msg) → WasSent c.link msg.id → (o : Option Transaction) → txn_of c msg.id ≡ o →
      Moves f c (with_learned l (on_some (replica_takes round msg) o c)) (Take number)
  replica_takes_moves round number msg w None e = nothing_moves f c k l (Take number) (λ i z. absurd (cc z))
  replica_takes_moves round number msg w (Some txn) e = by (attempt_of c msg.id) refl e
    where
      by : (o : Option AttemptState) → attempt_of c msg.id ≡ o → option_and_then (λ a. a.txn) o ≡ Some txn → Moves f c (with_learned l (replica_takes round msg txn c)) (Take number)
      by None g t = absurd (cc t)
      by (Some a) g t =
          let fits = k.attempts msg.id a g in
          let acts = fits.acts txn t in
          replica_moves number msg (reaction_by_view txn (held_at c msg.replica) msg (slice_get round.views msg.replica)) w
          (by_view_fits c.link msg txn (subst (λ (i : TxnId). WasSent c.link i) (sym acts.0) w) acts.1 (held_at c msg.replica) (slice_get round.views msg.replica)) _ _

  own_moves : (number : ℕ) (msg : Msg) → WasSent c.link msg.id → Moves f c (with_learned l (own_answered msg c)) (Take number)
  own_moves number msg w =
      if_moves (Take number) (listens (attempt_of c msg.id)) _ c
      (both_change (Take number) (λ i. refl) msg.id (attempt_answered msg.replica msg.body) msg.id.client (heard_of msg.body) (λ x. refl)
      (λ x g. sent_attempt c.link false msg.id x (attempt_answered msg.replica msg.body x) refl w refl)
      (λ x. heard_of-number msg.body x) (λ x. (heard_of-same msg.body x).1))
      (nothing_moves f c k l (Take number) (λ i z. absurd (cc z)))

  same_takeover : (r : ℕ) (body : Body) (t : TakeoverOf) (b : Bool) →
      ((if b then t else record t { state = state_answered r body t.state }).id ≡ t.id) × ((if b then t else record t { state = state_answered r body t.state }).state.view ≡ t.state.view)
  same_takeover r body t true = (refl, refl)
  same_takeover r body t false = (refl, state_answered-view r body t.state)

  heard_moves : (round : Setting) (number : ℕ) (msg : Msg) → Moves f c (with_learned l (takeover_heard round msg c)) (Take number)
  heard_moves round number msg =
      if_moves (Take number) (is_led round msg.epoch msg.view) _ c
      (moves_by f c _ (Take number) k (λ i. Stays refl) (λ i o. o) refl
      (takeover_changed f c k l (takeover_answered msg.replica msg.body) msg.id msg.view (λ t. (same_takeover msg.replica msg.body t t.closed).0) (λ t. (same_takeover msg.replica msg.body t t.closed).1))
      [] (sym (append-nil c.link)) tt (λ i z. absurd (cc z)) k.work)
      (nothing_moves f c k l (Take number) (λ i z. absurd (cc z)))

  taken_moves : (round : Setting) (number : ℕ) (msg : Msg) → WasSent c.link msg.id → Moves f c (with_learned l (taken round msg c)) (Take number)
  taken_moves round number msg w =
      if_moves (Take number) (goes_to_replica msg.body) _ _ (replica_takes_moves round number msg w (txn_of c msg.id) refl)
      (if_moves (Take number) (msg.view == 0) _ _ (own_moves number msg w) (heard_moves round number msg))

  sent_message : (number : ℕ) (msg : Msg) → message c.link number ≡ Some msg → WasSent c.link msg.id
  sent_message number msg e = by (nat_le 1 number) e
    where
      by : (b : Bool) → (if b then slice_get c.link (number - 1) else None) ≡ Some msg → WasSent c.link msg.id
      by true z = member-slice_get (λ (m : Msg). WasSent c.link m.id) c.link (number - 1) msg k.sent z
      by false z = absurd (cc z)

  take_moves : (round : Setting) (number : ℕ) (o : Option Msg) → message c.link number ≡ o → Moves f c (with_learned l (on_some (taken round) o c)) (Take number)
  take_moves round number None e = nothing_moves f c k l (Take number) (λ i z. absurd (cc z))
  take_moves round number (Some msg) e = taken_moves round number msg (sent_message number msg e)

  -- ---- key calls

  validated_moves : (call : KeyCall) (answer : Answer) (txn : Transaction) (replica epoch : ℕ) (state : ValidationState) → WasSent c.link txn.id →
      (act : Option KeyAct) → next_act state ≡ act → Moves f c (with_learned l (validated txn replica epoch state act c)) (Key call answer)
  validated_moves call answer txn replica epoch state w (Some act) e =
      moves_plain f c _ (Key call answer) k refl refl refl [] (sym (append-nil c.link)) tt (λ i z. absurd (cc z)) (w, ap is_some e)
  validated_moves call answer txn replica epoch state w None e =
      moves_plain f c _ (Key call answer) k refl refl refl (voted_msg txn replica epoch (vote_of state) ∷ []) refl
      (plain_fits c (Key call answer) (voted_msg txn replica epoch (vote_of state)) (k.stamped txn.id w) w (λ i. refl), tt) (λ i z. absurd (cc z)) tt

  key_moves : (call : KeyCall) (answer : Answer) (work : Work) → WorkFits c.link work → Moves f c (with_learned l (answered answer work c)) (Key call answer)
  key_moves call answer Idle h = nothing_moves f c k l (Key call answer) (λ i z. absurd (cc z))
  key_moves call answer (Fetching id replica key) h =
      moves_changed f c _ (Key call answer) k id (with_read key answer) refl (λ x. refl)
      (λ x g. same_attempt c.link false id x (with_read key answer x) refl refl refl) refl refl [] (sym (append-nil c.link)) tt (λ i z. absurd (cc z)) tt
  key_moves call answer (Validating txn replica epoch state) h =
      let next = after_answer state answer in validated_moves call answer txn replica epoch next h.0 (next_act next) refl
  key_moves call answer (Finishing replica []) h = absurd h
  key_moves call answer (Finishing replica (act ∷ acts)) h =
      moves_plain f c _ (Key call answer) k refl refl refl [] (sym (append-nil c.link)) tt (λ i z. absurd (cc z)) (finishing_fits c.link replica acts)

  stop_moves : (id : TxnId) → Moves f c (with_learned l (change_attempt id (λ a. record a { stopped = true }) c)) (Stop id)
  stop_moves id =
      moves_changed f c _ (Stop id) k id (λ a. record a { stopped = true }) refl (λ x. refl)
      (λ x g. record { txn = λ e. e; coord = inl refl; acts = λ h. h; stopped = λ e. absurd (cc (sym (same_id-itself id) ∙ e)) }) refl refl [] (sym (append-nil c.link)) tt (λ i z. absurd (cc z)) k.work

  read_moves : (id : TxnId) (key : ℕ) (o : Option AttemptState) → Moves f c (with_learned l (on_some (λ a col. record col { work = Fetching id a.replica key }) o c)) (Read id key)
  read_moves id key (Some a) = moves_plain f c _ (Read id key) k refl refl refl [] (sym (append-nil c.link)) tt (λ i z. absurd (cc z)) tt
  read_moves id key None = nothing_moves f c k l (Read id key) (λ i z. absurd (cc z))

  picking_moves : (round : Setting) (id : TxnId) (view : ℕ) (a : AttemptState) → round.faults ≡ f → attempt_of c a.id ≡ Some a → (o : Option TakeoverOf) → takeover_of c a.id view ≡ o →
      Moves f c (with_learned l (on_some (λ t col. Rattle.mk_model.specs.Steps.picked f view a (pick f t.state) col) o c)) (PickStep id view)
  picking_moves round id view a s e None t = nothing_moves f c k l (PickStep id view) (λ i z. absurd (cc z))
  picking_moves round id view a s e (Some takeover) t =
      let w = k.takeovers a.id view takeover t in pick_moves f c k l id view a (pick f takeover.state) (k.stamped a.id w) w

stamped_own : (c : ColumnState) (id : TxnId) (a : AttemptState) → attempt_of c id ≡ Some a → on_attempt c id is_stamped ≡ true → on_attempt c a.id is_stamped ≡ true
stamped_own c id a e s = ap (λ (i : TxnId). on_attempt c i is_stamped) (attempt_of-id c id a e) ∙ s

sent_own : (c : ColumnState) (id : TxnId) (a : AttemptState) → attempt_of c id ≡ Some a → WasSent c.link id → WasSent c.link a.id
sent_own c id a e w = subst (λ (i : TxnId). WasSent c.link i) (sym (attempt_of-id c id a e)) w

-- what an enabled step does
pub step_moves : (round : Setting) (c : ColumnState) (step : Step) → ColumnFits round.faults c → blocked round c step ≡ None →
    Moves round.faults c (column_after round c step) step
step_moves round c (Begin client replica) k b = by (c.learned ++ learned_in_step round c (Begin client replica)) (client_of c client) refl
  where
    by : (l : List Learning) (o : Option ClientState) → client_of c client ≡ o →
        Moves round.faults c (with_learned l (on_some (beginning round replica (epoch_of (slice_get round.views replica))) o c)) (Begin client replica)
    by l None e = nothing_moves round.faults c k l (Begin client replica) (λ i z. absurd (cc z))
    by l (Some cl) e =
        let same : cl.number ≡ client = eqb-true cl.number client (find-passes (is_client client) c.clients cl e) in
        begin_moves round.faults c k l (Begin client replica) (λ i. refl) cl _ _ (ap (client_of c) same ∙ e) refl refl refl
step_moves round c (Unread client) k b = by (c.learned ++ learned_in_step round c (Unread client)) (client_of c client) refl
  where
    by : (l : List Learning) (o : Option ClientState) → client_of c client ≡ o → Moves round.faults c (with_learned l (on_some (left_unread round) o c)) (Unread client)
    by l None e = nothing_moves round.faults c k l (Unread client) (λ i z. absurd (cc z))
    by l (Some cl) e =
        let same : cl.number ≡ client = eqb-true cl.number client (find-passes (is_client client) c.clients cl e) in
        begin_moves round.faults c k l (Unread client) (λ i. refl) cl _ _ (ap (client_of c) same ∙ e) refl refl refl
step_moves round c (Read id key) k b = read_moves round.faults c k _ id key (attempt_of c id)
step_moves round c (Stamp id clock writes) k b = by (c.learned ++ learned_in_step round c (Stamp id clock writes)) (attempt_of c id) refl
  where
    by : (l : List Learning) (o : Option AttemptState) → attempt_of c id ≡ o → Moves round.faults c (with_learned l (on_some (stamping clock writes) o c)) (Stamp id clock writes)
    by l None e = nothing_moves round.faults c k l (Stamp id clock writes) (λ i z. absurd (cc z))
    by l (Some a) e =
        let h = AllTrue-from_first_failing 1 (conditions round c (Stamp id clock writes)) b in
        stamping_moves round.faults c k l id clock writes a (client_of c a.id.client) (attempt_of-own c id a e)
        (passes-at (λ x. nat_lt 0 (length x.reads + length writes)) (attempt_of c id) a e h.1.1.1.1.0)
step_moves round c (Validate id) k b = by (c.learned ++ learned_in_step round c (Validate id)) (attempt_of c id) refl
  where
    by : (l : List Learning) (o : Option AttemptState) → attempt_of c id ≡ o →
        Moves round.faults c (with_learned l (on_some (λ a col. send (to_all round.faults a.epoch id 0 (ValidateBody (mark_sent round col id.client))) col) o c)) (Validate id)
    by l None e =
        let h = AllTrue-from_first_failing 1 (conditions round c (Validate id)) b in
        let p = passes-some is_stamped (attempt_of c id) h.1.0 in absurd (cc (sym e ∙ p.1))
    by l (Some a) e =
        let h = AllTrue-from_first_failing 1 (conditions round c (Validate id)) b in validate_moves round.faults c k l id a.epoch (mark_sent round c id.client) h.1.0
step_moves round c (Take number) k b = take_moves round.faults c k _ round number (message c.link number) refl
step_moves round c (Key call answer) k b = key_moves round.faults c k _ call answer c.work k.work
step_moves round c (Rule id) k b = by (c.learned ++ learned_in_step round c (Rule id)) (attempt_of c id) refl
  where
    by : (l : List Learning) (o : Option AttemptState) → attempt_of c id ≡ o →
        Moves round.faults c (with_learned l (on_some (λ a col. ruled round.faults a (ruling round.faults a.coord) col) o c)) (Rule id)
    by l None e = nothing_moves round.faults c k l (Rule id) (λ i z. absurd (cc z))
    by l (Some a) e =
        let h = AllTrue-from_first_failing 1 (conditions round c (Rule id)) b in
        rule_moves round.faults c k l id a (ruling round.faults a.coord) (attempt_of-own c id a e) (stamped_own c id a e h.1.0)
        (sent_own c id a e (acts_sent round.faults c k [] id a e (passes-at (λ x. acts_on (ruling round.faults x.coord)) (attempt_of c id) a e h.1.1.1.1.0)))
step_moves round c (Again id) k b = by (c.learned ++ learned_in_step round c (Again id)) (attempt_of c id) refl
  where
    by : (l : List Learning) (o : Option AttemptState) → attempt_of c id ≡ o → Moves round.faults c (with_learned l (on_some (sent_again round.faults) o c)) (Again id)
    by l None e = nothing_moves round.faults c k l (Again id) (λ i z. absurd (cc z))
    by l (Some a) e =
        let h = AllTrue-from_first_failing 1 (conditions round c (Again id)) b in
        again_moves round.faults c k l id a a.coord.proposed (stamped_own c id a e h.1.0)
        (sent_own c id a e (proposed_sent round.faults c k [] id a e
        (and_parts (is_some a.coord.proposed) (is_none a.coord.learned) (passes-at (λ x. is_some x.coord.proposed && is_none x.coord.learned) (attempt_of c id) a e h.1.1.1.0)).0))
step_moves round c (Takeover id view) k b = by (c.learned ++ learned_in_step round c (Takeover id view)) (attempt_of c id) refl
  where
    by : (l : List Learning) (o : Option AttemptState) → attempt_of c id ≡ o → Moves round.faults c (with_learned l (on_some (taken_over round.faults view) o c)) (Takeover id view)
    by l None e = nothing_moves round.faults c k l (Takeover id view) (λ i z. absurd (cc z))
    by l (Some a) e =
        let h = AllTrue-from_first_failing 1 (conditions round c (Takeover id view)) b in
        takeover_moves round.faults c k l id view a (stamped_own c id a e (k.stamped id h.1.0)) (sent_own c id a e h.1.0)
step_moves round c (PickStep id view) k b = by (c.learned ++ learned_in_step round c (PickStep id view)) (attempt_of c id) refl
  where
    by : (l : List Learning) (o : Option AttemptState) → attempt_of c id ≡ o → Moves round.faults c (with_learned l (on_some (picking round view) o c)) (PickStep id view)
    by l None e = nothing_moves round.faults c k l (PickStep id view) (λ i z. absurd (cc z))
    by l (Some a) e = picking_moves round.faults c k l round id view a refl (attempt_of-own c id a e) (takeover_of c a.id view) refl
step_moves round c (Stop id) k b = stop_moves round.faults c k _ id
