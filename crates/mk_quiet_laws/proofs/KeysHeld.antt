-- The keys that a quiet column's attempts read and write are their clients'.
use Rattle.std.proofs.Common.{◌≡◌, ℕ, ◌==◌, Bool, true, refl, inl, inr, sym, subst, List, [], ◌∷◌, ◌++◌, Option, Some, None, not}
use Rattle.std.specs.Prelude.{slice_get, nat_lt}
use Rattle.std.proofs.lemmas.Bool.{cond_both}
use Rattle.std.proofs.lemmas.Option.{same_Some}
use Rattle.mk_lists.specs.Among.{Each, Each-append, Each-among}
use Rattle.mk_lists.specs.Changed.{change, Each-change}
use Rattle.mk_lists.proofs.Members.{Among-from_map}
use Rattle.mk_txn.specs.declared.TxnId.{TxnId}
use Rattle.mk_txn.specs.declared.ReadItem.{ReadItem}
use Rattle.mk_txn.specs.declared.WriteItem.{WriteItem}
use Rattle.mk_txn.specs.declared.Stamp.{Stamp as StampType}
use Rattle.mk_txn.specs.declared.Outcome.{Outcome}
use Rattle.mk_txn.specs.Stamps.{next_stamp_of}
use Rattle.mk_txn.specs.Transactions.{Transaction}
use Rattle.mk_txn.proofs.IdOrder.{same_id-tells}
use Rattle.mk_words.specs.declared.Answer.{Answer}
use Rattle.mk_words.specs.declared.Answer.TheVariants.{Version, Okay, Refused, Done}
use Rattle.mk_words.specs.declared.Entry.{Entry}
use Rattle.mk_words.specs.declared.Msg.{Msg}
use Rattle.mk_words.specs.declared.Body.{Body}
use Rattle.mk_words.specs.declared.Body.TheVariants.{Validate as ValidateBody, Voted, Accept, Accepted as AcceptedBody, Decide, Ask, Told as ToldBody, Moved as MovedBody}
use Rattle.mk_txn.specs.declared.Vote.{Vote as VoteType}
use Rattle.mk_words.specs.Entries.{entry_of}
use Rattle.mk_words.specs.Links.{message, goes_to_replica}
use Rattle.mk_words.specs.Checks.{KeyAct}
use Rattle.mk_words.specs.Validations.{ValidationState, next_act, after_answer}
use Rattle.mk_words.specs.declared.Ruling.{Ruling}
use Rattle.mk_words.specs.declared.Ruling.TheVariants.{Fast, Propose, Learned, Short, Unaccepted}
use Rattle.mk_words.specs.Rulings.{ruling}
use Rattle.mk_words.specs.declared.Pick.{Pick}
use Rattle.mk_words.specs.declared.Pick.TheVariants.{Known, Learned as PickLearned, Propose as PickPropose, Short as PickShort, Unaccepted as PickUnaccepted, Unclear}
use Rattle.mk_words.specs.Picks.{pick}
use Rattle.mk_trim.specs.declared.ReplicaView.{ReplicaView}
use Rattle.mk_script.specs.declared.lines.TxnLine.{TxnLine}
use Rattle.mk_script.specs.Scripts.{ScriptParts}
use Rattle.mk_faults.specs.Fates.{rules_of}
use Rattle.mk_words.specs.declared.Step.{Step}
use Rattle.mk_words.specs.declared.Step.TheVariants.{Begin, Unread, Read, Stamp, Validate, Take, Key, Rule, Again, Takeover, Pick as PickStep, Stop}
use Rattle.mk_model.specs.ColumnState.{Setting, ColumnState, AttemptState, Work, attempt_of, client_of, takeover_of, is_attempt, send, to_all, mark_sent}
use Rattle.mk_model.specs.ColumnState.Work.{Idle, Fetching, Validating, Finishing}
use Rattle.mk_model.specs.Replicas.{is_serving, Held, Reaction, reaction, reaction_by_view, moved_reaction, held_at, finishing, on_validate, validate_known, validate_unfinished, ask_known, accept_known, decide_known, entry_or_opened, with_entry}
use Rattle.mk_model.specs.Answers.{listens, is_led, attempt_answered}
use Rattle.mk_model.specs.Learnings.{txn_of}
use Rattle.mk_model.specs.Steps.{stamped_txn, beginning, left_unread, stamping, stamped, with_txn, taught, proposing, ruled, sent_again, taken_over, picking, picked, replica_takes, taken, answered, validated, with_read, read_item, epoch_of, stepped, column_after}
use Rattle.mk_model.proofs.Frames.{on_some-keeps}
use Rattle.mk_model.proofs.Parts.{attempt_of-id}
use Rattle.mk_driver.specs.declared.Next.{Next}
use Rattle.mk_driver.specs.declared.Next.TheVariants.{Step as StepNext, Key as KeyNext, Over}
use Rattle.mk_driver.specs.Driven.{Standing, IsNamed, IsTurned, next_at, standing_after, standing_through}
use Rattle.mk_quiet_laws.specs.Sequence.{Touches, IsClientsKey}
use Rattle.mk_quiet_laws.proofs.OwnAsked.{Asks, StepOwns, NextOwns, choice_asks}

module _ (txns : List TxnLine) where
  pub record AttemptKeys (a : AttemptState) : Type 0 where
    pub reads : Each (λ (item : ReadItem). IsClientsKey txns (a.id).client item.key) a.reads
    pub txn : (txn : Transaction) → a.txn ≡ Some txn → (key : ℕ) → Touches txn key → IsClientsKey txns (a.id).client key

  abbrev pub WorkKeys : Work → Type 0
  WorkKeys (Fetching id replica key) = IsClientsKey txns id.client key
  WorkKeys _ = Unit {0}

  pub record KeysHeld (c : ColumnState) : Type 0 where
    pub attempts : Each AttemptKeys c.attempts
    pub work : WorkKeys c.work

  module _ (round : Setting) (c : ColumnState) (h : KeysHeld c) where
    as_it_is : KeysHeld c
    as_it_is = h

    same_keys : (p : AttemptState → Bool) (g : AttemptState → AttemptState) → ((x : AttemptState) → AttemptKeys x → AttemptKeys (g x)) → Each AttemptKeys (change p g c.attempts)
    same_keys p g k = Each-change p g AttemptKeys (λ x t j. k x j) c.attempts h.attempts

    -- ---- what replicas do

    abbrev Works : Reaction → Type 0
    Works reaction = WorkKeys reaction.work

    finishing_works : (r : ℕ) (acts : List KeyAct) → WorkKeys (finishing r acts)
    finishing_works r [] = tt
    finishing_works r (act ∷ acts) = tt

    validate_works : (msg : Msg) (txn : Transaction) (held : Held) (mark : ℕ) (o : Option Entry) → Works (on_validate txn mark held msg o)
    validate_works msg txn held mark None = tt
    validate_works msg txn held mark (Some entry) = by entry.last
      where
        unfinished : (o : Option VoteType) → Works (validate_unfinished mark held msg o)
        unfinished (Some vote) = tt
        unfinished None = tt

        by : (o : Option Outcome) → Works (validate_known mark entry held msg o)
        by (Some outcome) = tt
        by None = unfinished entry.vote

    ask_works : (msg : Msg) (entry : Entry) (held : Held) (o : Option Outcome) → Works (ask_known entry held msg o)
    ask_works msg entry held (Some outcome) = tt
    ask_works msg entry held None = cond_both (nat_lt msg.view entry.view) _ _ Works (λ _. tt) (λ _. tt)

    accept_works : (msg : Msg) (outcome : Outcome) (entry : Entry) (held : Held) (o : Option Outcome) → Works (accept_known outcome entry held msg o)
    accept_works msg outcome entry held (Some last) = tt
    accept_works msg outcome entry held None = cond_both (nat_lt msg.view entry.view) _ _ Works (λ _. tt) (λ _. tt)

    decide_works : (msg : Msg) (outcome : Outcome) (entry : Entry) (held : Held) (o : Option Outcome) → Works (decide_known outcome entry held msg o)
    decide_works msg outcome entry held (Some last) = tt
    decide_works msg outcome entry held None = finishing_works msg.replica _

    body_works : (msg : Msg) (txn : Transaction) (held : Held) (o : Option Entry) (b : Body) → Works (reaction txn held msg o b)
    body_works msg txn held o (ValidateBody mark) = validate_works msg txn held mark o
    body_works msg txn held o Ask = let there = entry_or_opened txn o in ask_works msg there (with_entry txn held o) there.last
    body_works msg txn held o (Accept outcome) = let there = entry_or_opened txn o in accept_works msg outcome there (with_entry txn held o) there.last
    body_works msg txn held o (Decide outcome) = let there = entry_or_opened txn o in decide_works msg outcome there (with_entry txn held o) there.last
    body_works msg txn held o (Voted vote) = tt
    body_works msg txn held o AcceptedBody = tt
    body_works msg txn held o (ToldBody told) = tt
    body_works msg txn held o (MovedBody moved) = tt

    moved_works : (view : ReplicaView) (held : Held) (msg : Msg) (b : Body) → Works (moved_reaction view held msg b)
    moved_works view held msg (Decide outcome) = tt
    moved_works view held msg (ValidateBody mark) = tt
    moved_works view held msg Ask = tt
    moved_works view held msg (Accept outcome) = tt
    moved_works view held msg (Voted vote) = tt
    moved_works view held msg AcceptedBody = tt
    moved_works view held msg (ToldBody told) = tt
    moved_works view held msg (MovedBody moved) = tt

    view_works : (msg : Msg) (txn : Transaction) (held : Held) (o : Option ReplicaView) → Works (reaction_by_view txn held msg o)
    view_works msg txn held None = tt
    view_works msg txn held (Some view) =
        cond_both (not (is_serving view.phase)) _ _ Works (λ _. tt) (λ _.
        cond_both (nat_lt view.epoch msg.epoch) _ _ Works (λ _. tt) (λ _.
        cond_both (nat_lt msg.epoch view.epoch) _ _ Works (λ _. moved_works view held msg msg.body) (λ _. body_works msg txn held (entry_of msg.id held.entries) msg.body)))

    takes_keys : (msg : Msg) → KeysHeld (taken round msg c)
    takes_keys msg =
        cond_both (goes_to_replica msg.body) _ _ KeysHeld
        (λ _. on_some-keeps KeysHeld (replica_takes round msg) (txn_of c msg.id) c
        (λ txn e. record { attempts = h.attempts; work = view_works msg txn (held_at c msg.replica) (slice_get round.views msg.replica) }) h)
        (λ _. cond_both (msg.view == 0) _ _ KeysHeld
        (λ _. cond_both (listens (attempt_of c msg.id)) _ _ KeysHeld
        (λ _. record { attempts = same_keys (is_attempt msg.id) (attempt_answered msg.replica msg.body) (λ x k. record { reads = k.reads; txn = k.txn }); work = h.work }) (λ _. h))
        (λ _. cond_both (is_led round msg.epoch msg.view) _ _ KeysHeld (λ _. record { attempts = h.attempts; work = h.work }) (λ _. h)))

    -- ---- key calls

    read_keys_held : (id : TxnId) (key : ℕ) (answer : Answer) → IsClientsKey txns id.client key → (x : AttemptState) → is_attempt id x ≡ true → AttemptKeys x → AttemptKeys (with_read key answer x)
    read_keys_held id key answer own x t k =
        record {
          reads = Each-append (λ (item : ReadItem). IsClientsKey txns (x.id).client item.key) x.reads (read_item key answer) k.reads (one answer);
          txn = k.txn;
        }
      where
        here : IsClientsKey txns (x.id).client key
        here = subst (λ (i : TxnId). IsClientsKey txns i.client key) (sym (same_id-tells x.id id t)) own

        one : (a : Answer) → Each (λ (item : ReadItem). IsClientsKey txns (x.id).client item.key) (read_item key a)
        one (Version version value) = (here, tt)
        one Okay = tt
        one (Refused reason stamp) = tt
        one Done = tt

    validated_keys : (txn : Transaction) (replica epoch : ℕ) (state : ValidationState) (o : Option KeyAct) → KeysHeld (validated txn replica epoch state o c)
    validated_keys txn replica epoch state (Some act) = record { attempts = h.attempts; work = tt }
    validated_keys txn replica epoch state None = record { attempts = h.attempts; work = tt }

    answered_keys : (answer : Answer) (w : Work) → c.work ≡ w → KeysHeld (answered answer w c)
    answered_keys answer Idle e = h
    answered_keys answer (Fetching id replica key) e =
        record {
          attempts = Each-change (is_attempt id) (with_read key answer) AttemptKeys (read_keys_held id key answer (subst WorkKeys e h.work)) c.attempts h.attempts;
          work = tt;
        }
    answered_keys answer (Validating txn replica epoch state) e = let next = after_answer state answer in validated_keys txn replica epoch next (next_act next)
    answered_keys answer (Finishing replica []) e = record { attempts = h.attempts; work = tt }
    answered_keys answer (Finishing replica (act ∷ acts)) e = record { attempts = h.attempts; work = finishing_works replica acts }

    -- ---- a stamp

    stamped_keys : (id : TxnId) (writes : List WriteItem) (stamp : Option StampType) → Each (λ (item : WriteItem). IsClientsKey txns id.client item.key) writes → KeysHeld (stamped id writes stamp c)
    stamped_keys id writes None own = h
    stamped_keys id writes (Some stamp) own =
        record { attempts = Each-change (is_attempt id) (with_txn stamp writes) AttemptKeys made c.attempts h.attempts; work = h.work }
      where
        made : (x : AttemptState) → is_attempt id x ≡ true → AttemptKeys x → AttemptKeys (with_txn stamp writes x)
        made x t k =
            record {
              reads = k.reads;
              txn = λ txn e key touch. elim (subst (λ (y : Transaction). Touches y key) (sym (same_Some (stamped_txn x stamp writes) txn e)) touch) [
                | inl read ↦ (let f = Among-from_map (λ (item : ReadItem). item.key) key x.reads read in
                    subst (IsClientsKey txns (x.id).client) f.2 (Each-among (λ (item : ReadItem). IsClientsKey txns (x.id).client item.key) f.0 x.reads k.reads f.1))
                | inr write ↦ (let f = Among-from_map (λ (item : WriteItem). item.key) key writes write in
                    subst (IsClientsKey txns (x.id).client) f.2
                    (subst (λ (i : TxnId). IsClientsKey txns i.client (f.0).key) (sym (same_id-tells x.id id t)) (Each-among (λ (item : WriteItem). IsClientsKey txns id.client item.key) f.0 writes own f.1)))
              ];
            }

    -- ---- rulings and picks

    ruled_keys : (a : AttemptState) (r : Ruling) → KeysHeld (ruled round.faults a r c)
    ruled_keys a (Fast outcome) = record { attempts = same_keys (is_attempt a.id) (taught outcome) (λ x k. record { reads = k.reads; txn = k.txn }); work = h.work }
    ruled_keys a (Learned outcome) = record { attempts = same_keys (is_attempt a.id) (taught outcome) (λ x k. record { reads = k.reads; txn = k.txn }); work = h.work }
    ruled_keys a (Propose outcome) = record { attempts = same_keys (is_attempt a.id) (proposing outcome) (λ x k. record { reads = k.reads; txn = k.txn }); work = h.work }
    ruled_keys a (Short n) = h
    ruled_keys a (Unaccepted n) = h

    picked_keys : (view : ℕ) (a : AttemptState) (p : Pick) → KeysHeld (picked round.faults view a p c)
    picked_keys view a (Known outcome) = record { attempts = h.attempts; work = h.work }
    picked_keys view a (PickLearned outcome) = record { attempts = h.attempts; work = h.work }
    picked_keys view a (PickPropose outcome) = record { attempts = h.attempts; work = h.work }
    picked_keys view a (PickShort n) = h
    picked_keys view a (PickUnaccepted n) = h
    picked_keys view a (Unclear ok not_ok) = h

    step_keys : (step : Step) → StepOwns txns step → KeysHeld (stepped round c step)
    step_keys (Begin client replica) own =
        on_some-keeps KeysHeld (beginning round replica (epoch_of (slice_get round.views replica))) (client_of c client) c
        (λ x e. record { attempts = Each-append AttemptKeys c.attempts _ h.attempts (record { reads = tt; txn = λ txn z. absurd (cc z) }, tt); work = h.work }) h
    step_keys (Unread client) own =
        on_some-keeps KeysHeld (left_unread round) (client_of c client) c
        (λ x e. record { attempts = Each-append AttemptKeys c.attempts _ h.attempts (record { reads = tt; txn = λ txn z. absurd (cc z) }, tt); work = h.work }) h
    step_keys (Read id key) own = on_some-keeps KeysHeld (λ a col. record col { work = Fetching id a.replica key }) (attempt_of c id) c (λ a e. record { attempts = h.attempts; work = own }) h
    step_keys (Stamp id clock writes) own =
        on_some-keeps KeysHeld (stamping clock writes) (attempt_of c id) c
        (λ a e. on_some-keeps KeysHeld (λ cl col. stamped a.id writes (next_stamp_of cl.number cl.last_time clock a.reads) col) (client_of c (a.id).client) c
        (λ cl q. stamped_keys a.id writes (next_stamp_of cl.number cl.last_time clock a.reads)
        (subst (λ (i : TxnId). Each (λ (item : WriteItem). IsClientsKey txns i.client item.key) writes) (sym (attempt_of-id c id a e)) own)) h) h
    step_keys (Validate id) own =
        on_some-keeps KeysHeld (λ a col. send (to_all round.faults a.epoch id 0 (ValidateBody (mark_sent round col id.client))) col) (attempt_of c id) c (λ a e. record { attempts = h.attempts; work = h.work }) h
    step_keys (Take number) own = on_some-keeps KeysHeld (taken round) (message c.link number) c (λ msg e. takes_keys msg) h
    step_keys (Key call answer) own = answered_keys answer c.work refl
    step_keys (Rule id) own = on_some-keeps KeysHeld (λ a col. ruled round.faults a (ruling round.faults a.coord) col) (attempt_of c id) c (λ a e. ruled_keys a (ruling round.faults a.coord)) h
    step_keys (Again id) own =
        on_some-keeps KeysHeld (sent_again round.faults) (attempt_of c id) c
        (λ a e. on_some-keeps KeysHeld (λ outcome col. send (to_all round.faults a.epoch a.id 0 (Accept outcome)) col) a.coord.proposed c (λ outcome q. record { attempts = h.attempts; work = h.work }) h) h
    step_keys (Takeover id view) own = on_some-keeps KeysHeld (taken_over round.faults view) (attempt_of c id) c (λ a e. record { attempts = h.attempts; work = h.work }) h
    step_keys (PickStep id view) own =
        on_some-keeps KeysHeld (picking round view) (attempt_of c id) c
        (λ a e. on_some-keeps KeysHeld (λ t col. picked round.faults view a (pick round.faults t.state) col) (takeover_of c a.id view) c (λ t q. picked_keys view a (pick round.faults t.state)) h) h
    step_keys (Stop id) own = record { attempts = same_keys (is_attempt id) (λ a. record a { stopped = true }) (λ x k. record { reads = k.reads; txn = k.txn }); work = h.work }

    pub keys_after_step : (step : Step) → StepOwns txns step → KeysHeld (column_after round c step)
    keys_after_step step own = let k = step_keys step own in record { attempts = k.attempts; work = k.work }

  -- along the turns
  pub keys_along : (script : ScriptParts) (round : Setting) (s : Standing) (log rest : List Step) → IsTurned script round s (log ++ rest) → KeysHeld s.column → Asks txns s.driver →
      KeysHeld (let last = standing_through script round s log in last.column)
  keys_along script round s [] rest turned h asks = h
  keys_along script round s (step ∷ log) rest turned h asks =
      let named = choice_asks txns (rules_of script) round s.column s.driver asks in
      keys_along script round (standing_after script round s step) log rest turned.1
      (keys_after_step round s.column h step (owned step (next_at script round s) turned.0 named.1)) named.0
    where
      owned : (step : Step) (next : Next) → IsNamed next step → NextOwns txns next → StepOwns txns step
      owned step (StepNext other) is own = subst (StepOwns txns) (sym is) own
      owned (Key called answer) (KeyNext call) is own = tt
      owned step Over is own = absurd is
      owned _ (KeyNext call) is own = absurd is
