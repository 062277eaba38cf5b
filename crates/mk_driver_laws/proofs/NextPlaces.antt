-- The next places of a column's clients, while steps are done.
use Rattle.std.proofs.Common.{◌≡◌, ◌∙◌, ℕ, ◌+◌, Bool, true, false, refl, sym, subst, List, [], ◌∷◌, Option, Some, None, if◌then◌else◌}
use Rattle.std.specs.Prelude.{◌==◌, slice_get}
use Rattle.std.proofs.lemmas.Bool.{eqb-true}
use Rattle.mk_lists.specs.Among.{Each, Each-weaker}
use Rattle.mk_lists.specs.Changed.{change, Each-change}
use Rattle.mk_lists.proofs.Lookups.{find-passes}
use Rattle.mk_model.proofs.Parts.{heard_of-number, heard_of-same}
use Rattle.mk_txn.specs.declared.TxnId.{TxnId}
use Rattle.mk_txn.specs.declared.Stamp.{Stamp as StampType}
use Rattle.mk_txn.specs.declared.WriteItem.{WriteItem}
use Rattle.mk_txn.specs.Stamps.{next_stamp_of}
use Rattle.mk_txn.specs.Transactions.{Transaction}
use Rattle.mk_words.specs.declared.Answer.{Answer}
use Rattle.mk_words.specs.declared.Msg.{Msg}
use Rattle.mk_words.specs.declared.Body.{Body}
use Rattle.mk_words.specs.declared.Body.TheVariants.{Validate as ValidateBody, Voted, Accept, Accepted as AcceptedBody, Decide, Ask, Told as ToldBody, Moved as MovedBody}
use Rattle.mk_words.specs.Links.{message, goes_to_replica}
use Rattle.mk_words.specs.Checks.{KeyAct}
use Rattle.mk_words.specs.Validations.{next_act, after_answer, ValidationState}
use Rattle.mk_words.specs.declared.Ruling.{Ruling}
use Rattle.mk_words.specs.declared.Ruling.TheVariants.{Fast, Propose, Learned, Short, Unaccepted}
use Rattle.mk_words.specs.Rulings.{ruling}
use Rattle.mk_words.specs.declared.Pick.{Pick}
use Rattle.mk_words.specs.declared.Pick.TheVariants.{Known, Learned as PickLearned, Propose as PickPropose, Short as PickShort, Unaccepted as PickUnaccepted, Unclear}
use Rattle.mk_words.specs.Picks.{pick}
use Rattle.mk_words.specs.declared.Step.{Step}
use Rattle.mk_words.specs.declared.Step.TheVariants.{Begin, Unread, Read, Stamp, Validate, Take, Key, Rule, Again, Takeover, Pick as PickStep, Stop}
use Rattle.mk_model.specs.ColumnState.{Setting, ColumnState, AttemptState, ClientState, Work, attempt_of, client_of, takeover_of, is_client, send, to_all, mark_sent}
use Rattle.mk_model.specs.ColumnState.Work.{Idle, Fetching, Validating, Finishing}
use Rattle.mk_model.specs.Answers.{heard_of, listens, is_led}
use Rattle.mk_model.specs.Learnings.{txn_of}
use Rattle.mk_model.specs.Steps.{on_some, begun, beginning, epoch_of, left_unread, stamping, stamped, with_last_time, ruled, sent_again, taken_over, picking, picked, replica_takes, taken, answered, validated, column_after}

-- each client's number and next place have P
abbrev pub Nexts : (ℕ → ℕ → Type 0) → List ClientState → Type 0
Nexts P clients = Each (λ (cl : ClientState). P cl.number cl.next_seq) clients

-- the step takes its client's next place
abbrev pub takes_place : Step → Bool
takes_place (Begin client replica) = true
takes_place (Unread client) = true
takes_place _ = false

module _ (P : ℕ → ℕ → Type 0) where
  -- clients that keep number and next place
  nexts_change : (p : ClientState → Bool) (g : ClientState → ClientState) (xs : List ClientState) → ((cl : ClientState) → (g cl).number ≡ cl.number) →
      ((cl : ClientState) → (g cl).next_seq ≡ cl.next_seq) → Nexts P xs → Nexts P (change p g xs)
  nexts_change p g xs same next h =
      Each-change p g (λ (cl : ClientState). P cl.number cl.next_seq)
      (λ cl t k. subst (λ (n : ℕ). P n (g cl).next_seq) (sym (same cl)) (subst (λ (s : ℕ). P cl.number s) (sym (next cl)) k)) xs h

  on_some_nexts : {X : Type 0} (F : X → ColumnState → ColumnState) (o : Option X) (c : ColumnState) → Nexts P c.clients → ((x : X) → Nexts P (F x c).clients) → Nexts P (on_some F o c).clients
  on_some_nexts F (Some x) c h k = k x
  on_some_nexts F None c h k = h

  if_nexts : (b : Bool) (one other : ColumnState) → Nexts P one.clients → Nexts P other.clients → Nexts P (if b then one else other).clients
  if_nexts true one other h k = h
  if_nexts false one other h k = k

  stamped_nexts : (c : ColumnState) (id : TxnId) (writes : List WriteItem) (stamp : Option StampType) → Nexts P c.clients → Nexts P (stamped id writes stamp c).clients
  stamped_nexts c id writes None h = h
  stamped_nexts c id writes (Some stamp) h = nexts_change (is_client id.client) (with_last_time stamp.time) c.clients (λ cl. refl) (λ cl. refl) h

  ruled_nexts : (c : ColumnState) (f : ℕ) (a : AttemptState) (r : Ruling) → Nexts P c.clients → Nexts P (ruled f a r c).clients
  ruled_nexts c f a (Fast outcome) h = h
  ruled_nexts c f a (Learned outcome) h = h
  ruled_nexts c f a (Propose outcome) h = h
  ruled_nexts c f a (Short n) h = h
  ruled_nexts c f a (Unaccepted n) h = h

  picked_nexts : (c : ColumnState) (f view : ℕ) (a : AttemptState) (p : Pick) → Nexts P c.clients → Nexts P (picked f view a p c).clients
  picked_nexts c f view a (Known outcome) h = h
  picked_nexts c f view a (PickLearned outcome) h = h
  picked_nexts c f view a (PickPropose outcome) h = h
  picked_nexts c f view a (PickShort n) h = h
  picked_nexts c f view a (PickUnaccepted n) h = h
  picked_nexts c f view a (Unclear ok not_ok) h = h

  taken_nexts : (round : Setting) (msg : Msg) (c : ColumnState) → Nexts P c.clients → Nexts P (taken round msg c).clients
  taken_nexts round msg c h =
      if_nexts (goes_to_replica msg.body) _ _ (on_some_nexts (replica_takes round msg) (txn_of c msg.id) c h (λ txn. h))
      (if_nexts (msg.view == 0) _ _
      (if_nexts (listens (attempt_of c msg.id)) _ c
      (nexts_change (is_client msg.id.client) (heard_of msg.body) c.clients (λ cl. heard_of-number msg.body cl) (λ cl. (heard_of-same msg.body cl).1) h) h)
      (if_nexts (is_led round msg.epoch msg.view) _ c h h))

  validated_nexts : (c : ColumnState) (txn : Transaction) (replica epoch : ℕ) (state : ValidationState) (act : Option KeyAct) → Nexts P c.clients → Nexts P (validated txn replica epoch state act c).clients
  validated_nexts c txn replica epoch state (Some act) h = h
  validated_nexts c txn replica epoch state None h = h

  answered_nexts : (c : ColumnState) (answer : Answer) (work : Work) → Nexts P c.clients → Nexts P (answered answer work c).clients
  answered_nexts c answer Idle h = h
  answered_nexts c answer (Fetching id replica key) h = h
  answered_nexts c answer (Validating txn replica epoch state) h =
      let next = after_answer state answer in validated_nexts c txn replica epoch next (next_act next) h
  answered_nexts c answer (Finishing replica []) h = h
  answered_nexts c answer (Finishing replica (act ∷ acts)) h = h

  -- after a step that takes no place
  pub step_nexts : (round : Setting) (c : ColumnState) (step : Step) → takes_place step ≡ false → Nexts P c.clients → Nexts P (column_after round c step).clients
  step_nexts round c (Begin client replica) b h = absurd (cc b)
  step_nexts round c (Unread client) b h = absurd (cc b)
  step_nexts round c (Read id key) b h = on_some_nexts (λ a col. record col { work = Fetching id a.replica key }) (attempt_of c id) c h (λ a. h)
  step_nexts round c (Stamp id clock writes) b h =
      on_some_nexts (stamping clock writes) (attempt_of c id) c h
      (λ a. on_some_nexts (λ cl col. stamped a.id writes (next_stamp_of cl.number cl.last_time clock a.reads) col) (client_of c a.id.client) c h
      (λ cl. stamped_nexts c a.id writes (next_stamp_of cl.number cl.last_time clock a.reads) h))
  step_nexts round c (Validate id) b h =
      on_some_nexts (λ a col. send (to_all round.faults a.epoch id 0 (ValidateBody (mark_sent round col id.client))) col) (attempt_of c id) c h (λ a. h)
  step_nexts round c (Take number) b h = on_some_nexts (taken round) (message c.link number) c h (λ msg. taken_nexts round msg c h)
  step_nexts round c (Key call answer) b h = answered_nexts c answer c.work h
  step_nexts round c (Rule id) b h =
      on_some_nexts (λ a col. ruled round.faults a (ruling round.faults a.coord) col) (attempt_of c id) c h (λ a. ruled_nexts c round.faults a (ruling round.faults a.coord) h)
  step_nexts round c (Again id) b h =
      on_some_nexts (sent_again round.faults) (attempt_of c id) c h
      (λ a. on_some_nexts (λ outcome col. send (to_all round.faults a.epoch a.id 0 (Accept outcome)) col) a.coord.proposed c h (λ outcome. h))
  step_nexts round c (Takeover id view) b h = on_some_nexts (taken_over round.faults view) (attempt_of c id) c h (λ a. h)
  step_nexts round c (PickStep id view) b h =
      on_some_nexts (picking round view) (attempt_of c id) c h
      (λ a. on_some_nexts (λ t col. picked round.faults view a (pick round.faults t.state) col) (takeover_of c a.id view) c h (λ t. picked_nexts c round.faults view a (pick round.faults t.state) h))
  step_nexts round c (Stop id) b h = h

-- ---- a step that takes a place

-- the client of this number takes a place
nexts_taken : (P Q : ℕ → ℕ → Type 0) (n epoch : ℕ) → ((m s : ℕ) → m ≡ n → P m s → Q m (s + 1)) → ((m s : ℕ) → P m s → Q m s) →
    (xs : List ClientState) → Nexts P xs → Nexts Q (change (is_client n) (begun epoch) xs)
nexts_taken P Q n epoch here other [] h = tt
nexts_taken P Q n epoch here other (x ∷ xs) h = (head (is_client n x) refl, nexts_taken P Q n epoch here other xs h.1)
  where
    Then : ClientState → Type 0
    Then cl = Q cl.number cl.next_seq

    head : (b : Bool) → is_client n x ≡ b → Then (if b then begun epoch x else x)
    head true e = here x.number x.next_seq (eqb-true x.number n e) h.0
    head false e = other x.number x.next_seq h.0

pub begin_nexts : (P Q : ℕ → ℕ → Type 0) (round : Setting) (c : ColumnState) (n replica : ℕ) → ((m s : ℕ) → m ≡ n → P m s → Q m (s + 1)) → ((m s : ℕ) → P m s → Q m s) →
    Nexts P c.clients → Nexts Q (column_after round c (Begin n replica)).clients
begin_nexts P Q round c n replica here other h = by (client_of c n) refl
  where
    by : (o : Option ClientState) → client_of c n ≡ o → Nexts Q (on_some (beginning round replica (epoch_of (slice_get round.views replica))) o c).clients
    by None e = Each-weaker (λ (cl : ClientState). P cl.number cl.next_seq) (λ (cl : ClientState). Q cl.number cl.next_seq) (λ cl k. other cl.number cl.next_seq k) c.clients h
    by (Some cl) e =
        let number : cl.number ≡ n = eqb-true cl.number n (find-passes (is_client n) c.clients cl e) in
        nexts_taken P Q cl.number (epoch_of (slice_get round.views replica)) (λ m s q k. here m s (q ∙ number) k) other c.clients h

pub unread_nexts : (P Q : ℕ → ℕ → Type 0) (round : Setting) (c : ColumnState) (n : ℕ) → ((m s : ℕ) → m ≡ n → P m s → Q m (s + 1)) → ((m s : ℕ) → P m s → Q m s) →
    Nexts P c.clients → Nexts Q (column_after round c (Unread n)).clients
unread_nexts P Q round c n here other h = by (client_of c n) refl
  where
    by : (o : Option ClientState) → client_of c n ≡ o → Nexts Q (on_some (left_unread round) o c).clients
    by None e = Each-weaker (λ (cl : ClientState). P cl.number cl.next_seq) (λ (cl : ClientState). Q cl.number cl.next_seq) (λ cl k. other cl.number cl.next_seq k) c.clients h
    by (Some cl) e =
        let number : cl.number ≡ n = eqb-true cl.number n (find-passes (is_client n) c.clients cl e) in
        nexts_taken P Q cl.number 0 (λ m s q k. here m s (q ∙ number) k) other c.clients h
