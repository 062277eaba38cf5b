-- Which attempts read, while steps are done.
use Rattle.std.proofs.Common.{◌≡◌, ◌∙◌, ℕ, ◌^◌, Bool, true, false, refl, sym, subst, List, [], ◌∷◌, Option, Some, None, if◌then◌else◌}
use Rattle.std.specs.Prelude.{is_some, ◌==◌, slice_get, nat_le}
use Rattle.std.proofs.lemmas.Bool.{and_parts, eqb-true}
use Rattle.mk_lists.specs.Among.{Each, Each-append, Each-weaker}
use Rattle.mk_lists.specs.Changed.{change, Each-change}
use Rattle.mk_lists.proofs.Lookups.{find-passes}
use Rattle.mk_model.proofs.Parts.{attempt_of-id}
use Rattle.mk_txn.specs.declared.TxnId.{TxnId}
use Rattle.mk_txn.specs.declared.Stamp.{Stamp as StampType}
use Rattle.mk_txn.specs.declared.WriteItem.{WriteItem}
use Rattle.mk_txn.specs.Stamps.{next_stamp_of}
use Rattle.mk_txn.specs.Transactions.{same_id}
use Rattle.mk_words.specs.declared.Answer.{Answer}
use Rattle.mk_words.specs.declared.Msg.{Msg}
use Rattle.mk_words.specs.declared.Body.TheVariants.{Accept, Validate as ValidateBody}
use Rattle.mk_words.specs.Links.{message, goes_to_replica}
use Rattle.mk_quorum.specs.Slots.{passes}
use Rattle.mk_quorum.proofs.Slots.{passes-at, passes-some}
use Rattle.mk_words.specs.Checks.{KeyAct}
use Rattle.mk_words.specs.Validations.{next_act, after_answer, ValidationState}
use Rattle.mk_words.specs.declared.Ruling.{Ruling}
use Rattle.mk_words.specs.declared.Ruling.TheVariants.{Fast, Propose, Learned, Short, Unaccepted}
use Rattle.mk_words.specs.Rulings.{ruling}
use Rattle.mk_words.specs.declared.Pick.{Pick}
use Rattle.mk_words.specs.declared.Pick.TheVariants.{Known, Learned as PickLearned, Propose as PickPropose, Short as PickShort, Unaccepted as PickUnaccepted, Unclear}
use Rattle.mk_words.specs.Picks.{pick}
use Rattle.mk_txn.specs.Transactions.{Transaction}
use Rattle.mk_txn.proofs.IdOrder.{same_id-itself}
use Rattle.mk_words.specs.declared.Step.{Step}
use Rattle.mk_words.specs.declared.Step.TheVariants.{Begin, Unread, Read, Stamp, Validate, Take, Key, Rule, Again, Takeover, Pick as PickStep, Stop}
use Rattle.mk_model.specs.ColumnState.{Setting, ColumnState, AttemptState, ClientState, Work, attempt_of, client_of, takeover_of, is_attempt, send, to_all, mark_sent}
use Rattle.mk_model.specs.ColumnState.Work.{Idle, Fetching, Validating, Finishing}
use Rattle.mk_model.specs.Conditions.{blocked, conditions, on_attempt, stamp_exists}
use Rattle.mk_model.specs.Answers.{attempt_answered, listens, is_led}
use Rattle.mk_model.specs.Learnings.{txn_of}
use Rattle.mk_model.specs.Steps.{on_some, beginning, epoch_of, left_unread, stamping, stamped, with_txn, ruled, taught, proposing, sent_again, taken_over, picking, picked, replica_takes, taken, answered, validated, with_read, column_after}
use Rattle.mk_model.proofs.Frames.{AllTrue, AllTrue-from_first_failing}

-- an attempt that reads has Q
abbrev pub Reads : (TxnId → Type 0) → List AttemptState → Type 0
Reads Q attempts = Each (λ (a : AttemptState). a.reading ≡ true → Q a.id) attempts

-- the step begins to read
abbrev pub begins : Step → Bool
begins (Begin client replica) = true
begins _ = false

module _ (Q : TxnId → Type 0) where
  reads_change : (p : AttemptState → Bool) (g : AttemptState → AttemptState) (xs : List AttemptState) → ((a : AttemptState) → (g a).id ≡ a.id) →
      ((a : AttemptState) → (g a).reading ≡ true → a.reading ≡ true) → Reads Q xs → Reads Q (change p g xs)
  reads_change p g xs same r h = Each-change p g (λ (a : AttemptState). a.reading ≡ true → Q a.id) (λ x t k e. subst Q (sym (same x)) (k (r x e))) xs h

  on_some_reads : {X : Type 0} (F : X → ColumnState → ColumnState) (o : Option X) (c : ColumnState) → Reads Q c.attempts → ((x : X) → Reads Q (F x c).attempts) → Reads Q (on_some F o c).attempts
  on_some_reads F (Some x) c h k = k x
  on_some_reads F None c h k = h

  if_reads : (b : Bool) (one other : ColumnState) → Reads Q one.attempts → Reads Q other.attempts → Reads Q (if b then one else other).attempts
  if_reads true one other h k = h
  if_reads false one other h k = k

  stamped_reads : (c : ColumnState) (id : TxnId) (writes : List WriteItem) (stamp : Option StampType) → Reads Q c.attempts → Reads Q (stamped id writes stamp c).attempts
  stamped_reads c id writes None h = h
  stamped_reads c id writes (Some stamp) h = reads_change (is_attempt id) (with_txn stamp writes) c.attempts (λ a. refl) (λ a e. absurd (cc e)) h

  ruled_reads : (c : ColumnState) (f : ℕ) (a : AttemptState) (r : Ruling) → Reads Q c.attempts → Reads Q (ruled f a r c).attempts
  ruled_reads c f a (Fast outcome) h = reads_change (is_attempt a.id) (taught outcome) c.attempts (λ x. refl) (λ x e. e) h
  ruled_reads c f a (Learned outcome) h = reads_change (is_attempt a.id) (taught outcome) c.attempts (λ x. refl) (λ x e. e) h
  ruled_reads c f a (Propose outcome) h = reads_change (is_attempt a.id) (proposing outcome) c.attempts (λ x. refl) (λ x e. e) h
  ruled_reads c f a (Short n) h = h
  ruled_reads c f a (Unaccepted n) h = h

  picked_reads : (c : ColumnState) (f view : ℕ) (a : AttemptState) (p : Pick) → Reads Q c.attempts → Reads Q (picked f view a p c).attempts
  picked_reads c f view a (Known outcome) h = h
  picked_reads c f view a (PickLearned outcome) h = h
  picked_reads c f view a (PickPropose outcome) h = h
  picked_reads c f view a (PickShort n) h = h
  picked_reads c f view a (PickUnaccepted n) h = h
  picked_reads c f view a (Unclear ok not_ok) h = h

  taken_reads : (round : Setting) (msg : Msg) (c : ColumnState) → Reads Q c.attempts → Reads Q (taken round msg c).attempts
  taken_reads round msg c h =
      if_reads (goes_to_replica msg.body) _ _ (on_some_reads (replica_takes round msg) (txn_of c msg.id) c h (λ txn. h))
      (if_reads (msg.view == 0) _ _
      (if_reads (listens (attempt_of c msg.id)) _ c (reads_change (is_attempt msg.id) (attempt_answered msg.replica msg.body) c.attempts (λ x. refl) (λ x e. e) h) h)
      (if_reads (is_led round msg.epoch msg.view) _ c h h))

  validated_reads : (c : ColumnState) (txn : Transaction) (replica epoch : ℕ) (state : ValidationState) (act : Option KeyAct) → Reads Q c.attempts → Reads Q (validated txn replica epoch state act c).attempts
  validated_reads c txn replica epoch state (Some act) h = h
  validated_reads c txn replica epoch state None h = h

  answered_reads : (c : ColumnState) (answer : Answer) (work : Work) → Reads Q c.attempts → Reads Q (answered answer work c).attempts
  answered_reads c answer Idle h = h
  answered_reads c answer (Fetching id replica key) h = reads_change (is_attempt id) (with_read key answer) c.attempts (λ x. refl) (λ x e. e) h
  answered_reads c answer (Validating txn replica epoch state) h =
      let next = after_answer state answer in validated_reads c txn replica epoch next (next_act next) h
  answered_reads c answer (Finishing replica []) h = h
  answered_reads c answer (Finishing replica (act ∷ acts)) h = h

  pub step_reads : (round : Setting) (c : ColumnState) (step : Step) → begins step ≡ false → Reads Q c.attempts → Reads Q (column_after round c step).attempts
  step_reads round c (Begin client replica) b h = absurd (cc b)
  step_reads round c (Unread client) b h =
      on_some_reads (left_unread round) (client_of c client) c h (λ cl. Each-append (λ (a : AttemptState). a.reading ≡ true → Q a.id) c.attempts _ h ((λ e. absurd (cc e)), tt))
  step_reads round c (Read id key) b h = on_some_reads (λ a col. record col { work = Fetching id a.replica key }) (attempt_of c id) c h (λ a. h)
  step_reads round c (Stamp id clock writes) b h =
      on_some_reads (stamping clock writes) (attempt_of c id) c h
      (λ a. on_some_reads (λ cl col. stamped a.id writes (next_stamp_of cl.number cl.last_time clock a.reads) col) (client_of c a.id.client) c h
      (λ cl. stamped_reads c a.id writes (next_stamp_of cl.number cl.last_time clock a.reads) h))
  step_reads round c (Validate id) b h =
      on_some_reads (λ a col. send (to_all round.faults a.epoch id 0 (ValidateBody (mark_sent round col id.client))) col) (attempt_of c id) c h (λ a. h)
  step_reads round c (Take number) b h = on_some_reads (taken round) (message c.link number) c h (λ msg. taken_reads round msg c h)
  step_reads round c (Key call answer) b h = answered_reads c answer c.work h
  step_reads round c (Rule id) b h =
      on_some_reads (λ a col. ruled round.faults a (ruling round.faults a.coord) col) (attempt_of c id) c h (λ a. ruled_reads c round.faults a (ruling round.faults a.coord) h)
  step_reads round c (Again id) b h =
      on_some_reads (sent_again round.faults) (attempt_of c id) c h
      (λ a. on_some_reads (λ outcome col. send (to_all round.faults a.epoch a.id 0 (Accept outcome)) col) a.coord.proposed c h (λ outcome. h))
  step_reads round c (Takeover id view) b h = on_some_reads (taken_over round.faults view) (attempt_of c id) c h (λ a. h)
  step_reads round c (PickStep id view) b h =
      on_some_reads (picking round view) (attempt_of c id) c h
      (λ a. on_some_reads (λ t col. picked round.faults view a (pick round.faults t.state) col) (takeover_of c a.id view) c h (λ t. picked_reads c round.faults view a (pick round.faults t.state) h))
  step_reads round c (Stop id) b h = reads_change (is_attempt id) (λ a. record a { stopped = true }) c.attempts (λ x. refl) (λ x e. e) h

-- no attempt reads
abbrev pub NoneReads : ColumnState → Type 0
NoneReads c = Reads (λ id. ⊥) c.attempts

-- none but this
abbrev pub OneReads : TxnId → ColumnState → Type 0
OneReads id c = Reads (λ other. other ≡ id) c.attempts

-- after a Begin only that attempt reads
pub begun_reads : (round : Setting) (c : ColumnState) (n replica : ℕ) (cl : ClientState) → client_of c n ≡ Some cl → NoneReads c →
    OneReads (record { client = n; seq = cl.next_seq }) (column_after round c (Begin n replica))
begun_reads round c n replica cl e h =
    subst (λ (o : Option ClientState). Reads (λ other. other ≡ record { client = n; seq = cl.next_seq }) (on_some (beginning round replica (epoch_of (slice_get round.views replica))) o c).attempts)
    (sym e)
    (Each-append (λ (a : AttemptState). a.reading ≡ true → a.id ≡ record { client = n; seq = cl.next_seq }) c.attempts _
    (Each-weaker (λ (a : AttemptState). a.reading ≡ true → ⊥) (λ (a : AttemptState). a.reading ≡ true → a.id ≡ record { client = n; seq = cl.next_seq }) (λ a k r. absurd (k r)) c.attempts h)
    ((λ r. λ i. record { client = number i; seq = cl.next_seq }), tt))
  where
    number : cl.number ≡ n
    number = eqb-true cl.number n (find-passes (Rattle.mk_model.specs.ColumnState.is_client n) c.clients cl e)

-- after its Stamp none reads
pub stamped_none : (round : Setting) (c : ColumnState) (id : TxnId) (clock : ℕ) (writes : List WriteItem) → blocked round c (Stamp id clock writes) ≡ None → OneReads id c →
    NoneReads (column_after round c (Stamp id clock writes))
stamped_none round c id clock writes b h = by (attempt_of c id) refl
  where
    After : Option AttemptState → Type 0
    After o = Reads (λ x. ⊥) (on_some (stamping clock writes) o c).attempts

    holds : AllTrue (conditions round c (Stamp id clock writes))
    holds = AllTrue-from_first_failing 1 (conditions round c (Stamp id clock writes)) b

    by : (o : Option AttemptState) → attempt_of c id ≡ o → After (attempt_of c id)
    by None e = let p = passes-some (λ a. a.reading) (attempt_of c id) holds.1.0 in absurd (cc (sym e ∙ p.1))
    by (Some a) e = subst After (sym e) (by_client (client_of c a.id.client) exists)
      where
        exists : passes (λ cl. is_some (next_stamp_of cl.number cl.last_time clock a.reads)) (client_of c a.id.client) ≡ true
        exists = passes-at (λ x. stamp_exists c x clock) (attempt_of c id) a e (and_parts (nat_le clock (2 ^ 61)) (on_attempt c id (λ x. stamp_exists c x clock)) holds.1.1.1.0).1

        none_left : (stamp : StampType) (xs : List AttemptState) → Reads (λ other. other ≡ id) xs → Reads (λ x. ⊥) (change (is_attempt a.id) (with_txn stamp writes) xs)
        none_left stamp [] k = tt
        none_left stamp (x ∷ xs) k = (head (is_attempt a.id x) refl, none_left stamp xs k.1)
          where
            head : (t : Bool) → is_attempt a.id x ≡ t → (if t then with_txn stamp writes x else x).reading ≡ true → ⊥
            head true t r = cc r
            head false t r =
                let same : x.id ≡ a.id = k.0 r ∙ sym (attempt_of-id c id a e) in
                let is : same_id x.id a.id ≡ true = subst (λ (i : TxnId). same_id i a.id ≡ true) (sym same) (same_id-itself a.id) in
                cc (sym is ∙ t)

        by_stamp : (s : Option StampType) → is_some s ≡ true → Reads (λ x. ⊥) (stamped a.id writes s c).attempts
        by_stamp None z = absurd (cc z)
        by_stamp (Some stamp) z = none_left stamp c.attempts h

        by_client : (o : Option ClientState) → passes (λ cl. is_some (next_stamp_of cl.number cl.last_time clock a.reads)) o ≡ true →
            Reads (λ x. ⊥) (on_some (λ cl col. stamped a.id writes (next_stamp_of cl.number cl.last_time clock a.reads) col) o c).attempts
        by_client None z = absurd (cc z)
        by_client (Some cl) z = by_stamp (next_stamp_of cl.number cl.last_time clock a.reads) z
