-- What stays of an attempt while a step is done, and what a Begin and a Stamp make of it.
use Rattle.std.proofs.Common.{◌≡◌, ◌∙◌, ◌≤◌, ℕ, ◌^◌, Bool, true, false, refl, sym, subst, ap, arith, List, [], ◌∷◌, ◌++◌, length, Option, Some, None, not, ◌&&◌}
use Rattle.std.specs.Prelude.{is_some, find, option_map, slice_get, nat_le}
use Rattle.std.specs.List.{list_any}
use Rattle.std.proofs.lemmas.List.{length-append}
use Rattle.std.proofs.lemmas.Bool.{and_from, and_parts, eqb-true}
use Rattle.mk_lists.specs.Changed.{change}
use Rattle.mk_lists.proofs.Lookups.{find-passes, find_push}
use Rattle.mk_lists.proofs.Changes.{find-change}
use Rattle.mk_model.proofs.Parts.{attempt_of-id}
use Rattle.mk_txn.specs.declared.TxnId.{TxnId}
use Rattle.mk_txn.specs.Transactions.{Transaction}
use Rattle.mk_txn.specs.declared.Stamp.{Stamp as StampType}
use Rattle.mk_txn.specs.declared.WriteItem.{WriteItem}
use Rattle.mk_txn.specs.Stamps.{next_stamp_of}
use Rattle.mk_txn.proofs.IdOrder.{same_id-itself}
use Rattle.mk_words.specs.declared.Msg.{Msg}
use Rattle.mk_quorum.specs.Slots.{passes}
use Rattle.mk_quorum.proofs.Slots.{passes-at, passes-some}
use Rattle.mk_words.specs.declared.Answer.{Answer}
use Rattle.mk_words.specs.Checks.{KeyAct}
use Rattle.mk_words.specs.Validations.{ValidationState, next_act, after_answer}
use Rattle.mk_words.specs.declared.KeyCall.{KeyCall}
use Rattle.mk_words.specs.declared.Step.{Step}
use Rattle.mk_words.specs.declared.Step.TheVariants.{Begin, Stamp, Read, Key}
use Rattle.mk_model.specs.ColumnState.{Setting, ColumnState, AttemptState, ClientState, Work, attempt_of, client_of, is_attempt, is_client}
use Rattle.mk_model.specs.ColumnState.Work.{Idle, Fetching, Validating, Finishing}
use Rattle.mk_model.specs.Conditions.{blocked, conditions, is_idle, wanted, is_validate_of, is_stamped, on_attempt, stamp_exists}
use Rattle.mk_model.specs.Steps.{answered, validated, with_read, on_some, beginning, next_id, new_attempt, epoch_of, stamping, stamped, with_txn, column_after}
use Rattle.mk_driver_laws.proofs.Lookups.{passes-from_some}
use Rattle.mk_model.proofs.Frames.{AllTrue, AllTrue-from_first_failing}
use Rattle.mk_driver_laws.proofs.ColumnMoves.{stops, ColumnFits, WorkFits, AttemptMove, Moves}
use Rattle.mk_driver_laws.proofs.ColumnMoves.AttemptMove.{Stays, Begins, Changes}
use Rattle.mk_driver_laws.proofs.ColumnSteps.{fresh_id}

-- the attempt is not stopped
abbrev pub is_going : AttemptState → Bool
is_going a = not a.stopped

-- it reads
abbrev pub is_reading : AttemptState → Bool
is_reading a = a.reading

-- it is stamped and not stopped
abbrev pub is_live : AttemptState → Bool
is_live a = is_some a.txn && not a.stopped

abbrev pub IsGoing : ColumnState → TxnId → Type 0
IsGoing c id = on_attempt c id is_going ≡ true

abbrev pub IsReading : ColumnState → TxnId → Type 0
IsReading c id = on_attempt c id is_reading ≡ true

abbrev pub IsLive : ColumnState → TxnId → Type 0
IsLive c id = on_attempt c id is_live ≡ true

-- no Validate of it was sent
abbrev pub IsUnsent : ColumnState → TxnId → Type 0
IsUnsent c id = list_any (is_validate_of id) c.link ≡ false

-- where no key call is wanted, none is under way
pub idle_by : (link : List Msg) (work : Work) → WorkFits link work → wanted work ≡ None → is_idle work ≡ true
idle_by link Idle h e = refl
idle_by link (Fetching id replica key) h e = absurd (cc e)
idle_by link (Validating txn replica epoch state) h e = by _ h.1 e
  where
    by : (o : Option Rattle.mk_words.specs.Checks.KeyAct) → is_some o ≡ true → option_map (Rattle.mk_model.specs.Conditions.call_at replica) o ≡ None → is_idle (Validating txn replica epoch state) ≡ true
    by None s z = absurd (cc s)
    by (Some act) s z = absurd (cc z)
idle_by link (Finishing replica []) h e = absurd h
idle_by link (Finishing replica (act ∷ acts)) h e = absurd (cc e)

module _ (f : ℕ) (c new : ColumnState) (step : Step) (m : Moves f c new step) where
  pub link_grows : length c.link ≤ length new.link
  link_grows =
      let e : length new.link ≡ length (c.link ++ m.messages) = ap length m.link in
      let g = length-append c.link m.messages in
      omega (arith, e, g)

  pub stays_going : (id : TxnId) → stops step id ≡ false → IsGoing c id → IsGoing new id
  stays_going id s e = by (m.attempts id)
    where
      by : AttemptMove f c.link (stops step id) id (attempt_of c id) (attempt_of new id) → IsGoing new id
      by (Stays q) = subst (λ (o : Option AttemptState). passes is_going o ≡ true) (sym q) e
      by (Begins a o n t q) = let p = passes-some is_going (attempt_of c id) e in absurd (cc (sym o ∙ p.1))
      by (Changes a b o n h) =
          let was = passes-at is_going (attempt_of c id) a o e in
          passes-from_some is_going (attempt_of new id) b n (ap not (h.stopped s) ∙ was)

  pub stays_live : (id : TxnId) → stops step id ≡ false → IsLive c id → IsLive new id
  stays_live id s e = by (m.attempts id)
    where
      by : AttemptMove f c.link (stops step id) id (attempt_of c id) (attempt_of new id) → IsLive new id
      by (Stays q) = subst (λ (o : Option AttemptState). passes is_live o ≡ true) (sym q) e
      by (Begins a o n t q) = let p = passes-some is_live (attempt_of c id) e in absurd (cc (sym o ∙ p.1))
      by (Changes a b o n h) =
          let was = passes-at is_live (attempt_of c id) a o e in
          passes-from_some is_live (attempt_of new id) b n
          (and_from (is_some b.txn) (not b.stopped) (h.txn (and_parts (is_some a.txn) (not a.stopped) was).0) (ap not (h.stopped s) ∙ (and_parts (is_some a.txn) (not a.stopped) was).1))

-- the attempt that a Begin begins
pub begun_found : (round : Setting) (c : ColumnState) → ColumnFits round.faults c → (n replica : ℕ) (cl : ClientState) → client_of c n ≡ Some cl →
    attempt_of (column_after round c (Begin n replica)) (record { client = n; seq = cl.next_seq })
    ≡ Some (new_attempt round.faults (record { client = n; seq = cl.next_seq }) replica (epoch_of (slice_get round.views replica)))
begun_found round c k n replica cl e =
    subst (λ (o : Option ClientState). find (is_attempt (record { client = n; seq = cl.next_seq })) (on_some (beginning round replica epoch) o c).attempts ≡ Some (begins n)) (sym e)
    (subst (λ (m : ℕ). find (is_attempt (record { client = m; seq = cl.next_seq })) (c.attempts ++ begins cl.number ∷ []) ≡ Some (begins m)) number
    (find_push (is_attempt (next_id cl)) c.attempts (begins cl.number) (fresh_id round.faults c k [] cl own) (same_id-itself (next_id cl))))
  where
    epoch : ℕ
    epoch = epoch_of (slice_get round.views replica)

    begins : ℕ → AttemptState
    begins m = new_attempt round.faults (record { client = m; seq = cl.next_seq }) replica epoch

    number : cl.number ≡ n
    number = eqb-true cl.number n (find-passes (is_client n) c.clients cl e)

    own : client_of c cl.number ≡ Some cl
    own = ap (client_of c) number ∙ e

pub begun_going : (round : Setting) (c : ColumnState) → ColumnFits round.faults c → (n replica : ℕ) (cl : ClientState) → client_of c n ≡ Some cl →
    IsGoing (column_after round c (Begin n replica)) (record { client = n; seq = cl.next_seq })
begun_going round c k n replica cl e = passes-from_some is_going _ _ (begun_found round c k n replica cl e) refl

-- it reads
pub begun_reading : (round : Setting) (c : ColumnState) → ColumnFits round.faults c → (n replica : ℕ) (cl : ClientState) → client_of c n ≡ Some cl →
    IsReading (column_after round c (Begin n replica)) (record { client = n; seq = cl.next_seq })
begun_reading round c k n replica cl e = passes-from_some is_reading _ _ (begun_found round c k n replica cl e) refl

-- an attempt reads on while a key is read and answered
passes_change : (test : AttemptState → Bool) (p q : AttemptState → Bool) (g : AttemptState → AttemptState) (xs : List AttemptState) → ((x : AttemptState) → q (g x) ≡ q x) →
    ((x : AttemptState) → test (g x) ≡ test x) → passes test (find q (change p g xs)) ≡ passes test (find q xs)
passes_change test p q g [] same kept = refl
passes_change test p q g (x ∷ xs) same kept = grind (arith, same x, kept x, passes_change test p q g xs same kept)

pub read_keeps : (round : Setting) (c : ColumnState) (id : TxnId) (key : ℕ) (i : TxnId) → IsReading c i → IsReading (column_after round c (Read id key)) i
read_keeps round c id key i h = by (attempt_of c id)
  where
    by : (o : Option AttemptState) → passes is_reading (find (is_attempt i) (on_some (λ a col. record col { work = Fetching id a.replica key }) o c).attempts) ≡ true
    by (Some a) = h
    by None = h

pub key_keeps : (round : Setting) (c : ColumnState) (call : KeyCall) (answer : Answer) (i : TxnId) → IsReading c i → IsReading (column_after round c (Key call answer)) i
key_keeps round c call answer i h = by c.work
  where
    validating : (txn : Transaction) (replica epoch : ℕ) (state : ValidationState) (act : Option KeyAct) → passes is_reading (find (is_attempt i) (validated txn replica epoch state act c).attempts) ≡ true
    validating txn replica epoch state (Some act) = h
    validating txn replica epoch state None = h

    by : (w : Work) → passes is_reading (find (is_attempt i) (answered answer w c).attempts) ≡ true
    by Idle = h
    by (Fetching id replica key) = passes_change is_reading (is_attempt id) (is_attempt i) (with_read key answer) c.attempts (λ x. refl) (λ x. refl) ∙ h
    by (Validating txn replica epoch state) = let next = after_answer state answer in validating txn replica epoch next (next_act next)
    by (Finishing replica []) = h
    by (Finishing replica (act ∷ acts)) = h

-- before a Begin no Validate of it was sent
pub begun_unsent : (f : ℕ) (c : ColumnState) → ColumnFits f c → (n : ℕ) (cl : ClientState) → client_of c n ≡ Some cl → IsUnsent c (record { client = n; seq = cl.next_seq })
begun_unsent f c k n cl e = by (list_any (is_validate_of (record { client = n; seq = cl.next_seq })) c.link) refl
  where
    by : (b : Bool) → list_any (is_validate_of (record { client = n; seq = cl.next_seq })) c.link ≡ b → IsUnsent c (record { client = n; seq = cl.next_seq })
    by false w = w
    by true w =
        let number : cl.number ≡ n = eqb-true cl.number n (find-passes (is_client n) c.clients cl e) in
        let own : client_of c cl.number ≡ Some cl = ap (client_of c) number ∙ e in
        let none : attempt_of c (record { client = n; seq = cl.next_seq }) ≡ None =
        ap (λ (x : ℕ). attempt_of c (record { client = x; seq = cl.next_seq })) (sym number) ∙ fresh_id f c k [] cl own in
        let p = passes-some is_stamped (attempt_of c (record { client = n; seq = cl.next_seq })) (k.stamped (record { client = n; seq = cl.next_seq }) w) in
        absurd (cc (sym none ∙ p.1))

-- after a Stamp the attempt is stamped
pub stamped_live : (round : Setting) (c : ColumnState) (id : TxnId) (clock : ℕ) (writes : List WriteItem) → blocked round c (Stamp id clock writes) ≡ None →
    IsGoing c id → IsLive (column_after round c (Stamp id clock writes)) id
stamped_live round c id clock writes b g = by (attempt_of c id) refl
  where
    After : Option AttemptState → Type 0
    After o = passes is_live (find (is_attempt id) (on_some (stamping clock writes) o c).attempts) ≡ true

    by : (o : Option AttemptState) → attempt_of c id ≡ o → After (attempt_of c id)
    by None e = let p = passes-some is_going (attempt_of c id) g in absurd (cc (sym e ∙ p.1))
    by (Some a) e = subst After (sym e) (by_client (client_of c a.id.client) exists)
      where
        h : AllTrue (conditions round c (Stamp id clock writes))
        h = AllTrue-from_first_failing 1 (conditions round c (Stamp id clock writes)) b

        exists : passes (λ cl. is_some (next_stamp_of cl.number cl.last_time clock a.reads)) (client_of c a.id.client) ≡ true
        exists = passes-at (λ x. stamp_exists c x clock) (attempt_of c id) a e (and_parts (nat_le clock (2 ^ 61)) (on_attempt c id (λ x. stamp_exists c x clock)) h.1.1.1.0).1

        going : not a.stopped ≡ true
        going = passes-at is_going (attempt_of c id) a e g

        by_stamp : (s : Option StampType) → is_some s ≡ true → passes is_live (find (is_attempt id) (stamped a.id writes s c).attempts) ≡ true
        by_stamp None z = absurd (cc z)
        by_stamp (Some stamp) z =
            passes-from_some is_live _ (with_txn stamp writes a)
            (ap (λ (i : TxnId). find (is_attempt id) (change (is_attempt i) (with_txn stamp writes) c.attempts)) (attempt_of-id c id a e)
            ∙ find-change (is_attempt id) (with_txn stamp writes) c.attempts (λ x. refl) ∙ ap (option_map (with_txn stamp writes)) e)
            going

        by_client : (o : Option ClientState) → passes (λ cl. is_some (next_stamp_of cl.number cl.last_time clock a.reads)) o ≡ true →
            passes is_live (find (is_attempt id) (on_some (λ cl col. stamped a.id writes (next_stamp_of cl.number cl.last_time clock a.reads) col) o c).attempts) ≡ true
        by_client None z = absurd (cc z)
        by_client (Some cl) z = by_stamp (next_stamp_of cl.number cl.last_time clock a.reads) z
