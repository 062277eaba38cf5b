-- What holds of a column at every time, and what a step does to what is found in it.
use Rattle.std.proofs.Common.{◌≡◌, ◌⊎◌, ◌∙◌, ◌<◌, ◌≤◌, ℕ, Bool, true, false, refl, sym, subst, ap, arith, inl, inr, List, [], ◌∷◌, ◌++◌, Option, Some, None, ◌&&◌, ◌||◌}
use Rattle.std.specs.Prelude.{is_some}
use Rattle.std.specs.List.{list_any}
use Rattle.std.proofs.lemmas.Option.{same_Some}
use Rattle.std.proofs.lemmas.List.Folds.{list_any-append}
use Rattle.mk_lists.specs.Among.{Each, Each-append, Each-weaker}
use Rattle.mk_lists.proofs.Tests.{list_any-append_left, list_any-none}
use Rattle.mk_txn.specs.declared.TxnId.{TxnId}
use Rattle.mk_txn.specs.Transactions.{Transaction, same_id}
use Rattle.mk_txn.proofs.IdOrder.{same_id-tells}
use Rattle.mk_words.specs.declared.Msg.{Msg}
use Rattle.mk_quorum.specs.Slots.{passes}
use Rattle.mk_quorum.proofs.Slots.{passes-some}
use Rattle.mk_words.specs.Validations.{next_act, validation_of}
use Rattle.mk_words.specs.Rulings.{new_coord}
use Rattle.mk_words.specs.declared.Step.{Step}
use Rattle.mk_words.specs.declared.Step.TheVariants.{Stop, Validate}
use Rattle.mk_model.specs.ColumnState.{ColumnState, AttemptState, TakeoverOf, ClientState, Work, attempt_of, client_of, takeover_of}
use Rattle.mk_model.specs.ColumnState.Work.{Idle, Fetching, Validating, Finishing}
use Rattle.mk_model.specs.Conditions.{is_validate_of, is_stamped, on_attempt}
use Rattle.mk_driver_laws.proofs.Lookups.{passes-from_some, any-neither}

-- a Validate of the attempt was sent
abbrev pub WasSent : List Msg → TxnId → Type 0
WasSent link id = list_any (is_validate_of id) link ≡ true

-- a stamped attempt's transaction is its own, and has something to check
abbrev pub HasActs : TxnId → AttemptState → Type 0
HasActs id a = (txn : Transaction) → a.txn ≡ Some txn → (txn.id ≡ id) × (is_some (next_act (validation_of txn)) ≡ true)

-- the step stops this attempt
abbrev pub stops : Step → TxnId → Bool
stops (Stop other) id = same_id other id
stops _ id = false

-- the step sends a Validate of this attempt
abbrev pub validates : Step → TxnId → Bool
validates (Validate other) id = same_id other id
validates _ id = false

-- an attempt of which no Validate was sent has a coordinator that has taken nothing
pub record AttemptFits (f : ℕ) (link : List Msg) (id : TxnId) (a : AttemptState) : Type 0 where
  pub coord : (a.coord ≡ new_coord f) ⊎ WasSent link id
  pub acts : HasActs id a

-- a validation under way has a next act, and so has the end of a transaction
abbrev pub WorkFits : List Msg → Work → Type 0
WorkFits link Idle = Unit {0}
WorkFits link (Fetching id replica key) = Unit {0}
WorkFits link (Validating txn replica epoch state) = WasSent link txn.id × (is_some (next_act state) ≡ true)
WorkFits link (Finishing replica []) = ⊥
WorkFits link (Finishing replica (act ∷ acts)) = Unit {0}

-- what holds of a column at every time
pub record ColumnFits (f : ℕ) (c : ColumnState) : Type 0 where
  pub attempts : (id : TxnId) (a : AttemptState) → attempt_of c id ≡ Some a → AttemptFits f c.link id a
  pub stamped : (id : TxnId) → WasSent c.link id → on_attempt c id is_stamped ≡ true
  pub sent : Each (λ (m : Msg). WasSent c.link m.id) c.link
  pub takeovers : (id : TxnId) (view : ℕ) (t : TakeoverOf) → takeover_of c id view ≡ Some t → WasSent c.link id
  pub work : WorkFits c.link c.work
  pub below : (id : TxnId) (a : AttemptState) → attempt_of c id ≡ Some a → (cl : ClientState) → client_of c id.client ≡ Some cl → id.seq < cl.next_seq

-- what an attempt becomes
pub record AttemptKept (link : List Msg) (stopping : Bool) (id : TxnId) (a b : AttemptState) : Type 0 where
  pub txn : is_some a.txn ≡ true → is_some b.txn ≡ true
  pub coord : (b.coord ≡ a.coord) ⊎ WasSent link id
  pub acts : HasActs id a → HasActs id b
  pub stopped : stopping ≡ false → b.stopped ≡ a.stopped

pub data AttemptMove (f : ℕ) (link : List Msg) (stopping : Bool) (id : TxnId) (old new : Option AttemptState) : Type 0 where
  Stays : new ≡ old → AttemptMove f link stopping id old new
  Begins : (a : AttemptState) → old ≡ None → new ≡ Some a → a.txn ≡ None → a.coord ≡ new_coord f → AttemptMove f link stopping id old new
  Changes : (a b : AttemptState) → old ≡ Some a → new ≡ Some b → AttemptKept link stopping id a b → AttemptMove f link stopping id old new

-- a message is of a stamped attempt, of which a Validate was sent
pub record MessageFits (c : ColumnState) (step : Step) (m : Msg) : Type 0 where
  pub stamped : on_attempt c m.id is_stamped ≡ true
  pub sent : WasSent c.link m.id ⊎ (validates step m.id ≡ true)
  pub quiet : (id : TxnId) → validates step id ≡ false → is_validate_of id m ≡ false

-- what a step does
pub record Moves (f : ℕ) (c new : ColumnState) (step : Step) : Type 0 where
  pub attempts : (id : TxnId) → AttemptMove f c.link (stops step id) id (attempt_of c id) (attempt_of new id)
  pub messages : List Msg
  pub link : new.link ≡ c.link ++ messages
  pub fit : Each (MessageFits c step) messages
  pub validated : (id : TxnId) → validates step id ≡ true → WasSent new.link id
  pub takeovers : (id : TxnId) (view : ℕ) (t : TakeoverOf) → takeover_of new id view ≡ Some t → WasSent c.link id
  pub work : WorkFits c.link new.work
  pub clients : (n : ℕ) (cl : ClientState) → client_of new n ≡ Some cl → (before : ClientState) × (client_of c n ≡ Some before) × (before.next_seq ≤ cl.next_seq)
  pub begun : (id : TxnId) (a : AttemptState) → attempt_of c id ≡ None → attempt_of new id ≡ Some a → (cl : ClientState) → client_of new id.client ≡ Some cl → id.seq < cl.next_seq

none_some : {X : Type 0} {P : Type 0} (x : X) → ◌≡◌ {A = Option X} None (Some x) → P
none_some x e = absurd (cc e)

module _ (f : ℕ) (c new : ColumnState) (step : Step) (k : ColumnFits f c) (m : Moves f c new step) where
  pub stays_sent : (id : TxnId) → WasSent c.link id → WasSent new.link id
  stays_sent id e = subst (λ (l : List Msg). WasSent l id) (sym m.link) (list_any-append_left (is_validate_of id) c.link m.messages e)

  -- of which no Validate was sent before, and not by this step
  pub stays_unsent : (id : TxnId) → validates step id ≡ false → list_any (is_validate_of id) c.link ≡ false → list_any (is_validate_of id) new.link ≡ false
  stays_unsent id v e =
      subst (λ (l : List Msg). list_any (is_validate_of id) l ≡ false) (sym m.link)
      (any-neither (is_validate_of id) c.link m.messages e
      (list_any-none (is_validate_of id) m.messages (Each-weaker (MessageFits c step) (λ (x : Msg). is_validate_of id x ≡ false) (λ x h. h.quiet id v) m.messages m.fit)))

  -- a stamped attempt stays so
  pub stays_stamped : (id : TxnId) → on_attempt c id is_stamped ≡ true → on_attempt new id is_stamped ≡ true
  stays_stamped id e = by (m.attempts id)
    where
      by : AttemptMove f c.link (stops step id) id (attempt_of c id) (attempt_of new id) → on_attempt new id is_stamped ≡ true
      by (Stays s) = subst (λ (o : Option AttemptState). passes is_stamped o ≡ true) (sym s) e
      by (Begins a o n t q) = let p = passes-some is_stamped (attempt_of c id) e in none_some p.0 (sym o ∙ p.1)
      by (Changes a b o n h) =
          passes-from_some is_stamped (attempt_of new id) b n (h.txn (subst (λ (x : Option AttemptState). passes is_stamped x ≡ true) o e))

  attempt_fits : (id : TxnId) (b : AttemptState) → attempt_of new id ≡ Some b → AttemptFits f new.link id b
  attempt_fits id b e = by (m.attempts id)
    where
      more : (x : AttemptState) → AttemptFits f c.link id x → AttemptFits f new.link id x
      more x h = record { coord = elim h.coord [ inl q ↦ inl q | inr s ↦ inr (stays_sent id s) ]; acts = h.acts }

      by : AttemptMove f c.link (stops step id) id (attempt_of c id) (attempt_of new id) → AttemptFits f new.link id b
      by (Stays s) = more b (k.attempts id b (sym s ∙ e))
      by (Begins a o n t q) =
          let same : a ≡ b = same_Some a b (sym n ∙ e) in
          subst (λ (x : AttemptState). AttemptFits f new.link id x) same
          (record { coord = inl q; acts = λ txn j. none_some txn (sym t ∙ j) })
      by (Changes a d o n h) =
          let same : d ≡ b = same_Some d b (sym n ∙ e) in
          let was = k.attempts id a o in
          subst (λ (x : AttemptState). AttemptFits f new.link id x) same
          (record {
            coord = elim h.coord [
              | inl q ↦ elim was.coord [ inl r ↦ inl (q ∙ r) | inr s ↦ inr (stays_sent id s) ]
              | inr s ↦ inr (stays_sent id s)
            ];
            acts = h.acts was.acts;
          })

  -- a message that was sent in this step
  sent_new : (x : Msg) → MessageFits c step x → WasSent new.link x.id
  sent_new x h = elim h.sent [ inl s ↦ stays_sent x.id s | inr v ↦ m.validated x.id v ]

  -- a Validate that was sent in this step is of a stamped attempt
  stamped_new : (id : TxnId) (ms : List Msg) → Each (MessageFits c step) ms → list_any (is_validate_of id) ms ≡ true → on_attempt c id is_stamped ≡ true
  stamped_new id [] h e = absurd (cc e)
  stamped_new id (x ∷ ms) h e = by (stamped_new id ms h.1) (is_validate_of id x) refl e
    where
      right : (p q : Bool) → (p && q) ≡ true → q ≡ true
      right true q z = z
      right false q z = absurd (cc z)

      here : is_validate_of id x ≡ true → on_attempt c id is_stamped ≡ true
      here v =
          let there = h.0.stamped in
          let same : x.id ≡ id = same_id-tells x.id id (right _ (same_id x.id id) v) in
          subst (λ (i : TxnId). on_attempt c i is_stamped ≡ true) same there

      by : (list_any (is_validate_of id) ms ≡ true → on_attempt c id is_stamped ≡ true) → (b : Bool) → is_validate_of id x ≡ b → (b || list_any (is_validate_of id) ms) ≡ true → on_attempt c id is_stamped ≡ true
      by again true v j = here v
      by again false v j = again j

  stamped_all : (id : TxnId) → WasSent new.link id → on_attempt new id is_stamped ≡ true
  stamped_all id e =
      by (list_any (is_validate_of id) c.link) refl (list_any (is_validate_of id) m.messages) refl
      (sym (list_any-append (is_validate_of id) c.link m.messages) ∙ subst (λ (l : List Msg). WasSent l id) m.link e)
    where
      by : (p : Bool) → list_any (is_validate_of id) c.link ≡ p → (q : Bool) → list_any (is_validate_of id) m.messages ≡ q →
          (list_any (is_validate_of id) c.link || list_any (is_validate_of id) m.messages) ≡ true → on_attempt new id is_stamped ≡ true
      by true p q w z = stays_stamped id (k.stamped id p)
      by false p true w z = stays_stamped id (stamped_new id m.messages m.fit w)
      by false p false w z = absurd (cc (sym z ∙ ap (λ (b : Bool). b || list_any (is_validate_of id) m.messages) p ∙ w))

  below_all : (id : TxnId) (b : AttemptState) → attempt_of new id ≡ Some b → (cl : ClientState) → client_of new id.client ≡ Some cl → id.seq < cl.next_seq
  below_all id b e cl n = by (m.attempts id)
    where
      kept : (a : AttemptState) → attempt_of c id ≡ Some a → id.seq < cl.next_seq
      kept a o =
          let was = m.clients id.client cl n in
          let low = k.below id a o was.0 was.1 in
          let up = was.2 in
          omega (arith, low, up)

      by : AttemptMove f c.link (stops step id) id (attempt_of c id) (attempt_of new id) → id.seq < cl.next_seq
      by (Stays s) = kept b (sym s ∙ e)
      by (Begins a o z t q) = m.begun id b o e cl n
      by (Changes a d o z h) = kept a o

  work_more : (w : Work) → WorkFits c.link w → WorkFits new.link w
  work_more Idle h = tt
  work_more (Fetching id replica key) h = tt
  work_more (Validating txn replica epoch state) h = (stays_sent txn.id h.0, h.1)
  work_more (Finishing replica []) h = h
  work_more (Finishing replica (act ∷ acts)) h = tt

  pub column_fits : ColumnFits f new
  column_fits =
      record {
        attempts = attempt_fits;
        stamped = stamped_all;
        sent = subst (λ (l : List Msg). Each (λ (x : Msg). WasSent new.link x.id) l) (sym m.link)
            (Each-append (λ (x : Msg). WasSent new.link x.id) c.link m.messages
            (Each-weaker (λ (x : Msg). WasSent c.link x.id) (λ (x : Msg). WasSent new.link x.id) (λ x h. stays_sent x.id h) c.link k.sent)
            (Each-weaker (MessageFits c step) (λ (x : Msg). WasSent new.link x.id) sent_new m.messages m.fit));
        takeovers = λ id view t e. stays_sent id (m.takeovers id view t e);
        work = work_more new.work m.work;
        below = below_all;
      }
