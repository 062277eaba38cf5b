-- What each enabled step does to a column.
use Rattle.std.proofs.Common.{◌≡◌, ◌⊎◌, ◌∙◌, ◌<◌, ◌≤◌, ℕ, ◌+◌, Bool, true, false, refl, sym, subst, ap, arith, inl, inr, List, [], ◌∷◌, ◌++◌, Option, Some, None, ◌&&◌}
use Rattle.std.specs.Prelude.{is_some, find, option_map, ◌==◌}
use Rattle.std.proofs.lemmas.Option.{same_Some}
use Rattle.std.proofs.lemmas.Bool.{and_parts}
use Rattle.std.proofs.lemmas.List.{append-nil}
use Rattle.mk_lists.specs.Among.{Each}
use Rattle.mk_lists.specs.Changed.{change}
use Rattle.mk_lists.proofs.Lookups.{find_push, find_push_cases, find_push_other}
use Rattle.mk_lists.proofs.Changes.{find-change}
use Rattle.mk_txn.specs.declared.TxnId.{TxnId}
use Rattle.mk_txn.specs.declared.Outcome.{Outcome}
use Rattle.mk_txn.specs.Transactions.{Transaction, same_id}
use Rattle.mk_txn.proofs.IdOrder.{same_id-tells}
use Rattle.mk_words.specs.declared.Msg.{Msg}
use Rattle.mk_words.specs.declared.Body.TheVariants.{Accept, Decide, Ask}
use Rattle.mk_words.specs.declared.Ruling.{Ruling}
use Rattle.mk_words.specs.declared.Ruling.TheVariants.{Fast, Propose, Learned, Short, Unaccepted}
use Rattle.mk_words.specs.Rulings.{CoordState, new_coord, ruling}
use Rattle.mk_words.specs.declared.Pick.{Pick}
use Rattle.mk_words.specs.declared.Pick.TheVariants.{Known, Learned as PickLearned, Propose as PickPropose, Short as PickShort, Unaccepted as PickUnaccepted, Unclear}
use Rattle.mk_words.specs.declared.Step.{Step}
use Rattle.mk_words.specs.declared.Step.TheVariants.{Rule, Again, Takeover, Pick as PickStep}
use Rattle.mk_model.specs.ColumnState.{ColumnState, AttemptState, TakeoverOf, ClientState, Learning, attempt_of, client_of, takeover_of, is_attempt, is_client, is_takeover, change_client, send, to_all}
use Rattle.mk_model.specs.Conditions.{is_stamped, on_attempt, acts_on}
use Rattle.mk_model.specs.Steps.{on_some, begun, next_id, with_attempt, ruled, taught, proposing, taken_over, picked, closing, takeover_proposing}
use Rattle.mk_driver_laws.proofs.Lookups.{changed_from}
use Rattle.mk_driver_laws.proofs.ColumnMoves.{WasSent, stops, validates, ColumnFits, AttemptKept, AttemptMove, MessageFits, Moves}
use Rattle.mk_driver_laws.proofs.ColumnMoves.AttemptMove.{Stays, Begins}
use Rattle.mk_driver_laws.proofs.StepParts.{to_all_fit, new_rules_nothing, moves_by, moves_plain, moves_changed}

-- a column where this was learned
abbrev pub with_learned : List Learning → ColumnState → ColumnState
with_learned l c = record c { learned = l }

-- an attempt that keeps its transaction and its coordinator
pub same_attempt : (link : List Msg) (b : Bool) (id : TxnId) (a d : AttemptState) → d.txn ≡ a.txn → d.coord ≡ a.coord → d.stopped ≡ a.stopped → AttemptKept link b id a d
same_attempt link b id a d t q s =
    record { txn = λ e. subst (λ (o : Option Transaction). is_some o ≡ true) (sym t) e; coord = inl q; acts = λ h txn e. h txn (sym t ∙ e); stopped = λ e. s }

-- one whose coordinator changes, after a Validate was sent
pub sent_attempt : (link : List Msg) (b : Bool) (id : TxnId) (a d : AttemptState) → d.txn ≡ a.txn → WasSent link id → d.stopped ≡ a.stopped → AttemptKept link b id a d
sent_attempt link b id a d t w s =
    record { txn = λ e. subst (λ (o : Option Transaction). is_some o ≡ true) (sym t) e; coord = inr w; acts = λ h txn e. h txn (sym t ∙ e); stopped = λ e. s }

module _ (f : ℕ) (c : ColumnState) (k : ColumnFits f c) (l : List Learning) where
  -- nothing is done
  pub nothing_moves : (step : Step) → ((id : TxnId) → validates step id ≡ true → WasSent c.link id) → Moves f c (with_learned l c) step
  nothing_moves step v = moves_plain f c (with_learned l c) step k refl refl refl [] (sym (append-nil c.link)) tt v k.work

  -- ---- beginning

  pub fresh_id : (cl : ClientState) → client_of c cl.number ≡ Some cl → attempt_of c (next_id cl) ≡ None
  fresh_id cl e = by (attempt_of c (next_id cl)) refl
    where
      by : (o : Option AttemptState) → attempt_of c (next_id cl) ≡ o → attempt_of c (next_id cl) ≡ None
      by None o = o
      by (Some a) o = let low = k.below (next_id cl) a o cl e in absurd (omega (arith, low))

  pub begin_moves : (step : Step) → ((id : TxnId) → validates step id ≡ false) → (cl : ClientState) (a : AttemptState) (epoch : ℕ) → client_of c cl.number ≡ Some cl →
      a.id ≡ next_id cl → a.txn ≡ None → a.coord ≡ new_coord f →
      Moves f c (with_learned l (with_attempt a (change_client cl.number (begun epoch) c))) step
  begin_moves step v cl a epoch e i t q =
      record {
        attempts = λ id. move id (same_id a.id id) refl;
        messages = [];
        link = (sym (append-nil c.link));
        fit = tt;
        validated = λ id w. absurd (cc (sym (v id) ∙ w));
        takeovers = k.takeovers;
        work = k.work;
        clients = λ n d g. counted n d (changed_from (is_client cl.number) (is_client n) (begun epoch) c.clients d (λ x. refl) g);
        begun = first;
      }
    where
      free : attempt_of c a.id ≡ None
      free = ap (attempt_of c) i ∙ fresh_id cl e

      move : (id : TxnId) (b : Bool) → same_id a.id id ≡ b →
          AttemptMove f c.link (stops step id) id (attempt_of c id) (find (is_attempt id) (c.attempts ++ a ∷ []))
      move id true s =
          let same = same_id-tells a.id id s in
          let none : attempt_of c id ≡ None = sym (ap (attempt_of c) same) ∙ free in
          Begins a none (find_push (is_attempt id) c.attempts a none s) t q
      move id false s = Stays (find_push_other (is_attempt id) c.attempts a s)

      counted : (n : ℕ) (d : ClientState) → (x : ClientState) × (find (is_client n) c.clients ≡ Some x) × ((d ≡ x) ⊎ (d ≡ begun epoch x)) →
          (before : ClientState) × (client_of c n ≡ Some before) × (before.next_seq ≤ d.next_seq)
      counted n d h = (
        h.0,
        h.1,
        elim h.2 [
          | inl s ↦ (let x = h.0 in let same : d.next_seq ≡ x.next_seq = ap (λ (y : ClientState). y.next_seq) s in omega (arith, same))
          | inr s ↦ (let x = h.0 in let same : d.next_seq ≡ x.next_seq + 1 = ap (λ (y : ClientState). y.next_seq) s in omega (arith, same))
        ],
      )

      first : (id : TxnId) (b : AttemptState) → attempt_of c id ≡ None → find (is_attempt id) (c.attempts ++ a ∷ []) ≡ Some b →
          (d : ClientState) → find (is_client id.client) (change (is_client cl.number) (begun epoch) c.clients) ≡ Some d → id.seq < d.next_seq
      first id b o n d g = by (same_id a.id id) refl
        where
          by : (z : Bool) → same_id a.id id ≡ z → id.seq < d.next_seq
          by false s = absurd (cc (sym (find_push_other (is_attempt id) c.attempts a s ∙ o) ∙ n))
          by true s =
              let same : next_id cl ≡ id = sym i ∙ same_id-tells a.id id s in
              let owner : cl.number ≡ id.client = ap (λ (x : TxnId). x.client) same in
              let place : cl.next_seq ≡ id.seq = ap (λ (x : TxnId). x.seq) same in
              let found : find (is_client cl.number) (change (is_client cl.number) (begun epoch) c.clients) ≡ Some (begun epoch cl) =
              find-change (is_client cl.number) (begun epoch) c.clients (λ x. refl) ∙ ap (option_map (begun epoch)) e in
              let found_here : find (is_client id.client) (change (is_client cl.number) (begun epoch) c.clients) ≡ Some (begun epoch cl) =
              subst (λ (n : ℕ). find (is_client n) (change (is_client cl.number) (begun epoch) c.clients) ≡ Some (begun epoch cl)) owner found in
              let is : begun epoch cl ≡ d = same_Some (begun epoch cl) d (sym found_here ∙ g) in
              let next : cl.next_seq + 1 ≡ d.next_seq = ap (λ (y : ClientState). y.next_seq) is in
              omega (arith, place, next)

  -- ---- messages of an attempt

  pub send_moves : (step : Step) (ms : List Msg) → Each (MessageFits c step) ms → ((id : TxnId) → validates step id ≡ true → WasSent (c.link ++ ms) id) →
      Moves f c (with_learned l (send ms c)) step
  send_moves step ms fit v = moves_plain f c (with_learned l (send ms c)) step k refl refl refl ms refl fit v k.work

  -- an attempt that has something to do by its ruling is one of which a Validate was sent
  pub acts_sent : (id : TxnId) (a : AttemptState) → attempt_of c id ≡ Some a → acts_on (ruling f a.coord) ≡ true → WasSent c.link id
  acts_sent id a e r =
      let fits = k.attempts id a e in
      elim fits.coord [
        | inl q ↦ absurd (cc (sym r ∙ ap (λ (x : CoordState). acts_on (ruling f x)) q ∙ new_rules_nothing f))
        | inr w ↦ w
      ]

  pub proposed_sent : (id : TxnId) (a : AttemptState) → attempt_of c id ≡ Some a → is_some a.coord.proposed ≡ true → WasSent c.link id
  proposed_sent id a e r =
      let fits = k.attempts id a e in
      elim fits.coord [
        | inl q ↦ absurd (cc (sym r ∙ ap (λ (x : CoordState). is_some x.proposed) q))
        | inr w ↦ w
      ]

  pub rule_moves : (id : TxnId) (a : AttemptState) (r : Ruling) → attempt_of c a.id ≡ Some a → on_attempt c a.id is_stamped ≡ true → WasSent c.link a.id →
      Moves f c (with_learned l (ruled f a r c)) (Rule id)
  rule_moves id a (Fast outcome) e s w =
      moves_changed f c (with_learned l (ruled f a (Fast outcome) c)) (Rule id) k a.id (taught outcome) refl (λ x. refl)
      (λ x g. sent_attempt c.link false a.id x (taught outcome x) refl w refl) refl refl
      (to_all f a.epoch a.id 0 (Decide outcome)) refl (to_all_fit c (Rule id) f a.epoch a.id 0 (Decide outcome) s w (λ i r. refl)) (λ i z. absurd (cc z)) k.work
  rule_moves id a (Learned outcome) e s w =
      moves_changed f c (with_learned l (ruled f a (Learned outcome) c)) (Rule id) k a.id (taught outcome) refl (λ x. refl)
      (λ x g. sent_attempt c.link false a.id x (taught outcome x) refl w refl) refl refl
      (to_all f a.epoch a.id 0 (Decide outcome)) refl (to_all_fit c (Rule id) f a.epoch a.id 0 (Decide outcome) s w (λ i r. refl)) (λ i z. absurd (cc z)) k.work
  rule_moves id a (Propose outcome) e s w =
      moves_changed f c (with_learned l (ruled f a (Propose outcome) c)) (Rule id) k a.id (proposing outcome) refl (λ x. refl)
      (λ x g. sent_attempt c.link false a.id x (proposing outcome x) refl w refl) refl refl
      (to_all f a.epoch a.id 0 (Accept outcome)) refl (to_all_fit c (Rule id) f a.epoch a.id 0 (Accept outcome) s w (λ i r. refl)) (λ i z. absurd (cc z)) k.work
  rule_moves id a (Short n) e s w = nothing_moves (Rule id) (λ i z. absurd (cc z))
  rule_moves id a (Unaccepted n) e s w = nothing_moves (Rule id) (λ i z. absurd (cc z))

  pub again_moves : (id : TxnId) (a : AttemptState) (p : Option Outcome) → on_attempt c a.id is_stamped ≡ true → WasSent c.link a.id →
      Moves f c (with_learned l (on_some (λ outcome col. send (to_all f a.epoch a.id 0 (Accept outcome)) col) p c)) (Again id)
  again_moves id a (Some outcome) s w =
      send_moves (Again id) (to_all f a.epoch a.id 0 (Accept outcome)) (to_all_fit c (Again id) f a.epoch a.id 0 (Accept outcome) s w (λ i r. refl)) (λ i z. absurd (cc z))
  again_moves id a None s w = nothing_moves (Again id) (λ i z. absurd (cc z))

  pub takeover_moves : (id : TxnId) (view : ℕ) (a : AttemptState) → on_attempt c a.id is_stamped ≡ true → WasSent c.link a.id →
      Moves f c (with_learned l (taken_over f view a c)) (Takeover id view)
  takeover_moves id view a s w =
      moves_by f c (with_learned l (taken_over f view a c)) (Takeover id view) k (λ i. Stays refl) (λ i o. o) refl begun_after
      (to_all f a.epoch a.id view Ask) refl (to_all_fit c (Takeover id view) f a.epoch a.id view Ask s w (λ i r. refl)) (λ i z. absurd (cc z)) k.work
    where
      begun_after : (i : TxnId) (v : ℕ) (t : TakeoverOf) → takeover_of (taken_over f view a c) i v ≡ Some t → WasSent c.link i
      begun_after i v t e =
          elim (find_push_cases (is_takeover i v) c.takeovers _ t e) [
            | inl old ↦ k.takeovers i v t old
            | inr new ↦ subst (λ (x : TxnId). WasSent c.link x) (same_id-tells a.id i (and_parts (same_id a.id i) (view == v) new.1.1).0) w
          ]

  -- ---- picks

  pub takeover_changed : (g : TakeoverOf → TakeoverOf) (id : TxnId) (view : ℕ) → ((t : TakeoverOf) → (g t).id ≡ t.id) → ((t : TakeoverOf) → (g t).state.view ≡ t.state.view) →
      (i : TxnId) (v : ℕ) (t : TakeoverOf) → find (is_takeover i v) (change (is_takeover id view) g c.takeovers) ≡ Some t → WasSent c.link i
  takeover_changed g id view same same_view i v t e =
      let from = changed_from (is_takeover id view) (is_takeover i v) g c.takeovers t
      (λ x. λ j. same_id (same x j) i && same_view x j == v) e in
      k.takeovers i v from.0 from.1

  pub pick_moves : (id : TxnId) (view : ℕ) (a : AttemptState) (p : Pick) → on_attempt c a.id is_stamped ≡ true → WasSent c.link a.id →
      Moves f c (with_learned l (picked f view a p c)) (PickStep id view)
  pick_moves id view a (Known outcome) s w =
      moves_by f c (with_learned l (picked f view a (Known outcome) c)) (PickStep id view) k (λ i. Stays refl) (λ i o. o) refl
      (takeover_changed closing a.id view (λ t. refl) (λ t. refl))
      (to_all f a.epoch a.id view (Decide outcome)) refl (to_all_fit c (PickStep id view) f a.epoch a.id view (Decide outcome) s w (λ i r. refl)) (λ i z. absurd (cc z)) k.work
  pick_moves id view a (PickLearned outcome) s w =
      moves_by f c (with_learned l (picked f view a (PickLearned outcome) c)) (PickStep id view) k (λ i. Stays refl) (λ i o. o) refl
      (takeover_changed closing a.id view (λ t. refl) (λ t. refl))
      (to_all f a.epoch a.id view (Decide outcome)) refl (to_all_fit c (PickStep id view) f a.epoch a.id view (Decide outcome) s w (λ i r. refl)) (λ i z. absurd (cc z)) k.work
  pick_moves id view a (PickPropose outcome) s w =
      moves_by f c (with_learned l (picked f view a (PickPropose outcome) c)) (PickStep id view) k (λ i. Stays refl) (λ i o. o) refl
      (takeover_changed (takeover_proposing outcome) a.id view (λ t. refl) (λ t. refl))
      (to_all f a.epoch a.id view (Accept outcome)) refl (to_all_fit c (PickStep id view) f a.epoch a.id view (Accept outcome) s w (λ i r. refl)) (λ i z. absurd (cc z)) k.work
  pick_moves id view a (PickShort n) s w = nothing_moves (PickStep id view) (λ i z. absurd (cc z))
  pick_moves id view a (PickUnaccepted n) s w = nothing_moves (PickStep id view) (λ i z. absurd (cc z))
  pick_moves id view a (Unclear ok not_ok) s w = nothing_moves (PickStep id view) (λ i z. absurd (cc z))
