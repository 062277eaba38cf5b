-- An attempt that is stamped later follows all attempts of its client that are stamped by now.
use Rattle.std.proofs.Common.{◌≡◌, ◌⊎◌, ◌<◌, ℕ, ◌+◌, true, refl, sym, ap, subst, ◌∙◌, inl, inr, arith, List, [], ◌∷◌, ◌++◌, Option, Some, None}
use Rattle.std.specs.Option.{option_and_then}
use Rattle.std.proofs.lemmas.Option.{none-some, same_Some}
use Rattle.std.proofs.lemmas.Bool.{cases_order}
use Rattle.mk_txn.specs.declared.TxnId.{TxnId}
use Rattle.mk_txn.specs.Transactions.{Transaction}
use Rattle.mk_model.specs.ColumnState.{ClientState, AttemptState, attempt_of}
use Rattle.mk_model.specs.Learnings.{txn_of}
use Rattle.mk_column_laws.specs.Moments.{Moment, Taught, StaysTaught, Event, CanHappen, EachHappens, IsReached, after_event, moment_through}
use Rattle.mk_column_laws.specs.Moves.{AttemptChange, AttemptMove}
use Rattle.mk_column_laws.specs.Moves.AttemptChange.{EndsReading, Reads, Stamps, RulesFast, RulesLearned, Proposes, Hears, Stops}
use Rattle.mk_column_laws.specs.Moves.AttemptMove.{AttemptStays, AttemptBegins, AttemptChanges}
use Rattle.mk_column_laws.specs.Laws.{EventsMove, ColumnsGrow}
use Rattle.mk_column_laws.specs.Identity.{Identity, IdsOnce, client_in}

-- ---- moments that are reached

happens-more : (taught : Taught) (m : Moment) (events : List Event) (event : Event) → EachHappens taught m events → CanHappen taught event (moment_through m events) → EachHappens taught m (events ++ event ∷ [])
happens-more taught m [] event h can = (can, tt)
happens-more taught m (e ∷ events) event h can = (h.0, happens-more taught (after_event e m) events event h.1 can)

through-more : (m : Moment) (events : List Event) (event : Event) → moment_through m (events ++ event ∷ []) ≡ after_event event (moment_through m events)
through-more m [] event = refl
through-more m (e ∷ events) event = through-more (after_event e m) events event

pub reached-next : (taught : Taught) (m : Moment) (event : Event) → IsReached taught m → CanHappen taught event m → IsReached taught (after_event event m)
reached-next taught m event r can =
    let start = r in
    record {
      version = r.version;
      faults = r.faults;
      keys = r.keys;
      clients = r.clients;
      events = r.events ++ event ∷ [];
      happens = happens-more taught _ r.events event r.happens (subst (λ (x : Moment). CanHappen taught event x) (sym r.leads) can);
      leads = through-more _ r.events event ∙ ap (after_event event) r.leads;
    }

-- ---- one event

-- the attempt is stamped, with this transaction
abbrev pub IsStamped : Moment → TxnId → Transaction → Type 0
IsStamped m id txn = (a : AttemptState) × (attempt_of m.column id ≡ Some a) × (a.txn ≡ Some txn)

-- the attempt is not stamped
abbrev pub IsUnstamped : Moment → TxnId → Type 0
IsUnstamped m id = (a : AttemptState) (txn : Transaction) → attempt_of m.column id ≡ Some a → a.txn ≡ Some txn → ⊥

-- who gets a stamp in an event was reading
stamped-reads : (m next : Moment) (id : TxnId) (a b : AttemptState) (txn : Transaction) → a.txn ≡ None → b.txn ≡ Some txn → AttemptChange m next.column id a b → a.reading ≡ true
stamped-reads m next id a b txn none some (EndsReading is) = absurd (none-some txn (sym none ∙ sym (ap (λ (x : AttemptState). x.txn) is) ∙ some))
stamped-reads m next id a b txn none some (Reads replica key answer work is) = absurd (none-some txn (sym none ∙ sym (ap (λ (x : AttemptState). x.txn) is) ∙ some))
stamped-reads m next id a b txn none some (Stamps client clock stamp writes reading fits many found fresh is) = reading
stamped-reads m next id a b txn none some (RulesFast outcome unlearned rules is learns) = absurd (none-some txn (sym none ∙ sym (ap (λ (x : AttemptState). x.txn) is) ∙ some))
stamped-reads m next id a b txn none some (RulesLearned outcome unlearned rules is) = absurd (none-some txn (sym none ∙ sym (ap (λ (x : AttemptState). x.txn) is) ∙ some))
stamped-reads m next id a b txn none some (Proposes outcome unlearned rules is sent) = absurd (none-some txn (sym none ∙ sym (ap (λ (x : AttemptState). x.txn) is) ∙ some))
stamped-reads m next id a b txn none some (Hears msg among same view unlearned is) = absurd (none-some txn (sym none ∙ sym (ap (λ (x : AttemptState). x.txn) is) ∙ some))
stamped-reads m next id a b txn none some (Stops is) = absurd (none-some txn (sym none ∙ sym (ap (λ (x : AttemptState). x.txn) is) ∙ some))

no-txn : (m : Moment) (id : TxnId) (a : AttemptState) → IsUnstamped m id → attempt_of m.column id ≡ Some a → (o : Option Transaction) → a.txn ≡ o → a.txn ≡ None
no-txn m id a un found None e = e
no-txn m id a un found (Some txn) e = absurd (un a txn found e)

-- so it was the last one of its client
stamped-next : (m next : Moment) (id other : TxnId) (txn own : Transaction) → Identity m.column.clients m.column.attempts → IsUnstamped m id → IsStamped m other own → other.client ≡ id.client
    → (old new : Option AttemptState) → attempt_of m.column id ≡ old → attempt_of next.column id ≡ new → AttemptMove m next.column id old new → (b : AttemptState) → new ≡ Some b → b.txn ≡ Some txn → other.seq < id.seq
stamped-next m next id other txn own ids un st client old new was is (AttemptStays same) b here some = absurd (un b txn (was ∙ sym same ∙ here) some)
stamped-next m next id other txn own ids un st client old new was is (AttemptBegins a before after own_id coord none reads served) b here some =
    absurd (none-some txn (sym none ∙ ap (λ (x : AttemptState). x.txn) (same_Some a b (sym after ∙ here)) ∙ some))
stamped-next m next id other txn own ids un st client old new was is (AttemptChanges a c before after change) b here some =
    let found : attempt_of m.column id ≡ Some a = was ∙ before in
    let some' : c.txn ≡ Some txn = ap (λ (x : AttemptState). x.txn) (same_Some c b (sym after ∙ here)) ∙ some in
    let reading = stamped-reads m next id a c txn (no-txn m id a un found a.txn refl) some' change in
    let mine = ids.attempts id a found in
    let its = ids.attempts other st.0 st.1 in
    let same = same-client mine.client its.client (sym its.found ∙ (λ i. client_at (client i)) ∙ mine.found) in
    let last : mine.client.next_seq ≡ id.seq + 1 = mine.last_reads reading in
    let begun : other.seq < its.client.next_seq = its.begun in
    let begun' : other.seq < mine.client.next_seq = subst (λ (n : ℕ). other.seq < n) (sym same) begun in
    by (cases_order other.seq id.seq) (omega (arith, last, begun'))
  where
    client_at : ℕ → Option ClientState
    client_at n = client_in m.column.clients n

    same-client : (x y : ClientState) → Some y ≡ Some x → x.next_seq ≡ y.next_seq
    same-client x y e = ap (λ (z : ClientState). z.next_seq) (sym (same_Some y x e))

    by : (other.seq ≡ id.seq) ⊎ ((other.seq < id.seq) ⊎ (id.seq < other.seq)) → other.seq < id.seq + 1 → other.seq < id.seq
    by (inl same) lt =
        let one : other ≡ id = λ i. record { client = client i; seq = same i } in
        absurd (un st.0 own (subst (λ (x : TxnId). attempt_of m.column x ≡ Some st.0) one st.1) st.2)
    by (inr (inl less)) lt = less
    by (inr (inr more)) lt = absurd (omega (arith, more, lt))

-- ---- many events

module _ (moves : EventsMove) (grow : ColumnsGrow) (ids : IdsOnce) (taught : Taught) (stays : StaysTaught taught) where
  stamped-later : (m : Moment) → IsReached taught m → (event : Event) → CanHappen taught event m → (id : TxnId) (txn : Transaction) → IsStamped m id txn → IsStamped (after_event event m) id txn
  stamped-later m r event can id txn st =
      let g = (grow taught stays m r (event ∷ []) (can, tt)).attempts id st.0 st.1 in
      (g.0, g.1, (g.2).txn txn st.2)

  pub late-follows : (m : Moment) → IsReached taught m → (events : List Event) → EachHappens taught m events → (id other : TxnId) (txn own : Transaction) → IsUnstamped m id → IsStamped m other own
      → other.client ≡ id.client → IsStamped (moment_through m events) id txn → other.seq < id.seq
  late-follows m r [] happens id other txn own un st client last = absurd (un last.0 txn last.1 last.2)
  late-follows m r (event ∷ events) happens id other txn own un st client last =
      by (txn_of (after_event event m).column id) refl
      (late-follows (after_event event m) (reached-next taught m event r happens.0) events happens.1 id other txn own)
    where
      by : (o : Option Transaction) → txn_of (after_event event m).column id ≡ o
          → (IsUnstamped (after_event event m) id → IsStamped (after_event event m) other own → other.client ≡ id.client → IsStamped (moment_through m (event ∷ events)) id txn → other.seq < id.seq)
          → other.seq < id.seq
      by None e again =
          again (λ a t found some. none-some t (sym e ∙ txn_there (after_event event m) id a t found some)) (stamped-later m r event happens.0 other own st) client last
        where
          txn_there : (n : Moment) (i : TxnId) (a : AttemptState) (t : Transaction) → attempt_of n.column i ≡ Some a → a.txn ≡ Some t → txn_of n.column i ≡ Some t
          txn_there n i a t found some = ap (λ (o : Option AttemptState). option_and_then (λ (x : AttemptState). x.txn) o) found ∙ some
      by (Some t) e again =
          let next = after_event event m in
          let there = attempt-from next id t e (attempt_of next.column id) refl in
          stamped-next m next id other t own (ids taught stays m r) un st client (attempt_of m.column id) (attempt_of next.column id) refl refl ((moves taught stays m r event happens.0).attempts id) there.0 there.1 there.2
        where
          attempt-from : (n : Moment) (i : TxnId) (t : Transaction) → txn_of n.column i ≡ Some t → (o : Option AttemptState) → attempt_of n.column i ≡ o
              → (a : AttemptState) × (attempt_of n.column i ≡ Some a) × (a.txn ≡ Some t)
          attempt-from n i t some (Some a) found = (a, found, sym (ap (λ (o : Option AttemptState). option_and_then (λ (x : AttemptState). x.txn) o) found) ∙ some)
          attempt-from n i t some None found = absurd (none-some t (sym (ap (λ (o : Option AttemptState). option_and_then (λ (x : AttemptState). x.txn) o) found) ∙ some))
