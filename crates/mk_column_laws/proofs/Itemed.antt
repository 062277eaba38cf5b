-- What attempts read and write are different keys that there are, at every moment.
use Rattle.std.proofs.Common.{◌≡◌, ◌≤◌, ◌∙◌, ◌+◌, ℕ, Bool, true, false, refl, arith, sym, ap, subst, List, [], ◌∷◌, ◌++◌, Option, Some, ◌&&◌, ◌||◌, not, length}
use Rattle.std.specs.Prelude.{nat_le, nat_lt, ◌==◌}
use Rattle.std.specs.List.{list_any, list_all}
use Rattle.std.proofs.lemmas.Bool.Decides.{nat_tests}
use Rattle.std.proofs.lemmas.List.{length-append, map-append}
use Rattle.std.proofs.lemmas.Option.{none-some, same_Some}
use Rattle.std.proofs.lemmas.Bool.{and_parts}
use Rattle.mk_txn.specs.declared.TxnId.{TxnId}
use Rattle.mk_txn.specs.declared.Stamp.{Stamp as StampType}
use Rattle.mk_txn.specs.declared.ReadItem.{ReadItem}
use Rattle.mk_txn.specs.declared.WriteItem.{WriteItem}
use Rattle.mk_txn.specs.Stamps.{next_stamp_of}
use Rattle.mk_txn.specs.Transactions.{read_keys, write_keys, are_distinct}
use Rattle.mk_words.specs.declared.Answer.{Answer}
use Rattle.mk_words.specs.declared.Answer.TheVariants.{Version, Okay, Refused, Done}
use Rattle.mk_model.specs.ColumnState.{AttemptState, Work, attempt_of}
use Rattle.mk_model.specs.ColumnState.Work.{Fetching}
use Rattle.mk_model.specs.Conditions.{may_read, writes_fit}
use Rattle.mk_model.specs.Steps.{with_read, stamped_txn}
use Rattle.mk_column_laws.specs.Moments.{Moment, Taught, StaysTaught, Event, EachHappens, moment_through, after_event, first_moment}
use Rattle.mk_column_laws.specs.Moments.Event.{NewRound, Doing}
use Rattle.mk_column_laws.specs.Moves.{Moves, AttemptMove, AttemptChange, WorkMove}
use Rattle.mk_column_laws.specs.Moves.AttemptMove.{AttemptStays, AttemptBegins, AttemptChanges}
use Rattle.mk_column_laws.specs.Moves.AttemptChange.{EndsReading, Reads, Stamps, RulesFast, RulesLearned, Proposes, Hears, Stops}
use Rattle.mk_column_laws.specs.Moves.WorkMove.{WorkRests, WorkFetches, WorkValidates, WorkGoesOn, WorkEnds, WorkFinishes}
use Rattle.mk_column_laws.specs.Facts.{Facts}
use Rattle.mk_column_laws.specs.Items.{IsOfKeys, ItemsOf, FetchesNew, ItemFacts, ItemsFit}
use Rattle.mk_column_laws.proofs.Identities.{fresh_above_reads}
use Rattle.mk_column_laws.proofs.Rounds.{event_facts, event_moves, start_facts}

-- ---- one key more

distinct_push : (keys : List ℕ) (key : ℕ) → are_distinct keys ≡ true → list_any (λ y. y == key) keys ≡ false → are_distinct (keys ++ key ∷ []) ≡ true
distinct_push [] key d new = refl
distinct_push (x ∷ keys) key d new =
    let k = and_parts (not (list_any (λ y. y == x) keys)) (are_distinct keys) d in
    let n = none_of (x == key) (list_any (λ y. y == key) keys) new in
    let rest = distinct_push keys key k.1 n.1 in
    let here = not_there x keys key k.0 n.0 in
    grind (arith, rest, here)
  where
    none_of : (a b : Bool) → (a || b) ≡ false → (a ≡ false) × (b ≡ false)
    none_of true b e = absurd (cc e)
    none_of false b e = (refl, e)

    any_push : (x : ℕ) (keys : List ℕ) (key : ℕ) → list_any (λ y. y == x) (keys ++ key ∷ []) ≡ (list_any (λ y. y == x) keys || key == x)
    any_push x [] key = grind arith
    any_push x (y ∷ keys) key = grind (arith, any_push x keys key)

    not_there : (x : ℕ) (keys : List ℕ) (key : ℕ) → not (list_any (λ y. y == x) keys) ≡ true → (x == key) ≡ false → not (list_any (λ y. y == x) (keys ++ key ∷ [])) ≡ true
    not_there x keys key absent apart =
        let e = any_push x keys key in
        let other : (key == x) ≡ false = grind (arith, nat_tests, apart) in
        grind (arith, e, absent, other)

all_push : (p : ReadItem → Bool) (items : List ReadItem) (item : ReadItem) → list_all p items ≡ true → p item ≡ true → list_all p (items ++ item ∷ []) ≡ true
all_push p [] item h k = grind (arith, k)
all_push p (x ∷ items) item h k =
    let b = and_parts (p x) (list_all p items) h in
    let rest = all_push p items item b.1 k in
    let first = b.0 in
    grind (arith, rest, first)

any_keys : (items : List ReadItem) (key : ℕ) → list_any (λ y. y == key) (read_keys items) ≡ list_any (λ item. item.key == key) items
any_keys [] key = refl
any_keys (x ∷ items) key = grind (arith, any_keys items key)

-- an attempt that read nothing new and wrote nothing
same_items : (keys : ℕ) (a b : AttemptState) → b.reads ≡ a.reads → b.txn ≡ a.txn → ItemsOf keys a → ItemsOf keys b
same_items keys a b reads txn h =
    record {
      few = subst (λ (l : List ReadItem). length l ≤ 16) (sym reads) h.few;
      distinct = subst (λ (l : List ReadItem). are_distinct (read_keys l) ≡ true) (sym reads) h.distinct;
      there = subst (λ (l : List ReadItem). list_all (λ item. nat_lt item.key keys) l ≡ true) (sym reads) h.there;
      txn = λ t e. h.txn t (sym txn ∙ e);
    }

-- an attempt that read a key
one_read : (keys key : ℕ) (answer : Answer) (a : AttemptState) → nat_lt key keys ≡ true → may_read key a ≡ true → ItemsOf keys a → ItemsOf keys (with_read key answer a)
one_read keys key (Version version value) a in_range may h =
    let k = and_parts (not (list_any (λ item. item.key == key) a.reads)) (nat_lt (length a.reads) 16) may in
    let item : ReadItem = record { key = key; version = version; value = value } in
    let new : list_any (λ y. y == key) (read_keys a.reads) ≡ false = any_keys a.reads key ∙ negated (list_any (λ item. item.key == key) a.reads) k.0 in
    let longer = length-append a.reads (record { key = key; version = version; value = value } ∷ []) in
    record {
      few = (let room = k.1 in grind (arith, nat_tests, room, longer));
      distinct = ap are_distinct (map-append (λ (x : ReadItem). x.key) a.reads (record { key = key; version = version; value = value } ∷ [])) ∙ distinct_push (read_keys a.reads) key h.distinct new;
      there = all_push (λ x. nat_lt x.key keys) a.reads (record { key = key; version = version; value = value }) h.there in_range;
      txn = h.txn;
    }
  where
    negated : (b : Bool) → not b ≡ true → b ≡ false
    negated true e = absurd (cc e)
    negated false e = refl
one_read keys key Okay a in_range may h = same_items keys a (with_read key Okay a) (nothing_more a.reads) refl h
  where
    nothing_more : (l : List ReadItem) → l ++ [] ≡ l
    nothing_more [] = refl
    nothing_more (x ∷ l) = ap (λ k. x ∷ k) (nothing_more l)
one_read keys key (Refused reason stamp) a in_range may h = same_items keys a (with_read key (Refused reason stamp) a) (nothing_more a.reads) refl h
  where
    nothing_more : (l : List ReadItem) → l ++ [] ≡ l
    nothing_more [] = refl
    nothing_more (x ∷ l) = ap (λ k. x ∷ k) (nothing_more l)
one_read keys key Done a in_range may h = same_items keys a (with_read key Done a) (nothing_more a.reads) refl h
  where
    nothing_more : (l : List ReadItem) → l ++ [] ≡ l
    nothing_more [] = refl
    nothing_more (x ∷ l) = ap (λ k. x ∷ k) (nothing_more l)

-- the transaction of a stamped attempt
stamped_fits : (keys client last clock : ℕ) (a : AttemptState) (stamp : StampType) (writes : List WriteItem) → ItemsOf keys a → writes_fit keys writes ≡ true →
    nat_lt 0 (length a.reads + length writes) ≡ true → next_stamp_of client last clock a.reads ≡ Some stamp → IsOfKeys keys (stamped_txn a stamp writes)
stamped_fits keys client last clock a stamp writes h fit some next =
    let p = and_parts (nat_le (length writes) 16 && are_distinct (write_keys writes)) (list_all (λ item. nat_lt item.key keys) writes) fit in
    let q = and_parts (nat_le (length writes) 16) (are_distinct (write_keys writes)) p.0 in
    record {
      is_transaction = record {
        few_reads = h.few;
        few_writes = (let few = q.0 in grind (arith, nat_tests, few));
        distinct_reads = h.distinct;
        distinct_writes = q.1;
        above = fresh_above_reads client last clock a.reads stamp next;
      };
      some = grind (arith, nat_tests, some);
      read = h.there;
      written = p.1;
    }

-- ---- one event

module _ (m next : Moment) (moves : Moves m next) (same_keys : next.round.keys ≡ m.round.keys) (f : ItemFacts m) where
  change_items : (id : TxnId) (a b : AttemptState) → attempt_of m.column id ≡ Some a → AttemptChange m next.column id a b → ItemsOf m.round.keys b
  change_items id a b found (EndsReading e) = same_items m.round.keys a b (ap (λ (x : AttemptState). x.reads) e) (ap (λ (x : AttemptState). x.txn) e) (f.attempts id a found)
  change_items id a b found (Reads replica key answer w e) = subst (ItemsOf m.round.keys) (sym e) (fetched (subst (FetchesNew m) w f.fetch))
    where
      fetched : FetchesNew m (Fetching id replica key) → ItemsOf m.round.keys (with_read key answer a)
      fetched z =
          one_read m.round.keys key answer a z.2 (subst (λ (x : AttemptState). may_read key x ≡ true) (same_Some z.0 a (sym z.1 ∙ found)) z.3) (f.attempts id a found)
  change_items id a b found (Stamps client clock stamp writes reading fit some c n e) =
      subst (ItemsOf m.round.keys) (sym e)
      (record {
        few = (f.attempts id a found).few;
        distinct = (f.attempts id a found).distinct;
        there = (f.attempts id a found).there;
        txn = λ t q. subst (IsOfKeys m.round.keys) (same_Some (stamped_txn a stamp writes) t q)
            (stamped_fits m.round.keys client.number client.last_time clock a stamp writes (f.attempts id a found) fit some n);
      })
  change_items id a b found (RulesFast o none is e l) = same_items m.round.keys a b (ap (λ (x : AttemptState). x.reads) e) (ap (λ (x : AttemptState). x.txn) e) (f.attempts id a found)
  change_items id a b found (RulesLearned o none is e) = same_items m.round.keys a b (ap (λ (x : AttemptState). x.reads) e) (ap (λ (x : AttemptState). x.txn) e) (f.attempts id a found)
  change_items id a b found (Proposes o none is e p) = same_items m.round.keys a b (ap (λ (x : AttemptState). x.reads) e) (ap (λ (x : AttemptState). x.txn) e) (f.attempts id a found)
  change_items id a b found (Hears msg among own view none e) = same_items m.round.keys a b (ap (λ (x : AttemptState). x.reads) e) (ap (λ (x : AttemptState). x.txn) e) (f.attempts id a found)
  change_items id a b found (Stops e) = same_items m.round.keys a b (ap (λ (x : AttemptState). x.reads) e) (ap (λ (x : AttemptState). x.txn) e) (f.attempts id a found)

  attempt_items : (id : TxnId) (new : Option AttemptState) → AttemptMove m next.column id (attempt_of m.column id) new → (b : AttemptState) → new ≡ Some b → ItemsOf m.round.keys b
  attempt_items id new (AttemptStays stays) b e = f.attempts id b (sym stays ∙ e)
  attempt_items id new (AttemptBegins a none n own coord txn reads home) b e =
      subst (ItemsOf m.round.keys) (same_Some a b (sym n ∙ e))
      (record {
        few = subst (λ (l : List ReadItem). length l ≤ 16) (sym reads) (omega arith);
        distinct = subst (λ (l : List ReadItem). are_distinct (read_keys l) ≡ true) (sym reads) refl;
        there = subst (λ (l : List ReadItem). list_all (λ item. nat_lt item.key m.round.keys) l ≡ true) (sym reads) refl;
        txn = λ t q. absurd (none-some t (sym txn ∙ q));
      })
  attempt_items id new (AttemptChanges x y was n change) b e = subst (ItemsOf m.round.keys) (same_Some y b (sym n ∙ e)) (change_items id x y was change)

  fetches_new : (before new : Work) → WorkMove m next before new → FetchesNew next new
  fetches_new o n (WorkRests e) = subst (FetchesNew next) (sym e) tt
  fetches_new o n (WorkValidates txn r epoch served q round lt e none there w) = subst (FetchesNew next) (sym w) tt
  fetches_new o n (WorkGoesOn txn r epoch state answer round e w stay) = subst (FetchesNew next) (sym w) tt
  fetches_new o n (WorkFinishes r act left round e w stay) = subst (FetchesNew next) (sym w) tt
  fetches_new o n (WorkEnds txn r id entry outcome left s round q e there last acts w) = subst (FetchesNew next) (sym w) tt
  fetches_new o n (WorkFetches id r key a found still reads there_key may home e w) =
      subst (FetchesNew next) (sym w) (a, still, subst (λ (k : ℕ). nat_lt key k ≡ true) (sym same_keys) there_key, may)

  items_kept : ItemFacts next
  items_kept =
      record {
        attempts = λ id b e. subst (λ (k : ℕ). ItemsOf k b) (sym same_keys) (attempt_items id (attempt_of next.column id) (moves.attempts id) b e);
        fetch = fetches_new m.column.work next.column.work moves.work;
      }

-- ---- at every moment

module _ (taught : Taught) (stays : StaysTaught taught) where
  keys_stay : (event : Event) (m : Moment) → (after_event event m).round.keys ≡ m.round.keys
  keys_stay (NewRound views resets) m = refl
  keys_stay (Doing step) m = refl

  items_through : (m : Moment) → Facts taught m → (events : List Event) → EachHappens taught m events → ItemFacts m → ItemFacts (moment_through m events)
  items_through m h [] happens f = f
  items_through m h (event ∷ events) happens f =
      items_through (after_event event m) (event_facts taught stays m h event happens.0) events happens.1
      (items_kept m (after_event event m) (event_moves taught stays m h event happens.0) (keys_stay event m) f)

pub items_fit : ItemsFit
items_fit taught stays m r =
    subst ItemFacts r.leads
    (items_through taught stays (first_moment r.version r.faults r.keys r.clients) (start_facts taught r.version r.faults r.keys r.clients) r.events r.happens
    (record { attempts = λ id a e. absurd (cc e); fetch = tt }))
