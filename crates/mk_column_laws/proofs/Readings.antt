-- What attempts have read was got at their home replicas.
use Rattle.std.proofs.Common.{◌≡◌, ◌⊎◌, ◌≤◌, ◌∙◌, ℕ, true, false, refl, arith, inl, inr, sym, ap, subst, List, [], ◌∷◌, ◌++◌, Option, Some, None}
use Rattle.std.specs.Prelude.{option_map, slice_get}
use Rattle.std.proofs.lemmas.Option.{none-some, same_Some}
use Rattle.mk_lists.specs.Among.{Among, Among-append, Among-append_right}
use Rattle.mk_txn.specs.declared.TxnId.{TxnId}
use Rattle.mk_txn.specs.declared.ReadItem.{ReadItem}
use Rattle.mk_txn.specs.Transactions.{Transaction}
use Rattle.mk_words.specs.declared.Act.TheVariants.{Get}
use Rattle.mk_words.specs.declared.Answer.{Answer}
use Rattle.mk_words.specs.declared.Answer.TheVariants.{Version, Okay, Refused, Done}
use Rattle.mk_model.specs.ColumnState.{AttemptState, Work, attempt_of}
use Rattle.mk_model.specs.ColumnState.Work.{Fetching}
use Rattle.mk_model.specs.Replicas.{serves}
use Rattle.mk_model.specs.Steps.{epoch_of, read_item, with_read, stamped_txn}
use Rattle.mk_model.specs.Logs.{not_reading}
use Rattle.mk_model.proofs.Frames.{enabled}
use Rattle.mk_column_laws.specs.Moments.{Moment, PastAct, Taught, StaysTaught, Event, CanHappen, EachHappens, moment_through, after_event, first_moment}
use Rattle.mk_column_laws.specs.Moments.Event.{NewRound, Doing}
use Rattle.mk_column_laws.specs.Moves.{Moves, AttemptMove, AttemptChange, WorkMove}
use Rattle.mk_column_laws.specs.Moves.AttemptMove.{AttemptStays, AttemptBegins, AttemptChanges}
use Rattle.mk_column_laws.specs.Moves.AttemptChange.{EndsReading, Reads, Stamps, RulesFast, RulesLearned, Proposes, Hears, Stops}
use Rattle.mk_column_laws.specs.Moves.WorkMove.{WorkRests, WorkFetches, WorkValidates, WorkGoesOn, WorkEnds, WorkFinishes}
use Rattle.mk_column_laws.specs.Facts.{Facts}
use Rattle.mk_column_laws.specs.KeyActs.{ActFacts, WasDone, act_at}
use Rattle.mk_column_laws.proofs.ActMoves.ActMove.{NoAct, ActFetched, ActChecked, ActVoted, ActFinished}
use Rattle.mk_column_laws.specs.Reading.{ReadsOf, ReadFacts, FetchFacts, ReadsWereGot}
use Rattle.mk_column_laws.proofs.Rounds.{event_facts, event_moves, start_facts, attempts_then}
use Rattle.mk_column_laws.proofs.ActMoves.{ActMove, act_now, act_moves}
use Rattle.mk_column_laws.proofs.KeptActs.{acts_older, serves-epoch}
use Rattle.mk_column_laws.proofs.RoundActs.{event_acts, start_acts, served_before}

-- the round goes on, or it begins: then nothing reads, and no attempt begins
abbrev pub SameRound : Moment → Moment → Type 0
SameRound m next =
    ((next.past.now ≡ m.past.now) × (next.round ≡ m.round))
    ⊎ (((id : TxnId) (a : AttemptState) → attempt_of next.column id ≡ Some a → a.reading ≡ false) × ((id : TxnId) → attempt_of m.column id ≡ None → attempt_of next.column id ≡ None))

module _ (taught : Taught) (m next : Moment) (h : Facts taught m) (moves : Moves m next) (move : ActMove m next) (k : ActFacts m)
    (served_stays : (i r epoch : ℕ) → i ≤ m.past.now → m.past.served_in i r epoch ≡ true → next.past.served_in i r epoch ≡ true)
    (serving : (r epoch : ℕ) → serves epoch (slice_get next.round.views r) ≡ true → next.past.served_in next.past.now r epoch ≡ true)
    (same : SameRound m next) (f : ReadFacts m) where
  -- an attempt that stays is read as before
  module _ (id : TxnId) (a : AttemptState) (found : attempt_of m.column id ≡ Some a) where
    old : ReadsOf m id a
    old = f.attempts id a found

    begun_same : next.past.begun_in id ≡ m.past.begun_in id
    begun_same = moves.begun_stays id a found

    home_later : (a.unread ≡ true) ⊎ (next.past.served_in (next.past.begun_in id) a.replica a.epoch ≡ true)
    home_later = elim (f.attempts id a found).home [
      | inl u ↦ inl u
      | inr s ↦ inr (subst (λ (i : ℕ). next.past.served_in i a.replica a.epoch ≡ true) (sym (moves.begun_stays id a found)) (served_stays (m.past.begun_in id) a.replica a.epoch (f.attempts id a found).begun s))
    ]

    begun_later : next.past.begun_in id ≤ next.past.now
    begun_later = let e = moves.begun_stays id a found in let b = (f.attempts id a found).begun in omega (arith, e, b, moves.rises)

    done_later : (item : ReadItem) → Among item a.reads → WasDone next (next.past.begun_in id) a.replica a.epoch (item.key, Get) (Version item.version item.value)
    done_later item x =
        subst (λ (i : ℕ). WasDone next i a.replica a.epoch (item.key, Get) (Version item.version item.value)) (sym (moves.begun_stays id a found))
        (acts_older taught m next h moves move k served_stays (act_at (m.past.begun_in id) a.replica a.epoch (item.key, Get) (Version item.version item.value)) ((f.attempts id a found).got item x))

    -- an attempt that has become b, which reads where a did, and nothing new
    quiet_reads : (b : AttemptState) → attempt_of next.column id ≡ Some b → b.unread ≡ a.unread → b.replica ≡ a.replica → b.epoch ≡ a.epoch → b.reads ≡ a.reads →
        (b.reading ≡ true → a.reading ≡ true) → ((txn : Transaction) → b.txn ≡ Some txn → txn.reads ≡ a.reads) → ReadsOf next id b
    quiet_reads b there unread replica epoch reads reading txn =
        record {
          home = elim home_later [
            | inl u ↦ inl (unread ∙ u)
            | inr s ↦ inr ((λ i. next.past.served_in (next.past.begun_in id) (replica i) (epoch i)) ∙ s)
          ];
          begun = begun_later;
          got = λ item x.
              subst (λ (n : ℕ). WasDone next (next.past.begun_in id) n b.epoch (item.key, Get) (Version item.version item.value)) (sym replica)
              (subst (λ (n : ℕ). WasDone next (next.past.begun_in id) a.replica n (item.key, Get) (Version item.version item.value)) (sym epoch)
              (done_later item (subst (λ (l : List ReadItem). Among item l) reads x)));
          reading = λ r. elim same [
            | inl s ↦ (let o = (f.attempts id a found).reading (reading r) in
                (moves.begun_stays id a found ∙ o.0 ∙ sym s.0, (λ i. serves (epoch i) (slice_get (s.1 i).views (replica i))) ∙ o.1))
            | inr s ↦ absurd (let q = s.0 id b there in cc (q, r))
          ];
          txn_reads = λ t e. txn t e ∙ sym reads;
        }

    -- a key was read
    new_reads : (replica key : ℕ) (b : AttemptState) → attempt_of next.column id ≡ Some b → m.column.work ≡ Fetching id replica key → ReadsOf next id b
    new_reads replica key b there w = by move
      where
        at_home : FetchFacts m (Fetching id replica key) → a.replica ≡ replica
        at_home z = subst (λ (x : AttemptState). x.replica ≡ replica) (same_Some z.0 a (sym z.1 ∙ found)) z.3

        reads_now : FetchFacts m (Fetching id replica key) → a.reading ≡ true
        reads_now z = subst (λ (x : AttemptState). x.reading ≡ true) (same_Some z.0 a (sym z.1 ∙ found)) z.2

        item_is : (n : ℕ) (answer : Answer) (item : ReadItem) → Among item (read_item n answer) → (item.key ≡ n) × (answer ≡ Version item.version item.value)
        item_is n (Version version value) item (inl e) = (ap (λ (x : ReadItem). x.key) (sym e), λ i. Version ((ap (λ (x : ReadItem). x.version) e) i) ((ap (λ (x : ReadItem). x.value) e) i))
        item_is n (Version version value) item (inr none) = absurd none
        item_is n Okay item x = absurd x
        item_is n (Refused reason stamp) item x = absurd x
        item_is n Done item x = absurd x

        with_answer : (r n : ℕ) (answer : Answer) → r ≡ replica → next.past.acts ≡ m.past.acts ++ act_now m r (n, Get) answer ∷ [] → b ≡ with_read n answer a → ReadsOf next id b
        with_answer r n answer at acts is =
            let o = f.attempts id a found in
            let reading = o.reading (reads_now (subst (FetchFacts m) w f.fetch)) in
            let epoch : epoch_of (slice_get m.round.views a.replica) ≡ a.epoch = serves-epoch a.epoch (slice_get m.round.views a.replica) reading.1 in
            let place : r ≡ a.replica = at ∙ sym (at_home (subst (FetchFacts m) w f.fetch)) in
            let newest : (item : ReadItem) → (item.key ≡ n) × (answer ≡ Version item.version item.value) → WasDone next (next.past.begun_in id) a.replica a.epoch (item.key, Get) (Version item.version item.value) =
            λ item e. subst (λ (i : ℕ). WasDone next i a.replica a.epoch (item.key, Get) (Version item.version item.value)) (sym (moves.begun_stays id a found ∙ reading.0))
            (subst (λ (x : Answer). WasDone next m.past.now a.replica a.epoch (item.key, Get) x) e.1
            (subst (λ (x : ℕ). WasDone next m.past.now a.replica a.epoch (x, Get) answer) (sym e.0)
            (subst (λ (x : ℕ). WasDone next m.past.now a.replica x (n, Get) answer) epoch
            (subst (λ (x : ℕ). WasDone next m.past.now x (epoch_of (slice_get m.round.views x)) (n, Get) answer) place
            (subst (λ (l : List PastAct). Among (act_now m r (n, Get) answer) l) (sym acts) (Among-append_right (act_now m r (n, Get) answer) m.past.acts (act_now m r (n, Get) answer ∷ []) (inl refl))))))) in
            let unstamped = (h.attempts id a found).unstamped (reads_now (subst (FetchFacts m) w f.fetch)) in
            subst (ReadsOf next id) (sym is)
            (record {
              home = home_later;
              begun = begun_later;
              got = λ item x. elim (Among-append item a.reads (read_item n answer) x) [
                | inl before ↦ done_later item before
                | inr new ↦ newest item (item_is n answer item new)
              ];
              reading = λ r2. elim same [
                | inl s ↦ (moves.begun_stays id a found ∙ reading.0 ∙ sym s.0, (λ i. serves a.epoch (slice_get (s.1 i).views a.replica)) ∙ reading.1)
                | inr s ↦ absurd (let q = s.0 id b there in let q2 : b.reading ≡ true = ap (λ (x : AttemptState). x.reading) is ∙ r2 in cc (q, q2))
              ];
              txn_reads = λ t e. absurd (none-some t (sym unstamped ∙ e));
            })

        by : ActMove m next → ReadsOf next id b
        by (NoAct e idle) = absurd (cc (idle, w))
        by (ActChecked txn r ep state x answer now w2 is e w3) = absurd (cc (w2, w))
        by (ActVoted txn r ep state x answer now w2 is e none w3 entry) = absurd (cc (w2, w))
        by (ActFinished r x left answer now round w2 e w3) = absurd (cc (w2, w))
        by (ActFetched x r n answer w2 read e w3) =
            let one : Fetching x r n ≡ Fetching id replica key = sym w2 ∙ w in
            let same_id : x ≡ id = cc one in
            let same_r : r ≡ replica = cc one in
            let after = read a (subst (λ (y : TxnId). attempt_of m.column y ≡ Some a) (sym same_id) found) in
            with_answer r n answer same_r e (same_Some b (with_read n answer a) (sym there ∙ (λ i. attempt_of next.column (sym same_id i)) ∙ after))

  change_reads : (id : TxnId) (a b : AttemptState) → attempt_of m.column id ≡ Some a → attempt_of next.column id ≡ Some b → AttemptChange m next.column id a b → ReadsOf next id b
  change_reads id a b found there (EndsReading e) = quiet_reads id a found b there (ap (λ (x : AttemptState). x.unread) e) (ap (λ (x : AttemptState). x.replica) e) (ap (λ (x : AttemptState). x.epoch) e) (ap (λ (x : AttemptState). x.reads) e)
      (λ r. absurd (let q : b.reading ≡ false = ap (λ (x : AttemptState). x.reading) e in cc (q, r))) (λ t q. (f.attempts id a found).txn_reads t (sym (ap (λ (x : AttemptState). x.txn) e) ∙ q))
  change_reads id a b found there (Reads replica key answer w e) = new_reads id a found replica key b there w
  change_reads id a b found there (Stamps client clock stamp writes reading fit some c n e) = quiet_reads id a found b there (ap (λ (x : AttemptState). x.unread) e) (ap (λ (x : AttemptState). x.replica) e) (ap (λ (x : AttemptState). x.epoch) e) (ap (λ (x : AttemptState). x.reads) e)
      (λ r. reading) (λ t q. ap (λ (x : Transaction). x.reads) (same_Some t (stamped_txn a stamp writes) (sym q ∙ ap (λ (x : AttemptState). x.txn) e)))
  change_reads id a b found there (RulesFast o none is e l) = quiet_reads id a found b there (ap (λ (x : AttemptState). x.unread) e) (ap (λ (x : AttemptState). x.replica) e) (ap (λ (x : AttemptState). x.epoch) e) (ap (λ (x : AttemptState). x.reads) e)
      (λ r. sym (ap (λ (x : AttemptState). x.reading) e) ∙ r) (λ t q. (f.attempts id a found).txn_reads t (sym (ap (λ (x : AttemptState). x.txn) e) ∙ q))
  change_reads id a b found there (RulesLearned o none is e) = quiet_reads id a found b there (ap (λ (x : AttemptState). x.unread) e) (ap (λ (x : AttemptState). x.replica) e) (ap (λ (x : AttemptState). x.epoch) e) (ap (λ (x : AttemptState). x.reads) e)
      (λ r. sym (ap (λ (x : AttemptState). x.reading) e) ∙ r) (λ t q. (f.attempts id a found).txn_reads t (sym (ap (λ (x : AttemptState). x.txn) e) ∙ q))
  change_reads id a b found there (Proposes o none is e p) = quiet_reads id a found b there (ap (λ (x : AttemptState). x.unread) e) (ap (λ (x : AttemptState). x.replica) e) (ap (λ (x : AttemptState). x.epoch) e) (ap (λ (x : AttemptState). x.reads) e)
      (λ r. sym (ap (λ (x : AttemptState). x.reading) e) ∙ r) (λ t q. (f.attempts id a found).txn_reads t (sym (ap (λ (x : AttemptState). x.txn) e) ∙ q))
  change_reads id a b found there (Hears msg among own view none e) = quiet_reads id a found b there (ap (λ (x : AttemptState). x.unread) e) (ap (λ (x : AttemptState). x.replica) e) (ap (λ (x : AttemptState). x.epoch) e) (ap (λ (x : AttemptState). x.reads) e)
      (λ r. sym (ap (λ (x : AttemptState). x.reading) e) ∙ r) (λ t q. (f.attempts id a found).txn_reads t (sym (ap (λ (x : AttemptState). x.txn) e) ∙ q))
  change_reads id a b found there (Stops e) = quiet_reads id a found b there (ap (λ (x : AttemptState). x.unread) e) (ap (λ (x : AttemptState). x.replica) e) (ap (λ (x : AttemptState). x.epoch) e) (ap (λ (x : AttemptState). x.reads) e)
      (λ r. sym (ap (λ (x : AttemptState). x.reading) e) ∙ r) (λ t q. (f.attempts id a found).txn_reads t (sym (ap (λ (x : AttemptState). x.txn) e) ∙ q))

  begins_reads : (id : TxnId) (a : AttemptState) → attempt_of m.column id ≡ None → attempt_of next.column id ≡ Some a → a.txn ≡ None → a.reads ≡ [] →
      ((a.unread ≡ true) × (a.reading ≡ false)) ⊎ (serves a.epoch (slice_get m.round.views a.replica) ≡ true) → ReadsOf next id a
  begins_reads id a none there txn reads home = elim same [
    | inr s ↦ absurd (let q = s.1 id none in cc (q, there))
    | inl s ↦ record {
      home = elim home [
        | inl u ↦ inl u.0
        | inr serves_it ↦ inr (subst (λ (i : ℕ). next.past.served_in i a.replica a.epoch ≡ true) (sym (moves.begun_now id a none there)) (serving a.replica a.epoch ((λ i. serves a.epoch (slice_get (s.1 i).views a.replica)) ∙ serves_it)))
      ];
      begun = (let q = moves.begun_now id a none there in omega (arith, q));
      got = λ item x. absurd (subst (λ (l : List ReadItem). Among item l) reads x);
      reading = λ r. elim home [
        | inl u ↦ absurd (let q = u.1 in cc (q, r))
        | inr serves_it ↦ (moves.begun_now id a none there, (λ i. serves a.epoch (slice_get (s.1 i).views a.replica)) ∙ serves_it)
      ];
      txn_reads = λ t e. absurd (none-some t (sym txn ∙ e));
    }
  ]

  attempt_reads : (id : TxnId) (new : Option AttemptState) → attempt_of next.column id ≡ new → AttemptMove m next.column id (attempt_of m.column id) new → (b : AttemptState) → new ≡ Some b → ReadsOf next id b
  attempt_reads id new is (AttemptStays stays) b e =
      let found = sym stays ∙ e in
      quiet_reads id b found b (is ∙ e) refl refl refl refl (λ r. r) (λ t q. (f.attempts id b found).txn_reads t q)
  attempt_reads id new is (AttemptBegins a none n own coord txn reads home) b e =
      let one = same_Some a b (sym n ∙ e) in
      subst (ReadsOf next id) one (begins_reads id a none (is ∙ n) txn reads home)
  attempt_reads id new is (AttemptChanges x y was n change) b e =
      subst (ReadsOf next id) (same_Some y b (sym n ∙ e)) (change_reads id x y was (is ∙ n) change)

  fetch_facts : (before new : Work) → WorkMove m next before new → FetchFacts next new
  fetch_facts o n (WorkRests e) = subst (FetchFacts next) (sym e) tt
  fetch_facts o n (WorkValidates txn r epoch served q round lt e none there w) = subst (FetchFacts next) (sym w) tt
  fetch_facts o n (WorkGoesOn txn r epoch state answer round e w stay) = subst (FetchFacts next) (sym w) tt
  fetch_facts o n (WorkFinishes r act left round e w stay) = subst (FetchFacts next) (sym w) tt
  fetch_facts o n (WorkEnds txn r id entry outcome left s round q e there last acts w) = subst (FetchFacts next) (sym w) tt
  fetch_facts o n (WorkFetches id r key a found still reads there_key may home e w) = subst (FetchFacts next) (sym w) (a, still, reads, home)

  pub reads_kept : ReadFacts next
  reads_kept =
      record {
        attempts = λ id b e. attempt_reads id (attempt_of next.column id) refl (moves.attempts id) b e;
        fetch = fetch_facts m.column.work next.column.work moves.work;
      }

-- ---- at every moment

module _ (taught : Taught) (stays : StaysTaught taught) where
  event_reads : (m : Moment) → Facts taught m → ActFacts m → (event : Event) → CanHappen taught event m → ReadFacts m → ReadFacts (after_event event m)
  event_reads m h k (Doing step) can f =
      reads_kept taught m (after_event (Doing step) m) h (event_moves taught stays m h (Doing step) can) (act_moves taught m h step (enabled m.round m.column step can)) k
      (λ i r epoch le e. e) k.serving (inl (refl, refl)) f
  event_reads m h k (NewRound views resets) can f =
      reads_kept taught m (after_event (NewRound views resets) m) h (event_moves taught stays m h (NewRound views resets) can) (NoAct refl can.idle) k
      (λ i r epoch le e. served_before views m.past.now i r epoch (m.past.served_in i r epoch) le e) (event_acts taught stays m h k (NewRound views resets) can).serving
      (inr (nothing_reads, λ id e. attempts_then taught stays m h views resets can id ∙ ap (option_map not_reading) e)) f
    where
      nothing_reads : (id : TxnId) (a : AttemptState) → attempt_of (after_event (NewRound views resets) m).column id ≡ Some a → a.reading ≡ false
      nothing_reads id a e = by (attempt_of m.column id) (sym (attempts_then taught stays m h views resets can id) ∙ e)
        where
          by : (o : Option AttemptState) → option_map not_reading o ≡ Some a → a.reading ≡ false
          by None q = absurd (cc q)
          by (Some x) q = ap (λ (y : AttemptState). y.reading) (sym (same_Some (not_reading x) a q))

  reads_through : (m : Moment) → Facts taught m → ActFacts m → (events : List Event) → EachHappens taught m events → ReadFacts m → ReadFacts (moment_through m events)
  reads_through m h k [] happens f = f
  reads_through m h k (event ∷ events) happens f =
      reads_through (after_event event m) (event_facts taught stays m h event happens.0) (event_acts taught stays m h k event happens.0) events happens.1 (event_reads m h k event happens.0 f)

pub reads_were_got : ReadsWereGot
reads_were_got taught stays m r =
    subst ReadFacts r.leads
    (reads_through taught stays (first_moment r.version r.faults r.keys r.clients) (start_facts taught r.version r.faults r.keys r.clients) (start_acts r.version r.faults r.keys r.clients)
    r.events r.happens (record { attempts = λ id a e. absurd (cc e); fetch = tt }))
