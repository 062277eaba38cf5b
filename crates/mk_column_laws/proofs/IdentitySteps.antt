-- Attempts are numbered and stamps rise at every moment, so a stamp names its attempt.
use Rattle.std.proofs.Common.{◌≡◌, ◌∙◌, ℕ, Bool, true, false, refl, arith, inl, inr, sym, ap, subst, List, [], ◌∷◌, ◌++◌, Option, Some, None, ◌&&◌, not, map, cond}
use Rattle.std.specs.Prelude.{option_map, is_some, ◌==◌, slice_get}
use Rattle.std.specs.List.{list_any}
use Rattle.std.proofs.lemmas.Bool.Decides.{nat_tests}
use Rattle.std.proofs.lemmas.Bool.{and_parts, cond_both, cases_order}
use Rattle.std.proofs.lemmas.Option.{same_Some}
use Rattle.mk_lists.specs.Changed.{change}
use Rattle.mk_lists.proofs.Tests.{list_any-from_Among}
use Rattle.mk_lists.proofs.Lookups.{Among-find}
use Rattle.mk_column_laws.proofs.Resets.{reset_attempts, reset_clients}
use Rattle.mk_model.proofs.Parts.{attempt_of-id, attempt_of-own, heard_of-number, heard_of-same}
use Rattle.mk_quorum.proofs.Slots.{passes-at}
use Rattle.mk_txn.specs.declared.TxnId.{TxnId}
use Rattle.mk_txn.specs.declared.Stamp.{Stamp as StampType}
use Rattle.mk_txn.specs.declared.WriteItem.{WriteItem}
use Rattle.mk_txn.specs.Stamps.{next_stamp_of}
use Rattle.mk_txn.specs.Transactions.{Transaction}
use Rattle.mk_words.specs.declared.Answer.{Answer}
use Rattle.mk_words.specs.declared.Msg.{Msg}
use Rattle.mk_words.specs.Links.{message, goes_to_replica}
use Rattle.mk_words.specs.declared.Ruling.{Ruling}
use Rattle.mk_words.specs.declared.Ruling.TheVariants.{Fast, Propose, Learned, Short, Unaccepted}
use Rattle.mk_words.specs.Rulings.{ruling}
use Rattle.mk_words.specs.declared.Pick.{Pick}
use Rattle.mk_words.specs.declared.Pick.TheVariants.{Known, Learned as PickLearned, Propose as PickPropose, Short as PickShort, Unaccepted as PickUnaccepted, Unclear}
use Rattle.mk_words.specs.Picks.{pick}
use Rattle.mk_words.specs.Checks.{KeyAct}
use Rattle.mk_words.specs.Validations.{ValidationState, next_act, after_answer}
use Rattle.mk_words.specs.declared.Step.{Step}
use Rattle.mk_words.specs.declared.Step.TheVariants.{Begin, Unread, Read, Stamp, Validate, Take, Key, Rule, Again, Takeover, Pick as PickStep, Stop}
use Rattle.mk_model.specs.ColumnState.{Setting, ColumnState, ClientState, AttemptState, Work, client_of, attempt_of, takeover_of, is_client, is_attempt, new_client}
use Rattle.mk_model.specs.ColumnState.Work.{Idle, Fetching, Validating, Finishing}
use Rattle.mk_model.specs.Conditions.{conditions, may_begin}
use Rattle.mk_model.specs.Answers.{attempt_answered, heard_of, listens, is_led}
use Rattle.mk_model.specs.Learnings.{txn_of}
use Rattle.mk_model.specs.Logs.{not_reading}
use Rattle.mk_model.specs.Steps.{stepped, new_attempt, unread_attempt, next_id, begun, epoch_of, stamped, with_read, ruled, picked, proposing, taught as having_learned, taken, replica_takes, answered, validated}
use Rattle.mk_model.proofs.Frames.{AllTrue, on_some-keeps, enabled}
use Rattle.mk_column_laws.specs.Moments.{Moment, Taught, Event, CanHappen, EachHappens, moment_through, after_event, first_moment, replicas_reset}
use Rattle.mk_column_laws.specs.Moments.Event.{NewRound, Doing}
use Rattle.mk_column_laws.specs.Identity.{Identity, client_in, attempt_in, IdsOnce, StampsName}
use Rattle.mk_column_laws.proofs.Identities.{aside, attempt_aside, client_aside, begins, stamps_one, fresh_above, fresh_above_reads, number_of}
use Rattle.mk_column_laws.proofs.Rounds.{find-map}

module _ (round : Setting) (column : ColumnState) (h : Identity column.clients column.attempts) where
  abbrev Fine : ColumnState → Type 0
  Fine d = Identity d.clients d.attempts

  -- no attempt of a client that may begin is reading
  not_reading_yet : (client : ℕ) → may_begin column client ≡ true → (id : TxnId) (a : AttemptState) → attempt_of column id ≡ Some a → id.client ≡ client → a.reading ≡ true → ⊥
  not_reading_yet client may id a e same reads =
      let none = (and_parts (is_some (client_of column client)) (not (list_any (λ b. b.reading && b.id.client == client) column.attempts)) may).1 in
      let own : a.id.client ≡ client = ap (λ (x : TxnId). x.client) (attempt_of-id column id a e) ∙ same in
      let test : (a.reading && a.id.client == client) ≡ true = grind (arith, nat_tests, reads, own) in
      let some = list_any-from_Among (λ (b : AttemptState). b.reading && b.id.client == client) column.attempts a (Among-find (is_attempt id) column.attempts a e) test in
      cc (none, some)

  begin_one : (client : ℕ) (epoch : ℕ) (c : ClientState) (new : AttemptState) → client_of column client ≡ Some c → may_begin column client ≡ true → new.id ≡ next_id c → new.txn ≡ None →
      Identity (change (is_client c.number) (begun epoch) column.clients) (column.attempts ++ new ∷ [])
  begin_one client epoch c new e may named txn =
      let number = number_of column.clients client c e in
      begins column.clients column.attempts h c epoch new (subst (λ (n : ℕ). client_in column.clients n ≡ Some c) (sym number) e) named txn
      (λ id a found same reads. not_reading_yet client may id a found (same ∙ number) reads)

  stamp_one : (a : AttemptState) (c : ClientState) (clock : ℕ) (writes : List WriteItem) (s : Option StampType) → attempt_of column a.id ≡ Some a → a.reading ≡ true →
      client_of column a.id.client ≡ Some c → next_stamp_of c.number c.last_time clock a.reads ≡ s → Fine (stamped a.id writes s column)
  stamp_one a c clock writes None e reads found is = h
  stamp_one a c clock writes (Some stamp) e reads found is =
      let f = fresh_above c.number c.last_time clock a.reads stamp is in
      stamps_one column.clients column.attempts h a c stamp writes e reads found f.0 f.1 (fresh_above_reads c.number c.last_time clock a.reads stamp is)

  taken_fine : (msg : Msg) → Fine (taken round msg column)
  taken_fine msg =
      cond_both (goes_to_replica msg.body) _ _ Fine (λ _. on_some-keeps Fine (replica_takes round msg) (txn_of column msg.id) column (λ txn e. h) h) (λ _. cond_both (msg.view == 0) _ _ Fine (λ _. cond_both (listens (attempt_of column msg.id)) _ _ Fine (λ _. client_aside column.clients (change (is_attempt msg.id) (attempt_answered msg.replica msg.body) column.attempts)
      (attempt_aside column.clients column.attempts h msg.id (attempt_answered msg.replica msg.body) (λ _. refl) (λ a. (refl, λ r. r)))
      msg.id.client (heard_of msg.body) (heard_of-number msg.body) (heard_of-same msg.body)) (λ _. h)) (λ _. cond_both (is_led round msg.epoch msg.view) _ _ Fine (λ _. h) (λ _. h)))

  ruled_fine : (a : AttemptState) (r : Ruling) → Fine (ruled round.faults a r column)
  ruled_fine a (Fast o) = attempt_aside column.clients column.attempts h a.id (having_learned o) (λ _. refl) (λ _. (refl, λ r. r))
  ruled_fine a (Learned o) = attempt_aside column.clients column.attempts h a.id (having_learned o) (λ _. refl) (λ _. (refl, λ r. r))
  ruled_fine a (Propose o) = attempt_aside column.clients column.attempts h a.id (proposing o) (λ _. refl) (λ _. (refl, λ r. r))
  ruled_fine a (Short k) = h
  ruled_fine a (Unaccepted k) = h

  picked_fine : (view : ℕ) (a : AttemptState) (p : Pick) → Fine (picked round.faults view a p column)
  picked_fine view a (Known o) = h
  picked_fine view a (PickLearned o) = h
  picked_fine view a (PickPropose o) = h
  picked_fine view a (PickShort k) = h
  picked_fine view a (PickUnaccepted k) = h
  picked_fine view a (Unclear x y) = h

  validated_fine : (txn : Transaction) (r ep : ℕ) (state : ValidationState) (next : Option KeyAct) → Fine (validated txn r ep state next column)
  validated_fine txn r ep state (Some act) = h
  validated_fine txn r ep state None = h

  answered_fine : (answer : Answer) (w : Work) → Fine (answered answer w column)
  answered_fine answer Idle = h
  answered_fine answer (Fetching id r key) = attempt_aside column.clients column.attempts h id (with_read key answer) (λ _. refl) (λ _. (refl, λ r. r))
  answered_fine answer (Validating txn r ep state) = validated_fine txn r ep (after_answer state answer) (next_act (after_answer state answer))
  answered_fine answer (Finishing r []) = h
  answered_fine answer (Finishing r (act ∷ acts)) = h

  pub step_fine : (step : Step) → AllTrue (conditions round column step) → Fine (stepped round column step)
  step_fine (Begin client replica) c =
      on_some-keeps Fine _ (client_of column client) column
      (λ d e. begin_one client (epoch_of (slice_get round.views replica)) d (new_attempt round.faults (next_id d) replica (epoch_of (slice_get round.views replica))) e c.1.0 refl refl) h
  step_fine (Unread client) c =
      on_some-keeps Fine _ (client_of column client) column (λ d e. begin_one client 0 d (unread_attempt round.faults (next_id d)) e c.1.0 refl refl) h
  step_fine (Read id key) c = on_some-keeps Fine _ (attempt_of column id) column (λ a _. h) h
  step_fine (Stamp id clock writes) c =
      on_some-keeps Fine _ (attempt_of column id) column
      (λ a e. on_some-keeps Fine _ (client_of column a.id.client) column
      (λ d k. stamp_one a d clock writes (next_stamp_of d.number d.last_time clock a.reads) (attempt_of-own column id a e)
      (passes-at (λ (x : AttemptState). x.reading) (attempt_of column id) a e c.1.0) k refl) h) h
  step_fine (Validate id) c = on_some-keeps Fine _ (attempt_of column id) column (λ a _. h) h
  step_fine (Take number) c = on_some-keeps Fine _ (message column.link number) column (λ msg _. taken_fine msg) h
  step_fine (Key call answer) c = answered_fine answer column.work
  step_fine (Rule id) c = on_some-keeps Fine _ (attempt_of column id) column (λ a _. ruled_fine a (ruling round.faults a.coord)) h
  step_fine (Again id) c = on_some-keeps Fine _ (attempt_of column id) column (λ a _. on_some-keeps Fine _ a.coord.proposed column (λ o _. h) h) h
  step_fine (Takeover id view) c = on_some-keeps Fine _ (attempt_of column id) column (λ a _. h) h
  step_fine (PickStep id view) c =
      on_some-keeps Fine _ (attempt_of column id) column
      (λ a _. on_some-keeps Fine _ (takeover_of column a.id view) column (λ t _. picked_fine view a (pick round.faults t.state)) h) h
  step_fine (Stop id) c = attempt_aside column.clients column.attempts h id (λ a. record a { stopped = true }) (λ _. refl) (λ _. (refl, λ r. r))

not_reading_fine : (clients : List ClientState) (attempts : List AttemptState) → Identity clients attempts → Identity clients (map not_reading attempts)
not_reading_fine clients attempts h =
    aside clients clients attempts (map not_reading attempts) h (λ n c e. (c, e, (refl, refl))) (λ n c e. (c, e, (refl, refl)))
    (λ id a e. (not_reading a, find-map not_reading id (λ _. refl) attempts ∙ ap (option_map not_reading) e))
    (λ id b e. by id b (attempt_in attempts id) refl (sym (find-map not_reading id (λ _. refl) attempts) ∙ e))
  where
    by : (id : TxnId) (b : AttemptState) (o : Option AttemptState) → attempt_in attempts id ≡ o → option_map not_reading (attempt_in attempts id) ≡ Some b →
        (a : AttemptState) × (attempt_in attempts id ≡ Some a) × ((b.txn ≡ a.txn) × (b.reading ≡ true → a.reading ≡ true))
    by id b None e k = absurd (let n : option_map not_reading (attempt_in attempts id) ≡ None = ap (option_map not_reading) e in cc (n, k))
    by id b (Some a) e k =
        let same : not_reading a ≡ b = same_Some (not_reading a) b (sym (ap (option_map not_reading) e) ∙ k) in
        (a, e, (ap (λ (x : AttemptState). x.txn) (sym same), λ r. absurd (let quiet : b.reading ≡ false = ap (λ (x : AttemptState). x.reading) (sym same) in cc (quiet, r))))

-- the clients at the start
start_client : (numbers : List ℕ) (n : ℕ) (c : ClientState) → client_in (map new_client numbers) n ≡ Some c → c.next_seq ≡ 1
start_client [] n c e = absurd (cc e)
start_client (k ∷ numbers) n c e = by (start_client numbers n c) (k == n) e
  where
    by : (client_in (map new_client numbers) n ≡ Some c → c.next_seq ≡ 1) → (b : Bool) → cond b (Some (new_client k)) (client_in (map new_client numbers) n) ≡ Some c → c.next_seq ≡ 1
    by again true q = ap (λ (x : ClientState). x.next_seq) (sym (same_Some (new_client k) c q))
    by again false q = again q

pub start_fine : (numbers : List ℕ) → Identity (map new_client numbers) []
start_fine numbers =
    record {
      numbered = λ n c e. let k = start_client numbers n c e in omega (arith, k);
      attempts = λ id a e. absurd (cc e);
      all_there = λ n seq c e one less. absurd (let k = start_client numbers n c e in omega (arith, k, one, less));
      stamps = λ id a t e s. absurd (cc e);
      rise = λ id other a b t u e f s r same less. absurd (cc e);
    }

pub event_fine : (taught : Taught) (m : Moment) (event : Event) → CanHappen taught event m → Identity m.column.clients m.column.attempts → Identity (after_event event m).column.clients (after_event event m).column.attempts
event_fine taught m (NewRound views resets) can h =
    subst (λ (l : List ClientState). Identity l (map not_reading (replicas_reset resets m.column).attempts)) (sym (reset_clients resets m.column))
    (subst (λ (l : List AttemptState). Identity m.column.clients (map not_reading l)) (sym (reset_attempts resets m.column)) (not_reading_fine m.column.clients m.column.attempts h))
event_fine taught m (Doing step) can h = step_fine m.round m.column h step (enabled m.round m.column step can)

fine_through : (taught : Taught) (m : Moment) (events : List Event) → EachHappens taught m events → Identity m.column.clients m.column.attempts →
    Identity (moment_through m events).column.clients (moment_through m events).column.attempts
fine_through taught m [] happens h = h
fine_through taught m (event ∷ events) happens h = fine_through taught (after_event event m) events happens.1 (event_fine taught m event happens.0 h)

pub ids_once : IdsOnce
ids_once taught stays m r =
    subst (λ (x : Moment). Identity x.column.clients x.column.attempts) r.leads
    (fine_through taught (first_moment r.version r.faults r.keys r.clients) r.events r.happens (start_fine r.clients))

-- from what holds of clients, attempts and stamps
pub named_by_stamp : (clients : List ClientState) (attempts : List AttemptState) → Identity clients attempts → (id other : TxnId) (a b : AttemptState) (t u : Transaction) →
    attempt_in attempts id ≡ Some a → attempt_in attempts other ≡ Some b → a.txn ≡ Some t → b.txn ≡ Some u → t.stamp ≡ u.stamp → id ≡ other
named_by_stamp clients attempts h id other a b t u e f s q same =
    let p = (h.stamps id a t e s).of_client in
    let o = (h.stamps other b u f q).of_client in
    let client : id.client ≡ other.client = sym p ∙ ap (λ (z : StampType). z.client) same ∙ o in
    let time : t.stamp.time ≡ u.stamp.time = ap (λ (z : StampType). z.time) same in
    elim (cases_order id.seq other.seq) [
      | inl seq ↦ λ i. record { client = client i; seq = seq i }
      | inr (inl less) ↦ absurd (let k = h.rise id other a b t u e f s q client less in omega (arith, k, time))
      | inr (inr more) ↦ absurd (let k = h.rise other id b a u t f e q s (sym client) more in omega (arith, k, time))
    ]

pub stamps_name : StampsName
stamps_name taught stays m r id other a b t u e f s q same = named_by_stamp m.column.clients m.column.attempts (ids_once taught stays m r) id other a b t u e f s q same
