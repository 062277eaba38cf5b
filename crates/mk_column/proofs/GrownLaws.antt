-- What of a column stays.
use Rattle.std.proofs.Common.{◌≡◌, ◌<◌, ◌≤◌, ◌==◌, ℕ, Bool, true, false, cond, refl, sym, subst, ap, ◌∙◌, inl, inr, arith, List, [], Option, Some, None}
use Rattle.std.specs.Prelude.{find, map, option_map, option_and_then, IsSomeAnd}
use Rattle.std.proofs.lemmas.Option.{none-some, same_Some}
use Rattle.std.proofs.lemmas.Bool.Decides.{nat_tests}
use Rattle.mk_lists.proofs.Lookups.{find-map, find-passes}
use Rattle.mk_txn.specs.declared.TxnId.{TxnId}
use Rattle.mk_txn.specs.declared.Stamp.{Stamp}
use Rattle.mk_txn.specs.Stamps.{Before}
use Rattle.mk_txn.specs.declared.Outcome.{Outcome}
use Rattle.mk_txn.specs.Transactions.{Transaction}
use Rattle.mk_trim.specs.declared.ReplicaView.{ReplicaView}
use Rattle.mk_model.specs.ColumnState.{ColumnState, ClientState, AttemptState, attempt_of, client_of, change_client, is_attempt, is_client}
use Rattle.mk_model.specs.Learnings.{decided, txn_of}
use Rattle.mk_model.specs.Logs.{not_reading, reading_ended, replica_reset}
use Rattle.mk_column.specs.ColumnByCode.{ColumnView}
use Rattle.mk_column.specs.Growing.{HasGrown, LastsStay, client_numbers, last_stamp}
use Rattle.mk_column.proofs.ListLaws.{find-change, changed_member}

-- ---- last times

pub at_most_itself : (n : ℕ) → n ≤ n
at_most_itself n = omega arith

-- the same clients have the same last times
pub same-lasts : (before after : ColumnState) → after.clients ≡ before.clients → LastsStay before after
same-lasts before after same n client found = by_found (client_of after n) (ap (find (is_client n)) same ∙ found)
  where
    by_found : (o : Option ClientState) → o ≡ Some client → IsSomeAnd o (λ later. client.last_time ≤ later.last_time)
    by_found None e = absurd (none-some client e)
    by_found (Some c) e = subst (λ (x : ClientState). x.last_time ≤ c.last_time) (same_Some c client e) (at_most_itself c.last_time)

pub lasts-through : (a b c : ColumnState) → LastsStay a b → LastsStay b c → LastsStay a c
lasts-through a b c h k n client found = by_found (client_of b n) refl (h n client found)
  where
    by_found : (o : Option ClientState) → client_of b n ≡ o → IsSomeAnd o (λ later. client.last_time ≤ later.last_time)
        → IsSomeAnd (client_of c n) (λ later. client.last_time ≤ later.last_time)
    by_found None e j = absurd j
    by_found (Some d) e j = above (client_of c n) (k n d e)
      where
        above : (o : Option ClientState) → IsSomeAnd o (λ later. d.last_time ≤ later.last_time) → IsSomeAnd o (λ later. client.last_time ≤ later.last_time)
        above None i = absurd i
        above (Some later) i = omega (arith, j, i)

-- a change of one client that lets its last time rise
pub changed-lasts : (n : ℕ) (g : ClientState → ClientState) (column : ColumnState) → ((c : ClientState) → (g c).number ≡ c.number)
    → ((c : ClientState) → client_of column n ≡ Some c → c.last_time ≤ (g c).last_time) → LastsStay column (change_client n g column)
changed-lasts n g column keeps rises m client found =
    subst (λ o. IsSomeAnd o (λ later. client.last_time ≤ later.last_time))
    (sym (find-change (is_client n) g (is_client m) (λ c. ap (λ k. k == m) (keeps c)) column.clients ∙ ap (option_map (changed_member (is_client n) g)) found))
    (by_test (is_client n client) refl)
  where
    same_client : is_client n client ≡ true → is_client m client ≡ true → m ≡ n
    same_client e k = grind (arith, nat_tests, e, k)

    by_test : (t : Bool) → is_client n client ≡ t → client.last_time ≤ (cond t (g client) client).last_time
    by_test false e = at_most_itself client.last_time
    by_test true e = rises client (ap (client_of column) (sym (same_client e (find-passes (is_client m) column.clients client found))) ∙ found)

-- ---- what is calm

-- clients, attempts and what is decided stay, and an attempt that is new has no transaction
pub record IsCalm (before after : ColumnState) : Type 0 where
  pub clients : client_numbers after ≡ client_numbers before
  pub lasts : LastsStay before after
  pub attempts : (id : TxnId) (attempt : AttemptState) → attempt_of before id ≡ Some attempt
      → IsSomeAnd (attempt_of after id) (λ later. later.txn ≡ attempt.txn)
  pub fresh : (id : TxnId) (attempt : AttemptState) → attempt_of after id ≡ Some attempt → attempt_of before id ≡ None → attempt.txn ≡ None
  pub decisions : (id : TxnId) (outcome : Outcome) → decided before id ≡ Some outcome → decided after id ≡ Some outcome

-- a column of whose clients and attempts nothing is stamped has grown
pub calm-grown : (before after : ColumnView) → after.number ≡ before.number → after.setting.keys ≡ before.setting.keys → IsCalm before.state after.state
    → HasGrown before after
calm-grown before after number keys calm =
    record {
      number = number;
      clients = calm.clients;
      keys = keys;
      attempts = λ id attempt found. kept (attempt_of after.state id) attempt (calm.attempts id attempt found);
      lasts = calm.lasts;
      decisions = calm.decisions;
      stamps = λ id txn now then client there. absurd (no_stamp id txn (attempt_of before.state id) (attempt_of after.state id) refl refl now then);
    }
  where
    kept : (o : Option AttemptState) (attempt : AttemptState) → IsSomeAnd o (λ later. later.txn ≡ attempt.txn)
        → IsSomeAnd o (λ later. (txn : Transaction) → attempt.txn ≡ Some txn → later.txn ≡ Some txn)
    kept None attempt h = absurd h
    kept (Some later) attempt h = λ txn e. h ∙ e

    no_stamp : (id : TxnId) (txn : Transaction) (o p : Option AttemptState) → attempt_of before.state id ≡ o → attempt_of after.state id ≡ p
        → option_and_then (λ (a : AttemptState). a.txn) p ≡ Some txn → option_and_then (λ (a : AttemptState). a.txn) o ≡ None → ⊥
    no_stamp id txn o None was is now then = none-some txn now
    no_stamp id txn None (Some b) was is now then = none-some txn (sym (calm.fresh id b is was) ∙ now)
    no_stamp id txn (Some a) (Some b) was is now then = none-some txn (sym then ∙ sym (same b a (attempt_of after.state id) is (calm.attempts id a was)) ∙ now)
      where
        same : (b a : AttemptState) (r : Option AttemptState) → r ≡ Some b → IsSomeAnd r (λ later. later.txn ≡ a.txn) → b.txn ≡ a.txn
        same b a None e h = absurd h
        same b a (Some c) e h = ap (λ (x : AttemptState). x.txn) (sym (same_Some c b e)) ∙ h

some_same : (o : Option AttemptState) (attempt : AttemptState) → o ≡ Some attempt → IsSomeAnd o (λ later. later.txn ≡ attempt.txn)
some_same None attempt e = absurd (none-some attempt e)
some_same (Some a) attempt e = ap (λ (x : AttemptState). x.txn) (same_Some a attempt e)

-- the same clients, attempts and learnings are calm
pub same-calm : (before after : ColumnState) → after.clients ≡ before.clients → after.attempts ≡ before.attempts → after.learned ≡ before.learned
    → IsCalm before after
same-calm before after clients attempts learned =
    let same : (id : TxnId) → attempt_of after id ≡ attempt_of before id = λ id. ap (find (is_attempt id)) attempts in
    record {
      clients = ap (map (λ (c : ClientState). c.number)) clients;
      lasts = same-lasts before after clients;
      attempts = λ id attempt found. some_same (attempt_of after id) attempt (same id ∙ found);
      fresh = λ id attempt now then. absurd (none-some attempt (sym then ∙ sym (same id) ∙ now));
      decisions = λ id outcome e. ap (λ all. decided (record before { learned = all }) id) learned ∙ e;
    }

pub reset-calm : (r : ℕ) (column : ColumnState) → IsCalm column (replica_reset r column)
reset-calm r column = same-calm column (replica_reset r column) refl refl refl

pub round-calm : (column : ColumnState) → IsCalm column (reading_ended column)
round-calm column =
    let ended : (id : TxnId) → attempt_of (reading_ended column) id ≡ option_map not_reading (attempt_of column id) =
    λ id. find-map (is_attempt id) not_reading column.attempts in
    record {
      clients = refl;
      lasts = same-lasts column (reading_ended column) refl;
      attempts = λ id attempt found. some_ended (attempt_of (reading_ended column) id) attempt (ended id ∙ ap (option_map not_reading) found);
      fresh = λ id attempt now then. absurd (none-some attempt (sym (ap (option_map not_reading) then) ∙ sym (ended id) ∙ now));
      decisions = λ id outcome e. e;
    }
  where
    some_ended : (o : Option AttemptState) (attempt : AttemptState) → o ≡ Some (not_reading attempt) → IsSomeAnd o (λ later. later.txn ≡ attempt.txn)
    some_ended o attempt e = some_same o (not_reading attempt) e

pub round-grown : (before after : ColumnView) (views : List ReplicaView)
    → after ≡ record before { setting = record before.setting { views = views }; state = reading_ended before.state } → HasGrown before after
round-grown before after views e =
    calm-grown before after (ap (λ (c : ColumnView). c.number) e) (ap (λ (c : ColumnView). c.setting.keys) e)
    (subst (λ (c : ColumnView). IsCalm before.state c.state) (sym e) (round-calm before.state))

pub state-grown : (before after : ColumnView) (state : ColumnState) → after ≡ record before { state = state } → IsCalm before.state state
    → HasGrown before after
state-grown before after state e calm =
    calm-grown before after (ap (λ (c : ColumnView). c.number) e) (ap (λ (c : ColumnView). c.setting.keys) e)
    (subst (λ (c : ColumnView). IsCalm before.state c.state) (sym e) calm)

pub log-grown : (before after : ColumnView) → after ≡ record before { log = [] } → HasGrown before after
log-grown before after e =
    calm-grown before after (ap (λ (c : ColumnView). c.number) e) (ap (λ (c : ColumnView). c.setting.keys) e)
    (subst (λ (c : ColumnView). IsCalm before.state c.state) (sym e) (same-calm before.state before.state refl refl refl))

-- ---- growing goes on

-- a column has grown from itself
pub grown-itself : (column : ColumnView) → HasGrown column column
grown-itself column =
    calm-grown column column refl refl (same-calm column.state column.state refl refl refl)

-- a stamp above a later last stamp is above an earlier one
last-before : (earlier later : ClientState) (stamp : Stamp) → earlier.number ≡ later.number → earlier.last_time ≤ later.last_time
    → Before (last_stamp later) stamp → Before (last_stamp earlier) stamp
last-before earlier later stamp same rises h = by_tests (earlier.last_time == 0) (later.last_time == 0) refl refl h
  where
    stamp_by : Bool → ClientState → Stamp
    stamp_by t client = cond t (record { time = 0; client = 0 }) (record { time = client.last_time; client = client.number })

    not_zero : (n : ℕ) → (n == 0) ≡ false → 0 < n
    not_zero n e = grind (arith, nat_tests, e)

    both_zero : (a b : ℕ) → a ≤ b → (b == 0) ≡ true → (a == 0) ≡ false → ⊥
    both_zero a b le e k = grind (arith, nat_tests, le, e, k)

    from_lower : (a b : Stamp) → a.time < b.time → Before b stamp → Before a stamp
    from_lower a b less (inl lt) = inl (omega (arith, less, lt))
    from_lower a b less (inr eq) = inl (omega (arith, less, eq.0))

    from_time : (a b : Stamp) → a.time ≤ b.time → a.client ≡ b.client → Before b stamp → Before a stamp
    from_time a b le eq (inl lt) = inl (omega (arith, le, lt))
    from_time a b le eq (inr both) = by_time (a.time == b.time) refl
      where
        by_time : (t : Bool) → (a.time == b.time) ≡ t → Before a stamp
        by_time true e = inr (grind (arith, nat_tests, e, both.0), subst (λ n. n < stamp.client) (sym eq) both.1)
        by_time false e = inl (grind (arith, nat_tests, le, e, both.0))

    by_tests : (t u : Bool) → (earlier.last_time == 0) ≡ t → (later.last_time == 0) ≡ u → Before (stamp_by u later) stamp → Before (stamp_by t earlier) stamp
    by_tests true true e k b = b
    by_tests true false e k b = from_lower (stamp_by true earlier) (stamp_by false later) (not_zero later.last_time k) b
    by_tests false true e k b = absurd (both_zero earlier.last_time later.last_time rises k e)
    by_tests false false e k b = from_time (stamp_by false earlier) (stamp_by false later) rises same b

-- and growing goes through a column between
pub grown-through : (first second third : ColumnView) → HasGrown first second → HasGrown second third → HasGrown first third
grown-through first second third h k =
    record {
      number = k.number ∙ h.number;
      clients = k.clients ∙ h.clients;
      keys = k.keys ∙ h.keys;
      attempts = λ id attempt found. attempt_through id attempt (attempt_of second.state id) refl (h.attempts id attempt found);
      lasts = lasts-through first.state second.state third.state h.lasts k.lasts;
      decisions = λ id outcome e. k.decisions id outcome (h.decisions id outcome e);
      stamps = λ id txn now none client there. stamp_through id txn now none client there (attempt_of second.state id) refl;
    }
  where
    -- the transaction of an attempt stays
    Keeps : AttemptState → AttemptState → Type 0
    Keeps attempt later = (txn : Transaction) → attempt.txn ≡ Some txn → later.txn ≡ Some txn

    keeps_on : (attempt between : AttemptState) (o : Option AttemptState) → Keeps attempt between → IsSomeAnd o (Keeps between) → IsSomeAnd o (Keeps attempt)
    keeps_on attempt between None a b = absurd b
    keeps_on attempt between (Some later) a b = λ txn e. b txn (a txn e)

    attempt_through : (id : TxnId) (attempt : AttemptState) (o : Option AttemptState) → attempt_of second.state id ≡ o → IsSomeAnd o (Keeps attempt)
        → IsSomeAnd (attempt_of third.state id) (Keeps attempt)
    attempt_through id attempt None e a = absurd a
    attempt_through id attempt (Some between) e a = keeps_on attempt between (attempt_of third.state id) a (k.attempts id between e)

    numbered : (column : ColumnState) (n : ℕ) (client : ClientState) → client_of column n ≡ Some client → client.number ≡ n
    numbered column n client found = grind (arith, nat_tests, find-passes (is_client n) column.clients client found)

    -- a stamp that is new after the column between
    after_between : (id : TxnId) (txn : Transaction) → txn_of third.state id ≡ Some txn → txn_of second.state id ≡ None → (client : ClientState)
        → client_of first.state id.client ≡ Some client
        → (o : Option ClientState) → client_of second.state id.client ≡ o → IsSomeAnd o (λ later. client.last_time ≤ later.last_time)
        → Before (last_stamp client) txn.stamp
    after_between id txn now none client there None e j = absurd j
    after_between id txn now none client there (Some later) e j =
        last-before client later txn.stamp (numbered first.state id.client client there ∙ sym (numbered second.state id.client later e)) j
        (k.stamps id txn now none later e)

    -- a stamp that was there between stays what it was
    same_txn : (id : TxnId) (txn other : Transaction) (o : Option AttemptState) → txn_of third.state id ≡ Some txn → attempt_of third.state id ≡ o
        → IsSomeAnd o (λ later. later.txn ≡ Some other) → other ≡ txn
    same_txn id txn other None now e j = absurd j
    same_txn id txn other (Some later) now e j = same_Some other txn (sym j ∙ sym (ap (option_and_then (λ (a : AttemptState). a.txn)) e) ∙ now)

    kept_txn : (between : AttemptState) (other : Transaction) (o : Option AttemptState) → between.txn ≡ Some other → IsSomeAnd o (Keeps between)
        → IsSomeAnd o (λ later. later.txn ≡ Some other)
    kept_txn between other None e j = absurd j
    kept_txn between other (Some later) e j = j other e

    by_txn : (id : TxnId) (txn : Transaction) → txn_of third.state id ≡ Some txn → txn_of first.state id ≡ None → (client : ClientState)
        → client_of first.state id.client ≡ Some client
        → (between : AttemptState) → attempt_of second.state id ≡ Some between → (o : Option Transaction) → between.txn ≡ o
        → Before (last_stamp client) txn.stamp
    by_txn id txn now none client there between e None is =
        after_between id txn now (ap (option_and_then (λ (a : AttemptState). a.txn)) e ∙ is) client there (client_of second.state id.client) refl
        (h.lasts id.client client there)
    by_txn id txn now none client there between e (Some other) is =
        subst (λ (t : Transaction). Before (last_stamp client) t.stamp)
        (same_txn id txn other (attempt_of third.state id) now refl (kept_txn between other (attempt_of third.state id) is (k.attempts id between e)))
        (h.stamps id other (ap (option_and_then (λ (a : AttemptState). a.txn)) e ∙ is) none client there)

    stamp_through : (id : TxnId) (txn : Transaction) → txn_of third.state id ≡ Some txn → txn_of first.state id ≡ None → (client : ClientState)
        → client_of first.state id.client ≡ Some client
        → (o : Option AttemptState) → attempt_of second.state id ≡ o → Before (last_stamp client) txn.stamp
    stamp_through id txn now none client there None e =
        after_between id txn now (ap (option_and_then (λ (a : AttemptState). a.txn)) e) client there (client_of second.state id.client) refl
        (h.lasts id.client client there)
    stamp_through id txn now none client there (Some between) e = by_txn id txn now none client there between e between.txn refl
