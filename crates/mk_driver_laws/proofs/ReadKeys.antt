-- The keys that an attempt has read so far, and the one that it reads now, are the first of those that it wants.
use Rattle.std.proofs.Common.{◌≡◌, ◌∙◌, ℕ, Bool, true, false, refl, sym, subst, ap, List, [], ◌∷◌, ◌++◌, Option, Some, None, ◌&&◌}
use Rattle.std.specs.Prelude.{find, option_map, slice_get, ◌==◌}
use Rattle.std.proofs.lemmas.List.{map-append, length-map}
use Rattle.std.proofs.lemmas.Bool.{and_parts, eqb-true}
use Rattle.mk_lists.specs.Changed.{change}
use Rattle.mk_lists.proofs.Changes.{find-change}
use Rattle.mk_lists.proofs.Lookups.{find-passes}
use Rattle.mk_txn.specs.declared.TxnId.{TxnId}
use Rattle.mk_txn.specs.declared.ReadItem.{ReadItem}
use Rattle.mk_txn.specs.Transactions.{read_keys}
use Rattle.mk_words.specs.declared.Act.{Act}
use Rattle.mk_words.specs.declared.Act.TheVariants.{Get, CheckRead, CheckWrite, CommitRead, CommitWrite, ReleaseRead, ReleaseWrite}
use Rattle.mk_words.specs.declared.Answer.{Answer}
use Rattle.mk_words.specs.declared.Answer.TheVariants.{Version, Okay, Refused, Done}
use Rattle.mk_words.specs.Acts.{answer_fits, same_act}
use Rattle.mk_quorum.specs.Slots.{passes}
use Rattle.mk_client.specs.Wanted.{next_wanted, wanted_keys}
use Rattle.mk_words.specs.declared.KeyCall.{KeyCall}
use Rattle.mk_words.specs.declared.Step.TheVariants.{Begin, Read, Key}
use Rattle.mk_model.specs.ColumnState.{Setting, ColumnState, AttemptState, ClientState, Work, attempt_of, client_of, is_attempt, is_client}
use Rattle.mk_model.specs.ColumnState.Work.{Idle, Fetching, Validating, Finishing}
use Rattle.mk_model.specs.Conditions.{blocked, conditions, is_idle, same_call, wanted}
use Rattle.mk_model.specs.Steps.{answered, beginning, begun, column_after, epoch_of, new_attempt, on_some, with_read}
use Rattle.mk_driver.specs.declared.Caller.{Caller}
use Rattle.mk_driver.specs.declared.Request.{Request}
use Rattle.mk_driver.specs.Agenda.{is_caller, trial_by}
use Rattle.mk_model.proofs.Frames.{AllTrue, AllTrue-from_first_failing}
use Rattle.mk_driver_laws.proofs.ColumnMoves.{ColumnFits}
use Rattle.mk_driver_laws.proofs.Frames.{begun_found}
use Rattle.mk_driver_laws.proofs.ItemLaws.{IsFirst, first_more}

-- of the keys that are wanted these are read, and the one under way comes next
abbrev pub KeysFit : Work → TxnId → List ℕ → List ℕ → Type 0
KeysFit Idle id keys read = IsFirst read keys
KeysFit (Fetching other replica key) id keys read = (other ≡ id) × IsFirst (read ++ key ∷ []) keys
KeysFit (Validating txn replica epoch state) id keys read = ⊥
KeysFit (Finishing replica left) id keys read = ⊥

-- an attempt that reads, its client, and what it was asked for
pub record FetchKeys (c : ColumnState) (callers : List Caller) (id : TxnId) : Type 0 where
  pub request : Request
  pub asked : trial_by id.seq (find (is_caller id.client) callers) ≡ Some request
  pub attempt : AttemptState
  pub found : attempt_of c id ≡ Some attempt
  pub client : ClientState
  pub known : client_of c id.client ≡ Some client
  pub keys : KeysFit c.work id (wanted_keys request.items) (read_keys attempt.reads)

pub at_rest : (work : Work) (id : TxnId) (keys read : List ℕ) → is_idle work ≡ true → KeysFit work id keys read → IsFirst read keys
at_rest Idle id keys read e h = h
at_rest (Fetching other replica key) id keys read e h = absurd (cc e)
at_rest (Validating txn replica epoch state) id keys read e h = absurd h
at_rest (Finishing replica left) id keys read e h = absurd h

rests : (work : Work) (id : TxnId) (keys read : List ℕ) → is_idle work ≡ true → IsFirst read keys → KeysFit work id keys read
rests Idle id keys read e h = h
rests (Fetching other replica key) id keys read e h = absurd (cc e)
rests (Validating txn replica epoch state) id keys read e h = absurd (cc e)
rests (Finishing replica left) id keys read e h = absurd (cc e)

-- the next key that is wanted comes next
pub next_first : (request : Request) (reads : List ReadItem) (key : ℕ) → IsFirst (read_keys reads) (wanted_keys request.items) → next_wanted request.items reads ≡ Some key →
    IsFirst (read_keys reads ++ key ∷ []) (wanted_keys request.items)
next_first request reads key h e =
    first_more (wanted_keys request.items) (read_keys reads) key h
    (ap (slice_get (wanted_keys request.items)) (length-map reads (λ (item : ReadItem). item.key)) ∙ e)

-- while a key is read
pub read_goes : (round : Setting) (c : ColumnState) (callers : List Caller) (id : TxnId) (key : ℕ) (h : FetchKeys c callers id) → is_idle c.work ≡ true →
    (let request = h.request in let attempt = h.attempt in next_wanted request.items attempt.reads ≡ Some key) → FetchKeys (column_after round c (Read id key)) callers id
read_goes round c callers id key h idle next =
    let request = h.request in
    let attempt = h.attempt in
    record {
      request = request;
      asked = h.asked;
      attempt = attempt;
      found = subst (λ (o : Option AttemptState). find (is_attempt id) (New o).attempts ≡ Some attempt) (sym h.found) h.found;
      client = h.client;
      known = subst (λ (o : Option AttemptState). find (is_client id.client) (New o).clients ≡ Some h.client) (sym h.found) h.known;
      keys = subst (λ (o : Option AttemptState). KeysFit (New o).work id (wanted_keys request.items) (read_keys attempt.reads)) (sym h.found)
          (refl, next_first request attempt.reads key (at_rest c.work id (wanted_keys request.items) (read_keys attempt.reads) idle h.keys) next);
    }
  where
    New : Option AttemptState → ColumnState
    New o = on_some (λ a col. record col { work = Fetching id a.replica key }) o c

-- and answered
abbrev is_version : Answer → Bool
is_version (Version version value) = true
is_version Okay = false
is_version (Refused reason stamp) = false
is_version Done = false

got : (act : Act) (answer : Answer) → same_act act Get ≡ true → answer_fits act answer ≡ true → is_version answer ≡ true
got Get (Version version value) e h = refl
got Get Okay e h = absurd (cc h)
got Get (Refused reason stamp) e h = absurd (cc h)
got Get Done e h = absurd (cc h)
got (CheckRead ts version) answer e h = absurd (cc e)
got (CheckWrite ts) answer e h = absurd (cc e)
got (CommitRead ts) answer e h = absurd (cc e)
got (CommitWrite ts value) answer e h = absurd (cc e)
got (ReleaseRead ts) answer e h = absurd (cc e)
got (ReleaseWrite ts) answer e h = absurd (cc e)

pub key_goes : (round : Setting) (c : ColumnState) (callers : List Caller) (id : TxnId) (call : KeyCall) (answer : Answer) → blocked round c (Key call answer) ≡ None →
    FetchKeys c callers id → FetchKeys (column_after round c (Key call answer)) callers id
key_goes round c callers id call answer b h =
    let k = by c.work holds.0 h.keys in
    record { request = k.request; asked = k.asked; attempt = k.attempt; found = k.found; client = k.client; known = k.known; keys = k.keys }
  where
    request : Request
    request = h.request

    attempt : AttemptState
    attempt = h.attempt

    holds : AllTrue (conditions round c (Key call answer))
    holds = AllTrue-from_first_failing 1 (conditions round c (Key call answer)) b

    read : (other : TxnId) (replica key : ℕ) (given : Answer) → is_version given ≡ true → other ≡ id → IsFirst (read_keys attempt.reads ++ key ∷ []) (wanted_keys request.items) →
        FetchKeys (answered given (Fetching other replica key) c) callers id
    read other replica key Okay v same first = absurd (cc v)
    read other replica key (Refused reason stamp) v same first = absurd (cc v)
    read other replica key Done v same first = absurd (cc v)
    read other replica key (Version version value) v same first =
        record {
          request = request;
          asked = h.asked;
          attempt = with_read key (Version version value) attempt;
          found = ap (λ (i : TxnId). find (is_attempt id) (change (is_attempt i) (with_read key (Version version value)) c.attempts)) same
              ∙ find-change (is_attempt id) (with_read key (Version version value)) c.attempts (λ x. refl) ∙ ap (option_map (with_read key (Version version value))) h.found;
          client = h.client;
          known = h.known;
          keys = subst (λ (keys : List ℕ). IsFirst keys (wanted_keys request.items))
              (sym (map-append (λ (item : ReadItem). item.key) attempt.reads (record { key = key; version = version; value = value } ∷ []))) first;
        }

    by : (work : Work) → passes (same_call call) (wanted work) ≡ true → KeysFit work id (wanted_keys request.items) (read_keys attempt.reads) → FetchKeys (answered answer work c) callers id
    by Idle w k = absurd (cc w)
    by (Fetching other replica key) w k =
        read other replica key answer (got call.act answer (and_parts (call.replica == replica && call.key == key) (same_act call.act Get) w).1 holds.1.0) k.0 k.1
    by (Validating txn replica epoch state) w k = absurd k
    by (Finishing replica left) w k = absurd k

-- once it began
pub begin_goes : (round : Setting) (c : ColumnState) → ColumnFits round.faults c → (callers : List Caller) (n replica : ℕ) (cl : ClientState) (request : Request) →
    client_of c n ≡ Some cl → is_idle c.work ≡ true → trial_by cl.next_seq (find (is_caller n) callers) ≡ Some request →
    FetchKeys (column_after round c (Begin n replica)) callers (record { client = n; seq = cl.next_seq })
begin_goes round c k callers n replica cl request e idle asked =
    record {
      request = request;
      asked = asked;
      attempt = new_attempt round.faults id replica epoch;
      found = begun_found round c k n replica cl e;
      client = begun epoch cl;
      known = subst (λ (o : Option ClientState). find (is_client n) (on_some (beginning round replica epoch) o c).clients ≡ Some (begun epoch cl)) (sym e)
          (ap (λ (m : ℕ). find (is_client n) (change (is_client m) (begun epoch) c.clients)) number
          ∙ find-change (is_client n) (begun epoch) c.clients (λ x. refl) ∙ ap (option_map (begun epoch)) e);
      keys = subst (λ (o : Option ClientState). KeysFit (on_some (beginning round replica epoch) o c).work id (wanted_keys request.items) []) (sym e)
          (rests c.work id (wanted_keys request.items) [] idle (wanted_keys request.items, refl));
    }
  where
    id : TxnId
    id = record { client = n; seq = cl.next_seq }

    epoch : ℕ
    epoch = epoch_of (slice_get round.views replica)

    number : cl.number ≡ n
    number = eqb-true cl.number n (find-passes (is_client n) c.clients cl e)
