-- What a column keeps when an attempt begins.
use Rattle.std.proofs.Common.{◌≡◌, ◌<◌, ◌≤◌, ◌+◌, ℕ, zero, suc, get_or, Bool, true, false, cond, refl, sym, subst, ap, ◌∙◌, List, [], ◌∷◌, ◌++◌, Option, Some, None, ◌||◌, ◌&&◌, ◌==◌, arith}
use Rattle.std.specs.Prelude.{map, option_map, slice_get, option_copied, Result, Ok, Err, OnOk, IsSome, IsSomeAnd, not, nat_le}
use Rattle.std.specs.Option.{option_or}
use Rattle.std.specs.Borrow.{Bor}
use Rattle.std.specs.Result.{is_err}
use Rattle.std.proofs.lemmas.List.{append-nil, map-append}
use Rattle.std.proofs.lemmas.List.Folds.{find-append}
use Rattle.std.proofs.lemmas.Bool.{false≢true}
use Rattle.std.proofs.lemmas.Bool.Decides.{nat_tests}
use Rattle.std.proofs.lemmas.Option.{none-some}
use Rattle.std.proofs.Math.Bool.{or_assoc}
use Rattle.mk_lists.specs.Among.{Each, Each-append, Each-weaker}
use Rattle.mk_column.specs.TakeoversByCode.{BackupView}
use Rattle.mk_lists.specs.Changed.{change}
use Rattle.mk_lists.proofs.EachMember.{Each-find}
use Rattle.mk_txn.specs.declared.TxnId.{TxnId}
use Rattle.mk_txn.specs.Transactions.{same_id}
use Rattle.mk_txn.proofs.IdOrder.{same_id-tells}
use Rattle.mk_quorum.specs.Slots.{passes}
use Rattle.mk_trim.specs.SettledAttempts.{SettledAttempts, AlsoSettles, is_settled as is_kept_settled}
use Rattle.mk_quorum.specs.Sizes.{members}
use Rattle.mk_column.specs.declared.clients.Client.{Client}
use Rattle.mk_column.specs.declared.work.Work.{Work as KeptWork}
use Rattle.mk_column.specs.declared.work.Work.TheVariants.{Idle as KeptIdle, Fetching as KeptFetching, Validating as KeptValidating, Finishing as KeptFinishing}
use Rattle.mk_column.specs.ClientsByCode.{client_state, client_states, kept_client, change_kept, client_begun, next_of}
use Rattle.mk_model.specs.ColumnState.{Setting, ColumnState, ClientState, is_settled, client_of, is_client}
use Rattle.mk_model.specs.Replicas.{Held}
use Rattle.mk_model.specs.Conditions.{may_begin, has_seq_left, serves_from, heard_by}
use Rattle.mk_trim.specs.declared.ReplicaView.{ReplicaView}
use Rattle.mk_words.specs.declared.Step.TheVariants.{Begin, Unread}
use Rattle.mk_model.specs.Steps.{begun, new_attempt, unread_attempt, epoch_of, on_some, beginning, left_unread, stepped, column_after}
use Rattle.mk_column.specs.AttemptsByCode.{BegunView, as_begun, is_begun, begun_of}
use Rattle.mk_column.specs.ColumnByCode.{Kept, IsKept, AttemptFits, ClientFits, MayRead, WorkFits, has_reading, learning_of_kept, column_of}
use Rattle.mk_column.proofs.ColumnLaws.{client-number, client-found, may_begin-found, may_begin-none}
use Rattle.mk_column.proofs.ListLaws.{Each-turn, find-change, map-change, changed_member}

-- an attempt that begins as the client's next
pub record IsNext (f : ℕ) (client : Client) (new : BegunView) : Type 0 where
  pub faults : new.faults ≡ f
  pub id : new.state.id ≡ next_of client
  pub txn : new.state.txn ≡ None
  pub validated : new.validated ≡ false
  pub decided : new.decided ≡ None

-- the same attempts are settled, and the new one where it is
abbrev pub SettlesNext : SettledAttempts → SettledAttempts → BegunView → Type 0
SettlesNext old new begun = (id : TxnId) → is_kept_settled new id ≡ (is_kept_settled old id || (is_settled begun.state && same_id id begun.state.id))

-- an attempt at the client's next place has not begun
pub next-none : (client : Client) (all : List BegunView) → Each (λ (b : BegunView). b.state.id.client ≡ client.number → b.state.id.seq < client.next_seq) all
    → begun_of (next_of client) all ≡ None
next-none client [] h = refl
next-none client (b ∷ all) h = by_test (same_id b.state.id (next_of client)) refl (next-none client all h.1)
  where
    by_test : (t : Bool) → same_id b.state.id (next_of client) ≡ t → begun_of (next_of client) all ≡ None
        → cond t (Some b) (begun_of (next_of client) all) ≡ None
    by_test true e ih =
        let same : b.state.id ≡ next_of client = same_id-tells b.state.id (next_of client) e in
        let less : b.state.id.seq < client.next_seq = h.0 (ap (λ (id : TxnId). id.client) same) in
        let seq : b.state.id.seq ≡ client.next_seq = ap (λ (id : TxnId). id.seq) same in
        absurd (omega arith)
    by_test false e ih = ih

begun-append : (id : TxnId) (all : List BegunView) (new : BegunView)
    → begun_of id (all ++ new ∷ []) ≡ option_or (begun_of id all) (cond (same_id new.state.id id) (Some new) None)
begun-append id all new = find-append (is_begun id) all (new ∷ [])

none-append : (id : TxnId) (all : List BegunView) (new : BegunView) → begun_of id (all ++ new ∷ []) ≡ None → begun_of id all ≡ None
none-append id all new e = from (begun_of id all) (sym (begun-append id all new) ∙ e)
  where
    from : (o : Option BegunView) → option_or o (cond (same_id new.state.id id) (Some new) None) ≡ None → o ≡ None
    from None h = refl
    from (Some b) h = absurd (none-some b (sym h))

settled-append : (id : TxnId) (all : List BegunView) (new : BegunView) → begun_of new.state.id all ≡ None
    → passes (λ (b : BegunView). is_settled b.state) (begun_of id (all ++ new ∷ [])) ≡ (passes (λ (b : BegunView). is_settled b.state) (begun_of id all) || (is_settled new.state && same_id id new.state.id))
settled-append id all new none = ap (passes (λ (b : BegunView). is_settled b.state)) (begun-append id all new) ∙ by_test (same_id new.state.id id) refl
  where
    and_true : (a : Bool) → a ≡ (a && true)
    and_true true = refl
    and_true false = refl

    and_false : (a : Bool) → (a && false) ≡ false
    and_false true = refl
    and_false false = refl

    or_false_right : (a b : Bool) → a ≡ (a || (b && false))
    or_false_right true b = refl
    or_false_right false true = refl
    or_false_right false false = refl

    with_other : (t : Bool) → same_id new.state.id id ≡ t → same_id id new.state.id ≡ t
    with_other t e = grind (arith, nat_tests, e)

    at_none : (o : Option BegunView) → o ≡ None
        → passes (λ (b : BegunView). is_settled b.state) (option_or o (Some new)) ≡ (passes (λ (b : BegunView). is_settled b.state) o || (is_settled new.state && true))
    at_none None e = and_true (is_settled new.state)
    at_none (Some b) e = absurd (none-some b (sym e))

    at_other : (o : Option BegunView)
        → passes (λ (b : BegunView). is_settled b.state) (option_or o None) ≡ (passes (λ (b : BegunView). is_settled b.state) o || (is_settled new.state && false))
    at_other None = sym (and_false (is_settled new.state))
    at_other (Some b) = or_false_right (is_settled b.state) (is_settled new.state)

    by_test : (t : Bool) → same_id new.state.id id ≡ t
        → passes (λ (b : BegunView). is_settled b.state) (option_or (begun_of id all) (cond t (Some new) None)) ≡ (passes (λ (b : BegunView). is_settled b.state) (begun_of id all) || (is_settled new.state && same_id id new.state.id))
    by_test true e =
        let same : new.state.id ≡ id = same_id-tells new.state.id id e in
        at_none (begun_of id all) (ap (λ i. begun_of i all) (sym same) ∙ none)
        ∙ ap (λ t. passes (λ (b : BegunView). is_settled b.state) (begun_of id all) || (is_settled new.state && t)) (sym (with_other true e))
    by_test false e =
        at_other (begun_of id all)
        ∙ ap (λ t. passes (λ (b : BegunView). is_settled b.state) (begun_of id all) || (is_settled new.state && t)) (sym (with_other false e))

reading-append : (n : ℕ) (all : List BegunView) (new : BegunView)
    → has_reading n (all ++ new ∷ []) ≡ (has_reading n all || (new.state.reading && new.state.id.client == n))
reading-append n [] new = or_off (new.state.reading && new.state.id.client == n)
  where
    or_off : (b : Bool) → (b || false) ≡ b
    or_off true = refl
    or_off false = refl
reading-append n (b ∷ all) new =
    ap (λ t. (b.state.reading && b.state.id.client == n) || t) (reading-append n all new)
    ∙ sym (or_assoc (b.state.reading && b.state.id.client == n) (has_reading n all) (new.state.reading && new.state.id.client == n))

-- ---- what each attempt and each client keeps

new-fits : (f : ℕ) (kept : Kept) (ends : SettledAttempts) (client : Client) (new : BegunView) → IsKept f kept ends → begun_of new.state.id kept.attempts ≡ None
    → client.next_seq ≤ 16384 → IsNext f client new
    → AttemptFits f kept.link (map learning_of_kept kept.learned) new
new-fits f kept ends client new h none upto next =
    record {
      faults = next.faults;
      validated = next.validated ∙ sym (h.validates new.state.id none);
      decided = next.decided ∙ sym (h.decisions new.state.id none);
      named = λ txn e. absurd (none-some txn (sym next.txn ∙ e));
      acts = λ txn e. absurd (none-some txn (sym next.txn ∙ e));
      unstamped = λ reads. next.txn;
      seq = subst (λ (id : TxnId). id.seq ≤ 16384) (sym next.id) upto;
    }

-- where no attempt of a client reads, none of it is the last that reads
none_last : (n k : ℕ) (all : List BegunView) → has_reading n all ≡ false
    → Each (λ (b : BegunView). b.state.id.client ≡ n → b.state.reading ≡ true → b.state.id.seq + 1 ≡ k) all
none_last n k [] e = tt
none_last n k (b ∷ all) e = ((λ same reads. absurd (false≢true (sym here_not ∙ here same reads))), none_last n k all rest_not)
  where
    or_left : (a t : Bool) → (a || t) ≡ false → a ≡ false
    or_left true t h = h
    or_left false t h = refl

    or_right : (a t : Bool) → (a || t) ≡ false → t ≡ false
    or_right true t h = absurd (false≢true (sym h))
    or_right false t h = h

    here_not : (b.state.reading && b.state.id.client == n) ≡ false
    here_not = or_left (b.state.reading && b.state.id.client == n) (has_reading n all) e

    rest_not : has_reading n all ≡ false
    rest_not = or_right (b.state.reading && b.state.id.client == n) (has_reading n all) e

    here : b.state.id.client ≡ n → b.state.reading ≡ true → (b.state.reading && b.state.id.client == n) ≡ true
    here same reads = grind (arith, nat_tests, same, reads)

-- the client whose attempt begins
own-fits : (client : Client) (epoch : ℕ) (all : List BegunView) (new : BegunView) → ClientFits all client → client.reading ≡ false
    → new.state.id ≡ next_of client → ClientFits (all ++ new ∷ []) (client_begun epoch new.state.reading client)
own-fits client epoch all new h idle is =
    let of_client : new.state.id.client ≡ client.number = ap (λ (id : TxnId). id.client) is in
    let of_seq : new.state.id.seq ≡ client.next_seq = ap (λ (id : TxnId). id.seq) is in
    let none : has_reading client.number all ≡ false = sym h.reading ∙ idle in
    let here : (new.state.id.client == client.number) ≡ true = grind (arith, nat_tests, of_client) in
    record {
      reading =
          own_reading new.state.reading (new.state.id.client == client.number) (has_reading client.number all) here none
          ∙ sym (reading-append client.number all new);
      last_time = h.last_time;
      next_seq = Each-append (λ (b : BegunView). b.state.id.client ≡ client.number → b.state.id.seq < client.next_seq + 1) all (new ∷ [])
          (Each-weaker (λ (b : BegunView). b.state.id.client ≡ client.number → b.state.id.seq < client.next_seq) (λ (b : BegunView). b.state.id.client ≡ client.number → b.state.id.seq < client.next_seq + 1) (λ b less same. more b.state.id.seq client.next_seq (less same)) all h.next_seq)
          ((λ same. next_less new.state.id.seq client.next_seq of_seq), tt);
      last =
          Each-append (λ (b : BegunView). b.state.id.client ≡ client.number → b.state.reading ≡ true → b.state.id.seq + 1 ≡ client.next_seq + 1) all (new ∷ [])
          (none_last client.number (client.next_seq + 1) all none) ((λ same reads. ap (λ k. k + 1) of_seq), tt);
    }
  where
    own_reading : (reads same any : Bool) → same ≡ true → any ≡ false → reads ≡ (any || (reads && same))
    own_reading reads same any e k = rw (e, k) (and_true reads)
      where
        and_true : (b : Bool) → b ≡ (b && true)
        and_true true = refl
        and_true false = refl

    more : (a b : ℕ) → a < b → a < b + 1
    more a b less = omega arith

    next_less : (a b : ℕ) → a ≡ b → a < b + 1
    next_less a b e = omega arith

-- and any other
other-fits : (n : ℕ) (all : List BegunView) (new : BegunView) (client : Client) → new.state.id.client ≡ n → (client.number == n) ≡ false → ClientFits all client
    → ClientFits (all ++ new ∷ []) client
other-fits n all new client is other h =
    let apart : (new.state.id.client == client.number) ≡ false = grind (arith, nat_tests, is, other) in
    record {
      reading =
          h.reading ∙ same_reading new.state.reading (new.state.id.client == client.number) (has_reading client.number all) apart
          ∙ sym (reading-append client.number all new);
      last_time = h.last_time;
      next_seq =
          Each-append (λ (b : BegunView). b.state.id.client ≡ client.number → b.state.id.seq < client.next_seq) all (new ∷ []) h.next_seq
          ((λ same. absurd (not_of same)), tt);
      last =
          Each-append (λ (b : BegunView). b.state.id.client ≡ client.number → b.state.reading ≡ true → b.state.id.seq + 1 ≡ client.next_seq) all
          (new ∷ []) h.last ((λ same reads. absurd (not_of same)), tt);
    }
  where
    not_of : new.state.id.client ≡ client.number → ⊥
    not_of same = differs client.number n (sym same ∙ is) other
      where
        differs : (a b : ℕ) → a ≡ b → (a == b) ≡ false → ⊥
        differs a b e t = grind (arith, nat_tests, e, t)

    same_reading : (reads same any : Bool) → same ≡ false → any ≡ (any || (reads && same))
    same_reading reads same any e = rw e (by_both any reads)
      where
        by_both : (a b : Bool) → a ≡ (a || (b && false))
        by_both true b = refl
        by_both false true = refl
        by_both false false = refl

-- ---- clients after the beginning

home-begun : (n m epoch : ℕ) (reading : Bool) (all : List Client) → IsSome (kept_client m all)
    → IsSome (kept_client m (change_kept n (client_begun epoch reading) all))
home-begun n m epoch reading all h =
    subst IsSome (sym (find-change (λ (c : Client). c.number == n) (client_begun epoch reading) (λ (c : Client). c.number == m) (λ c. refl) all))
    (from (kept_client m all) h)
  where
    from : (o : Option Client) → IsSome o → IsSome (option_map (changed_member (λ (c : Client). c.number == n) (client_begun epoch reading)) o)
    from None k = absurd (false≢true k)
    from (Some client) k = refl

known-begun : (id : TxnId) (all : List BegunView) (new : BegunView) → IsSome (begun_of id all) → IsSome (begun_of id (all ++ new ∷ []))
known-begun id all new h = subst IsSome (sym (begun-append id all new)) (from (begun_of id all) h)
  where
    from : (o : Option BegunView) → IsSome o → IsSome (option_or o (cond (same_id new.state.id id) (Some new) None))
    from None k = absurd (false≢true k)
    from (Some begun) k = refl

work-begun : (n : ℕ) (all : List BegunView) (new : BegunView) (replicas : List Held) (work : KeptWork) → WorkFits n all replicas work
    → WorkFits n (all ++ new ∷ []) replicas work
work-begun n all new replicas KeptIdle h = tt
work-begun n all new replicas (KeptFetching id replica key) h = subst (MayRead key) (sym (begun-append id all new)) (from (begun_of id all) h)
  where
    from : (o : Option BegunView) → MayRead key o → MayRead key (option_or o (cond (same_id new.state.id id) (Some new) None))
    from None k = absurd k
    from (Some begun) k = k
work-begun n all new replicas (KeptValidating txn replica epoch state) h = h
work-begun n all new replicas (KeptFinishing replica left) h = h

-- a column in which a client's next attempt begins keeps what it keeps
pub IsKept-begun : (f : ℕ) (kept : Kept) (ends after : SettledAttempts) (client : Client) (epoch : ℕ) (new : BegunView) (clients : List Client)
    → IsKept f kept ends → kept_client client.number kept.clients ≡ Some client → client.reading ≡ false → client.next_seq ≤ 16384
    → IsNext f client new → SettlesNext ends after new
    → clients ≡ change_kept client.number (client_begun epoch new.state.reading) kept.clients
    → clients ≡ change_kept client.number (λ before. client_begun epoch new.state.reading client) kept.clients
    → IsKept f (record kept { clients = clients; attempts = kept.attempts ++ new ∷ [] }) after
IsKept-begun f kept ends after client epoch new clients h found idle upto next settles turned put =
    let n = client.number in
    let fits : ClientFits kept.attempts client = Each-find (ClientFits kept.attempts) (λ (c : Client). c.number == n) kept.clients client h.clients found in
    let none : begun_of new.state.id kept.attempts ≡ None = ap (λ id. begun_of id kept.attempts) next.id ∙ next-none client kept.attempts fits.next_seq in
    let learned = map learning_of_kept kept.learned in
    let of_client : new.state.id.client ≡ n = ap (λ (id : TxnId). id.client) next.id in
    let home : (m : ℕ) → IsSome (kept_client m kept.clients) → IsSome (kept_client m clients) =
    λ m k. subst (λ all. IsSome (kept_client m all)) (sym turned) (home-begun n m epoch new.state.reading kept.clients k) in
    record {
      replicas = h.replicas;
      attempts = Each-append (AttemptFits f kept.link learned) kept.attempts (new ∷ []) h.attempts (new-fits f kept ends client new h none upto next, tt);
      takeovers = h.takeovers;
      clients = subst (Each (ClientFits (kept.attempts ++ new ∷ []))) (sym put)
          (Each-turn (λ (c : Client). c.number == n) (λ before. client_begun epoch new.state.reading client) (ClientFits kept.attempts) (ClientFits (kept.attempts ++ new ∷ []))
          (λ c same k. own-fits client epoch kept.attempts new fits idle next.id)
          (λ c other k. other-fits n kept.attempts new c of_client other k) kept.clients h.clients);
      sent = h.sent;
      settled =
          λ id. settles id ∙ ap (λ b. b || (is_settled new.state && same_id id new.state.id)) (h.settled id)
          ∙ or_assoc (id.seq == 0) (passes (λ (b : BegunView). is_settled b.state) (begun_of id kept.attempts)) (is_settled new.state && same_id id new.state.id)
          ∙ ap (λ b. (id.seq == 0) || b) (sym (settled-append id kept.attempts new none));
      decisions = λ id away. h.decisions id (none-append id kept.attempts new away);
      validates = λ id away. h.validates id (none-append id kept.attempts new away);
      homes = Each-append (λ (b : BegunView). IsSome (kept_client b.state.id.client clients)) kept.attempts (new ∷ [])
          (Each-weaker (λ (b : BegunView). IsSome (kept_client b.state.id.client kept.clients)) (λ (b : BegunView). IsSome (kept_client b.state.id.client clients)) (λ b k. home b.state.id.client k) kept.attempts h.homes)
          (subst (λ m. IsSome (kept_client m clients)) (sym of_client) (home n (subst IsSome (sym found) refl)), tt);
      work = work-begun (members f) kept.attempts new kept.replicas kept.work h.work;
      takers =
          Each-weaker (λ (backup : BackupView). IsSome (begun_of backup.of.id kept.attempts))
          (λ (backup : BackupView). IsSome (begun_of backup.of.id (kept.attempts ++ new ∷ [])))
          (λ backup k. known-begun backup.of.id kept.attempts new k) kept.takeovers h.takers;
    }
  where
    or_assoc : (a b t : Bool) → ((a || b) || t) ≡ (a || (b || t))
    or_assoc true b t = refl
    or_assoc false b t = refl

-- ---- as the definitions have it

clients-begun : (n epoch : ℕ) (reading : Bool) (all clients : List Client) → clients ≡ change_kept n (client_begun epoch reading) all
    → client_states clients ≡ change (is_client n) (begun epoch) (client_states all)
clients-begun n epoch reading all clients is =
    ap client_states is
    ∙ map-change (λ (c : Client). c.number == n) (client_begun epoch reading) (is_client n) (begun epoch) client_state (λ c. refl) (λ c. refl) all

pub begin-after : (round : Setting) (kept : Kept) (client : Client) (replica epoch : ℕ) (clients : List Client)
    → kept_client client.number kept.clients ≡ Some client → epoch_of (slice_get round.views replica) ≡ epoch
    → clients ≡ change_kept client.number (client_begun epoch true) kept.clients
    → column_of (record kept { clients = clients; attempts = kept.attempts ++ as_begun round.faults (new_attempt round.faults (next_of client) replica epoch) ∷ [] }) ≡ column_after round (column_of kept) (Begin client.number replica)
begin-after round kept client replica epoch clients found is turned =
    let column = column_of kept in
    let n = client.number in
    let there : client_of column n ≡ Some (client_state client) = client-found n kept.clients ∙ ap (option_map client_state) found in
    let after : stepped round column (Begin n replica) ≡ beginning round replica epoch (client_state client) column =
    ap (λ o. on_some (beginning round replica (epoch_of (slice_get round.views replica))) o column) there
    ∙ ap (λ e. beginning round replica e (client_state client) column) is in
    (λ i. record column {
      clients = clients-begun n epoch true kept.clients clients turned i;
      attempts = map-append (λ (b : BegunView). b.state) kept.attempts (as_begun round.faults (new_attempt round.faults (next_of client) replica epoch) ∷ []) i;
      learned = sym (append-nil column.learned) i;
    })
    ∙ sym (ap (λ (col : ColumnState). record col { learned = column.learned ++ [] }) after)

pub unread-after : (round : Setting) (kept : Kept) (client : Client) (clients : List Client) → kept_client client.number kept.clients ≡ Some client
    → clients ≡ change_kept client.number (client_begun 0 false) kept.clients
    → column_of (record kept { clients = clients; attempts = kept.attempts ++ as_begun round.faults (unread_attempt round.faults (next_of client)) ∷ [] }) ≡ column_after round (column_of kept) (Unread client.number)
unread-after round kept client clients found turned =
    let column = column_of kept in
    let n = client.number in
    let there : client_of column n ≡ Some (client_state client) = client-found n kept.clients ∙ ap (option_map client_state) found in
    let after : stepped round column (Unread n) ≡ left_unread round (client_state client) column = ap (λ o. on_some (left_unread round) o column) there in
    (λ i. record column {
      clients = clients-begun n 0 false kept.clients clients turned i;
      attempts = map-append (λ (b : BegunView). b.state) kept.attempts (as_begun round.faults (unread_attempt round.faults (next_of client)) ∷ []) i;
      learned = sym (append-nil column.learned) i;
    })
    ∙ sym (ap (λ (col : ColumnState). record col { learned = column.learned ++ [] }) after)

-- ---- what the conditions of the beginning tell

-- a client of this number that may begin
pub record MayBegin (kept : Kept) (n : ℕ) (client : Client) : Type 0 where
  pub number : client.number ≡ n
  pub found : kept_client client.number kept.clients ≡ Some client
  pub idle : client.reading ≡ false
  pub upto : client.next_seq ≤ 16384

pub begin-there : (n : ℕ) (kept : Kept) → may_begin (column_of kept) n ≡ true → IsSome (kept_client n kept.clients)
begin-there n kept e = by_found (kept_client n kept.clients) refl
  where
    by_found : (o : Option Client) → kept_client n kept.clients ≡ o → IsSome o
    by_found None none = sym (may_begin-none n (column_of kept) kept.clients refl none) ∙ e
    by_found (Some client) found = refl

pub begin-facts : (f : ℕ) (kept : Kept) (ends : SettledAttempts) (n : ℕ) (client : Client) → IsKept f kept ends → may_begin (column_of kept) n ≡ true
    → has_seq_left (column_of kept) n ≡ true → kept_client n kept.clients ≡ Some client → MayBegin kept n client
begin-facts f kept ends n client h may left found =
    let is : client.number ≡ n = client-number n kept.clients client found in
    let there : client_of (column_of kept) n ≡ Some (client_state client) = client-found n kept.clients ∙ ap (option_map client_state) found in
    let not_reads : not client.reading ≡ true = sym (may_begin-found n (column_of kept) kept.clients kept.attempts client refl refl h.clients found) ∙ may in
    let seq : nat_le client.next_seq 16384 ≡ true = sym (ap (passes (λ (c : ClientState). nat_le c.next_seq 16384)) there) ∙ left in
    record { number = is; found = ap (λ k. kept_client k kept.clients) is ∙ found; idle = off client.reading not_reads; upto = grind (arith, nat_tests, seq) }
  where
    off : (b : Bool) → not b ≡ true → b ≡ false
    off true e = absurd (false≢true e)
    off false e = refl

-- clients of whom one is put in its place
abbrev pub Puts : List Client → List Client → Client → Type 0
Puts before clients after =
    (g : Client → Client) → IsSomeAnd (kept_client after.number before) (λ client. g client ≡ after) → clients ≡ change_kept after.number g before

pub puts-turned : (before clients : List Client) (client after : Client) (g : Client → Client) → after.number ≡ client.number
    → kept_client client.number before ≡ Some client → g client ≡ after → Puts before clients after → clients ≡ change_kept client.number g before
puts-turned before clients client after g same found turns puts =
    subst (λ k. IsSomeAnd (kept_client k before) (λ c. g c ≡ after) → clients ≡ change_kept k g before) same (puts g)
    (subst (λ o. IsSomeAnd o (λ c. g c ≡ after)) (sym found) turns)

-- ---- the two beginnings

pub begin-kept : (f : ℕ) (kept : Kept) (ends : SettledAttempts) (n : ℕ) (client : Client) (replica epoch : ℕ) (new : BegunView) (after : Client) (clients : List Client) (attempts : List BegunView)
    → IsKept f kept ends → MayBegin kept n client
    → new ≡ as_begun f (new_attempt f (next_of client) replica epoch) → after ≡ client_begun epoch true client → Puts kept.clients clients after
    → attempts ≡ kept.attempts ++ new ∷ []
    → IsKept f (record kept { clients = clients; attempts = attempts }) ends
begin-kept f kept ends n client replica epoch new after clients attempts h may is is_after puts pushed =
    let begun_one = as_begun f (new_attempt f (next_of client) replica epoch) in
    let same : after.number ≡ client.number = ap (λ (c : Client). c.number) is_after in
    let turned : clients ≡ change_kept client.number (client_begun epoch true) kept.clients =
    puts-turned kept.clients clients client after (client_begun epoch true) same may.found (sym is_after) puts in
    let put : clients ≡ change_kept client.number (λ before. client_begun epoch true client) kept.clients =
    puts-turned kept.clients clients client after (λ before. client_begun epoch true client) same may.found (sym is_after) puts in
    subst (λ all. IsKept f (record kept { clients = clients; attempts = all }) ends) (sym (pushed ∙ ap (λ b. kept.attempts ++ b ∷ []) is))
    (IsKept-begun f kept ends ends client epoch begun_one clients h may.found may.idle may.upto (record { faults = refl; id = refl; txn = refl; validated = refl; decided = refl }) (λ id. or_off (is_kept_settled ends id)) turned put)
  where
    or_off : (b : Bool) → b ≡ (b || false)
    or_off true = refl
    or_off false = refl

pub begin-state : (round : Setting) (kept : Kept) (n : ℕ) (client : Client) (replica : ℕ) (view : ReplicaView) (new : BegunView) (after : Client) (clients : List Client) (attempts : List BegunView)
    → MayBegin kept n client
    → passes (serves_from (heard_by (column_of kept) n)) (slice_get round.views replica) ≡ true → view ≡ get_or round.views replica view
    → new ≡ as_begun round.faults (new_attempt round.faults (next_of client) replica view.epoch) → after ≡ client_begun view.epoch true client
    → Puts kept.clients clients after → attempts ≡ kept.attempts ++ new ∷ []
    → column_of (record kept { clients = clients; attempts = attempts }) ≡ column_after round (column_of kept) (Begin n replica)
begin-state round kept n client replica view new after clients attempts may serves seen is is_after puts pushed =
    let same : after.number ≡ client.number = ap (λ (c : Client). c.number) is_after in
    let turned : clients ≡ change_kept client.number (client_begun view.epoch true) kept.clients =
    puts-turned kept.clients clients client after (client_begun view.epoch true) same may.found (sym is_after) puts in
    ap (λ all. column_of (record kept { clients = clients; attempts = all })) (pushed ∙ ap (λ b. kept.attempts ++ b ∷ []) is)
    ∙ begin-after round kept client replica view.epoch clients may.found (epoch-at (serves_from (heard_by (column_of kept) n)) round.views replica view serves seen) turned
    ∙ ap (λ k. column_after round (column_of kept) (Begin k replica)) may.number
  where
    epoch-at : (test : ReplicaView → Bool) (views : List ReplicaView) (r : ℕ) (v : ReplicaView) → passes test (slice_get views r) ≡ true → v ≡ get_or views r v
        → epoch_of (slice_get views r) ≡ v.epoch
    epoch-at test [] r v passed e = absurd (false≢true passed)
    epoch-at test (first ∷ views) zero v passed e = ap (λ (w : ReplicaView). w.epoch) (sym e)
    epoch-at test (first ∷ views) (suc r) v passed e = epoch-at test views r v passed e

pub unread-kept : (f : ℕ) (kept : Kept) (ends later : SettledAttempts) (n : ℕ) (client : Client) (new : BegunView) (after : Client) (clients : List Client) (attempts : List BegunView)
    → IsKept f kept ends → MayBegin kept n client
    → new ≡ as_begun f (unread_attempt f (next_of client)) → after ≡ client_begun 0 false client → Puts kept.clients clients after
    → attempts ≡ kept.attempts ++ new ∷ [] → AlsoSettles ends later (next_of client)
    → IsKept f (record kept { clients = clients; attempts = attempts }) later
unread-kept f kept ends later n client new after clients attempts h may is is_after puts pushed settles =
    let begun_one = as_begun f (unread_attempt f (next_of client)) in
    let same : after.number ≡ client.number = ap (λ (c : Client). c.number) is_after in
    let turned : clients ≡ change_kept client.number (client_begun 0 false) kept.clients =
    puts-turned kept.clients clients client after (client_begun 0 false) same may.found (sym is_after) puts in
    let put : clients ≡ change_kept client.number (λ before. client_begun 0 false client) kept.clients =
    puts-turned kept.clients clients client after (λ before. client_begun 0 false client) same may.found (sym is_after) puts in
    subst (λ all. IsKept f (record kept { clients = clients; attempts = all }) later) (sym (pushed ∙ ap (λ b. kept.attempts ++ b ∷ []) is))
    (IsKept-begun f kept ends later client 0 begun_one clients h may.found may.idle may.upto (record { faults = refl; id = refl; txn = refl; validated = refl; decided = refl })
    (λ id. settles id ∙ ap (λ b. is_kept_settled ends id || b) (turned_about (next_of client) id)) turned put)
  where
    turned_about : (a b : TxnId) → same_id a b ≡ same_id b a
    turned_about a b = by_test (same_id a b) (same_id b a) refl refl
      where
        by_test : (s t : Bool) → same_id a b ≡ s → same_id b a ≡ t → s ≡ t
        by_test true true e k = refl
        by_test false false e k = refl
        by_test true false e k = grind (arith, nat_tests, e, k)
        by_test false true e k = grind (arith, nat_tests, e, k)

pub unread-state : (round : Setting) (kept : Kept) (n : ℕ) (client : Client) (new : BegunView) (after : Client) (clients : List Client) (attempts : List BegunView)
    → MayBegin kept n client
    → new ≡ as_begun round.faults (unread_attempt round.faults (next_of client)) → after ≡ client_begun 0 false client → Puts kept.clients clients after
    → attempts ≡ kept.attempts ++ new ∷ []
    → column_of (record kept { clients = clients; attempts = attempts }) ≡ column_after round (column_of kept) (Unread n)
unread-state round kept n client new after clients attempts may is is_after puts pushed =
    let same : after.number ≡ client.number = ap (λ (c : Client). c.number) is_after in
    let turned : clients ≡ change_kept client.number (client_begun 0 false) kept.clients =
    puts-turned kept.clients clients client after (client_begun 0 false) same may.found (sym is_after) puts in
    ap (λ all. column_of (record kept { clients = clients; attempts = all })) (pushed ∙ ap (λ b. kept.attempts ++ b ∷ []) is)
    ∙ unread-after round kept client clients may.found turned
    ∙ ap (λ k. column_after round (column_of kept) (Unread k)) may.number

-- what was copied is there
pub some-of-copied : {X : Type 0} (o : Option (Bor X)) → IsSome (option_copied o) → IsSome o
some-of-copied None h = h
some-of-copied (Some x) h = refl

-- what a call ensures where it answers Ok, it ensures where its answer is no error
pub ensured-ok : {T E : Type 0} (r : Result T E) (P : Type 0) → is_err r ≡ false → OnOk r P → P
ensured-ok (Ok x) P e h = h
ensured-ok (Err x) P e h = absurd (false≢true (sym e))
