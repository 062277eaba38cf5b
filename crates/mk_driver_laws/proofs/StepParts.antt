-- Parts of steps: attempts, takeovers and clients that change, and messages that are sent.
use Rattle.std.proofs.Common.{◌≡◌, ◌∙◌, ◌<◌, ℕ, zero, suc, ◌+◌, Bool, true, false, refl, sym, subst, ap, arith, inl, List, [], ◌∷◌, ◌++◌, map, length, Option, Some, None, nat_lt}
use Rattle.std.specs.Prelude.{is_some, find, option_map, nat_le}
use Rattle.std.specs.List.{list_any}
use Rattle.std.proofs.lemmas.Bool.Decides.{nat_tests}
use Rattle.mk_lists.specs.Among.{Each}
use Rattle.mk_lists.specs.Changed.{change}
use Rattle.mk_lists.proofs.Changes.{find-change, find-change_other}
use Rattle.mk_txn.specs.declared.TxnId.{TxnId}
use Rattle.mk_txn.specs.declared.ReadItem.{ReadItem}
use Rattle.mk_txn.specs.declared.WriteItem.{WriteItem}
use Rattle.mk_txn.specs.declared.Vote.{Vote}
use Rattle.mk_txn.specs.Transactions.{Transaction, same_id}
use Rattle.mk_txn.specs.Outcomes.{is_ok_vote}
use Rattle.mk_txn.proofs.IdOrder.{same_id-apart, same_id-tells}
use Rattle.mk_words.specs.declared.Msg.{Msg}
use Rattle.mk_words.specs.declared.Body.{Body}
use Rattle.mk_quorum.specs.Counts.{count_below}
use Rattle.mk_quorum.specs.Sizes.{members, majority_of, fast_of}
use Rattle.mk_quorum.specs.Slots.{passes, slot, count_slots, empty_slots}
use Rattle.mk_quorum.proofs.Slots.{slot-empty}
use Rattle.mk_words.specs.Validations.{next_act, validation_of}
use Rattle.mk_words.specs.Rulings.{new_coord, ruling, is_abort_vote, any_vote}
use Rattle.mk_words.specs.declared.Step.{Step}
use Rattle.mk_model.specs.ColumnState.{ColumnState, AttemptState, TakeoverOf, attempt_of, takeover_of, is_attempt, is_client, is_takeover, to_all, numbers_from}
use Rattle.mk_model.specs.Conditions.{is_validate_of, is_stamped, on_attempt, acts_on}
use Rattle.mk_driver_laws.proofs.Lookups.{each_map, none_changed}
use Rattle.mk_driver_laws.proofs.ColumnMoves.{WasSent, stops, validates, ColumnFits, WorkFits, AttemptKept, AttemptMove, MessageFits, Moves}
use Rattle.mk_driver_laws.proofs.ColumnMoves.AttemptMove.{Stays, Changes}

-- ---- attempts

-- the attempt of one number changes
pub changed_moves : (f : ℕ) (link : List Msg) (step : Step) (other : TxnId) (g : AttemptState → AttemptState) (xs : List AttemptState) →
    ((a : AttemptState) → (g a).id ≡ a.id) →
    ((a : AttemptState) → find (is_attempt other) xs ≡ Some a → AttemptKept link (stops step other) other a (g a)) → (id : TxnId) →
    AttemptMove f link (stops step id) id (find (is_attempt id) xs) (find (is_attempt id) (change (is_attempt other) g xs))
changed_moves f link step other g xs same kept id = by (same_id other id) refl
  where
    keeps : (i : TxnId) (a : AttemptState) → is_attempt i (g a) ≡ is_attempt i a
    keeps i a = ap (λ (x : TxnId). same_id x i) (same a)

    here : (o : Option AttemptState) → find (is_attempt other) xs ≡ o →
        AttemptMove f link (stops step other) other (find (is_attempt other) xs) (find (is_attempt other) (change (is_attempt other) g xs))
    here None e =
        let after = find-change (is_attempt other) g xs (keeps other) in
        Stays (after ∙ ap (option_map g) e ∙ sym e)
    here (Some a) e =
        let after = find-change (is_attempt other) g xs (keeps other) in
        Changes a (g a) e (after ∙ ap (option_map g) e) (kept a e)

    by : (b : Bool) → same_id other id ≡ b → AttemptMove f link (stops step id) id (find (is_attempt id) xs) (find (is_attempt id) (change (is_attempt other) g xs))
    by true e =
        subst (λ (i : TxnId). AttemptMove f link (stops step i) i (find (is_attempt i) xs) (find (is_attempt i) (change (is_attempt other) g xs)))
        (same_id-tells other id e) (here (find (is_attempt other) xs) refl)
    by false e = Stays (find-change_other (is_attempt other) (is_attempt id) g xs (λ x t. same_id-apart x.id other id e t) (keeps id))

-- ---- messages

-- a message of a stamped attempt, of which a Validate was sent, and none itself
pub plain_fits : (c : ColumnState) (step : Step) (m : Msg) → on_attempt c m.id is_stamped ≡ true → WasSent c.link m.id →
    ((id : TxnId) → is_validate_of id m ≡ false) → MessageFits c step m
plain_fits c step m s w q = record { stamped = s; sent = inl w; quiet = λ id e. q id }

pub to_all_fit : (c : ColumnState) (step : Step) (f epoch : ℕ) (id : TxnId) (view : ℕ) (body : Body) → on_attempt c id is_stamped ≡ true → WasSent c.link id →
    ((i : TxnId) (r : ℕ) → is_validate_of i (record { epoch = epoch; id = id; replica = r; view = view; body = body }) ≡ false) →
    Each (MessageFits c step) (to_all f epoch id view body)
to_all_fit c step f epoch id view body s w q =
    each_map (MessageFits c step) (λ r. record { epoch = epoch; id = id; replica = r; view = view; body = body })
    (λ r. plain_fits c step (record { epoch = epoch; id = id; replica = r; view = view; body = body }) s w (λ i. q i r)) (numbers_from 0 (members f))

-- one of them is sent at all
any_number : (p : Msg → Bool) (g : ℕ → Msg) (n : ℕ) → 0 < n → ((r : ℕ) → p (g r) ≡ true) → list_any p (map g (numbers_from 0 n)) ≡ true
any_number p g zero h e = absurd (omega (arith, h))
any_number p g (suc n) h e = let first = e 0 in grind (arith, first)

pub some_to_all : (p : Msg → Bool) (f epoch : ℕ) (id : TxnId) (view : ℕ) (body : Body) →
    ((r : ℕ) → p (record { epoch = epoch; id = id; replica = r; view = view; body = body }) ≡ true) → list_any p (to_all f epoch id view body) ≡ true
some_to_all p f epoch id view body e =
    any_number p (λ r. record { epoch = epoch; id = id; replica = r; view = view; body = body }) (members f) (omega arith) e

-- ---- coordinators

none_count : (n : ℕ) (p : ℕ → Bool) → ((r : ℕ) → p r ≡ false) → count_below n p ≡ 0
none_count zero p h = refl
none_count (suc n) p h = let first = h n in grind (arith, first, none_count n p h)

no_votes : (f : ℕ) (p : Vote → Bool) → count_slots (members f) p (empty_slots (members f)) ≡ 0
no_votes f p = none_count (members f) (λ r. passes p (slot (empty_slots (members f)) r)) (λ r. ap (passes p) (slot-empty (members f) r))

-- a coordinator that has taken nothing has nothing to do
pub new_rules_nothing : (f : ℕ) → acts_on (ruling f (new_coord f)) ≡ false
new_rules_nothing f =
    let oks = no_votes f is_ok_vote in
    let aborts = no_votes f is_abort_vote in
    let all = no_votes f any_vote in
    let fast : nat_le (fast_of f) 0 ≡ false = grind (arith, nat_tests) in
    let short : nat_lt 0 (majority_of f) ≡ true = grind (arith, nat_tests) in
    grind (arith, oks, aborts, all, fast, short)

-- ---- transactions

some_checks : (txn : Transaction) (reads : List ReadItem) (writes : List WriteItem) → txn.reads ≡ reads → txn.writes ≡ writes →
    nat_lt 0 (length reads + length writes) ≡ true → is_some (next_act (validation_of txn)) ≡ true
some_checks txn (x ∷ reads) writes r w e = grind (arith, r)
some_checks txn [] (x ∷ writes) r w e = grind (arith, r, w)
some_checks txn [] [] r w e = absurd (cc e)

-- a transaction that reads or writes has something to check
pub has_checks : (txn : Transaction) → nat_lt 0 (length txn.reads + length txn.writes) ≡ true → is_some (next_act (validation_of txn)) ≡ true
has_checks txn e = some_checks txn txn.reads txn.writes refl refl e

-- ---- all of it

-- a step that changes only attempts, the messages and the key calls under way
pub moves_by : (f : ℕ) (c new : ColumnState) (step : Step) → ColumnFits f c →
    ((id : TxnId) → AttemptMove f c.link (stops step id) id (attempt_of c id) (attempt_of new id)) →
    ((id : TxnId) → attempt_of c id ≡ None → attempt_of new id ≡ None) →
    new.clients ≡ c.clients → ((id : TxnId) (view : ℕ) (t : TakeoverOf) → takeover_of new id view ≡ Some t → WasSent c.link id) →
    (ms : List Msg) → new.link ≡ c.link ++ ms → Each (MessageFits c step) ms → ((id : TxnId) → validates step id ≡ true → WasSent new.link id) →
    WorkFits c.link new.work → Moves f c new step
moves_by f c new step k attempts none clients takeovers ms link fit validated work =
    record {
      attempts = attempts;
      messages = ms;
      link = link;
      fit = fit;
      validated = validated;
      takeovers = takeovers;
      work = work;
      clients = λ n cl e. (cl, ap (find (is_client n)) (sym clients) ∙ e, omega arith);
      begun = λ id a o n. absurd (cc (sym (none id o) ∙ n));
    }

-- one that leaves the attempts too
pub moves_plain : (f : ℕ) (c new : ColumnState) (step : Step) → ColumnFits f c → new.attempts ≡ c.attempts →
    new.clients ≡ c.clients → new.takeovers ≡ c.takeovers →
    (ms : List Msg) → new.link ≡ c.link ++ ms → Each (MessageFits c step) ms → ((id : TxnId) → validates step id ≡ true → WasSent new.link id) →
    WorkFits c.link new.work → Moves f c new step
moves_plain f c new step k attempts clients takeovers ms link fit validated work =
    moves_by f c new step k (λ id. Stays (ap (find (is_attempt id)) attempts)) (λ id o. ap (find (is_attempt id)) attempts ∙ o) clients
    (λ id view t e. k.takeovers id view t (ap (find (is_takeover id view)) (sym takeovers) ∙ e)) ms link fit validated work

-- one that changes attempts of one number
pub moves_changed : (f : ℕ) (c new : ColumnState) (step : Step) → ColumnFits f c → (other : TxnId) (g : AttemptState → AttemptState) →
    new.attempts ≡ change (is_attempt other) g c.attempts → ((a : AttemptState) → (g a).id ≡ a.id) →
    ((a : AttemptState) → attempt_of c other ≡ Some a → AttemptKept c.link (stops step other) other a (g a)) →
    new.clients ≡ c.clients → new.takeovers ≡ c.takeovers →
    (ms : List Msg) → new.link ≡ c.link ++ ms → Each (MessageFits c step) ms → ((id : TxnId) → validates step id ≡ true → WasSent new.link id) →
    WorkFits c.link new.work → Moves f c new step
moves_changed f c new step k other g attempts same kept clients takeovers ms link fit validated work =
    moves_by f c new step k
    (λ id. subst (λ (l : List AttemptState). AttemptMove f c.link (stops step id) id (attempt_of c id) (find (is_attempt id) l)) (sym attempts)
    (changed_moves f c.link step other g c.attempts same kept id))
    (λ id o. ap (find (is_attempt id)) attempts
    ∙ none_changed (is_attempt other) (is_attempt id) g c.attempts (λ a. ap (λ (x : TxnId). same_id x id) (same a)) o) clients
    (λ id view t e. k.takeovers id view t (ap (find (is_takeover id view)) (sym takeovers) ∙ e)) ms link fit validated work
