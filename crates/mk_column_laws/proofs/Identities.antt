-- Every step keeps attempts numbered and stamps rising.
use Rattle.std.proofs.Common.{◌≡◌, ◌⊎◌, ◌<◌, ◌≤◌, ◌∙◌, ◌+◌, ◌^◌, ℕ, Bool, true, false, refl, arith, inl, inr, sym, ap, subst, List, [], ◌∷◌, ◌++◌, Option, Some, None, max}
use Rattle.std.specs.Prelude.{option_map, ◌==◌, nat_lt, if◌then◌else◌}
use Rattle.std.proofs.lemmas.Bool.Decides.{nat_tests}
use Rattle.std.proofs.lemmas.Option.{none-some, same_Some}
use Rattle.std.proofs.lemmas.Bool.{eqb-true}
use Rattle.mk_lists.specs.Changed.{change}
use Rattle.mk_lists.proofs.Lookups.{find-append_some, find-passes, find_push, find_push_cases}
use Rattle.mk_lists.proofs.Changes.{find-change}
use Rattle.mk_txn.specs.declared.TxnId.{TxnId}
use Rattle.mk_txn.specs.declared.Stamp.{Stamp as StampType}
use Rattle.mk_txn.specs.declared.ReadItem.{ReadItem}
use Rattle.mk_txn.specs.declared.WriteItem.{WriteItem}
use Rattle.mk_txn.specs.Stamps.{next_stamp_of, fresh_time, time_above_reads}
use Rattle.mk_txn.specs.Transactions.{Transaction, same_id, is_above_reads}
use Rattle.mk_txn.proofs.IdOrder.{same_id-apart, same_id-itself, same_id-tells}
use Rattle.mk_model.specs.ColumnState.{ClientState, AttemptState, is_client, is_attempt}
use Rattle.mk_model.specs.Steps.{next_id, begun, stamped_txn, with_txn, with_last_time}
use Rattle.mk_column_laws.specs.Identity.{Identity, IsClients, IsStampedBy, client_in, attempt_in}
use Rattle.mk_column_laws.proofs.Tables as tables

-- ---- keys of tables

client_decide : (k n : ℕ) → (n ≡ k) ⊎ ((c : ClientState) → is_client k c ≡ true → is_client n c ≡ false)
client_decide k n = by (n == k) refl
  where
    by : (b : Bool) → (n == k) ≡ b → (n ≡ k) ⊎ ((c : ClientState) → is_client k c ≡ true → is_client n c ≡ false)
    by true e = inl (eqb-true n k e)
    by false e = inr (λ c t. grind (arith, nat_tests, e, t))

attempt_decide : (k n : TxnId) → (n ≡ k) ⊎ ((a : AttemptState) → is_attempt k a ≡ true → is_attempt n a ≡ false)
attempt_decide k n = by (same_id k n) refl
  where
    by : (b : Bool) → same_id k n ≡ b → (n ≡ k) ⊎ ((a : AttemptState) → is_attempt k a ≡ true → is_attempt n a ≡ false)
    by true e = inl (sym (same_id-tells k n e))
    by false e = inr (λ a t. same_id-apart a.id k n e t)

pub number_of : (clients : List ClientState) (n : ℕ) (c : ClientState) → client_in clients n ≡ Some c → c.number ≡ n
number_of clients n c e = eqb-true c.number n (find-passes (is_client n) clients c e)

module _ (number : ℕ) (f : ClientState → ClientState) (same : (c : ClientState) → (f c).number ≡ c.number) where
  pub client_kept : (clients : List ClientState) (n : ℕ) (c : ClientState) → client_in clients n ≡ Some c →
      (d : ClientState) × (client_in (change (is_client number) f clients) n ≡ Some d) × ((d ≡ c) ⊎ ((n ≡ number) × (d ≡ f c)))
  client_kept clients n c e = tables.kept is_client number f (λ k x. ap (λ (y : ℕ). y == k) (same x)) (client_decide number) clients n c e

  pub client_back : (clients : List ClientState) (n : ℕ) (d : ClientState) → client_in (change (is_client number) f clients) n ≡ Some d →
      (c : ClientState) × (client_in clients n ≡ Some c) × ((d ≡ c) ⊎ ((n ≡ number) × (d ≡ f c)))
  client_back clients n d e = tables.back is_client number f (λ k x. ap (λ (y : ℕ). y == k) (same x)) (client_decide number) clients n d e

module _ (id : TxnId) (g : AttemptState → AttemptState) (same : (a : AttemptState) → (g a).id ≡ a.id) where
  pub attempt_kept : (attempts : List AttemptState) (other : TxnId) (a : AttemptState) → attempt_in attempts other ≡ Some a →
      (b : AttemptState) × (attempt_in (change (is_attempt id) g attempts) other ≡ Some b) × ((b ≡ a) ⊎ ((other ≡ id) × (b ≡ g a)))
  attempt_kept attempts other a e = tables.kept is_attempt id g (λ k x. ap (λ (y : TxnId). same_id y k) (same x)) (attempt_decide id) attempts other a e

  pub attempt_back : (attempts : List AttemptState) (other : TxnId) (b : AttemptState) → attempt_in (change (is_attempt id) g attempts) other ≡ Some b →
      (a : AttemptState) × (attempt_in attempts other ≡ Some a) × ((b ≡ a) ⊎ ((other ≡ id) × (b ≡ g a)))
  attempt_back attempts other b e = tables.back is_attempt id g (λ k x. ap (λ (y : TxnId). same_id y k) (same x)) (attempt_decide id) attempts other b e

-- ---- changes that name nothing anew

-- a client with the same last time and the same next place
abbrev pub SameClient : ClientState → ClientState → Type 0
SameClient c d = (d.last_time ≡ c.last_time) × (d.next_seq ≡ c.next_seq)

-- an attempt with the same transaction, which does not read anew
abbrev pub SameAttempt : AttemptState → AttemptState → Type 0
SameAttempt a b = (b.txn ≡ a.txn) × (b.reading ≡ true → a.reading ≡ true)

pub aside : (clients clients' : List ClientState) (attempts attempts' : List AttemptState) → Identity clients attempts →
    ((n : ℕ) (c : ClientState) → client_in clients n ≡ Some c → (d : ClientState) × (client_in clients' n ≡ Some d) × SameClient c d) →
    ((n : ℕ) (d : ClientState) → client_in clients' n ≡ Some d → (c : ClientState) × (client_in clients n ≡ Some c) × SameClient c d) →
    ((id : TxnId) (a : AttemptState) → attempt_in attempts id ≡ Some a → (b : AttemptState) × (attempt_in attempts' id ≡ Some b)) →
    ((id : TxnId) (b : AttemptState) → attempt_in attempts' id ≡ Some b → (a : AttemptState) × (attempt_in attempts id ≡ Some a) × SameAttempt a b) →
    Identity clients' attempts'
aside clients clients' attempts attempts' h forth back there' before =
    record {
      numbered = λ n d e. let c = back n d e in omega (arith, h.numbered n c.0 c.1, c.2.1);
      attempts = λ id b e.
          let a = before id b e in
          let k = h.attempts id a.0 a.1 in
          let d = forth id.client k.client k.found in
          record { client = d.0; found = d.1; from_one = k.from_one; begun = omega (arith, k.begun, d.2.1); last_reads = λ r. d.2.1 ∙ k.last_reads (a.2.1 r) };
      all_there = λ n seq d e one less.
          let c = back n d e in
          let a = h.all_there n seq c.0 c.1 one (omega (arith, less, c.2.1)) in
          there' (record { client = n; seq = seq }) a.0 a.1;
      stamps = λ id b t e s.
          let a = before id b e in
          let k = h.stamps id a.0 t a.1 (sym a.2.0 ∙ s) in
          let d = forth id.client k.client k.found in
          record { client = d.0; found = d.1; of_client = k.of_client; from_one = k.from_one; not_above = omega (arith, k.not_above, d.2.0); above_reads = k.above_reads };
      rise = λ id other b c t u e f s r same less.
          let x = before id b e in
          let y = before other c f in
          h.rise id other x.0 y.0 t u x.1 y.1 (sym x.2.0 ∙ s) (sym y.2.0 ∙ r) same less;
    }

module _ (clients : List ClientState) (attempts : List AttemptState) (h : Identity clients attempts) where
  -- one attempt changes
  pub attempt_aside : (id : TxnId) (g : AttemptState → AttemptState) → ((a : AttemptState) → (g a).id ≡ a.id) → ((a : AttemptState) → SameAttempt a (g a)) → Identity clients (change (is_attempt id) g attempts)
  attempt_aside id g same quiet =
      aside clients clients attempts (change (is_attempt id) g attempts) h (λ n c e. (c, e, (refl, refl))) (λ n c e. (c, e, (refl, refl)))
      (λ other a e. let b = attempt_kept id g same attempts other a e in (b.0, b.1))
      (λ other b e. let a = attempt_back id g same attempts other b e in (a.0, a.1, by a.0 b a.2))
    where
      by : {n : TxnId} (a b : AttemptState) → (b ≡ a) ⊎ ((n ≡ id) × (b ≡ g a)) → SameAttempt a b
      by a b (inl e) = (ap (λ (x : AttemptState). x.txn) e, λ r. subst (λ (x : AttemptState). x.reading ≡ true) e r)
      by a b (inr e) = subst (SameAttempt a) (sym e.1) (quiet a)

  -- one client changes
  pub client_aside : (number : ℕ) (f : ClientState → ClientState) → ((c : ClientState) → (f c).number ≡ c.number) → ((c : ClientState) → SameClient c (f c)) → Identity (change (is_client number) f clients) attempts
  client_aside number f same quiet =
      aside clients (change (is_client number) f clients) attempts attempts h
      (λ n c e. let d = client_kept number f same clients n c e in (d.0, d.1, by c d.0 d.2))
      (λ n d e. let c = client_back number f same clients n d e in (c.0, c.1, by c.0 d c.2))
      (λ id a e. (a, e)) (λ id a e. (a, e, (refl, λ r. r)))
    where
      by : {n : ℕ} (c d : ClientState) → (d ≡ c) ⊎ ((n ≡ number) × (d ≡ f c)) → SameClient c d
      by c d (inl e) = (ap (λ (x : ClientState). x.last_time) e, ap (λ (x : ClientState). x.next_seq) e)
      by c d (inr e) = subst (SameClient c) (sym e.1) (quiet c)

  -- ---- an attempt begins

  module _ (c : ClientState) (epoch : ℕ) (new : AttemptState) (found : client_in clients c.number ≡ Some c) (named : new.id ≡ next_id c) (unstamped : new.txn ≡ None)
      (quiet : (id : TxnId) (a : AttemptState) → attempt_in attempts id ≡ Some a → id.client ≡ c.number → a.reading ≡ true → ⊥) where
    after : List ClientState
    after = change (is_client c.number) (begun epoch) clients

    more : List AttemptState
    more = attempts ++ new ∷ []

    -- the client itself
    begun_client : client_in (change (is_client c.number) (begun epoch) clients) c.number ≡ Some (begun epoch c)
    begun_client =
        let d = client_kept c.number (begun epoch) (λ _. refl) clients c.number c found in
        by d.0 d.1 d.2
      where
        by : (d : ClientState) → client_in (change (is_client c.number) (begun epoch) clients) c.number ≡ Some d → (d ≡ c) ⊎ ((c.number ≡ c.number) × (d ≡ begun epoch c)) →
            client_in (change (is_client c.number) (begun epoch) clients) c.number ≡ Some (begun epoch c)
        by d e (inl same) = find-change (is_client c.number) (begun epoch) clients (λ _. refl) ∙ ap (option_map (begun epoch)) found
        by d e (inr same) = e ∙ ap Some same.1

    was_none : attempt_in attempts (next_id c) ≡ None
    was_none = by (attempt_in attempts (next_id c)) refl
      where
        by : (o : Option AttemptState) → attempt_in attempts (next_id c) ≡ o → attempt_in attempts (next_id c) ≡ None
        by None e = e
        by (Some a) e =
            let k = h.attempts (next_id c) a e in
            let same : k.client ≡ c = same_Some k.client c (sym k.found ∙ found) in
            absurd (let less : c.next_seq < c.next_seq = subst (λ (x : ClientState). c.next_seq < x.next_seq) same k.begun in omega (arith, less))

    -- an attempt that is found afterwards
    was : (id : TxnId) (b : AttemptState) → attempt_in (attempts ++ new ∷ []) id ≡ Some b → (attempt_in attempts id ≡ Some b) ⊎ ((id ≡ next_id c) × (b ≡ new))
    was id b e = elim (find_push_cases (is_attempt id) attempts new b e) [
      | inl old ↦ inl old
      | inr k ↦ inr (sym (same_id-tells new.id id k.1.1) ∙ named, sym k.1.0)
    ]

    kept_client : (n : ℕ) (x : ClientState) → client_in clients n ≡ Some x → (d : ClientState) × (client_in (change (is_client c.number) (begun epoch) clients) n ≡ Some d) × ((d.last_time ≡ x.last_time) × (x.next_seq ≤ d.next_seq) × ((n ≡ c.number → ⊥) → d.next_seq ≡ x.next_seq))
    kept_client n x e =
        let d = client_kept c.number (begun epoch) (λ _. refl) clients n x e in
        (d.0, d.1, by d.0 d.2)
      where
        by : (d : ClientState) → (d ≡ x) ⊎ ((n ≡ c.number) × (d ≡ begun epoch x)) → (d.last_time ≡ x.last_time) × (x.next_seq ≤ d.next_seq) × ((n ≡ c.number → ⊥) → d.next_seq ≡ x.next_seq)
        by d (inl same) = (ap (λ (y : ClientState). y.last_time) same, (let k = ap (λ (y : ClientState). y.next_seq) same in omega (arith, k)), λ _. ap (λ (y : ClientState). y.next_seq) same)
        by d (inr same) = (ap (λ (y : ClientState). y.last_time) same.1, (let k = ap (λ (y : ClientState). y.next_seq) same.1 in omega (arith, k)), λ other. absurd (other same.0))

    pub begins : Identity (change (is_client c.number) (begun epoch) clients) (attempts ++ new ∷ [])
    begins =
        record {
          numbered = λ n d e. let x = client_back c.number (begun epoch) (λ _. refl) clients n d e in positive x.0 d (h.numbered n x.0 x.1) x.2;
          attempts = λ id b e. elim (was id b e) [ inl old ↦ old_attempt id b old | inr k ↦ subst (λ (x : TxnId). IsClients (change (is_client c.number) (begun epoch) clients) x b) (sym k.0) (new_attempt_is b) ];
          all_there = λ n seq d e one less. let x = client_back c.number (begun epoch) (λ _. refl) clients n d e in found_there n seq x.0 d x.1 x.2 one less;
          stamps = λ id b t e s. elim (was id b e) [
            | inl old ↦ (let k = h.stamps id b t old s in
                let d = kept_client id.client k.client k.found in
                record { client = d.0; found = d.1; of_client = k.of_client; from_one = k.from_one; not_above = omega (arith, k.not_above, d.2.0); above_reads = k.above_reads })
            | inr k ↦ absurd (none-some t (sym (ap (λ (x : AttemptState). x.txn) k.1 ∙ unstamped) ∙ s))
          ];
          rise = λ id other a b t u e f s r same less. elim (was id a e) [
            | inl old ↦ elim (was other b f) [
              | inl old' ↦ h.rise id other a b t u old old' s r same less
              | inr k ↦ absurd (none-some u (sym (ap (λ (x : AttemptState). x.txn) k.1 ∙ unstamped) ∙ r))
            ]
            | inr k ↦ absurd (none-some t (sym (ap (λ (x : AttemptState). x.txn) k.1 ∙ unstamped) ∙ s))
          ];
        }
      where
        positive : {n : ℕ} (x d : ClientState) → 1 ≤ x.next_seq → (d ≡ x) ⊎ ((n ≡ c.number) × (d ≡ begun epoch x)) → 1 ≤ d.next_seq
        positive x d one (inl e) = let k = ap (λ (y : ClientState). y.next_seq) e in omega (arith, k, one)
        positive x d one (inr e) = let k = ap (λ (y : ClientState). y.next_seq) e.1 in omega (arith, k, one)

        same_or_other : (a b : ℕ) → (a ≡ b) ⊎ (a ≡ b → ⊥)
        same_or_other a b = grind arith

        old_attempt : (id : TxnId) (b : AttemptState) → attempt_in attempts id ≡ Some b → IsClients (change (is_client c.number) (begun epoch) clients) id b
        old_attempt id b e =
            let k = h.attempts id b e in
            let d = kept_client id.client k.client k.found in
            record {
              client = d.0;
              found = d.1;
              from_one = k.from_one;
              begun = omega (arith, k.begun, d.2.1);
              last_reads = λ r. elim (same_or_other id.client c.number) [
                | inl same ↦ absurd (quiet id b e same r)
                | inr other ↦ d.2.2 other ∙ k.last_reads r
              ];
            }

        new_attempt_is : (b : AttemptState) → IsClients (change (is_client c.number) (begun epoch) clients) (next_id c) b
        new_attempt_is b =
            record { client = begun epoch c; found = begun_client; from_one = h.numbered c.number c found; begun = omega arith; last_reads = λ r. refl }

        found_there : (n seq : ℕ) (x d : ClientState) → client_in clients n ≡ Some x → (d ≡ x) ⊎ ((n ≡ c.number) × (d ≡ begun epoch x)) → 1 ≤ seq → seq < d.next_seq →
            (a : AttemptState) × (attempt_in (attempts ++ new ∷ []) (record { client = n; seq = seq }) ≡ Some a)
        found_there n seq x d e (inl same) one less =
            let k = ap (λ (y : ClientState). y.next_seq) same in
            let a = h.all_there n seq x e one (omega (arith, less, k)) in
            (a.0, find-append_some (is_attempt (record { client = n; seq = seq })) attempts (new ∷ []) a.0 a.1)
        found_there n seq x d e (inr same) one less = by (same_or_other seq c.next_seq)
          where
            is_c : x ≡ c
            is_c = same_Some x c (sym e ∙ (λ i. client_in clients (same.0 i)) ∙ found)

            by : (seq ≡ c.next_seq) ⊎ (seq ≡ c.next_seq → ⊥) → (a : AttemptState) × (attempt_in (attempts ++ new ∷ []) (record { client = n; seq = seq }) ≡ Some a)
            by (inl last) =
                let names : next_id c ≡ record { client = n; seq = seq } = λ i. record { client = sym same.0 i; seq = sym last i } in
                let passes : is_attempt (next_id c) new ≡ true = subst (λ (y : TxnId). same_id y (next_id c) ≡ true) (sym named) (same_id-itself (next_id c)) in
                (new, subst (λ (y : TxnId). attempt_in (attempts ++ new ∷ []) y ≡ Some new) names (find_push (is_attempt (next_id c)) attempts new was_none passes))
            by (inr not_last) =
                let k = ap (λ (y : ClientState). y.next_seq) same.1 in
                let l = ap (λ (y : ClientState). y.next_seq) is_c in
                let a = h.all_there n seq x e one (below seq x.next_seq (omega (arith, less, k)) (λ q. not_last (q ∙ l))) in
                (a.0, find-append_some (is_attempt (record { client = n; seq = seq })) attempts (new ∷ []) a.0 a.1)
              where
                below : (s t : ℕ) → s < t + 1 → (s ≡ t → ⊥) → s < t
                below s t lt ne = grind arith

  -- ---- an attempt is stamped

  module _ (a : AttemptState) (c : ClientState) (stamp : StampType) (writes : List WriteItem) (here : attempt_in attempts a.id ≡ Some a) (reads : a.reading ≡ true)
      (found : client_in clients a.id.client ≡ Some c) (above : c.last_time < stamp.time) (by_client : stamp.client ≡ c.number) (above_all : is_above_reads stamp a.reads ≡ true) where
    stamped_client : (n : ℕ) (x : ClientState) → client_in clients n ≡ Some x →
        (d : ClientState) × (client_in (change (is_client a.id.client) (with_last_time stamp.time) clients) n ≡ Some d) × (d.next_seq ≡ x.next_seq) × (x.last_time ≤ d.last_time)
    stamped_client n x e =
        let d = client_kept a.id.client (with_last_time stamp.time) (λ _. refl) clients n x e in
        let k = by d.0 d.2 in
        (d.0, d.1, k.0, k.1)
      where
        by : (d : ClientState) → (d ≡ x) ⊎ ((n ≡ a.id.client) × (d ≡ with_last_time stamp.time x)) → (d.next_seq ≡ x.next_seq) × (x.last_time ≤ d.last_time)
        by d (inl same) = (ap (λ (y : ClientState). y.next_seq) same, (let k = ap (λ (y : ClientState). y.last_time) same in omega (arith, k)))
        by d (inr same) =
            let is_c : x ≡ c = same_Some x c (sym e ∙ (λ i. client_in clients (same.0 i)) ∙ found) in
            let last : x.last_time ≡ c.last_time = ap (λ (y : ClientState). y.last_time) is_c in
            (ap (λ (y : ClientState). y.next_seq) same.1, (let k = ap (λ (y : ClientState). y.last_time) same.1 in omega (arith, k, last, above)))

    -- the client has this last time now
    last_now : (d : ClientState) → client_in (change (is_client a.id.client) (with_last_time stamp.time) clients) a.id.client ≡ Some d → d.last_time ≡ stamp.time
    last_now d e =
        let there_now : client_in (change (is_client a.id.client) (with_last_time stamp.time) clients) a.id.client ≡ Some (with_last_time stamp.time c) =
        find-change (is_client a.id.client) (with_last_time stamp.time) clients (λ _. refl) ∙ ap (option_map (with_last_time stamp.time)) found in
        ap (λ (y : ClientState). y.last_time) (same_Some d (with_last_time stamp.time c) (sym e ∙ there_now))

    -- an attempt that is found afterwards
    stamped_back : (id : TxnId) (b : AttemptState) → attempt_in (change (is_attempt a.id) (with_txn stamp writes) attempts) id ≡ Some b →
        (attempt_in attempts id ≡ Some b) ⊎ ((id ≡ a.id) × (b ≡ with_txn stamp writes a))
    stamped_back id b e =
        let x = attempt_back a.id (with_txn stamp writes) (λ _. refl) attempts id b e in
        by x.0 x.1 x.2
      where
        by : (x : AttemptState) → attempt_in attempts id ≡ Some x → (b ≡ x) ⊎ ((id ≡ a.id) × (b ≡ with_txn stamp writes x)) → (attempt_in attempts id ≡ Some b) ⊎ ((id ≡ a.id) × (b ≡ with_txn stamp writes a))
        by x f (inl same) = inl (f ∙ ap Some (sym same))
        by x f (inr k) = inr (k.0, k.1 ∙ ap (with_txn stamp writes) (same_Some x a (sym f ∙ (λ i. attempt_in attempts (k.0 i)) ∙ here)))

    the_reads : (b : AttemptState) (t : Transaction) → b ≡ with_txn stamp writes a → b.txn ≡ Some t → t.reads ≡ a.reads
    the_reads b t same s = ap (λ (x : Transaction). x.reads) (same_Some t (stamped_txn a stamp writes) (sym s ∙ ap (λ (x : AttemptState). x.txn) same))

    the_stamp : (b : AttemptState) (t : Transaction) → b ≡ with_txn stamp writes a → b.txn ≡ Some t → t.stamp ≡ stamp
    the_stamp b t same s = ap (λ (x : Transaction). x.stamp) (same_Some t (stamped_txn a stamp writes) (sym s ∙ ap (λ (x : AttemptState). x.txn) same))

    -- no attempt of the client is later
    no_later : (id : TxnId) (b : AttemptState) → attempt_in attempts id ≡ Some b → a.id.client ≡ id.client → a.id.seq < id.seq → ⊥
    no_later id b e same less =
        let k = h.attempts id b e in
        let own = h.attempts a.id a here in
        let one : k.client ≡ own.client = same_Some k.client own.client (sym k.found ∙ (λ i. client_in clients (sym same i)) ∙ own.found) in
        let next = own.last_reads reads in
        let below : id.seq < own.client.next_seq = subst (λ (x : ClientState). id.seq < x.next_seq) one k.begun in
        omega (arith, below, next, less)

    -- the times of the client's other attempts are below
    others_below : (id : TxnId) (b : AttemptState) (t : Transaction) → attempt_in attempts id ≡ Some b → b.txn ≡ Some t → id.client ≡ a.id.client → t.stamp.time < stamp.time
    others_below id b t e s same =
        let k = h.stamps id b t e s in
        let one : k.client ≡ c = same_Some k.client c (sym k.found ∙ (λ i. client_in clients (same i)) ∙ found) in
        let last : t.stamp.time ≤ c.last_time = subst (λ (x : ClientState). t.stamp.time ≤ x.last_time) one k.not_above in
        omega (arith, last, above)

    pub stamps_one : Identity (change (is_client a.id.client) (with_last_time stamp.time) clients) (change (is_attempt a.id) (with_txn stamp writes) attempts)
    stamps_one =
        record {
          numbered = λ n d e. let x = client_back a.id.client (with_last_time stamp.time) (λ _. refl) clients n d e in positive x.0 d (h.numbered n x.0 x.1) x.2;
          attempts = λ id b e. elim (stamped_back id b e) [
            | inl old ↦ again id b (h.attempts id b old)
            | inr k ↦ subst (λ (x : TxnId). IsClients (change (is_client a.id.client) (with_last_time stamp.time) clients) x b) (sym k.0) (stopped b k.1)
          ];
          all_there = λ n seq d e one less.
              let x = client_back a.id.client (with_last_time stamp.time) (λ _. refl) clients n d e in
              let y = h.all_there n seq x.0 x.1 one (next_seq_of x.0 d x.2 less) in
              let z = attempt_kept a.id (with_txn stamp writes) (λ _. refl) attempts (record { client = n; seq = seq }) y.0 y.1 in
              (z.0, z.1);
          stamps = λ id b t e s. elim (stamped_back id b e) [
            | inl old ↦ (let k = h.stamps id b t old s in
                let d = stamped_client id.client k.client k.found in
                record { client = d.0; found = d.1; of_client = k.of_client; from_one = k.from_one; not_above = omega (arith, k.not_above, d.3); above_reads = k.above_reads })
            | inr k ↦ subst (λ (x : TxnId). IsStampedBy (change (is_client a.id.client) (with_last_time stamp.time) clients) x t) (sym k.0) (stamped_now t (the_stamp b t k.1 s) (the_reads b t k.1 s))
          ];
          rise = λ id other x y t u e f s r same less. elim (stamped_back id x e) [
            | inl old ↦ elim (stamped_back other y f) [
              | inl old' ↦ h.rise id other x y t u old old' s r same less
              | inr k ↦ (let now = the_stamp y u k.1 r in
                  let low = others_below id x t old s (same ∙ ap (λ (z : TxnId). z.client) k.0) in
                  let time : u.stamp.time ≡ stamp.time = ap (λ (z : StampType). z.time) now in omega (arith, low, time))
            ]
            | inr k ↦ elim (stamped_back other y f) [
              | inl old' ↦ absurd (no_later other y old' (sym (ap (λ (z : TxnId). z.client) k.0) ∙ same) (subst (λ (z : TxnId). z.seq < other.seq) k.0 less))
              | inr l ↦ absurd (let p = ap (λ (z : TxnId). z.seq) k.0 in let q = ap (λ (z : TxnId). z.seq) l.0 in omega (arith, p, q, less))
            ]
          ];
        }
      where
        positive : {n : ℕ} (x d : ClientState) → 1 ≤ x.next_seq → (d ≡ x) ⊎ ((n ≡ a.id.client) × (d ≡ with_last_time stamp.time x)) → 1 ≤ d.next_seq
        positive x d one (inl e) = let k = ap (λ (y : ClientState). y.next_seq) e in omega (arith, k, one)
        positive x d one (inr e) = let k = ap (λ (y : ClientState). y.next_seq) e.1 in omega (arith, k, one)

        next_seq_of : {n seq : ℕ} (x d : ClientState) → (d ≡ x) ⊎ ((n ≡ a.id.client) × (d ≡ with_last_time stamp.time x)) → seq < d.next_seq → seq < x.next_seq
        next_seq_of x d (inl e) less = let k = ap (λ (y : ClientState). y.next_seq) e in omega (arith, k, less)
        next_seq_of x d (inr e) less = let k = ap (λ (y : ClientState). y.next_seq) e.1 in omega (arith, k, less)

        again : (id : TxnId) (b : AttemptState) → IsClients clients id b → IsClients (change (is_client a.id.client) (with_last_time stamp.time) clients) id b
        again id b k =
            let d = stamped_client id.client k.client k.found in
            record { client = d.0; found = d.1; from_one = k.from_one; begun = omega (arith, k.begun, d.2); last_reads = λ r. d.2 ∙ k.last_reads r }

        stopped : (b : AttemptState) → b ≡ with_txn stamp writes a → IsClients (change (is_client a.id.client) (with_last_time stamp.time) clients) a.id b
        stopped b same =
            let k = again a.id a (h.attempts a.id a here) in
            let quiet : b.reading ≡ false = ap (λ (x : AttemptState). x.reading) same in
            record { client = k.client; found = k.found; from_one = k.from_one; begun = k.begun; last_reads = λ r. absurd (cc (quiet, r)) }

        stamped_now : (t : Transaction) → t.stamp ≡ stamp → t.reads ≡ a.reads → IsStampedBy (change (is_client a.id.client) (with_last_time stamp.time) clients) a.id t
        stamped_now t same reads_same =
            let d = stamped_client a.id.client c found in
            let last = last_now d.0 d.1 in
            let time : t.stamp.time ≡ stamp.time = ap (λ (z : StampType). z.time) same in
            record {
              client = d.0;
              found = d.1;
              of_client = ap (λ (z : StampType). z.client) same ∙ by_client ∙ number_of clients a.id.client c found;
              from_one = omega (arith, time, above);
              not_above = omega (arith, time, last);
              above_reads = (λ i. is_above_reads (same i) (reads_same i)) ∙ above_all;
            }

-- a fresh stamp is above the client's last time
pub fresh_above : (client last clock : ℕ) (reads : List ReadItem) (stamp : StampType) → next_stamp_of client last clock reads ≡ Some stamp → (last < stamp.time) × (stamp.client ≡ client)
fresh_above client last clock reads stamp e = by (nat_lt (2 ^ 62) (fresh_time last clock reads)) e
  where
    low : (x y : ℕ) → last < max x (max (last + 1) y)
    low x y = grind (arith, nat_tests)

    by : (b : Bool) → (if b then None else Some (record { time = fresh_time last clock reads; client = client })) ≡ Some stamp → (last < stamp.time) × (stamp.client ≡ client)
    by true k = absurd (cc k)
    by false k =
        let same : record { time = fresh_time last clock reads; client = client } ≡ stamp = same_Some _ stamp k in
        (subst (λ (s : StampType). last < s.time) same (low clock (time_above_reads reads)), sym (ap (λ (s : StampType). s.client) same))

-- and above all that was read
above_items : (stamp : StampType) (items : List ReadItem) → time_above_reads items ≤ stamp.time → is_above_reads stamp items ≡ true
above_items stamp [] le = refl
above_items stamp (item ∷ items) le =
    let first : item.version.time < stamp.time = grind (arith, nat_tests, le) in
    let rest : time_above_reads items ≤ stamp.time = grind (arith, nat_tests, le) in
    grind (arith, nat_tests, first, above_items stamp items rest)

pub fresh_above_reads : (client last clock : ℕ) (reads : List ReadItem) (stamp : StampType) → next_stamp_of client last clock reads ≡ Some stamp → is_above_reads stamp reads ≡ true
fresh_above_reads client last clock reads stamp e = by (nat_lt (2 ^ 62) (fresh_time last clock reads)) e
  where
    low : (x y z : ℕ) → z ≤ max x (max y z)
    low x y z = grind (arith, nat_tests)

    by : (b : Bool) → (if b then None else Some (record { time = fresh_time last clock reads; client = client })) ≡ Some stamp → is_above_reads stamp reads ≡ true
    by true k = absurd (cc k)
    by false k =
        let same : record { time = fresh_time last clock reads; client = client } ≡ stamp = same_Some _ stamp k in
        above_items stamp reads (subst (λ (s : StampType). time_above_reads reads ≤ s.time) same (low clock (last + 1) (time_above_reads reads)))
