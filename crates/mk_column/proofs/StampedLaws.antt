-- What a column keeps when an attempt is stamped.
use Rattle.std.proofs.Common.{◌≡◌, ◌<◌, ◌≤◌, ◌+◌, ◌^◌, ℕ, Bool, true, false, cond, refl, sym, subst, ap, ◌∙◌, List, [], ◌∷◌, ◌++◌, Option, Some, None, ◌||◌, ◌&&◌, ◌==◌, length, arith}
use Rattle.std.specs.Prelude.{map, option_map, nat_lt, nat_le, is_some, IsSome}
use Rattle.std.proofs.lemmas.List.{append-nil}
use Rattle.std.proofs.lemmas.Bool.{false≢true}
use Rattle.std.proofs.lemmas.Bool.Decides.{nat_tests}
use Rattle.std.proofs.lemmas.Option.{none-some, same_Some}
use Rattle.mk_lists.specs.Among.{Each, Each-weaker}
use Rattle.mk_lists.proofs.Lookups.{find-passes}
use Rattle.mk_lists.proofs.EachMember.{Each-find}
use Rattle.mk_lists.proofs.Options.{None-from_map}
use Rattle.mk_column.specs.TakeoversByCode.{BackupView}
use Rattle.mk_txn.specs.declared.TxnId.{TxnId}
use Rattle.mk_txn.specs.declared.Stamp.{Stamp as StampType}
use Rattle.mk_txn.specs.declared.ReadItem.{ReadItem}
use Rattle.mk_txn.specs.declared.WriteItem.{WriteItem}
use Rattle.mk_txn.specs.Stamps.{next_stamp_of, fresh_time}
use Rattle.mk_txn.specs.Transactions.{Transaction}
use Rattle.mk_txn.proofs.IdOrder.{same_id-tells}
use Rattle.mk_quorum.specs.Slots.{passes}
use Rattle.mk_quorum.specs.Sizes.{members}
use Rattle.mk_trim.specs.SettledAttempts.{SettledAttempts}
use Rattle.mk_words.specs.declared.Msg.{Msg}
use Rattle.mk_words.specs.Checks.{checks}
use Rattle.mk_words.specs.Validations.{first_of, next_act, validation_of}
use Rattle.mk_column.specs.declared.clients.Client.{Client}
use Rattle.mk_words.specs.declared.Step.TheVariants.{Stamp}
use Rattle.mk_column.specs.HeldByCode.{work_of}
use Rattle.mk_column.specs.ClientsByCode.{client_state, client_states, kept_client, change_kept, client_stamped}
use Rattle.mk_model.specs.ColumnState.{Setting, ColumnState, ClientState, AttemptState, Learning, is_settled, client_of, attempt_of, is_client}
use Rattle.mk_model.specs.Conditions.{is_idle, stamp_exists}
use Rattle.mk_model.specs.Steps.{on_some, stamping, stamped, stamped_txn, with_txn, with_last_time, stepped, column_after}
use Rattle.mk_column.specs.AttemptsByCode.{BegunView, on_state, is_begun, begun_of, change_begun, states_of}
use Rattle.mk_column.specs.ColumnByCode.{Kept, IsKept, AttemptFits, ClientFits, has_reading, learning_of_kept, column_of}
use Rattle.mk_column.proofs.ColumnLaws.{client-number, client-found, attempt-found}
use Rattle.mk_column.proofs.ListLaws.{Each-turn, find-change, map-change, changed_member, passes-changed, map-there}
use Rattle.mk_column.proofs.KeptLaws.{idle-fits}
use Rattle.mk_column.proofs.StepLaws.{begun-there, there-from_passes, states-changed}
use Rattle.mk_column.proofs.BeginLaws.{Puts, puts-turned}

-- an attempt with its transaction
abbrev pub begun_stamped : Transaction → BegunView → BegunView
begun_stamped txn = on_state (λ a. record a { reading = false; txn = Some txn })

begun-after : (id : TxnId) (txn : Transaction) (other : TxnId) (all : List BegunView)
    → begun_of other (change_begun id (begun_stamped txn) all) ≡ option_map (changed_member (is_begun id) (begun_stamped txn)) (begun_of other all)
begun-after id txn other all = find-change (is_begun id) (begun_stamped txn) (is_begun other) (λ b. refl) all

none-after : (id : TxnId) (txn : Transaction) (other : TxnId) (all : List BegunView) → begun_of other (change_begun id (begun_stamped txn) all) ≡ None
    → begun_of other all ≡ None
none-after id txn other all e = None-from_map (changed_member (is_begun id) (begun_stamped txn)) (begun_of other all) (sym (begun-after id txn other all) ∙ e)

-- only the last attempt of a client reads, so that none does once it is stamped
none_reads : (id : TxnId) (txn : Transaction) (k : ℕ) (all : List BegunView) → id.seq + 1 ≡ k
    → Each (λ (b : BegunView). b.state.id.client ≡ id.client → b.state.reading ≡ true → b.state.id.seq + 1 ≡ k) all
    → has_reading id.client (change_begun id (begun_stamped txn) all) ≡ false
none_reads id txn k [] e h = refl
none_reads id txn k (b ∷ all) e h = by_test (is_begun id b) refl (none_reads id txn k all e h.1)
  where
    by_both : (r s : Bool) → b.state.reading ≡ r → (b.state.id.client == id.client) ≡ s → is_begun id b ≡ false → (r && s) ≡ false
    by_both false s er es apart = refl
    by_both true false er es apart = refl
    by_both true true er es apart =
        let same : b.state.id.client ≡ id.client = grind (arith, nat_tests, es) in
        let seq : b.state.id.seq + 1 ≡ k = h.0 same er in
        let seqs : b.state.id.seq ≡ id.seq = omega arith in
        absurd (false≢true (sym apart ∙ both b.state.id.client b.state.id.seq same seqs))
      where
        both : (c s : ℕ) → c ≡ id.client → s ≡ id.seq → (c == id.client && s == id.seq) ≡ true
        both c s p q = grind (arith, nat_tests, p, q)

    by_test : (t : Bool) → is_begun id b ≡ t → has_reading id.client (change_begun id (begun_stamped txn) all) ≡ false
        → ((cond t (begun_stamped txn b) b).state.reading && (cond t (begun_stamped txn b) b).state.id.client == id.client || has_reading id.client (change_begun id (begun_stamped txn) all)) ≡ false
    by_test true here ih = ih
    by_test false apart ih =
        ap (λ r. r || has_reading id.client (change_begun id (begun_stamped txn) all))
        (by_both b.state.reading (b.state.id.client == id.client) refl refl apart)
        ∙ ih

-- whether another client's attempts read stays
others_read : (id : TxnId) (txn : Transaction) (m : ℕ) (all : List BegunView) → (id.client == m) ≡ false
    → has_reading m (change_begun id (begun_stamped txn) all) ≡ has_reading m all
others_read id txn m [] e = refl
others_read id txn m (b ∷ all) e = by_test (is_begun id b) refl (others_read id txn m all e)
  where
    apart : is_begun id b ≡ true → (b.state.id.client == m) ≡ false
    apart here = ap (λ (i : TxnId). i.client == m) (same_id-tells b.state.id id here) ∙ e

    and_false : (r s : Bool) → s ≡ false → false ≡ (r && s)
    and_false true s k = sym k
    and_false false s k = refl

    by_test : (t : Bool) → is_begun id b ≡ t → has_reading m (change_begun id (begun_stamped txn) all) ≡ has_reading m all
        → ((cond t (begun_stamped txn b) b).state.reading && (cond t (begun_stamped txn b) b).state.id.client == m || has_reading m (change_begun id (begun_stamped txn) all)) ≡ (b.state.reading && b.state.id.client == m || has_reading m all)
    by_test true here ih = ih ∙ ap (λ r. r || has_reading m all) (and_false b.state.reading (b.state.id.client == m) (apart here))
    by_test false other ih = ap (λ r. (b.state.reading && b.state.id.client == m) || r) ih

fits-stamped : (f : ℕ) (link : List Msg) (learned : List Learning) (id : TxnId) (txn : Transaction) (b : BegunView) → txn.id ≡ id
    → IsSome (next_act (validation_of txn)) → is_begun id b ≡ true → AttemptFits f link learned b → AttemptFits f link learned (begun_stamped txn b)
fits-stamped f link learned id txn b named acts here h =
    record {
      faults = h.faults;
      validated = h.validated;
      decided = h.decided;
      named = λ other e. ap (λ (t : Transaction). t.id) (sym (same_Some txn other e)) ∙ named ∙ sym (same_id-tells b.state.id id here);
      acts = λ other e. subst (λ (t : Transaction). IsSome (next_act (validation_of t))) (same_Some txn other e) acts;
      unstamped = λ reads. absurd (false≢true reads);
      seq = h.seq;
    }

next_seqs : (id : TxnId) (txn : Transaction) (n k : ℕ) (all : List BegunView) → Each (λ (b : BegunView). b.state.id.client ≡ n → b.state.id.seq < k) all
    → Each (λ (b : BegunView). b.state.id.client ≡ n → b.state.id.seq < k) (change_begun id (begun_stamped txn) all)
next_seqs id txn n k all h = Each-turn (is_begun id) (begun_stamped txn) _ _ (λ b t fits. fits) (λ b t fits. fits) all h

lasts : (id : TxnId) (txn : Transaction) (n k : ℕ) (all : List BegunView)
    → Each (λ (b : BegunView). b.state.id.client ≡ n → b.state.reading ≡ true → b.state.id.seq + 1 ≡ k) all
    → Each (λ (b : BegunView). b.state.id.client ≡ n → b.state.reading ≡ true → b.state.id.seq + 1 ≡ k) (change_begun id (begun_stamped txn) all)
lasts id txn n k all h = Each-turn (is_begun id) (begun_stamped txn) _ _ (λ b t fits of reads. absurd (false≢true reads)) (λ b t fits. fits) all h

-- a transaction with an item has an act
pub item-acts : (txn : Transaction) → nat_lt 0 (length txn.reads + length txn.writes) ≡ true → IsSome (next_act (validation_of txn))
item-acts txn e = by_items txn.reads txn.writes e
  where
    by_items : (reads : List ReadItem) (writes : List WriteItem) → nat_lt 0 (length reads + length writes) ≡ true
        → IsSome (first_of (checks (record txn { reads = reads; writes = writes })))
    by_items (item ∷ reads) writes k = refl
    by_items [] (item ∷ writes) k = refl
    by_items [] [] k = absurd (false≢true k)

-- what is known of an attempt that is stamped, and of its client
pub record IsStamped (kept : Kept) (id : TxnId) (begun : BegunView) (client after : Client) (txn : Transaction) : Type 0 where
  pub idle : is_idle (work_of kept.work) ≡ true
  pub found : begun_of id kept.attempts ≡ Some begun
  pub reads : begun.state.reading ≡ true
  pub client_found : kept_client id.client kept.clients ≡ Some client
  pub turned : after ≡ client_stamped txn.stamp.time client
  pub in_time : txn.stamp.time ≤ 2 ^ 62
  pub named : txn.id ≡ id
  pub acts : IsSome (next_act (validation_of txn))

clients-put : (kept : Kept) (id : TxnId) (client after : Client) (clients : List Client) (g : Client → Client)
    → kept_client id.client kept.clients ≡ Some client → after.number ≡ client.number → g client ≡ after → Puts kept.clients clients after
    → clients ≡ change_kept id.client g kept.clients
clients-put kept id client after clients g found same turns puts =
    let is : client.number ≡ id.client = client-number id.client kept.clients client found in
    puts-turned kept.clients clients client after g same (ap (λ k. kept_client k kept.clients) is ∙ found) turns puts
    ∙ ap (λ k. change_kept k g kept.clients) is

pub IsKept-stamped : (f : ℕ) (kept : Kept) (ends : SettledAttempts) (id : TxnId) (begun : BegunView) (client after : Client) (txn : Transaction) (clients : List Client) (attempts : List BegunView)
    → IsKept f kept ends → IsStamped kept id begun client after txn
    → attempts ≡ change_begun id (begun_stamped txn) kept.attempts → Puts kept.clients clients after
    → IsKept f (record kept { clients = clients; attempts = attempts }) ends
IsKept-stamped f kept ends id begun client after txn clients attempts h s changed puts =
    let n = id.client in
    let learned = map learning_of_kept kept.learned in
    let time = txn.stamp.time in
    let all = change_begun id (begun_stamped txn) kept.attempts in
    let fits : ClientFits kept.attempts client =
    Each-find (ClientFits kept.attempts) (λ (c : Client). c.number == n) kept.clients client h.clients s.client_found in
    let number : client.number ≡ n = client-number n kept.clients client s.client_found in
    let number_after : after.number ≡ client.number = ap (λ (c : Client). c.number) s.turned in
    let is : begun.state.id ≡ id = same_id-tells begun.state.id id (find-passes (is_begun id) kept.attempts begun s.found) in
    let seq : begun.state.id.seq + 1 ≡ client.next_seq =
    Each-find (λ (b : BegunView). b.state.id.client ≡ client.number → b.state.reading ≡ true → b.state.id.seq + 1 ≡ client.next_seq)
    (is_begun id) kept.attempts begun fits.last s.found (ap (λ (i : TxnId). i.client) is ∙ sym number) s.reads in
    let seq_of : id.seq + 1 ≡ client.next_seq = ap (λ (i : TxnId). i.seq + 1) (sym is) ∙ seq in
    let last_of : Each (λ (b : BegunView). b.state.id.client ≡ n → b.state.reading ≡ true → b.state.id.seq + 1 ≡ client.next_seq) kept.attempts =
    subst
    (λ k. Each (λ (b : BegunView). b.state.id.client ≡ k → b.state.reading ≡ true → b.state.id.seq + 1 ≡ client.next_seq) kept.attempts) number fits.last in
    let own : ClientFits all (client_stamped time client) = record {
      reading = sym (ap (λ k. has_reading k all) number ∙ none_reads id txn client.next_seq kept.attempts seq_of last_of);
      last_time = s.in_time;
      next_seq = next_seqs id txn client.number client.next_seq kept.attempts fits.next_seq;
      last = lasts id txn client.number client.next_seq kept.attempts fits.last;
    } in
    let put : clients ≡ change_kept n (λ before. client_stamped time client) kept.clients =
    clients-put kept id client after clients (λ before. client_stamped time client) s.client_found number_after (sym s.turned) puts in
    let turned : clients ≡ change_kept n (client_stamped time) kept.clients =
    clients-put kept id client after clients (client_stamped time) s.client_found number_after (sym s.turned) puts in
    let home : (m : ℕ) → IsSome (kept_client m kept.clients) → IsSome (kept_client m clients) =
    λ m k. subst (λ cs. IsSome (kept_client m cs)) (sym turned) (home-stamped n m time kept.clients k) in
    subst (λ bs. IsKept f (record kept { clients = clients; attempts = bs }) ends) (sym changed)
    (record {
      replicas = h.replicas;
      attempts =
          Each-turn (is_begun id) (begun_stamped txn) (AttemptFits f kept.link learned) (AttemptFits f kept.link learned)
          (λ b here k. fits-stamped f kept.link learned id txn b s.named s.acts here k) (λ b other k. k) kept.attempts h.attempts;
      takeovers = h.takeovers;
      clients = subst (Each (ClientFits all)) (sym put)
          (Each-turn (λ (c : Client). c.number == n) (λ before. client_stamped time client) (ClientFits kept.attempts) (ClientFits all) (λ c same k. own) (λ c other k. other-fits id txn kept.attempts c other k) kept.clients h.clients);
      sent = h.sent;
      settled =
          λ q. h.settled q
          ∙ ap (λ b. (q.seq == 0) || b) (sym (ap (passes (λ (b : BegunView). is_settled b.state)) (begun-after id txn q kept.attempts) ∙ passes-changed (is_begun id) (begun_stamped txn) (λ b. is_settled b.state) (λ b. refl) (begun_of q kept.attempts)));
      decisions = λ q none. h.decisions q (none-after id txn q kept.attempts none);
      validates = λ q none. h.validates q (none-after id txn q kept.attempts none);
      homes =
          Each-turn (is_begun id) (begun_stamped txn) _ _ (λ b e there. home b.state.id.client there)
          (λ b e there. home b.state.id.client there) kept.attempts h.homes;
      work = idle-fits (members f) all kept.replicas kept.work s.idle;
      takers =
          Each-weaker (λ (backup : BackupView). IsSome (begun_of backup.of.id kept.attempts)) (λ (backup : BackupView). IsSome (begun_of backup.of.id all))
          (λ backup k. subst IsSome (sym (begun-after id txn backup.of.id kept.attempts)) (map-there (changed_member (is_begun id) (begun_stamped txn)) (begun_of backup.of.id kept.attempts) k)) kept.takeovers h.takers;
    })
  where
    home-stamped : (n m time : ℕ) (cs : List Client) → IsSome (kept_client m cs) → IsSome (kept_client m (change_kept n (client_stamped time) cs))
    home-stamped n m time cs k =
        subst IsSome (sym (find-change (λ (c : Client). c.number == n) (client_stamped time) (λ (c : Client). c.number == m) (λ c. refl) cs))
        (from (kept_client m cs) k)
      where
        from : (o : Option Client) → IsSome o → IsSome (option_map (changed_member (λ (c : Client). c.number == n) (client_stamped time)) o)
        from None j = absurd (false≢true j)
        from (Some c) j = refl

    other-fits : (id : TxnId) (txn : Transaction) (bs : List BegunView) (c : Client) → (c.number == id.client) ≡ false → ClientFits bs c
        → ClientFits (change_begun id (begun_stamped txn) bs) c
    other-fits id txn bs c other k =
        let apart : (id.client == c.number) ≡ false = back c.number id.client other in
        record {
          reading = k.reading ∙ sym (others_read id txn c.number bs apart);
          last_time = k.last_time;
          next_seq = next_seqs id txn c.number c.next_seq bs k.next_seq;
          last = lasts id txn c.number c.next_seq bs k.last;
        }
      where
        back : (a b : ℕ) → (a == b) ≡ false → (b == a) ≡ false
        back a b e = grind (arith, nat_tests, e)

-- as the definitions have it
pub stamp-state : (round : Setting) (kept : Kept) (id : TxnId) (clock : ℕ) (writes : List WriteItem) (begun : BegunView) (client after : Client) (txn : Transaction) (clients : List Client) (attempts : List BegunView)
    → IsStamped kept id begun client after txn
    → next_stamp_of client.number client.last_time clock begun.state.reads ≡ Some txn.stamp
    → attempts ≡ change_begun id (on_state (with_txn txn.stamp writes)) kept.attempts → Puts kept.clients clients after
    → column_of (record kept { clients = clients; attempts = attempts }) ≡ column_after round (column_of kept) (Stamp id clock writes)
stamp-state round kept id clock writes begun client after txn clients attempts s is_stamp changed puts =
    let column = column_of kept in
    let n = id.client in
    let time = txn.stamp.time in
    let is : begun.state.id ≡ id = same_id-tells begun.state.id id (find-passes (is_begun id) kept.attempts begun s.found) in
    let there : attempt_of column id ≡ Some begun.state = attempt-found id kept.attempts ∙ ap (option_map (λ (b : BegunView). b.state)) s.found in
    let client_there : client_of column n ≡ Some (client_state client) = client-found n kept.clients ∙ ap (option_map client_state) s.client_found in
    let turned : clients ≡ change_kept n (client_stamped time) kept.clients =
    clients-put kept id client after clients (client_stamped time) s.client_found (ap (λ (c : Client). c.number) s.turned) (sym s.turned) puts in
    let after_step : stepped round column (Stamp id clock writes) ≡ stamped id writes (Some txn.stamp) column =
    ap (λ o. on_some (stamping clock writes) o column) there
    ∙ ap (λ o. on_some (λ (c : ClientState) (col : ColumnState). stamped begun.state.id writes (next_stamp_of c.number c.last_time clock begun.state.reads) col) o column) (ap (λ (i : TxnId). client_of column i.client) is ∙ client_there)
    ∙ ap (λ o. stamped begun.state.id writes o column) is_stamp ∙ ap (λ i. stamped i writes (Some txn.stamp) column) is in
    (λ i. record column {
      clients =
          (ap client_states turned ∙ map-change (λ (c : Client). c.number == n) (client_stamped time) (is_client n) (with_last_time time) client_state (λ c. refl) (λ c. refl) kept.clients) i;
      attempts = (ap states_of changed ∙ states-changed id (with_txn txn.stamp writes) kept.attempts) i;
      learned = sym (append-nil column.learned) i;
    })
    ∙ sym (ap (λ (col : ColumnState). record col { learned = column.learned ++ [] }) after_step)

-- there is no stamp past the last time
pub stamp-in_time : (client last clock : ℕ) (reads : List ReadItem) (stamp : StampType) → next_stamp_of client last clock reads ≡ Some stamp
    → stamp.time ≤ 2 ^ 62
stamp-in_time client last clock reads stamp e = by_test (nat_lt (2 ^ 62) (fresh_time last clock reads)) refl e
  where
    by_test : (t : Bool) → nat_lt (2 ^ 62) (fresh_time last clock reads) ≡ t
        → cond t None (Some (record { time = fresh_time last clock reads; client = client })) ≡ Some stamp → stamp.time ≤ 2 ^ 62
    by_test true past k = absurd (none-some stamp k)
    by_test false within k =
        subst (λ (s : StampType). s.time ≤ 2 ^ 62) (same_Some (record { time = fresh_time last clock reads; client = client }) stamp k)
        (not_past (fresh_time last clock reads) within)
      where
        not_past : (a : ℕ) → nat_lt (2 ^ 62) a ≡ false → a ≤ 2 ^ 62
        not_past a h = grind (arith, nat_tests, h)

-- ---- what the conditions of the stamping tell

pub stamp-begun : (kept : Kept) (id : TxnId) → passes (λ (a : AttemptState). a.reading) (attempt_of (column_of kept) id) ≡ true
    → IsSome (begun_of id kept.attempts)
stamp-begun kept id e =
    begun-there id kept.attempts (column_of kept) refl (there-from_passes (λ (a : AttemptState). a.reading) (attempt_of (column_of kept) id) e)

at_found : (kept : Kept) (id : TxnId) (begun : BegunView) (test : AttemptState → Bool) → begun_of id kept.attempts ≡ Some begun
    → passes test (attempt_of (column_of kept) id) ≡ true → test begun.state ≡ true
at_found kept id begun test found e = sym (ap (passes test) (attempt-found id kept.attempts ∙ ap (option_map (λ (b : BegunView). b.state)) found)) ∙ e

pub stamp-reads : (kept : Kept) (id : TxnId) (begun : BegunView) → begun_of id kept.attempts ≡ Some begun
    → passes (λ (a : AttemptState). a.reading) (attempt_of (column_of kept) id) ≡ true → begun.state.reading ≡ true
stamp-reads kept id begun found e = at_found kept id begun (λ a. a.reading) found e

-- what is stamped has an item
pub stamp-items : (kept : Kept) (id : TxnId) (begun : BegunView) (writes : List WriteItem) → begun_of id kept.attempts ≡ Some begun
    → passes (λ (a : AttemptState). nat_lt 0 (length a.reads + length writes)) (attempt_of (column_of kept) id) ≡ true
    → nat_lt 0 (length begun.state.reads + length writes) ≡ true
stamp-items kept id begun writes found e = at_found kept id begun (λ a. nat_lt 0 (length a.reads + length writes)) found e

pub stamp-client : (f : ℕ) (kept : Kept) (ends : SettledAttempts) (id : TxnId) (begun : BegunView) → IsKept f kept ends → begun_of id kept.attempts ≡ Some begun
    → IsSome (kept_client id.client kept.clients)
stamp-client f kept ends id begun h found =
    subst (λ (i : TxnId). IsSome (kept_client i.client kept.clients)) (same_id-tells begun.state.id id (find-passes (is_begun id) kept.attempts begun found))
    (Each-find (λ (b : BegunView). IsSome (kept_client b.state.id.client kept.clients)) (is_begun id) kept.attempts begun h.homes found)

pub stamp-last : (f : ℕ) (kept : Kept) (ends : SettledAttempts) (id : TxnId) (client : Client) → IsKept f kept ends
    → kept_client id.client kept.clients ≡ Some client → client.last_time ≤ 2 ^ 62
stamp-last f kept ends id client h found =
    (Each-find (ClientFits kept.attempts) (λ (c : Client). c.number == id.client) kept.clients client h.clients found).last_time

pub stamp-there : (kept : Kept) (id : TxnId) (begun : BegunView) (client : Client) (clock : ℕ) → begun_of id kept.attempts ≡ Some begun
    → kept_client id.client kept.clients ≡ Some client
    → (nat_le clock (2 ^ 61) && passes (λ (a : AttemptState). stamp_exists (column_of kept) a clock) (attempt_of (column_of kept) id)) ≡ true
    → IsSome (next_stamp_of client.number client.last_time clock begun.state.reads)
stamp-there kept id begun client clock found client_found e =
    let column = column_of kept in
    let exists : stamp_exists column begun.state clock ≡ true =
    at_found kept id begun (λ a. stamp_exists column a clock) found
    (right (nat_le clock (2 ^ 61)) (passes (λ (a : AttemptState). stamp_exists column a clock) (attempt_of column id)) e) in
    let is : begun.state.id ≡ id = same_id-tells begun.state.id id (find-passes (is_begun id) kept.attempts begun found) in
    let there : client_of column begun.state.id.client ≡ Some (client_state client) =
    ap (λ (i : TxnId). client_of column i.client) is ∙ client-found id.client kept.clients ∙ ap (option_map client_state) client_found in
    sym (ap (passes (λ (c : ClientState). is_some (next_stamp_of c.number c.last_time clock begun.state.reads))) there) ∙ exists
  where
    right : (a b : Bool) → (a && b) ≡ true → b ≡ true
    right true b k = k
    right false b k = absurd (false≢true k)

-- the transaction that the stamp and the writes make
pub stamped-one : (kept : Kept) (id : TxnId) (begun : BegunView) (stamp : StampType) (reads : List ReadItem) (writes given : List WriteItem) (txn : Transaction)
    → begun_of id kept.attempts ≡ Some begun
    → txn ≡ record { id = id; stamp = stamp; reads = reads; writes = given } → reads ≡ begun.state.reads → given ≡ writes
    → stamped_txn begun.state txn.stamp writes ≡ txn
stamped-one kept id begun stamp reads writes given txn found is reads_are writes_are =
    let of_id : begun.state.id ≡ id = same_id-tells begun.state.id id (find-passes (is_begun id) kept.attempts begun found) in
    let of_stamp : txn.stamp ≡ stamp = ap (λ (t : Transaction). t.stamp) is in
    (λ i. record { id = of_id i; stamp = of_stamp i; reads = sym reads_are i; writes = sym writes_are i }) ∙ sym is
