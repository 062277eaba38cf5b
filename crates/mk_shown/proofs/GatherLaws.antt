-- What is gathered of a column are its stamped attempts.
use Rattle.std.proofs.Common.{◌≡◌, ◌∙◌, ◌<◌, ◌+◌, ◌-◌, ℕ, zero, suc, Bool, refl, sym, ap, subst, arith, inl, inr, List, [], ◌∷◌, ◌++◌, Option, Some, None, find, map, append_assoc}
use Rattle.std.specs.Prelude.{option_map, unwrap_or}
use Rattle.std.proofs.lemmas.Bool.{eqb-true}
use Rattle.mk_lists.specs.Among.{Among, Among-append, Among-append_left, Among-append_right}
use Rattle.mk_lists.proofs.Lookups.{find-map, find_tells}
use Rattle.mk_lists.proofs.Members.{Among-map}
use Rattle.mk_txn.specs.declared.TxnId.{TxnId}
use Rattle.mk_txn.specs.Transactions.{Transaction}
use Rattle.mk_model.specs.ColumnState.{ColumnState, AttemptState, ClientState, is_attempt, attempt_of, is_client}
use Rattle.mk_model.specs.Logs.{not_reading}
use Rattle.mk_column_laws.specs.Identity.{Identity}
use Rattle.mk_run.specs.Attempts.{begun_by}
use Rattle.mk_feed_words.specs.MarkStamps.{Stamped, is_closed, with_stamped, stamped_of}
use Rattle.mk_mark_laws.proofs.MarkStamps.{stamped-there, stamped-from}
use Rattle.mk_shown.specs.Gathering.{gathered_txn, gathered_attempt, gathered_from, gathered}
use Rattle.mk_shown.proofs.MemberLaws.{IsPart}

-- a transaction as it is gathered
abbrev one : (TxnId → Bool) → Transaction → Stamped
one closed txn = record { id = txn.id; stamp = txn.stamp; closed = closed txn.id }

-- the attempt at a place that is not the last, and the others
pub gathered-next : (closed : TxnId → Bool) (column : ColumnState) (client seq end : ℕ) (stamped : List Stamped) → seq < end →
    (stamped ++ gathered_attempt closed (attempt_of column (record { client = client; seq = seq }))) ++ gathered_from closed column client (seq + 1) (end - (seq + 1))
    ≡ stamped ++ gathered_from closed column client seq (end - seq)
gathered-next closed column client seq end stamped lt =
    append_assoc stamped (gathered_attempt closed (attempt_of column (record { client = client; seq = seq }))) (gathered_from closed column client (seq + 1) (end - (seq + 1)))
    ∙ ap (λ (n : ℕ). stamped ++ gathered_from closed column client seq n) count
  where
    count : suc (end - (seq + 1)) ≡ end - seq
    count = omega (arith, lt)

-- ---- each of them is an attempt's

record IsGathered (closed : TxnId → Bool) (column : ColumnState) (s : Stamped) : Type 0 where
  id : TxnId
  attempt : AttemptState
  txn : Transaction
  found : attempt_of column id ≡ Some attempt
  stamped : attempt.txn ≡ Some txn
  is : one closed txn ≡ s

from-attempt : (closed : TxnId → Bool) (column : ColumnState) (id : TxnId) (o : Option AttemptState) → attempt_of column id ≡ o → (s : Stamped) → Among s (gathered_attempt closed o) → IsGathered closed column s
from-attempt closed column id None e s m = absurd m
from-attempt closed column id (Some a) e s m = by a.txn refl m
  where
    by : (t : Option Transaction) → a.txn ≡ t → Among s (gathered_txn closed t) → IsGathered closed column s
    by None k l = absurd l
    by (Some txn) k (inl is) = record { id = id; attempt = a; txn = txn; found = e; stamped = k; is = is }
    by (Some txn) k (inr l) = absurd l

from-client : (closed : TxnId → Bool) (column : ColumnState) (client seq n : ℕ) (s : Stamped) → Among s (gathered_from closed column client seq n) → IsGathered closed column s
from-client closed column client seq zero s m = absurd m
from-client closed column client seq (suc n) s m =
    let id : TxnId = record { client = client; seq = seq } in
    elim (Among-append s (gathered_attempt closed (attempt_of column id)) (gathered_from closed column client (seq + 1) n) m) [
      | inl here ↦ from-attempt closed column id (attempt_of column id) refl s here
      | inr later ↦ from-client closed column client (seq + 1) n s later
    ]

from-clients : (closed : TxnId → Bool) (column : ColumnState) (clients : List ℕ) (s : Stamped) → Among s (gathered closed column clients) → IsGathered closed column s
from-clients closed column [] s m = absurd m
from-clients closed column (client ∷ clients) s m =
    elim (Among-append s (gathered_from closed column client 1 (begun_by column client)) (gathered closed column clients) m) [
      | inl here ↦ from-client closed column client 1 (begun_by column client) s here
      | inr later ↦ from-clients closed column clients s later
    ]

-- ---- and each stamped attempt is among them

there-client : (closed : TxnId → Bool) (column : ColumnState) (client seq n j : ℕ) (a : AttemptState) (txn : Transaction) → j < n →
    attempt_of column (record { client = client; seq = seq + j }) ≡ Some a → a.txn ≡ Some txn → Among (one closed txn) (gathered_from closed column client seq n)
there-client closed column client seq zero j a txn lt found stamped = absurd (omega (arith, lt))
there-client closed column client seq (suc n) zero a txn lt found stamped =
    let none : seq + 0 ≡ seq = omega arith in
    let here : attempt_of column (record { client = client; seq = seq }) ≡ Some a = subst (λ (k : ℕ). attempt_of column (record { client = client; seq = k }) ≡ Some a) none found in
    Among-append_left (one closed txn) (gathered_attempt closed (attempt_of column (record { client = client; seq = seq }))) (gathered_from closed column client (seq + 1) n)
    (subst (λ (o : Option AttemptState). Among (one closed txn) (gathered_attempt closed o)) (sym here)
    (subst (λ (t : Option Transaction). Among (one closed txn) (gathered_txn closed t)) (sym stamped) (inl refl)))
there-client closed column client seq (suc n) (suc j) a txn lt found stamped =
    let next : seq + suc j ≡ seq + 1 + j = omega arith in
    Among-append_right (one closed txn) (gathered_attempt closed (attempt_of column (record { client = client; seq = seq }))) (gathered_from closed column client (seq + 1) n)
    (there-client closed column client (seq + 1) n j a txn (omega (arith, lt))
    (subst (λ (k : ℕ). attempt_of column (record { client = client; seq = k }) ≡ Some a) next found) stamped)

there-clients : (closed : TxnId → Bool) (column : ColumnState) (client : ℕ) (clients : List ℕ) (s : Stamped) → Among client clients →
    Among s (gathered_from closed column client 1 (begun_by column client)) → Among s (gathered closed column clients)
there-clients closed column client [] s m told = absurd m
there-clients closed column client (k ∷ clients) s (inl same) told =
    Among-append_left s (gathered_from closed column k 1 (begun_by column k)) (gathered closed column clients)
    (subst (λ (x : ℕ). Among s (gathered_from closed column x 1 (begun_by column x))) (sym same) told)
there-clients closed column client (k ∷ clients) s (inr m) told =
    Among-append_right s (gathered_from closed column k 1 (begun_by column k)) (gathered closed column clients) (there-clients closed column client clients s m told)

-- the attempts of this column, as they are closed in another
module _ (m : ColumnState) (ids : Identity m.clients m.attempts) (found : (a : AttemptState) → Among a m.attempts → attempt_of m a.id ≡ Some a) (settled : List TxnId) (column : ColumnState) (clients : List ℕ)
    (numbers : map (λ (x : ClientState). x.number) m.clients ≡ clients) where
  pub gathered-part : IsPart (gathered (is_closed settled column) m clients) (stamped_of settled column m.attempts)
  gathered-part s mem =
      let g = from-clients (is_closed settled column) m clients s mem in
      subst (λ (x : Stamped). Among x (stamped_of settled column m.attempts)) g.is
      (stamped-there settled column m.attempts g.attempt g.txn (find_tells (is_attempt g.id) m.attempts g.attempt g.found).0 g.stamped)

  pub stamped-part : IsPart (stamped_of settled column m.attempts) (gathered (is_closed settled column) m clients)
  stamped-part s mem =
      let y = stamped-from settled column m.attempts s mem in
      let a = y.attempt in
      let id = a.id in
      let there : attempt_of m id ≡ Some a = found a y.among in
      let q = ids.attempts id a there in
      let own = find_tells (is_client id.client) m.clients q.client q.found in
      let among : Among id.client clients =
      subst (λ (x : ℕ). Among x clients) (eqb-true q.client.number id.client own.1) (subst (Among q.client.number) numbers (Among-map (λ (x : ClientState). x.number) q.client m.clients own.0)) in
      let from_one = q.from_one in
      let begun = q.begun in
      let count : begun_by m id.client ≡ q.client.next_seq - 1 = ap (λ (o : Option ClientState). unwrap_or (option_map (λ (x : ClientState). x.next_seq - 1) o) 0) q.found in
      let seq : id.seq ≡ 1 + (id.seq - 1) = omega (arith, from_one) in
      let it : Among (one (is_closed settled column) y.txn) (gathered_from (is_closed settled column) m id.client 1 (begun_by m id.client)) =
      there-client (is_closed settled column) m id.client 1 (begun_by m id.client) (id.seq - 1) a y.txn (omega (arith, count, begun, from_one))
      (subst (λ (k : ℕ). attempt_of m (record { client = id.client; seq = k }) ≡ Some a) seq there) y.has_txn in
      subst (λ (x : Stamped). Among x (gathered (is_closed settled column) m clients)) (sym y.is) (there-clients (is_closed settled column) m id.client clients _ among it)

-- ---- the end of reading changes none of them

ended-attempt : (closed : TxnId → Bool) (o : Option AttemptState) → gathered_attempt closed (option_map not_reading o) ≡ gathered_attempt closed o
ended-attempt closed None = refl
ended-attempt closed (Some a) = refl

module _ (closed : TxnId → Bool) (column other : ColumnState) (clients_are : column.clients ≡ other.clients) (attempts_are : column.attempts ≡ map not_reading other.attempts) where
  attempt-alike : (id : TxnId) → gathered_attempt closed (attempt_of column id) ≡ gathered_attempt closed (attempt_of other id)
  attempt-alike id =
      ap (λ (xs : List AttemptState). gathered_attempt closed (find (is_attempt id) xs)) attempts_are
      ∙ ap (gathered_attempt closed) (find-map (is_attempt id) not_reading other.attempts)
      ∙ ended-attempt closed (attempt_of other id)

  from-alike : (client seq n : ℕ) → gathered_from closed column client seq n ≡ gathered_from closed other client seq n
  from-alike client seq zero = refl
  from-alike client seq (suc n) =
      let here = attempt-alike (record { client = client; seq = seq }) in
      let rest = from-alike client (seq + 1) n in
      λ i. here i ++ rest i

  begun-alike : (client : ℕ) → begun_by column client ≡ begun_by other client
  begun-alike client = ap (λ (xs : List ClientState). unwrap_or (option_map (λ (x : ClientState). x.next_seq - 1) (find (is_client client) xs)) 0) clients_are

  pub gathered-alike : (clients : List ℕ) → gathered closed column clients ≡ gathered closed other clients
  gathered-alike [] = refl
  gathered-alike (client ∷ clients) =
      let here = ap (gathered_from closed column client 1) (begun-alike client) ∙ from-alike client 1 (begun_by other client) in
      let rest = gathered-alike clients in
      λ i. here i ++ rest i

pub stamped-ended : (settled : List TxnId) (column : ColumnState) (attempts : List AttemptState) → stamped_of settled column (map not_reading attempts) ≡ stamped_of settled column attempts
stamped-ended settled column [] = refl
stamped-ended settled column (a ∷ attempts) = ap (with_stamped settled column a.txn) (stamped-ended settled column attempts)
