-- What is settled once one more attempt is.
use Rattle.std.proofs.Common.{◌≡◌, ◌≢◌, ◌∙◌, ◌<◌, ◌≤◌, ◌+◌, ◌^◌, ℕ, Bool, true, false, refl, sym, ap, subst, arith, List, [], ◌∷◌, ◌==◌, ◌||◌, ◌&&◌, not, nat_lt, nat_le, max, if◌then◌else◌}
use Rattle.std.proofs.lemmas.Bool.Decides.{nat_tests}
use Rattle.std.specs.List.{list_any}
use Rattle.std.specs.BTreeMap.{is_at}
use Rattle.mk_txn.specs.declared.TxnId.{TxnId}
use Rattle.mk_txn.specs.Transactions.{same_id, id_cmp}
use Rattle.mk_txn.specs.MarkMaps.{MarkMap, IsMarkMap, mark_of, covers, raised}
use Rattle.mk_txn.proofs.IdOrder.{id_cmp-equal, same_id-tells}
use Rattle.mk_txn.proofs.MarkLaws.{mark_of-raised, mark_of-raised_other}
use Rattle.mk_trim.specs.Runs.{follows, AllFollow}
use Rattle.mk_trim.specs.SettledAttempts.{holds, is_settled, IsSettled}

-- ---- sets of the library

pub list_any-holds : (ids : List TxnId) (id : TxnId) → list_any (is_at (id_cmp id)) ids ≡ holds ids id
list_any-holds [] id = refl
list_any-holds (first ∷ rest) id = grind (arith, id_cmp-equal id first, list_any-holds rest id)

pub holds-inserted : (old new : List TxnId) (id other : TxnId) →
    list_any (is_at (id_cmp other)) new ≡ (if is_at (id_cmp id) other then true else list_any (is_at (id_cmp other)) old) →
    holds new other ≡ (holds old other || same_id id other)
holds-inserted old new id other e = grind (arith, list_any-holds old other, list_any-holds new other, id_cmp-equal id other, e)

pub holds-removed : (old new : List TxnId) (id other : TxnId) →
    list_any (is_at (id_cmp other)) new ≡ (if is_at (id_cmp id) other then false else list_any (is_at (id_cmp other)) old) →
    holds new other ≡ (holds old other && not (other.client == id.client && other.seq == id.seq))
holds-removed old new id other e = grind (arith, nat_tests, list_any-holds old other, list_any-holds new other, id_cmp-equal id other, e)

-- ---- one more attempt

-- one above the mark, with a gap
pub is_settled-above : (marks : MarkMap) (old new : List TxnId) (id other : TxnId) → holds new other ≡ (holds old other || same_id id other) →
    is_settled (record { marks = marks; above = new }) other ≡ (is_settled (record { marks = marks; above = old }) other || same_id id other)
is_settled-above marks old new id other e = grind (arith, e)

pub IsSettled-above : (marks : MarkMap) (old new : List TxnId) (id : TxnId) →
    ((other : TxnId) → holds new other ≡ (holds old other || same_id id other)) → mark_of marks id.client + 1 < id.seq →
    IsSettled (record { marks = marks; above = old }) → IsSettled (record { marks = marks; above = new })
IsSettled-above marks old new id e gap h =
    record {
      ends = λ client fits.
          (let next : TxnId = record { client = client; seq = mark_of marks client + 1 } in
          let other : same_id id next ≡ false = apart client in
          grind (arith, e next, h.ends client fits, other));
    }
  where
    apart : (client : ℕ) → same_id id (record { client = client; seq = mark_of marks client + 1 }) ≡ false
    apart client = by_client (id.client == client) refl
      where
        by_client : (b : Bool) → (id.client == client) ≡ b → same_id id (record { client = client; seq = mark_of marks client + 1 }) ≡ false
        by_client true f =
            let same : id.client ≡ client = grind (arith, nat_tests, f) in
            let far : mark_of marks client + 1 < id.seq = subst (λ n. mark_of marks n + 1 < id.seq) same gap in
            grind (arith, nat_tests, far)
        by_client false f = grind (arith, nat_tests, f)

-- one up to the end is settled before, or the one that is settled now
settled_up_to : (marks : MarkMap) (old : List TxnId) (id other : TxnId) (end : ℕ) → mark_of marks id.client + 1 ≡ id.seq → AllFollow old id end →
    other.client ≡ id.client → other.seq ≤ end → ((covers marks other || holds old other) || same_id id other) ≡ true
settled_up_to marks old id other end next run client le = by_place (nat_lt other.seq id.seq) (other.seq == id.seq) refl refl
  where
    mark : mark_of marks other.client ≡ mark_of marks id.client
    mark = ap (mark_of marks) client

    by_place : (b c : Bool) → nat_lt other.seq id.seq ≡ b → (other.seq == id.seq) ≡ c → ((covers marks other || holds old other) || same_id id other) ≡ true
    by_place true c e f =
        let same : mark_of marks other.client ≡ mark_of marks id.client = ap (mark_of marks) client in
        let covered : covers marks other ≡ true = grind (arith, nat_tests, same, e, next) in
        grind (arith, covered)
    by_place false true e f =
        let same : same_id id other ≡ true = grind (arith, nat_tests, f, client) in
        grind (arith, same)
    by_place false false e f =
        let later : id.seq < other.seq = grind (arith, nat_tests, e, f) in
        let held : holds old other ≡ true = subst (λ n. holds old (record { client = n; seq = other.seq }) ≡ true) (sym client) (run other.seq later le) in
        grind (arith, held)

-- the one that the mark waited for, with those that follow it without a gap
pub is_settled-run : (marks : MarkMap) (old new : List TxnId) (id other : TxnId) (end : ℕ) → IsMarkMap marks → mark_of marks id.client + 1 ≡ id.seq →
    id.seq ≤ end → AllFollow old id end
    → holds new other ≡ (holds old other && not (follows id end other))
    → is_settled (record { marks = raised id.client end marks; above = new }) other ≡
    (is_settled (record { marks = marks; above = old }) other || same_id id other)
is_settled-run marks old new id other end fits next le run held = by_client (other.client == id.client) refl
  where
    by_end : other.client ≡ id.client → mark_of (raised id.client end marks) other.client ≡ end → (b : Bool) → nat_le other.seq end ≡ b →
        (covers (raised id.client end marks) other || holds new other) ≡ ((covers marks other || holds old other) || same_id id other)
    by_end client mark true f =
        let up_to : other.seq ≤ end = grind (arith, nat_tests, f) in
        let now : covers (raised id.client end marks) other ≡ true = grind (arith, nat_tests, mark, up_to) in
        ap (λ b. b || holds new other) now ∙ sym (settled_up_to marks old id other end next run client up_to)
    by_end client mark false f =
        let beyond : end < other.seq = grind (arith, nat_tests, f) in
        let same : mark_of marks other.client ≡ mark_of marks id.client = ap (mark_of marks) client in
        let now : covers (raised id.client end marks) other ≡ false = grind (arith, nat_tests, mark, beyond) in
        let before : covers marks other ≡ false = grind (arith, nat_tests, same, beyond, next, le) in
        let another : same_id id other ≡ false = grind (arith, nat_tests, beyond, le) in
        grind (arith, nat_tests, now, before, another, held, f)

    by_client : (b : Bool) → (other.client == id.client) ≡ b →
        (covers (raised id.client end marks) other || holds new other) ≡ ((covers marks other || holds old other) || same_id id other)
    by_client true e =
        let client : other.client ≡ id.client = grind (arith, nat_tests, e) in
        let risen : mark_of (raised id.client end marks) id.client ≡ max (mark_of marks id.client) end = mark_of-raised id.client end marks fits in
        let mark : mark_of (raised id.client end marks) other.client ≡ end =
        subst (λ n. mark_of (raised id.client end marks) n ≡ end) (sym client) (omega (arith, risen, next, le)) in
        by_end client mark (nat_le other.seq end) refl
    by_client false e =
        let apart : other.client ≢ id.client = grind (arith, nat_tests, e) in
        let mark : mark_of (raised id.client end marks) other.client ≡ mark_of marks other.client =
        mark_of-raised_other id.client end marks other.client apart in
        let same : covers (raised id.client end marks) other ≡ covers marks other = ap (λ m. nat_le other.seq m) mark in
        let another : same_id id other ≡ false = grind (arith, nat_tests, apart) in
        grind (arith, same, another, held, e)

pub IsSettled-run : (marks : MarkMap) (old new : List TxnId) (id : TxnId) (end : ℕ) → IsMarkMap marks → mark_of marks id.client + 1 ≡ id.seq → id.seq ≤ end
    → ((other : TxnId) → holds new other ≡ (holds old other && not (follows id end other)))
    → (end + 1 < 2 ^ 32 → holds old (record { client = id.client; seq = end + 1 }) ≡ false)
    → IsSettled (record { marks = marks; above = old }) → IsSettled (record { marks = raised id.client end marks; above = new })
IsSettled-run marks old new id end fits next le held ends h = record { ends = λ client room. by_client client room (client == id.client) refl }
  where
    by_client : (client : ℕ) → mark_of (raised id.client end marks) client + 1 < 2 ^ 32 → (b : Bool) → (client == id.client) ≡ b →
        holds new (record { client = client; seq = mark_of (raised id.client end marks) client + 1 }) ≡ false
    by_client client room true e =
        let same : client ≡ id.client = grind (arith, nat_tests, e) in
        let risen : mark_of (raised id.client end marks) id.client ≡ max (mark_of marks id.client) end = mark_of-raised id.client end marks fits in
        let mark : mark_of (raised id.client end marks) client ≡ end =
        subst (λ n. mark_of (raised id.client end marks) n ≡ end) (sym same) (omega (arith, risen, next, le)) in
        let none : holds old (record { client = id.client; seq = end + 1 }) ≡ false = ends (subst (λ m. m + 1 < 2 ^ 32) mark room) in
        let here : holds old (record { client = client; seq = mark_of (raised id.client end marks) client + 1 }) ≡ false = subst (λ m. holds old (record { client = client; seq = m + 1 }) ≡ false) (sym mark) (subst (λ n. holds old (record { client = n; seq = end + 1 }) ≡ false) (sym same) none) in
        let at : TxnId = record { client = client; seq = mark_of (raised id.client end marks) client + 1 } in
        held at ∙ ap (λ b. b && not (follows id end at)) here
    by_client client room false e =
        let apart : client ≢ id.client = grind (arith, nat_tests, e) in
        let mark : mark_of (raised id.client end marks) client ≡ mark_of marks client = mark_of-raised_other id.client end marks client apart in
        let none : holds old (record { client = client; seq = mark_of marks client + 1 }) ≡ false = h.ends client (subst (λ m. m + 1 < 2 ^ 32) mark room) in
        let here : holds old (record { client = client; seq = mark_of (raised id.client end marks) client + 1 }) ≡ false = subst (λ m. holds old (record { client = client; seq = m + 1 }) ≡ false) (sym mark) none in
        let at : TxnId = record { client = client; seq = mark_of (raised id.client end marks) client + 1 } in
        held at ∙ ap (λ b. b && not (follows id end at)) here
