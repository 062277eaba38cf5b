-- What raising and joining marks leave of each client, and that two maps with the same marks are one.
use Rattle.std.proofs.Common.{◌≡◌, ◌≢◌, ◌<◌, ◌≤◌, ℕ, Bool, true, false, refl, sym, subst, ◌∙◌, arith, [], ◌∷◌, ◌==◌, nat_lt, max, unwrap_or, if◌then◌else◌}
use Rattle.std.proofs.lemmas.Bool.Decides.{nat_tests}
use Rattle.std.specs.Ordering.{nat_cmp}
use Rattle.std.specs.Map.{lookup}
use Rattle.std.specs.BTreeMap.{is_at, insert_entry}
use Rattle.mk_lists.specs.Among.{Each, Each-weaker}
use Rattle.mk_txn.specs.declared.TxnId.{TxnId}
use Rattle.mk_txn.specs.MarkMaps.{MarkMap, IsMarkMap, mark_of, placed, raised, joined_marks, covers}

-- a client before all that have marks has none
pub mark_of-before : (client : ℕ) (marks : MarkMap) → Each (λ later. client < later.0) marks → mark_of marks client ≡ 0
mark_of-before client [] h = refl
mark_of-before client (first ∷ rest) h = grind (arith, nat_tests, mark_of-before client rest h.1, h.0)

mark_of-placed : (client seq : ℕ) (marks : MarkMap) → IsMarkMap marks → mark_of (placed client seq marks) client ≡ max (mark_of marks client) seq
mark_of-placed client seq [] h = grind (arith, nat_tests)
mark_of-placed client seq (first ∷ rest) h = grind (arith, nat_tests, mark_of-placed client seq rest h.2, none)
  where
    none : client < first.0 → mark_of rest client ≡ 0
    none lt = mark_of-before client rest (Each-weaker (λ later. first.0 < later.0) (λ later. client < later.0) (λ later k. omega (arith, lt, k)) rest h.1)

mark_of-placed_other : (client seq : ℕ) (marks : MarkMap) (other : ℕ) → other ≢ client → mark_of (placed client seq marks) other ≡ mark_of marks other
mark_of-placed_other client seq [] other h = grind (arith, nat_tests)
mark_of-placed_other client seq (first ∷ rest) other h = grind (arith, nat_tests, mark_of-placed_other client seq rest other h)

-- the client's mark is at least this afterwards
pub mark_of-raised : (client seq : ℕ) (marks : MarkMap) → IsMarkMap marks → mark_of (raised client seq marks) client ≡ max (mark_of marks client) seq
mark_of-raised client seq marks h = grind (arith, nat_tests, mark_of-placed client seq marks h)

-- every other client's mark stays
pub mark_of-raised_other : (client seq : ℕ) (marks : MarkMap) (other : ℕ) → other ≢ client → mark_of (raised client seq marks) other ≡ mark_of marks other
mark_of-raised_other client seq marks other h = grind (arith, nat_tests, mark_of-placed_other client seq marks other h)

Each-placed : (low client seq : ℕ) (marks : MarkMap) → low < client → Each (λ later. low < later.0) marks →
    Each (λ later. low < later.0) (placed client seq marks)
Each-placed low client seq [] lt h = (lt, tt)
Each-placed low client seq (first ∷ rest) lt h = by_place (Each-placed low client seq rest lt h.1) (nat_lt first.0 client) (first.0 == client)
  where
    by_place : Each (λ later. low < later.0) (placed client seq rest) → (b c : Bool) → Each (λ later. low < later.0) (if b then first ∷ placed client seq rest else if c then (client, max first.1 seq) ∷ rest else (client, seq) ∷ (first ∷ rest))
    by_place more true c = (h.0, more)
    by_place more false true = (lt, h.1)
    by_place more false false = (lt, (h.0, h.1))

IsMarkMap-placed : (client seq : ℕ) (marks : MarkMap) → 0 < seq → IsMarkMap marks → IsMarkMap (placed client seq marks)
IsMarkMap-placed client seq [] lt h = (lt, tt, tt)
IsMarkMap-placed client seq (first ∷ rest) lt h = by_place (IsMarkMap-placed client seq rest lt h.2) (nat_lt first.0 client) (first.0 == client) refl refl
  where
    by_place : IsMarkMap (placed client seq rest) → (b c : Bool) → nat_lt first.0 client ≡ b → (first.0 == client) ≡ c →
        IsMarkMap (if b then first ∷ placed client seq rest else if c then (client, max first.1 seq) ∷ rest else (client, seq) ∷ (first ∷ rest))
    by_place more true c e f = (h.0, Each-placed first.0 client seq rest (grind (arith, nat_tests, e)) h.1, more)
    by_place more false true e f =
        let same : first.0 ≡ client = grind (arith, nat_tests, f) in
        (omega (arith, lt), subst (λ n. Each (λ later. n < later.0) rest) same h.1, h.2)
    by_place more false false e f =
        let before : client < first.0 = grind (arith, nat_tests, e, f) in
        (lt, (before, Each-weaker (λ later. first.0 < later.0) (λ later. client < later.0) (λ later k. omega (arith, before, k)) rest h.1), (h.0, h.1, h.2))

-- raising a mark keeps the map in order
pub IsMarkMap-raised : (client seq : ℕ) (marks : MarkMap) → IsMarkMap marks → IsMarkMap (raised client seq marks)
IsMarkMap-raised client seq marks h = by_seq (seq == 0) refl
  where
    by_seq : (b : Bool) → (seq == 0) ≡ b → IsMarkMap (if b then marks else placed client seq marks)
    by_seq true e = h
    by_seq false e = IsMarkMap-placed client seq marks (grind (arith, nat_tests, e)) h

-- so does joining
pub IsMarkMap-joined : (marks more : MarkMap) → IsMarkMap marks → IsMarkMap (joined_marks marks more)
IsMarkMap-joined marks [] h = h
IsMarkMap-joined marks (first ∷ rest) h = IsMarkMap-joined (raised first.0 first.1 marks) rest (IsMarkMap-raised first.0 first.1 marks h)

-- of each client the greater of its two marks
pub mark_of-joined : (marks more : MarkMap) (client : ℕ) → IsMarkMap marks → IsMarkMap more →
    mark_of (joined_marks marks more) client ≡ max (mark_of marks client) (mark_of more client)
mark_of-joined marks [] client h k = grind (arith, nat_tests)
mark_of-joined marks (first ∷ rest) client h k =
    let again : mark_of (joined_marks (raised first.0 first.1 marks) rest) client ≡ max (mark_of (raised first.0 first.1 marks) client) (mark_of rest client) = mark_of-joined (raised first.0 first.1 marks) rest client (IsMarkMap-raised first.0 first.1 marks h) k.2 in
    by_client (first.0 == client) refl again
  where
    by_client : (b : Bool) → (first.0 == client) ≡ b →
        mark_of (joined_marks (raised first.0 first.1 marks) rest) client ≡ max (mark_of (raised first.0 first.1 marks) client) (mark_of rest client) →
        mark_of (joined_marks (raised first.0 first.1 marks) rest) client ≡ max (mark_of marks client) (if b then first.1 else mark_of rest client)
    by_client true e again =
        let same : first.0 ≡ client = grind (arith, nat_tests, e) in
        let none : mark_of rest client ≡ 0 = mark_of-before client rest (subst (λ n. Each (λ later. n < later.0) rest) same k.1) in
        let here : mark_of (raised first.0 first.1 marks) client ≡ max (mark_of marks client) first.1 =
        subst (λ n. mark_of (raised n first.1 marks) client ≡ max (mark_of marks client) first.1) (sym same) (mark_of-raised client first.1 marks h) in
        omega (arith, again, none, here)
    by_client false e again =
        let apart : client ≢ first.0 = grind (arith, nat_tests, e) in
        let there : mark_of (raised first.0 first.1 marks) client ≡ mark_of marks client = mark_of-raised_other first.0 first.1 marks client apart in
        omega (arith, again, there)

-- the first clients of two maps with the same marks are one
same_client : (x y : ℕ × ℕ) (xs ys : MarkMap) → IsMarkMap (x ∷ xs) → IsMarkMap (y ∷ ys) →
    ((client : ℕ) → mark_of (x ∷ xs) client ≡ mark_of (y ∷ ys) client) → x.0 ≡ y.0
same_client x y xs ys h k e =
    let here : mark_of (x ∷ xs) x.0 ≡ x.1 = grind (arith, nat_tests) in
    let there : mark_of (y ∷ ys) y.0 ≡ y.1 = grind (arith, nat_tests) in
    let left : x.0 < y.0 → ⊥ = λ lt.
    (let none : mark_of (y ∷ ys) x.0 ≡ 0 =
    mark_of-before x.0 (y ∷ ys) (lt, Each-weaker (λ later. y.0 < later.0) (λ later. x.0 < later.0) (λ later more. omega (arith, lt, more)) ys k.1) in
    omega (arith, here, none, e x.0, h.0)) in
    let right : y.0 < x.0 → ⊥ = λ lt.
    (let none : mark_of (x ∷ xs) y.0 ≡ 0 =
    mark_of-before y.0 (x ∷ xs) (lt, Each-weaker (λ later. x.0 < later.0) (λ later. y.0 < later.0) (λ later more. omega (arith, lt, more)) xs h.1) in
    omega (arith, there, none, e y.0, k.0)) in
    grind (arith, left, right)

same_seq : (x y : ℕ × ℕ) (xs ys : MarkMap) → x.0 ≡ y.0 → mark_of (x ∷ xs) x.0 ≡ mark_of (y ∷ ys) x.0 → x.1 ≡ y.1
same_seq x y xs ys client e = grind (arith, nat_tests, client, e)

same_rest : (x y : ℕ × ℕ) (xs ys : MarkMap) → IsMarkMap (x ∷ xs) → IsMarkMap (y ∷ ys) → x.0 ≡ y.0 →
    ((client : ℕ) → mark_of (x ∷ xs) client ≡ mark_of (y ∷ ys) client) → (client : ℕ) → mark_of xs client ≡ mark_of ys client
same_rest x y xs ys h k same e client = by_client (x.0 == client) refl
  where
    by_client : (b : Bool) → (x.0 == client) ≡ b → mark_of xs client ≡ mark_of ys client
    by_client true f =
        let is_x : x.0 ≡ client = grind (arith, nat_tests, f) in
        let left : mark_of xs client ≡ 0 = mark_of-before client xs (subst (λ n. Each (λ later. n < later.0) xs) is_x h.1) in
        let right : mark_of ys client ≡ 0 = mark_of-before client ys (subst (λ n. Each (λ later. n < later.0) ys) (sym same ∙ is_x) k.1) in
        omega (arith, left, right)
    by_client false f = grind (arith, nat_tests, f, same, e client)

-- two maps that give each client the same mark are one
pub MarkMap-from_marks : (a b : MarkMap) → IsMarkMap a → IsMarkMap b → ((client : ℕ) → mark_of a client ≡ mark_of b client) → a ≡ b
MarkMap-from_marks [] [] h k e = refl
MarkMap-from_marks [] (y ∷ ys) h k e = absurd (clash (e y.0))
  where
    clash : 0 ≡ mark_of (y ∷ ys) y.0 → ⊥
    clash r = grind (arith, nat_tests, r, k.0)
MarkMap-from_marks (x ∷ xs) [] h k e = absurd (clash (e x.0))
  where
    clash : mark_of (x ∷ xs) x.0 ≡ 0 → ⊥
    clash r = grind (arith, nat_tests, r, h.0)
MarkMap-from_marks (x ∷ xs) (y ∷ ys) h k e =
    let client : x.0 ≡ y.0 = same_client x y xs ys h k e in
    let seq : x.1 ≡ y.1 = same_seq x y xs ys client (e x.0) in
    let rest : xs ≡ ys = MarkMap-from_marks xs ys h.2 k.2 (same_rest x y xs ys h k client e) in
    λ i. (client i, seq i) ∷ rest i

-- ---- the same, as an ordered map of the library

pub unwrap_or-lookup : (marks : MarkMap) (client : ℕ) → unwrap_or (lookup (is_at (nat_cmp client)) marks) 0 ≡ mark_of marks client
unwrap_or-lookup [] client = refl
unwrap_or-lookup (first ∷ rest) client = grind (arith, nat_tests, unwrap_or-lookup rest client)

insert_entry-placed : (marks : MarkMap) (client seq : ℕ) → IsMarkMap marks → mark_of marks client < seq →
    insert_entry nat_cmp marks client seq ≡ placed client seq marks
insert_entry-placed [] client seq h lt = refl
insert_entry-placed (first ∷ rest) client seq h lt = by_place (insert_entry-placed rest client seq h.2) (nat_lt first.0 client) (first.0 == client) refl refl
  where
    by_place : (mark_of rest client < seq → insert_entry nat_cmp rest client seq ≡ placed client seq rest) → (b c : Bool) → nat_lt first.0 client ≡ b → (first.0 == client) ≡ c → insert_entry nat_cmp (first ∷ rest) client seq ≡ (if b then first ∷ placed client seq rest else if c then (client, max first.1 seq) ∷ rest else (client, seq) ∷ (first ∷ rest))
    by_place more b c e f = grind (arith, nat_tests, e, f, more, lt)

-- a mark that rises is an entry put in
pub insert_entry-raised : (marks : MarkMap) (client seq : ℕ) → IsMarkMap marks → mark_of marks client < seq →
    insert_entry nat_cmp marks client seq ≡ raised client seq marks
insert_entry-raised marks client seq h lt = grind (arith, nat_tests, insert_entry-placed marks client seq h lt)

-- one that does not rise changes nothing
pub raised-low : (marks : MarkMap) (client seq : ℕ) → IsMarkMap marks → seq ≤ mark_of marks client → raised client seq marks ≡ marks
raised-low marks client seq h le =
    MarkMap-from_marks (raised client seq marks) marks (IsMarkMap-raised client seq marks h) h
    (λ other. by_client other (other == client) refl)
  where
    by_client : (other : ℕ) (b : Bool) → (other == client) ≡ b → mark_of (raised client seq marks) other ≡ mark_of marks other
    by_client other true f =
        let same : other ≡ client = grind (arith, nat_tests, f) in
        let mark : mark_of (raised client seq marks) client ≡ max (mark_of marks client) seq = mark_of-raised client seq marks h in
        let stays : mark_of (raised client seq marks) client ≡ mark_of marks client = omega (arith, mark, le) in
        subst (λ n. mark_of (raised client seq marks) n ≡ mark_of marks n) (sym same) stays
    by_client other false f = mark_of-raised_other client seq marks other (grind (arith, nat_tests, f))
