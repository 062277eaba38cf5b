-- Fields of a line: what is written is read again.
use Rattle.std.proofs.Common.{◌≡◌, ℕ, zero, suc, ◌-◌, ◌*◌, ◌^◌, ◌≤◌, ◌<◌, Bool, true, false, cond, eqb, leb, ltb, ◌&&◌, List, [], ◌∷◌, length, Option, Some, None, Result, Ok, Err, refl, sym, ap, subst, ◌∙◌, arith, inl, inr}
use Rattle.std.specs.Fmt.{decimal}
use Rattle.std.specs.Str.{bytes_eq}
use Rattle.std.proofs.lemmas.Bool.{and_from, and_parts}
use Rattle.std.proofs.lemmas.Bool.Decides.{nat_tests}
use Rattle.std.proofs.lemmas.Slice.Eq.{bytes_eq-Decides}
use Rattle.mk_lists.specs.Among.{Among, Each, AllDistinct}
use Rattle.mk_spelling.specs.declared.fault.TextFault.{TextFault}
use Rattle.mk_spelling.specs.declared.fault.TextFault.TheVariants as faults
use Rattle.mk_spelling.specs.Words.{cut, is_name, is_number, value, ranged, number}
use Rattle.mk_spelling.specs.Fields.{◌>>=◌, ◌>>◌, need, found, place, one_on}
use Rattle.mk_spelling.proofs.Cuts.{Lacks-name, cut-parts}
use Rattle.mk_spelling.proofs.FieldLaws.{ok_is, bytes_eq-same}
use Rattle.mk_spelling.proofs.Numbers.{number-again, Lacks-decimal}
use Rattle.mk_quorum.specs.Sizes.{members}
use Rattle.mk_txn.specs.declared.Stamp.{Stamp}
use Rattle.mk_txn.specs.declared.TxnId.{TxnId}
use Rattle.mk_txn.specs.declared.Value.{Value}
use Rattle.mk_txn.specs.declared.Value.TheVariants.{Number, Absent}
use Rattle.mk_txn.specs.declared.WriteItem.{WriteItem}
use Rattle.mk_history.specs.Histories.{History}
use Rattle.mk_history.specs.Shape.{stamp_fits, value_fits, replica_fits}
use Rattle.mk_trace_lines.specs.LineWords.{none_text}
use Rattle.mk_trace_lines.specs.TraceLines.{client_name, key_name, attempt_text, stamp_text, value_text, write_text}
use Rattle.mk_trace_lines.specs.ActShapes.{Parts, stamp_parts, stamp_of, value_of, is_none}
use Rattle.mk_trace_text.specs.States.{State}
use Rattle.mk_trace_text.specs.Grammar.{is_text_of, below, attempt_of, key_of, replica_of}
use Rattle.mk_trace.proofs.FitLaws.{leb-from}

-- ---- tests

pub leb-low : (m n : ℕ) → leb m n ≡ true → m ≤ n
leb-low m n e = grind (arith, nat_tests)

pub ltb-low : (m n : ℕ) → ltb m n ≡ true → m < n
ltb-low m n e = grind (arith, nat_tests)

pub eqb-from : (m n : ℕ) → m ≡ n → eqb m n ≡ true
eqb-from m n e = grind (arith, nat_tests)

-- ---- numbers

number_parts : (low high : ℕ) (w : List ℕ) (n : ℕ) → number low high w ≡ Ok n → (is_number w ≡ true) × (value w ≡ n)
number_parts low high w n e = here (is_number w) refl (leb low (value w) && leb (value w) high) e
  where
    here : (t : Bool) → is_number w ≡ t → (b : Bool) → cond t (cond b (Ok (value w)) (Err faults.Large)) (Err faults.Number) ≡ Ok n
        → (is_number w ≡ true) × (value w ≡ n)
    here true t true h = (t, ok_is (value w) n h)
    here true t false h = absurd cc
    here false t b h = absurd cc

pub digits_again : (n : ℕ) → n < 2 ^ 64 → (is_number (decimal n) ≡ true) × (value (decimal n) ≡ n)
digits_again n fits = number_parts 0 (2 ^ 64 - 1) (decimal n) n (number-again 0 (2 ^ 64 - 1) n (omega arith) (omega arith) (omega (arith, fits)))

pub text_of_again : (n : ℕ) → n < 2 ^ 64 → is_text_of n (decimal n) ≡ true
text_of_again n fits =
    let d = digits_again n fits in
    and_from (is_number (decimal n)) (eqb (value (decimal n)) n) d.0 (eqb-from (value (decimal n)) n d.1)

pub below_again : (n k : ℕ) → k < 2 ^ 64 → ltb k n ≡ true → below n (decimal k) ≡ Ok k
below_again n k fits low = at (is_number (decimal k)) d.0 (value (decimal k)) d.1
  where
    d : (is_number (decimal k) ≡ true) × (value (decimal k) ≡ k)
    d = digits_again k fits

    at : (a : Bool) → a ≡ true → (v : ℕ) → v ≡ k → (need a faults.Number >> (need (ltb v n) faults.Large >> Ok v)) ≡ Ok k
    at true e v same = rw (same, low) refl
    at false e v same = absurd cc

pub ranged_again : (high n : ℕ) → n ≤ high → ranged 0 high n ≡ Ok n
ranged_again high n h = at (leb 0 n) (leb-from 0 n (omega arith)) (leb n high) (leb-from n high h)
  where
    at : (a : Bool) → a ≡ true → (b : Bool) → b ≡ true → cond (a && b) (Ok n) (Err faults.Large) ≡ Ok n
    at true e true k = refl
    at true e false k = absurd cc
    at false e b k = absurd cc

-- ---- stamps and values

abbrev pub parts : Stamp → Parts
parts t = (decimal t.time, decimal t.client)

pub stamp_low : (t : Stamp) → stamp_fits t ≡ true → (t.time ≤ 2 ^ 62) × (t.client ≤ 64)
stamp_low t fits =
    let q = and_parts (leb t.time (2 ^ 62)) (leb t.client 64) fits in
    (leb-low t.time (2 ^ 62) q.0, leb-low t.client 64 q.1)

pub stamp_cut : (t : Stamp) → stamp_fits t ≡ true → stamp_parts (stamp_text t) ≡ Ok (parts t)
stamp_cut t fits =
    ap (found faults.Form) (cut-parts 46 (decimal t.time) (decimal t.client) (Lacks-decimal t.time 46 (let q = stamp_low t fits in omega (arith, q.0)) refl))

pub stamp_again : (t : Stamp) → stamp_fits t ≡ true → stamp_of (parts t) ≡ Ok t
stamp_again t fits =
    let q = stamp_low t fits in
    let a = digits_again t.time (omega (arith, q.0)) in
    let b = digits_again t.client (omega (arith, q.1)) in
    at (is_number (decimal t.time)) a.0 (is_number (decimal t.client)) b.0 (value (decimal t.time)) a.1 (value (decimal t.client)) b.1
    (ranged_again (2 ^ 62) t.time q.0) (ranged_again 64 t.client q.1)
  where
    made : ℕ → ℕ → Result Stamp TextFault
    made time client = Ok (record { time = time; client = client })

    at : (a : Bool) → a ≡ true → (b : Bool) → b ≡ true → (m : ℕ) → m ≡ t.time → (n : ℕ) → n ≡ t.client
        → ranged 0 (2 ^ 62) t.time ≡ Ok t.time → ranged 0 64 t.client ≡ Ok t.client
        → (need a faults.Number >> (need b faults.Number >> (ranged 0 (2 ^ 62) m >>= λ time. ranged 0 64 n >>= λ client. made time client))) ≡ Ok t
    at true e true k m sm n sn r s =
        ap (λ (x : ℕ). ranged 0 (2 ^ 62) x >>= λ time. ranged 0 64 n >>= λ client. made time client) sm
        ∙ ap (λ (x : Result ℕ TextFault). x >>= λ time. ranged 0 64 n >>= λ client. made time client) r
        ∙ ap (λ (x : ℕ). ranged 0 64 x >>= λ client. made t.time client) sn
        ∙ ap (λ (x : Result ℕ TextFault). x >>= λ client. made t.time client) s
    at true e false k m sm n sn r s = absurd cc
    at false e b k m sm n sn r s = absurd cc

none_number : (n : ℕ) → n < 2 ^ 64 → is_none (decimal n) ≡ false
none_number n fits = here (bytes_eq none_text (decimal n)) refl
  where
    here : (b : Bool) → bytes_eq none_text (decimal n) ≡ b → b ≡ false
    here true e =
        let same : none_text ≡ decimal n = (bytes_eq-Decides none_text (decimal n)).0 e in
        let t : false ≡ true = ap is_number same ∙ (digits_again n fits).0 in
        absurd cc
    here false e = refl

pub value_again : (run : History) (v : Value) → value_fits run v ≡ true → value_of run.version (value_text v) ≡ Ok v
value_again run (Number n) fits = at (eqb run.version 2) (is_none (decimal n)) (none_number n small)
  where
    small : n < 2 ^ 64
    small = ltb-low n (2 ^ 64) fits

    at : (a b : Bool) → b ≡ false → cond (a && b) (Ok Absent) (number 0 (2 ^ 64 - 1) (decimal n) >>= λ k. Ok (Number k)) ≡ Ok (Number n)
    at true true e = absurd cc
    at true false e = ap (λ (x : Result ℕ TextFault). x >>= λ k. Ok (Number k)) (number-again 0 (2 ^ 64 - 1) n (omega arith) (omega arith) (omega (arith, small)))
    at false b e = ap (λ (x : Result ℕ TextFault). x >>= λ k. Ok (Number k)) (number-again 0 (2 ^ 64 - 1) n (omega arith) (omega arith) (omega (arith, small)))
value_again run Absent fits = at (eqb run.version 2) fits
  where
    at : (a : Bool) → a ≡ true → cond (a && is_none none_text) (Ok Absent) (number 0 (2 ^ 64 - 1) none_text >>= λ k. Ok (Number k)) ≡ Ok Absent
    at true e = refl
    at false e = absurd cc

-- ---- names

-- distinct names
pub record AreNames (names : List (List ℕ)) : Type 0 where
  pub named : Each (λ name. is_name name ≡ true) names
  pub distinct : AllDistinct names

pub place_among : (w : List ℕ) (xs : List (List ℕ)) (k : ℕ) → place w xs ≡ Some k → Among w xs
place_among w [] k e = absurd cc
place_among w (x ∷ xs) k e = here (bytes_eq w x) refl (place w xs) (λ m h. place_among w xs m h) e
  where
    here : (b : Bool) → bytes_eq w x ≡ b → (o : Option ℕ) → ((m : ℕ) → o ≡ Some m → Among w xs) → cond b (Some 0) (one_on o) ≡ Some k → Among w (x ∷ xs)
    here true b o ih h = inl (sym ((bytes_eq-Decides w x).0 b))
    here false b None ih h = absurd cc
    here false b (Some m) ih h = inr (ih m refl)

pub differs_from : (w x : List ℕ) → (x ≡ w → ⊥) → bytes_eq w x ≡ false
differs_from w x apart = here (bytes_eq w x) refl
  where
    here : (b : Bool) → bytes_eq w x ≡ b → b ≡ false
    here true e = absurd (apart (sym ((bytes_eq-Decides w x).0 e)))
    here false e = refl

-- a name that is not there has no place
pub place_fresh : (w : List ℕ) (xs : List (List ℕ)) → (Among w xs → ⊥) → place w xs ≡ None
place_fresh w [] new = refl
place_fresh w (x ∷ xs) new = rw (differs_from w x (λ e. new (inl e)), place_fresh w xs (λ a. new (inr a))) refl

-- the name of a number is at that place
pub name_there : (names : List (List ℕ)) → Each (λ name. is_name name ≡ true) names → AllDistinct names → (k : ℕ) → k < length names
    → (is_name (key_name names k) ≡ true) × (place (key_name names k) names ≡ Some k)
name_there [] named distinct k lt = absurd (omega (arith, lt))
name_there (x ∷ xs) named distinct zero lt = (named.0, rw (bytes_eq-same x) refl)
name_there (x ∷ xs) named distinct (suc k) lt =
    let ih = name_there xs named.1 distinct.1 k (omega (arith, lt)) in
    let other : bytes_eq (key_name xs k) x ≡ false =
    differs_from (key_name xs k) x (λ same. distinct.0 (subst (λ (z : List ℕ). Among z xs) (sym same) (place_among (key_name xs k) xs k ih.1))) in
    (ih.0, rw (other, ih.1) refl)

pub key_there : (names : List (List ℕ)) → AreNames names → (k : ℕ) → k < length names → (is_name (key_name names k) ≡ true) × (place (key_name names k) names ≡ Some k)
key_there names h k lt = name_there names h.named h.distinct k lt

-- the name of a client's number, which counts from 1
pub client_there : (names : List (List ℕ)) → AreNames names → (c : ℕ) → 1 ≤ c → c ≤ length names
    → (is_name (client_name names c) ≡ true) × (place (client_name names c) names ≡ Some (c - 1)) × (one_on (place (client_name names c) names) ≡ Some c)
client_there names h c low high =
    let q = key_there names h (c - 1) (omega (arith, low, high)) in
    (q.0, q.1, ap one_on q.1 ∙ ap (λ (n : ℕ). some_number n) (back c low))
  where
    some_number : ℕ → Option ℕ
    some_number n = Some n

    back : (c : ℕ) → 1 ≤ c → suc (c - 1) ≡ c
    back c low = omega (arith, low)

pub key_again : (s : State) → AreNames s.head.key_names.names → (k : ℕ) → k < length s.head.key_names.names → key_of s (key_name s.head.key_names.names k) ≡ Ok k
key_again s h k lt =
    let q = key_there s.head.key_names.names h k lt in
    rw (q.0, q.1) refl

pub attempt_again : (s : State) → AreNames s.head.client_names.names → (id : TxnId) → 1 ≤ id.client → id.client ≤ length s.head.client_names.names
    → 1 ≤ id.seq → id.seq ≤ 16384 → attempt_of s (client_name s.head.client_names.names id.client, decimal id.seq) ≡ Ok id
attempt_again s h id low high first last =
    let q = client_there s.head.client_names.names h id.client low high in
    rw (number-again 1 16384 id.seq (omega arith) first last, q.0, q.2) refl

pub attempt_cut : (names : List (List ℕ)) → AreNames names → (c seq : ℕ) → 1 ≤ c → c ≤ length names
    → cut 46 (attempt_text names c seq) ≡ Some (client_name names c, decimal seq)
attempt_cut names h c seq low high = cut-parts 46 (client_name names c) (decimal seq) (Lacks-name (client_name names c) 46 (client_there names h c low high).0 refl)

pub replica_again : (s : State) (run : History) (r : ℕ) → run.faults ≡ s.head.size → s.head.size ≤ 3 → replica_fits run r ≡ true → replica_of s (decimal r) ≡ Ok r
replica_again s run r same small fits =
    let lt : r < members run.faults = ltb-low r (members run.faults) fits in
    number-again 0 (2 * s.head.size) r (omega (arith, small)) (omega arith) (omega (arith, lt, same))

-- ---- writes

pub write_cut : (names : List (List ℕ)) → AreNames names → (item : WriteItem) → item.key < length names
    → cut 61 (write_text names item) ≡ Some (key_name names item.key, value_text item.value)
write_cut names h item lt =
    cut-parts 61 (key_name names item.key) (value_text item.value) (Lacks-name (key_name names item.key) 61 (key_there names h item.key lt).0 refl)
