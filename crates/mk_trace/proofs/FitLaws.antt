-- A line that is read fits what was read above it.
use Rattle.std.proofs.Common.{◌≡◌, ℕ, suc, ◌*◌, ◌-◌, ◌^◌, ◌≤◌, ◌<◌, Bool, true, false, cond, eqb, leb, ltb, ◌&&◌, List, [], ◌∷◌, length, Option, Some, None, Result, Ok, Err, refl, arith}
use Rattle.std.specs.Prelude.{IfOk}
use Rattle.std.specs.List.{list_all}
use Rattle.std.proofs.lemmas.Bool.{and_from}
use Rattle.std.proofs.lemmas.Bool.Decides.{nat_tests}
use Rattle.std.proofs.lemmas.Option.{same_Some}
use Rattle.mk_spelling.specs.declared.fault.TextFault.{TextFault}
use Rattle.mk_spelling.specs.declared.fault.TextFault.TheVariants as faults
use Rattle.mk_spelling.specs.Words.{cut, is_name, is_number, value, ranged, number}
use Rattle.mk_spelling.specs.Fields.{◌>>=◌, ◌>>◌, need, found, place, one_on}
use Rattle.mk_spelling.proofs.PlaceLaws.{place_below}
use Rattle.mk_quorum.specs.Sizes.{members}
use Rattle.mk_txn.specs.declared.Value.TheVariants.{Number, Absent}
use Rattle.mk_history.specs.declared.RoundLog.{RoundLog}
use Rattle.mk_history.specs.Shape.{stamp_fits, value_fits, id_fits, key_fits, replica_fits, write_fits}
use Rattle.mk_kept.specs.declared.head.Head.{Head}
use Rattle.mk_kept.specs.Heads.{history}
use Rattle.mk_trace_lines.specs.ActShapes.{Parts, stamp_of, value_of, is_none}
use Rattle.mk_trace_text.specs.States.{State}
use Rattle.mk_trace_text.specs.Grammar.{below, client_number, attempt_of, key_of, replica_of, write_word, writes_of}

-- ---- tests that follow one another

-- where the tests are passed, the value has Q
pub record Gives {A : Type 0} (Q : A → Type 0) (r : Result A TextFault) : Type 0 where
  pub is : IfOk r Q

pub need_law : {B : Type 0} {Q : B → Type 0} (b : Bool) (fault : TextFault) {r : Result B TextFault} → (b ≡ true → Gives Q r) → Gives Q (need b fault >> r)
need_law true fault f = f refl
need_law false fault f = record { is = tt }

pub bind_law : {A B : Type 0} {P : A → Type 0} {Q : B → Type 0} {r : Result A TextFault} {f : A → Result B TextFault}
    → Gives P r → ((x : A) → P x → Gives Q (f x)) → Gives Q (r >>= f)
bind_law {r = Ok x} h next = next x h.is
bind_law {r = Err e} h next = record { is = tt }

pub done_law : {A : Type 0} {Q : A → Type 0} {x : A} → Q x → Gives Q (Ok x)
done_law h = record { is = h }

pub self_law : {A : Type 0} (r : Result A TextFault) → Gives (λ x. r ≡ Ok x) r
self_law (Ok x) = record { is = refl }
self_law (Err e) = record { is = tt }

pub found_law : {A : Type 0} (fault : TextFault) (o : Option A) → Gives (λ x. o ≡ Some x) (found fault o)
found_law fault None = record { is = tt }
found_law fault (Some x) = record { is = refl }

pub failed_law : {A : Type 0} {Q : A → Type 0} {e : TextFault} → Gives Q (Err e)
failed_law = record { is = tt }

pub weaker_law : {A : Type 0} {P Q : A → Type 0} {r : Result A TextFault} → ((x : A) → P x → Q x) → Gives P r → Gives Q r
weaker_law {r = Ok x} f h = record { is = f x h.is }
weaker_law {r = Err e} f h = record { is = tt }

-- ---- numbers

abbrev pub Between : ℕ → ℕ → ℕ → Type 0
Between low high n = (low ≤ n) × (n ≤ high)

pub ranged_law : (low high n : ℕ) → Gives (Between low high) (ranged low high n)
ranged_law low high n = here (leb low n) refl (leb n high) refl
  where
    here : (a : Bool) → leb low n ≡ a → (b : Bool) → leb n high ≡ b → Gives (Between low high) (cond (a && b) (Ok n) (Err faults.Large))
    here true a true b = done_law (grind (arith, nat_tests), grind (arith, nat_tests))
    here true a false b = failed_law
    here false a b bb = failed_law

pub number_law : (low high : ℕ) (w : List ℕ) → Gives (Between low high) (number low high w)
number_law low high w = here (is_number w)
  where
    here : (t : Bool) → Gives (Between low high) (cond t (ranged low high (value w)) (Err faults.Number))
    here true = ranged_law low high (value w)
    here false = failed_law

pub below_law : (n : ℕ) (w : List ℕ) → Gives (λ k. ltb k n ≡ true) (below n w)
below_law n w = need_law (is_number w) _ (λ is. need_law (ltb (value w) n) _ (λ small. done_law small))

pub leb-from : (m n : ℕ) → m ≤ n → leb m n ≡ true
leb-from m n h = grind (arith, nat_tests)

pub ltb-from : (m n : ℕ) → m < n → ltb m n ≡ true
ltb-from m n h = grind (arith, nat_tests)

-- ---- stamps and values

pub stamp_law : (p : Parts) → Gives (λ t. stamp_fits t ≡ true) (stamp_of p)
stamp_law p = need_law (is_number p.0) _ (λ a. need_law (is_number p.1) _ (λ b.
    bind_law (ranged_law 0 (2 ^ 62) (value p.0)) (λ time t.
    bind_law (ranged_law 0 64 (value p.1)) (λ client c.
    done_law (and_from (leb time (2 ^ 62)) (leb client 64) (leb-from time (2 ^ 62) t.1) (leb-from client 64 c.1))))))

pub value_law : (head : Head) (w : List ℕ) → Gives (λ v. (rounds : List RoundLog) → value_fits (history head rounds) v ≡ true) (value_of head.version w)
value_law head w = here (eqb head.version 2) refl (is_none w)
  where
    here : (a : Bool) → eqb head.version 2 ≡ a → (b : Bool)
        → Gives (λ v. (rounds : List RoundLog) → value_fits (history head rounds) v ≡ true) (cond (a && b) (Ok Absent) (number 0 (2 ^ 64 - 1) w >>= λ n. Ok (Number n)))
    here true a true = done_law (λ rounds. a)
    here true a false = bind_law (number_law 0 (2 ^ 64 - 1) w) (λ n h. done_law (λ rounds. ltb-from n (2 ^ 64) (omega (arith, h.1))))
    here false a b = bind_law (number_law 0 (2 ^ 64 - 1) w) (λ n h. done_law (λ rounds. ltb-from n (2 ^ 64) (omega (arith, h.1))))

-- ---- names

client_law : (s : State) (w : List ℕ) (n : ℕ) → client_number s w ≡ Some n → Between 1 (length s.head.client_names.names) n
client_law s w n e = here (place w s.head.client_names.names) refl e
  where
    here : (o : Option ℕ) → place w s.head.client_names.names ≡ o → one_on o ≡ Some n → Between 1 (length s.head.client_names.names) n
    here None p h = absurd cc
    here (Some k) p h =
        let at : suc k ≡ n = same_Some (suc k) n h in
        let low = place_below w s.head.client_names.names k p in
        (omega (arith, at), omega (arith, at, low))

pub attempt_law : (s : State) (p : List ℕ × List ℕ) → Gives (λ id. (rounds : List RoundLog) → id_fits (history s.head rounds) id ≡ true) (attempt_of s p)
attempt_law s p =
    bind_law (number_law 1 16384 p.1) (λ seq q. need_law (is_name p.0) _ (λ well. bind_law (found_law faults.Unknown (client_number s p.0)) (λ client is.
    let c = client_law s p.0 client is in
    let n = length s.head.client_names.names in
    done_law (λ rounds. and_from (leb 1 client && leb client n && leb 1 seq) (leb seq 16384)
    (and_from (leb 1 client && leb client n) (leb 1 seq)
    (and_from (leb 1 client) (leb client n) (leb-from 1 client c.0) (leb-from client n c.1))
    (leb-from 1 seq q.0))
    (leb-from seq 16384 q.1)))))

pub key_law : (s : State) (w : List ℕ) → Gives (λ k. (rounds : List RoundLog) → key_fits (history s.head rounds) k ≡ true) (key_of s w)
key_law s w = need_law (is_name w) _ (λ well. at (place w s.head.key_names.names) refl)
  where
    at : (o : Option ℕ) → place w s.head.key_names.names ≡ o → Gives (λ k. (rounds : List RoundLog) → key_fits (history s.head rounds) k ≡ true) (found faults.Unknown o)
    at None e = failed_law
    at (Some k) e = done_law (λ rounds. ltb-from k (length s.head.key_names.names) (place_below w s.head.key_names.names k e))

pub replica_law : (s : State) (w : List ℕ) → Gives (λ r. (rounds : List RoundLog) → replica_fits (history s.head rounds) r ≡ true) (replica_of s w)
replica_law s w =
    weaker_law (λ k h rounds. ltb-from k (members s.head.size) (omega (arith, h.1))) (number_law 0 (2 * s.head.size) w)

-- ---- writes

write_law : (s : State) (w : List ℕ) → Gives (λ item. (rounds : List RoundLog) → write_fits (history s.head rounds) item ≡ true) (write_word s w)
write_law s w =
    bind_law (self_law (found faults.Form (cut 61 w))) (λ p is.
    bind_law (value_law s.head p.1) (λ v fits.
    bind_law (key_law s p.0) (λ key has.
    done_law (λ rounds. and_from (key_fits (history s.head rounds) key) (value_fits (history s.head rounds) v) (has rounds) (fits rounds)))))

pub writes_law : (s : State) (ws : List (List ℕ))
    → Gives (λ items. (rounds : List RoundLog) → list_all (write_fits (history s.head rounds)) items ≡ true) (writes_of s ws)
writes_law s [] = done_law (λ rounds. refl)
writes_law s (w ∷ ws) =
    bind_law (write_law s w) (λ item one.
    bind_law (writes_law s ws) (λ items all.
    done_law (λ rounds.
    and_from (write_fits (history s.head rounds) item) (list_all (write_fits (history s.head rounds)) items) (one rounds) (all rounds))))
