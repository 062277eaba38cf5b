-- A client's mark by the settled attempts is its mark by its attempts.
use Rattle.std.proofs.Common.{◌≡◌, ℕ, zero, suc, ◌+◌, ◌<◌, ◌≤◌, ◌^◌, Bool, true, false, cond, refl, sym, ap, subst, add-one, ◌∙◌, ◌||◌, ◌&&◌, ◌==◌, arith, List, [], ◌∷◌, length, Option, Some, None}
use Rattle.std.specs.Prelude.{map, option_map, is_some}
use Rattle.std.proofs.lemmas.Bool.{false≢true}
use Rattle.std.proofs.lemmas.Bool.Decides.{nat_tests}
use Rattle.std.proofs.lemmas.List.{length-map}
use Rattle.mk_lists.proofs.EachMember.{Each-find}
use Rattle.mk_lists.proofs.Lookups.{find-passes}
use Rattle.mk_txn.specs.declared.TxnId.{TxnId}
use Rattle.mk_txn.proofs.IdOrder.{same_id-tells}
use Rattle.mk_quorum.specs.Slots.{passes}
use Rattle.mk_quorum.specs.Counts.{count_below}
use Rattle.mk_quorum.proofs.Counting.{count_below-same}
use Rattle.mk_quorum.proofs.Slots.{is_some-passes}
use Rattle.mk_words.specs.Settling.{all_upto, greatest_upto}
use Rattle.mk_trim.specs.SettledAttempts.{SettledAttempts, IsMark, is_settled as is_kept_settled}
use Rattle.mk_words.proofs.SettlingLaws.{greatest_upto-is}
use Rattle.mk_model.specs.ColumnState.{is_settled, attempt_of, client_mark}
use Rattle.mk_column.specs.AttemptsByCode.{BegunView, begun_of, is_begun, states_of}
use Rattle.mk_column.specs.ColumnByCode.{Kept, AttemptFits, IsKept, column_of, learning_of_kept}
use Rattle.mk_column.proofs.ColumnLaws.{attempt-found}

-- the attempt of this client at this place
abbrev pub at_place : ℕ → ℕ → TxnId
at_place client seq = record { client = client; seq = seq }

-- where one number more passes, at most one more is counted, and none below that number
count-below_it : (n : ℕ) (p q : ℕ → Bool) (k : ℕ) → n ≤ k → ((r : ℕ) → (k == r) ≡ false → p r ≡ q r) → count_below n p ≡ count_below n q
count-below_it zero p q k le h = refl
count-below_it (suc n) p q k le h =
    let apart : (k == n) ≡ false = grind (arith, nat_tests, le) in
    ap (λ b. cond b 1 0 + count_below n p) (h n apart) ∙ ap (λ c. cond (q n) 1 0 + c) (count-below_it n p q k (omega (arith, le)) h)

abbrev bit : Bool → ℕ
bit b = cond b 1 0

bit-most : (b : Bool) → bit b ≤ 1
bit-most true = omega arith
bit-most false = omega arith

count-one_more : (n : ℕ) (p q : ℕ → Bool) (k : ℕ) → ((r : ℕ) → (k == r) ≡ false → p r ≡ q r) → count_below n p ≤ count_below n q + 1
count-one_more zero p q k h = omega arith
count-one_more (suc n) p q k h = by_test (count-one_more n p q k h) (k == n) refl
  where
    by_test : count_below n p ≤ count_below n q + 1 → (b : Bool) → (k == n) ≡ b → bit (p n) + count_below n p ≤ bit (q n) + count_below n q + 1
    by_test more true e =
        let same : k ≡ n = grind (arith, nat_tests, e) in
        let below : count_below n p ≡ count_below n q = count-below_it n p q k (omega (arith, same)) h in
        let one : bit (p n) ≤ 1 = bit-most (p n) in
        omega (arith, below, one)
    by_test more false e =
        let bits : bit (p n) ≡ bit (q n) = ap bit (h n e) in
        omega (arith, bits, more)

-- as many places of a client are found as there are attempts, at most
found-count : (client n : ℕ) (all : List BegunView) → count_below n (λ r. is_some (begun_of (at_place client (suc r)) all)) ≤ length all
found-count client n [] = none_counted n
  where
    none_counted : (m : ℕ) → count_below m (λ r. false) ≤ 0
    none_counted zero = omega arith
    none_counted (suc m) = let less = none_counted m in omega (arith, less)
found-count client n (b ∷ all) = by_place (found-count client n all) b.state.id.seq refl
  where
    p : ℕ → Bool
    p r = is_some (begun_of (at_place client (suc r)) (b ∷ all))

    q : ℕ → Bool
    q r = is_some (begun_of (at_place client (suc r)) all)

    other : (r : ℕ) → is_begun (at_place client (suc r)) b ≡ false → p r ≡ q r
    other r e = ap (λ t. is_some (cond t (Some b) (begun_of (at_place client (suc r)) all))) e

    by_place : count_below n q ≤ length all → (seq : ℕ) → b.state.id.seq ≡ seq → count_below n p ≤ suc (length all)
    by_place more zero e =
        let same : count_below n p ≡ count_below n q =
        count_below-same n p q (λ r lt. other r (let z : b.state.id.seq ≡ 0 = e in grind (arith, nat_tests, z))) in
        omega (arith, same, more)
    by_place more (suc k) e =
        let less = count-one_more n p q k (λ r apart. other r (let s : b.state.id.seq ≡ suc k = e in grind (arith, nat_tests, s, apart))) in
        omega (arith, less, more)

all-counted : (n : ℕ) (p : ℕ → Bool) → ((r : ℕ) → r < n → p r ≡ true) → count_below n p ≡ n
all-counted zero p h = refl
all-counted (suc n) p h =
    let here : bit (p n) ≡ bit true = ap bit (h n (omega arith)) in
    let below : count_below n p ≡ n = all-counted n p (λ r lt. h r (omega (arith, lt))) in
    omega (arith, here, below)

greatest_upto-same : (p q : ℕ → Bool) → ((n : ℕ) → p (suc n) ≡ q (suc n)) → (most : ℕ) → greatest_upto p most ≡ greatest_upto q most
greatest_upto-same p q h zero = refl
greatest_upto-same p q h (suc most) =
    ap (λ b. cond b (suc most) (greatest_upto p most)) (all-same (suc most))
    ∙ ap (λ n. cond (all_upto q (suc most)) (suc most) n) (greatest_upto-same p q h most)
  where
    all-same : (m : ℕ) → all_upto p m ≡ all_upto q m
    all-same zero = refl
    all-same (suc m) = ap (λ b. b && all_upto p m) (h m) ∙ ap (λ b. q (suc m) && b) (all-same m)

not_first : (n : ℕ) (b : Bool) → ((suc n == 0) || b) ≡ b
not_first n b = let e : (suc n == 0) ≡ false = grind (arith, nat_tests) in ap (λ t. t || b) e

-- what is settled at a place above 0, by the settled attempts and by the column
settled-same : (f : ℕ) (kept : Kept) (ends : SettledAttempts) (client n : ℕ) → IsKept f kept ends
    → is_kept_settled ends (at_place client (suc n)) ≡ passes is_settled (attempt_of (column_of kept) (at_place client (suc n)))
settled-same f kept ends client n h =
    h.settled (at_place client (suc n)) ∙ not_first n _
    ∙ sym (ap (passes is_settled) (attempt-found (at_place client (suc n)) kept.attempts) ∙ by_found (begun_of (at_place client (suc n)) kept.attempts))
  where
    by_found : (o : Option BegunView) → passes is_settled (option_map (λ (b : BegunView). b.state) o) ≡ passes (λ (b : BegunView). is_settled b.state) o
    by_found None = refl
    by_found (Some b) = refl

-- up to the mark each place is that of an attempt
settled-there : (f : ℕ) (kept : Kept) (ends : SettledAttempts) (client mark n : ℕ) → IsKept f kept ends → IsMark ends client mark → n < mark
    → is_some (begun_of (at_place client (suc n)) kept.attempts) ≡ true
settled-there f kept ends client mark n h is lt =
    is_some-passes (λ (b : BegunView). is_settled b.state) (begun_of (at_place client (suc n)) kept.attempts)
    (sym (not_first n _) ∙ sym (h.settled (at_place client (suc n))) ∙ is.up_to (suc n) (omega (arith, lt)))

mark-room : (f : ℕ) (kept : Kept) (ends : SettledAttempts) (client mark : ℕ) → IsKept f kept ends → IsMark ends client mark → mark + 1 < 2 ^ 32
mark-room f kept ends client zero h is = omega arith
mark-room f kept ends client (suc n) h is = by_found (begun_of (at_place client (suc n)) kept.attempts) refl
  where
    by_found : (o : Option BegunView) → begun_of (at_place client (suc n)) kept.attempts ≡ o → suc n + 1 < 2 ^ 32
    by_found None e = absurd (false≢true (sym (ap is_some e) ∙ settled-there f kept ends client (suc n) n h is (omega arith)))
    by_found (Some b) e =
        let fits =
        (Each-find (AttemptFits f kept.link (map learning_of_kept kept.learned)) (is_begun (at_place client (suc n))) kept.attempts b h.attempts e).seq in
        let same : b.state.id ≡ at_place client (suc n) =
        same_id-tells b.state.id (at_place client (suc n)) (find-passes (is_begun (at_place client (suc n))) kept.attempts b e) in
        let seq : b.state.id.seq ≡ suc n = ap (λ i. i.seq) same in
        omega (arith, fits, seq)

pub client_mark-is : (f : ℕ) (kept : Kept) (ends : SettledAttempts) (client mark : ℕ) → IsKept f kept ends → IsMark ends client mark
    → client_mark (column_of kept) client ≡ mark
client_mark-is f kept ends client mark h is =
    let n = length (column_of kept).attempts in
    let p : ℕ → Bool = λ r. is_some (begun_of (at_place client (suc r)) kept.attempts) in
    let counted : count_below mark p ≡ mark = all-counted mark p (λ r lt. settled-there f kept ends client mark r h is lt) in
    let few : count_below mark p ≤ length kept.attempts = found-count client mark kept.attempts in
    let long : length (states_of kept.attempts) ≡ length kept.attempts = length-map kept.attempts (λ (b : BegunView). b.state) in
    sym (greatest_upto-same (λ seq. is_kept_settled ends (at_place client seq)) (λ seq. passes is_settled (attempt_of (column_of kept) (at_place client seq))) (λ k. settled-same f kept ends client k h) n)
    ∙ greatest_upto-is (λ seq. is_kept_settled ends (at_place client seq)) mark n is.up_to
    (subst (λ k. is_kept_settled ends (at_place client k) ≡ false) (add-one mark) (is.ends (mark-room f kept ends client mark h is)))
    (omega (arith, counted, few, long))
