-- Counts that rise one after the other rise by the sum, and where rounds fit nameless other client begins.
use Rattle.std.proofs.Common.{◌^◌, ◌⊎◌, ◌≢◌, inl, inr, set, length-set, get_or-set_other, ◌≡◌, ◌∙◌, sym, refl, ap, subst, arith, ℕ, zero, suc, ◌+◌, ◌-◌, ◌≤◌, ◌<◌, Bool, true, false, cond, eqb, leb, List, [], ◌∷◌, ◌++◌, length, map, take, replicate, get_or}
use Rattle.std.specs.Prelude.{min, sum, count_by}
use Rattle.std.specs.List.{list_all, sum_by}
use Rattle.std.proofs.lemmas.Bool.{and_parts, and_from, eqb-true}
use Rattle.std.proofs.lemmas.List.{get_or-replicate}
use Rattle.std.proofs.lemmas.Grind.{get_or-set_at}
use Rattle.std.proofs.lemmas.List.Sums.{count_by_more_yes, count_by_more_no, sum-map, sum_by_more, sum_by-append}
use Rattle.std.proofs.lemmas.Bool.Decides.{nat_tests}
use Rattle.mk_lists.specs.Among.{Each}
use Rattle.mk_words.specs.declared.Step.{Step}
use Rattle.mk_words.specs.declared.Step.TheVariants.{Begin, Unread, Read, Stamp as StampStep, Validate, Take, Key, Rule, Again, Takeover, Pick, Stop}
use Rattle.mk_history.specs.declared.RoundLog.{RoundLog}
use Rattle.mk_history.specs.Histories.{History}
use Rattle.mk_history.specs.Shape.{IsRoundShape, client_fits, step_fits, begins_of, begins_in}
use Rattle.mk_shape.specs.AttemptCounts.{one_where, capped, Adds, Counts, FewAttempts}

-- ---- one after the other

capped-again : (old middle new f g : ℕ) → capped middle ≡ capped (old + f) → capped new ≡ capped (middle + g) → capped new ≡ capped (old + (f + g))
capped-again old middle new f g e k = grind (arith, nat_tests)

pub adds_none : (counts : List ℕ) → Adds counts counts (λ client. 0)
adds_none counts = record { clients = refl; counts = λ place h. ap capped (sym (plus-zero (get_or counts place 0))) }
  where
    plus-zero : (n : ℕ) → n + 0 ≡ n
    plus-zero n = omega arith

pub adds_both : (old middle new : List ℕ) (f g : ℕ → ℕ) → Adds old middle f → Adds middle new g → Adds old new (λ client. f client + g client)
adds_both old middle new f g a b = record {
  clients = b.clients ∙ a.clients;
  counts = λ place h. capped-again (get_or old place 0) (get_or middle place 0) (get_or new place 0) (f (place + 1)) (g (place + 1))
      (a.counts place h) (b.counts place (subst (λ (n : ℕ). place < n) (sym a.clients) h));
}

pub adds_same : (old new : List ℕ) (f g : ℕ → ℕ) → ((client : ℕ) → f client ≡ g client) → Adds old new f → Adds old new g
adds_same old new f g same a = record {
  clients = a.clients;
  counts = λ place h. a.counts place h ∙ ap (λ n. capped (get_or old place 0 + n)) (same (place + 1));
}

-- ---- one client

one-more : (n v : ℕ) → v ≡ min (n + 1) (2 ^ 32 - 1) → capped v ≡ capped (n + 1)
one-more n v e = grind (arith, nat_tests)

none-more : (n : ℕ) → capped n ≡ capped (n + 0)
none-more n = ap capped (plus-zero n)
  where
    plus-zero : (n : ℕ) → n ≡ n + 0
    plus-zero n = omega arith

pub adds_one : (counts : List ℕ) (client v : ℕ) → 1 ≤ client → client ≤ length counts → v ≡ min (get_or counts (client - 1) 0 + 1) (2 ^ 32 - 1)
    → Adds counts (set counts (client - 1) v) (λ number. one_where (eqb client number))
adds_one counts client v low high e = record { clients = length-set counts (client - 1) v; counts = λ place h. here place h (eqb client (place + 1)) refl }
  where
    here : (place : ℕ) → place < length counts → (b : Bool) → eqb client (place + 1) ≡ b
        → capped (get_or (set counts (client - 1) v) place 0) ≡ capped (get_or counts place 0 + one_where b)
    here place h true is =
        let at : place ≡ client - 1 = grind (arith, nat_tests) in
        let same : get_or (set counts (client - 1) v) place 0 ≡ v = get_or-set_at counts (client - 1) place v 0 at (omega (arith, low, high)) in
        let old : get_or counts (client - 1) 0 ≡ get_or counts place 0 = ap (λ k. get_or counts k 0) (sym at) in
        ap capped same ∙ one-more (get_or counts place 0) v (e ∙ ap (λ n. min (n + 1) (2 ^ 32 - 1)) old)
    here place h false is =
        let apart : place ≢ client - 1 = grind (arith, nat_tests) in
        ap capped (get_or-set_other counts (client - 1) place v 0 apart) ∙ none-more (get_or counts place 0)

pub adds_no_one : (counts : List ℕ) (client : ℕ) → (client ≡ 0) ⊎ (length counts < client) → Adds counts counts (λ number. one_where (eqb client number))
adds_no_one counts client out = record { clients = refl; counts = λ place h. here place h (eqb client (place + 1)) refl out }
  where
    here : (place : ℕ) → place < length counts → (b : Bool) → eqb client (place + 1) ≡ b → (client ≡ 0) ⊎ (length counts < client)
        → capped (get_or counts place 0) ≡ capped (get_or counts place 0 + one_where b)
    here place h true is (inl zero_is) = absurd (grind (arith, nat_tests))
    here place h true is (inr above) = absurd (grind (arith, nat_tests))
    here place h false is out = none-more (get_or counts place 0)

-- ---- one more of a list

zero-plus : (n : ℕ) → 0 + n ≡ n
zero-plus n = omega arith

sum-first : {X : Type 0} (f : X → ℕ) (x : X) (xs : List X) → sum_by f (x ∷ xs) ≡ f x + sum_by f xs
sum-first f x xs = sum_by-append f (x ∷ []) xs ∙ ap (λ n. n + sum_by f xs) (zero-plus (f x))

count-more : {X : Type 0} (p : X → Bool) (xs : List X) (i : ℕ) (d : X) → i < length xs → count_by p (take i xs) + one_where (p (get_or xs i d)) ≡ count_by p (take (i + 1) xs)
count-more p xs i d h = here (p (get_or xs i d)) refl
  where
    here : (b : Bool) → p (get_or xs i d) ≡ b → count_by p (take i xs) + one_where b ≡ count_by p (take (i + 1) xs)
    here true e = sym (count_by_more_yes p xs i d h e)
    here false e = plus-zero (count_by p (take i xs)) ∙ sym (count_by_more_no p xs i d h e)
      where
        plus-zero : (n : ℕ) → n + 0 ≡ n
        plus-zero n = omega arith

sum-more : {X : Type 0} (f : X → ℕ) (xs : List X) (i : ℕ) (d : X) → i < length xs → sum (map f (take i xs)) + f (get_or xs i d) ≡ sum (map f (take (i + 1) xs))
sum-more f xs i d h =
    ap (λ n. n + f (get_or xs i d)) (sum-map f (take i xs)) ∙ sym (sum_by_more f xs i d h) ∙ sym (sum-map f (take (i + 1) xs))

sum-last : {X : Type 0} (f : X → ℕ) (xs : List X) (x : X) → sum (map f xs) + f x ≡ sum (map f (xs ++ x ∷ []))
sum-last f xs x =
    ap (λ n. n + f x) (sum-map f xs) ∙ ap (λ n. sum_by f xs + n) (sym (zero-plus (f x))) ∙ sym (sum_by-append f xs (x ∷ [])) ∙ sym (sum-map f (xs ++ x ∷ []))

pub log_more : (old middle new : List ℕ) (log : List Step) (i : ℕ) (step d : Step) → i < length log → step ≡ get_or log i d
    → Adds old middle (λ client. count_by (begins_of client) (take i log)) → Adds middle new (λ client. one_where (begins_of client step))
    → Adds old new (λ client. count_by (begins_of client) (take (i + 1) log))
log_more old middle new log i step d h at a b =
    adds_same old new _ (λ client. count_by (begins_of client) (take (i + 1) log))
    (λ client. ap (λ s. count_by (begins_of client) (take i log) + one_where (begins_of client s)) at ∙ count-more (begins_of client) log i d h)
    (adds_both old middle new (λ client. count_by (begins_of client) (take i log)) (λ client. one_where (begins_of client step)) a b)

pub logs_more : (old middle new : List ℕ) (logs : List (List Step)) (i : ℕ) (log d : List Step) → i < length logs → log ≡ get_or logs i d
    → Adds old middle (λ client. sum (map (count_by (begins_of client)) (take i logs))) → Adds middle new (λ client. count_by (begins_of client) log)
    → Adds old new (λ client. sum (map (count_by (begins_of client)) (take (i + 1) logs)))
logs_more old middle new logs i log d h at a b =
    adds_same old new _ (λ client. sum (map (count_by (begins_of client)) (take (i + 1) logs)))
    (λ client. ap (λ l. sum (map (count_by (begins_of client)) (take i logs)) + count_by (begins_of client) l) at ∙ sum-more (count_by (begins_of client)) logs i d h)
    (adds_both old middle new (λ client. sum (map (count_by (begins_of client)) (take i logs))) (λ client. count_by (begins_of client) log) a b)

-- ---- rounds that were taken

capped-more : (middle new f g sum : ℕ) → capped middle ≡ capped f → capped new ≡ capped (middle + g) → f + g ≡ sum → capped new ≡ capped sum
capped-more middle new f g sum e k s = grind (arith, nat_tests)

pub none_taken : Counts (replicate 64 0) []
none_taken = record { clients = refl; counted = λ place h. ap capped (get_or-replicate 64 place 0 0 h) }

pub round_taken : (old new : List ℕ) (rounds : List RoundLog) (round : RoundLog)
    → Counts old rounds → Adds old new (λ client. begins_in client round) → Counts new (rounds ++ round ∷ [])
round_taken old new rounds round a b = record {
  clients = b.clients ∙ a.clients;
  counted = λ place h. capped-more (get_or old place 0) (get_or new place 0) (sum (map (begins_in (place + 1)) rounds)) (begins_in (place + 1) round)
      (sum (map (begins_in (place + 1)) (rounds ++ round ∷ []))) (a.counted place h)
      (b.counts place (subst (λ (n : ℕ). place < n) (sym a.clients) h)) (sum-last (begins_in (place + 1)) rounds round);
}

-- ---- clients without a name begin nothing

none-begins : (run : History) (client : ℕ) → client_fits run client ≡ false → (step : Step) → step_fits run step ≡ true → begins_of client step ≡ false
none-begins run client nameless (Begin number replica) h = differ number (and_parts _ _ h).0
  where
    differ : (number : ℕ) → client_fits run number ≡ true → eqb number client ≡ false
    differ number is = here (eqb number client) refl
      where
        here : (b : Bool) → eqb number client ≡ b → b ≡ false
        here false e = refl
        here true e = absurd (cc (ap (client_fits run) (eqb-true number client e), is, nameless))
none-begins run client nameless (Unread number) h = here (eqb number client) refl
  where
    here : (b : Bool) → eqb number client ≡ b → b ≡ false
    here false e = refl
    here true e = absurd (cc (ap (client_fits run) (eqb-true number client e), h, nameless))
none-begins run client nameless (Read id key) h = refl
none-begins run client nameless (StampStep id clock writes) h = refl
none-begins run client nameless (Validate id) h = refl
none-begins run client nameless (Take number) h = refl
none-begins run client nameless (Key call answer) h = refl
none-begins run client nameless (Rule id) h = refl
none-begins run client nameless (Again id) h = refl
none-begins run client nameless (Takeover id view) h = refl
none-begins run client nameless (Pick id view) h = refl
none-begins run client nameless (Stop id) h = refl

no-more : (b : Bool) (n : ℕ) → b ≡ false → n ≡ 0 → cond b 1 0 + n ≡ 0
no-more true n e k = absurd (cc e)
no-more false n e k = omega (arith, k)

both-none : (m n : ℕ) → m ≡ 0 → n ≡ 0 → m + n ≡ 0
both-none m n e k = omega (arith, e, k)

none-in_log : (run : History) (client : ℕ) → client_fits run client ≡ false → (log : List Step) → list_all (step_fits run) log ≡ true → count_by (begins_of client) log ≡ 0
none-in_log run client nameless [] h = refl
none-in_log run client nameless (step ∷ log) h =
    let both = and_parts (step_fits run step) (list_all (step_fits run) log) h in
    sum-first (λ s. cond (begins_of client s) 1 0) step log
    ∙ no-more (begins_of client step) (count_by (begins_of client) log) (none-begins run client nameless step both.0) (none-in_log run client nameless log both.1)

none-in_logs : (run : History) (client : ℕ) → client_fits run client ≡ false → (logs : List (List Step)) → list_all (list_all (step_fits run)) logs ≡ true
    → sum (map (count_by (begins_of client)) logs) ≡ 0
none-in_logs run client nameless [] h = refl
none-in_logs run client nameless (log ∷ logs) h =
    let both = and_parts (list_all (step_fits run) log) (list_all (list_all (step_fits run)) logs) h in
    sum-first (λ n. n) (count_by (begins_of client) log) (map (count_by (begins_of client)) logs)
    ∙ both-none (count_by (begins_of client) log) (sum (map (count_by (begins_of client)) logs)) (none-in_log run client nameless log both.0) (none-in_logs run client nameless logs both.1)

none-in_rounds : (run : History) (client : ℕ) → client_fits run client ≡ false → (rounds : List RoundLog) → Each (IsRoundShape run) rounds → sum (map (begins_in client) rounds) ≡ 0
none-in_rounds run client nameless [] h = refl
none-in_rounds run client nameless (round ∷ rounds) h =
    sum-first (λ n. n) (begins_in client round) (map (begins_in client) rounds)
    ∙ both-none (begins_in client round) (sum (map (begins_in client) rounds)) (none-in_logs run client nameless round.logs h.0.steps) (none-in_rounds run client nameless rounds h.1)

-- ---- few attempts

below-of_capped : (n m : ℕ) → capped n ≡ capped m → n ≤ 16384 → m ≤ 16384
below-of_capped n m e h = grind (arith, nat_tests)

few-at : (counts : List ℕ) → list_all (λ n. leb n 16384) counts ≡ true → (place : ℕ) → place < length counts → get_or counts place 0 ≤ 16384
few-at [] h place l = absurd (omega (arith, l))
few-at (n ∷ counts) h zero l = let k = (and_parts (leb n 16384) (list_all (λ n. leb n 16384) counts) h).0 in grind (arith, nat_tests)
few-at (n ∷ counts) h (suc place) l = few-at counts (and_parts (leb n 16384) (list_all (λ n. leb n 16384) counts) h).1 place (omega (arith, l))

few-from_each : (counts : List ℕ) → ((place : ℕ) → place < length counts → get_or counts place 0 ≤ 16384) → list_all (λ n. leb n 16384) counts ≡ true
few-from_each [] h = refl
few-from_each (n ∷ counts) h =
    and_from (leb n 16384) (list_all (λ n. leb n 16384) counts) (small n (h 0 (omega arith)))
    (few-from_each counts (λ place l. h (suc place) (omega (arith, l))))
  where
    small : (n : ℕ) → n ≤ 16384 → leb n 16384 ≡ true
    small n h = grind (arith, nat_tests)

pub few_from_counts : (run : History) (counts : List ℕ) (rounds : List RoundLog) → Counts counts rounds → length run.client_names ≤ 64 → Each (IsRoundShape run) rounds
    → list_all (λ n. leb n 16384) counts ≡ true → FewAttempts rounds
few_from_counts run counts rounds c few fits all client = here (client_fits run client) refl
  where
    at : (place : ℕ) → place < 64 → place + 1 ≡ client → sum (map (begins_in client) rounds) ≤ 16384
    at place h e =
        subst (λ (k : ℕ). sum (map (begins_in k) rounds) ≤ 16384) e
        (below-of_capped (get_or counts place 0) (sum (map (begins_in (place + 1)) rounds)) (c.counted place h)
        (few-at counts all place (subst (λ (n : ℕ). place < n) (sym c.clients) h)))

    here : (b : Bool) → client_fits run client ≡ b → sum (map (begins_in client) rounds) ≤ 16384
    here false nameless = omega (arith, none-in_rounds run client nameless rounds fits)
    here true is =
        let both = and_parts (leb 1 client) (leb client (length run.client_names)) is in
        let low : 1 ≤ client = grind (arith, nat_tests) in
        let high : client ≤ length run.client_names = grind (arith, nat_tests) in
        at (client - 1) (omega (arith, low, high, few)) (omega (arith, low))

pub counts_from_few : (counts : List ℕ) (rounds : List RoundLog) → Counts counts rounds → FewAttempts rounds → list_all (λ n. leb n 16384) counts ≡ true
counts_from_few counts rounds c few =
    few-from_each counts (λ place h. below-of_capped (sum (map (begins_in (place + 1)) rounds)) (get_or counts place 0)
    (sym (c.counted place (subst (λ (n : ℕ). place < n) c.clients h))) (few (place + 1)))
