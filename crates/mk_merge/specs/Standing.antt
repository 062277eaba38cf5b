-- Promises that stand for others: those that count stand for those that count, and they hand in the same.
use Rattle.std.specs.Prelude.{◌≡◌, ℕ, zero, suc, max, refl, Bool, true, false, not, ◌&&◌, ◌||◌, ◌==◌, nat_le, List, [], ◌∷◌, ◌++◌, length, map, filter, take, cond}
use Rattle.std.specs.List.{list_any}
use Rattle.std.specs.Borrow.{Bor}
use Rattle.mk_quorum.specs.Sizes.{majority_of}
use Rattle.mk_words.specs.Bases.{BaseState, empty_base}
use Rattle.mk_words.specs.Promises.{PromiseState, is_leaders, leader_of, chosen, counting, highest_adopted, can_merge}
use Rattle.mk_merge_laws.specs.Adding.{bare}
use Rattle.mk_merge.specs.declared.Promise.{Promise}
use Rattle.mk_merge.specs.Keepings.{PromiseStands, Stand, is_leading, chosen_of, counting_of, highest_of, are_enough, handed_in}

-- ---- those that count

-- tests that agree leave promises that stand for those that are left
stand-filter : {B : Type 0} (stands : B → BaseState → Type 0) (p : Promise B → Bool) (q : PromiseState → Bool) → ((x : Promise B) (s : PromiseState) → PromiseStands B stands x s → p x ≡ q s)
    → (ps : List (Promise B)) (ss : List PromiseState) → Stand B stands ps ss → Stand B stands (filter p ps) (filter q ss)
stand-filter stands p q same [] [] h = tt
stand-filter stands p q same [] (s ∷ ss) h = absurd h
stand-filter stands p q same (x ∷ ps) [] h = absurd h
stand-filter {B} stands p q same (x ∷ ps) (s ∷ ss) h = by (stand-filter stands p q same ps ss h.1) (p x) (q s) (same x s h.0)
  where
    by : Stand B stands (filter p ps) (filter q ss) → (a b : Bool) → a ≡ b → Stand B stands (cond a (x ∷ filter p ps) (filter p ps)) (cond b (s ∷ filter q ss) (filter q ss))
    by again true true e = (h.0, again)
    by again false false e = again
    by again true false e = absurd (cc e)
    by again false true e = absurd (cc e)

stand-take : {B : Type 0} (stands : B → BaseState → Type 0) (n : ℕ) (ps : List (Promise B)) (ss : List PromiseState) → Stand B stands ps ss → Stand B stands (take n ps) (take n ss)
stand-take stands zero ps ss h = tt
stand-take stands (suc n) [] [] h = tt
stand-take stands (suc n) [] (s ∷ ss) h = absurd h
stand-take stands (suc n) (x ∷ ps) [] h = absurd h
stand-take stands (suc n) (x ∷ ps) (s ∷ ss) h = (h.0, stand-take stands n ps ss h.1)

stand-append : {B : Type 0} (stands : B → BaseState → Type 0) (ps qs : List (Promise B)) (ss ts : List PromiseState) → Stand B stands ps ss → Stand B stands qs ts → Stand B stands (ps ++ qs) (ss ++ ts)
stand-append stands [] qs [] ts h k = k
stand-append stands [] qs (s ∷ ss) ts h k = absurd h
stand-append stands (x ∷ ps) qs [] ts h k = absurd h
stand-append stands (x ∷ ps) qs (s ∷ ss) ts h k = (h.0, stand-append stands ps qs ss ts h.1 k)

stand-highest : {B : Type 0} (stands : B → BaseState → Type 0) (ps : List (Promise B)) (ss : List PromiseState) → Stand B stands ps ss → highest_of ps ≡ highest_adopted ss
stand-highest stands [] [] h = refl
stand-highest stands [] (s ∷ ss) h = absurd h
stand-highest stands (x ∷ ps) [] h = absurd h
stand-highest stands (x ∷ ps) (s ∷ ss) h = λ i. max (h.0.adopted i) (stand-highest stands ps ss h.1 i)

pub stand-counting : {B : Type 0} (stands : B → BaseState → Type 0) (f epoch : ℕ) (ps : List (Promise B)) (ss : List PromiseState) → Stand B stands ps ss
    → Stand B stands (counting_of (chosen_of f epoch ps)) (counting (chosen f epoch ss))
stand-counting {B} stands f epoch ps ss h =
    stand-filter stands (λ p. p.adopted == highest_of (chosen_of f epoch ps)) (λ s. s.adopted == highest_adopted (chosen f epoch ss))
    (λ x s k. λ i. k.adopted i == stand-highest stands (chosen_of f epoch ps) (chosen f epoch ss) both i) (chosen_of f epoch ps) (chosen f epoch ss) both
  where
    both : Stand B stands (chosen_of f epoch ps) (chosen f epoch ss)
    both = stand-append stands (take 1 (filter (is_leading f epoch) ps)) (take f (filter (λ p. not (is_leading f epoch p)) ps)) (take 1 (filter (is_leaders f epoch) ss)) (take f (filter (λ p. not (is_leaders f epoch p)) ss))
        (stand-take stands 1 (filter (is_leading f epoch) ps) (filter (is_leaders f epoch) ss)
        (stand-filter stands (is_leading f epoch) (is_leaders f epoch) (λ x s k. λ i. k.replica i == leader_of f epoch) ps ss h))
        (stand-take stands f (filter (λ p. not (is_leading f epoch p)) ps) (filter (λ p. not (is_leaders f epoch p)) ss)
        (stand-filter stands (λ p. not (is_leading f epoch p)) (λ p. not (is_leaders f epoch p)) (λ x s k. λ i. not (k.replica i == leader_of f epoch)) ps ss h))

stand-length : {B : Type 0} (stands : B → BaseState → Type 0) (ps : List (Promise B)) (ss : List PromiseState) → Stand B stands ps ss → length ps ≡ length ss
stand-length stands [] [] h = refl
stand-length stands [] (s ∷ ss) h = absurd h
stand-length stands (x ∷ ps) [] h = absurd h
stand-length stands (x ∷ ps) (s ∷ ss) h = λ i. suc (stand-length stands ps ss h.1 i)

stand-led : {B : Type 0} (stands : B → BaseState → Type 0) (f epoch : ℕ) (ps : List (Promise B)) (ss : List PromiseState) → Stand B stands ps ss → list_any (is_leading f epoch) ps ≡ list_any (is_leaders f epoch) ss
stand-led stands f epoch [] [] h = refl
stand-led stands f epoch [] (s ∷ ss) h = absurd h
stand-led stands f epoch (x ∷ ps) [] h = absurd h
stand-led stands f epoch (x ∷ ps) (s ∷ ss) h = λ i. (h.0.replica i == leader_of f epoch) || stand-led stands f epoch ps ss h.1 i

pub stand-enough : {B : Type 0} (stands : B → BaseState → Type 0) (f epoch : ℕ) (ps : List (Promise B)) (ss : List PromiseState) → Stand B stands ps ss → are_enough f epoch ps ≡ can_merge f epoch ss
stand-enough stands f epoch ps ss h = λ i. nat_le (majority_of f) (stand-length stands ps ss h i) && stand-led stands f epoch ps ss h i

-- ---- what is handed in beside the bases

pub stand-bare : {B : Type 0} (stands : B → BaseState → Type 0) (ps : List (Promise B)) (ss : List PromiseState) → Stand B stands ps ss → map handed_in ps ≡ map bare ss
stand-bare stands [] [] h = refl
stand-bare stands [] (s ∷ ss) h = absurd h
stand-bare stands (x ∷ ps) [] h = absurd h
stand-bare stands (x ∷ ps) (s ∷ ss) h = λ i. record { replica = h.0.replica i; adopted = 0; base = empty_base; entries = h.0.entries i; marks = h.0.marks i } ∷ stand-bare stands ps ss h.1 i

-- what is borrowed is handed in
pub handed-now : {B : Type 0} (ps : List (Bor (Promise B))) → map (λ p. handed_in p.now) ps ≡ map handed_in (map (λ p. p.now) ps)
handed-now [] = refl
handed-now (p ∷ ps) = λ i. handed_in p.now ∷ handed-now ps i
