-- Promises whose bases are kept as some value, and the promises that they stand for.
use Rattle.std.specs.Prelude.{◌≡◌, ℕ, min, max, Bool, not, ◌&&◌, ◌==◌, nat_le, List, [], ◌∷◌, ◌++◌, length, filter, take}
use Rattle.std.specs.List.{list_any}
use Rattle.mk_quorum.specs.Sizes.{majority_of}
use Rattle.mk_merge.specs.declared.Promise.{Promise}
use Rattle.mk_words.specs.Bases.{BaseState, empty_base}
use Rattle.mk_words.specs.Promises.{PromiseState, leader_of}

-- the promise with a base of which its value stands
pub record PromiseStands (B : Type 0) (stands : B → BaseState → Type 0) (promise : Promise B) (state : PromiseState) : Type 0 where
  pub replica : promise.replica ≡ state.replica
  pub adopted : promise.adopted ≡ state.adopted
  pub base : stands promise.base state.base
  pub entries : promise.entries ≡ state.entries
  pub marks : promise.marks ≡ state.marks

-- one for each, in order
abbrev pub Stand : (B : Type 0) → (B → BaseState → Type 0) → List (Promise B) → List PromiseState → Type 0
Stand B stands [] [] = Unit {0}
Stand B stands [] (state ∷ states) = ⊥
Stand B stands (promise ∷ promises) [] = ⊥
Stand B stands (promise ∷ promises) (state ∷ states) = PromiseStands B stands promise state × Stand B stands promises states

-- a promise whose base is kept as a list
abbrev pub listed : Promise BaseState → PromiseState
listed promise =
    record { replica = promise.replica; adopted = promise.adopted; base = promise.base; entries = promise.entries; marks = promise.marks }

-- how many promises there are, as far as 32 binary digits count
abbrev pub counted : {X : Type 0} → List X → ℕ
counted promises = min (length promises) 4294967295

-- ---- whatever the bases are kept as

-- whether the promise is the leader's
abbrev pub is_leading : {B : Type 0} → ℕ → ℕ → Promise B → Bool
is_leading f epoch promise = promise.replica == leader_of f epoch

-- the leader's promise and the first f others
abbrev pub chosen_of : {B : Type 0} → ℕ → ℕ → List (Promise B) → List (Promise B)
chosen_of f epoch promises = take 1 (filter (is_leading f epoch) promises) ++ take f (filter (λ p. not (is_leading f epoch p)) promises)

-- the highest epoch that one of these promises has adopted
abbrev pub highest_of : {B : Type 0} → List (Promise B) → ℕ
highest_of [] = 0
highest_of (p ∷ promises) = max p.adopted (highest_of promises)

-- the promises that count: those of the highest adopted epoch
abbrev pub counting_of : {B : Type 0} → List (Promise B) → List (Promise B)
counting_of promises = filter (λ p. p.adopted == highest_of promises) promises

-- a base can be made: a majority has promised, and the leader has
abbrev pub are_enough : {B : Type 0} → ℕ → ℕ → List (Promise B) → Bool
are_enough f epoch promises = nat_le (majority_of f) (length promises) && list_any (is_leading f epoch) promises

-- what a promise hands in beside its base
abbrev pub handed_in : {B : Type 0} → Promise B → PromiseState
handed_in promise = record { replica = promise.replica; adopted = 0; base = empty_base; entries = promise.entries; marks = promise.marks }
