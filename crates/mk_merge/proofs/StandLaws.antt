-- Promises whose bases are kept as lists.
use Rattle.std.proofs.Common.{◌≡◌, ℕ, refl, sym, ap, List, [], ◌∷◌, map, Result, Ok, Err, IfOk, Some}
use Rattle.std.specs.Prelude.{slice_get}
use Rattle.std.specs.Borrow.{Bor}
use Rattle.mk_words.specs.Bases.{BaseState}
use Rattle.mk_words.specs.Promises.{PromiseState, base_of, chosen, counting, can_merge}
use Rattle.mk_merge_laws.specs.Adding.{bare}
use Rattle.mk_merge.specs.declared.Promise.{Promise}
use Rattle.mk_merge.specs.Keepings.{PromiseStands, Stand, listed, chosen_of, counting_of, are_enough, handed_in}
use Rattle.mk_merge.specs.Standing.{stand-counting, stand-enough}

pub ok-each : {A E : Type 0} (r : Result A E) (P Q : A → Type 0) → ((a : A) → P a → Q a) → IfOk r P → IfOk r Q
ok-each (Ok a) P Q f h = f a h
ok-each (Err e) P Q f h = h

listed-is : (promise : Promise BaseState) (state : PromiseState) → PromiseStands BaseState (λ base other. base ≡ other) promise state → listed promise ≡ state
listed-is promise state h = λ i. record { replica = h.replica i; adopted = h.adopted i; base = h.base i; entries = h.entries i; marks = h.marks i }

pub stand-listed : (promises : List (Promise BaseState)) (states : List PromiseState) → Stand BaseState (λ base other. base ≡ other) promises states → map listed promises ≡ states
stand-listed [] [] h = refl
stand-listed [] (state ∷ states) h = absurd h
stand-listed (promise ∷ promises) [] h = absurd h
stand-listed (promise ∷ promises) (state ∷ states) h = λ i. listed-is promise state h.0 i ∷ stand-listed promises states h.1 i

pub stand-self : (promises : List (Promise BaseState)) → Stand BaseState (λ base other. base ≡ other) promises (map listed promises)
stand-self [] = tt
stand-self (promise ∷ promises) = (record { replica = refl; adopted = refl; base = refl; entries = refl; marks = refl }, stand-self promises)

pub listed-now : (ps : List (Bor (Promise BaseState))) → map (λ p. listed p.now) ps ≡ map listed (map (λ p. p.now) ps)
listed-now [] = refl
listed-now (p ∷ ps) = ap (λ more. listed p.now ∷ more) (listed-now ps)

pub handed-listed : (ps : List (Bor (Promise BaseState))) → map (λ p. handed_in p.now) ps ≡ map bare (map (λ p. listed p.now) ps)
handed-listed [] = refl
handed-listed (p ∷ ps) = ap (λ more. handed_in p.now ∷ more) (handed-listed ps)

pub counting-listed : (f epoch : ℕ) (ps : List (Promise BaseState)) → map listed (counting_of (chosen_of f epoch ps)) ≡ counting (chosen f epoch (map listed ps))
counting-listed f epoch ps = stand-listed (counting_of (chosen_of f epoch ps)) (counting (chosen f epoch (map listed ps)))
    (stand-counting (λ base other. base ≡ other) f epoch ps (map listed ps) (stand-self ps))

pub listed-enough : (f epoch : ℕ) (ps : List (Promise BaseState)) → are_enough f epoch ps ≡ can_merge f epoch (map listed ps)
listed-enough f epoch ps = stand-enough (λ base other. base ≡ other) f epoch ps (map listed ps) (stand-self ps)

pub first-base : (ps : List (Bor (Promise BaseState))) (p : Bor (Promise BaseState)) → Some p ≡ slice_get ps 0 → base_of (map (λ p. listed p.now) ps) ≡ p.now.base
first-base [] p e = absurd (cc e)
first-base (q ∷ ps) p e = let same : p ≡ q = cc e in ap (λ (x : Bor (Promise BaseState)). x.now.base) (sym same)
