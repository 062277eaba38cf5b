-- Tables with one member more at a place.
use Rattle.std.proofs.Common.{◌≡◌, ℕ, zero, suc, ◌<◌, ◌≤◌, List, [], ◌∷◌, ◌++◌, length, map, get_or, set, refl, ap, arith}
use Rattle.std.proofs.lemmas.List.{length-map}
use Rattle.mk_words.specs.declared.JournalEntry.{JournalEntry}
use Rattle.mk_trace_text.specs.Begun.{risen, raised}
use Rattle.mk_trace_text.specs.States.{extended, journaled}

pub extended_there : {V A : Type 0} (f : V → List A) (vs : List V) (i : ℕ) (v d : V) (x : A) → i < length vs → f v ≡ f (get_or vs i d) ++ x ∷ []
    → map f (set vs i v) ≡ extended (map f vs) i x
extended_there f [] i v d x lt e = absurd (omega arith)
extended_there f (w ∷ ws) zero v d x lt e = ap (λ (l : List _). l ∷ map f ws) e
extended_there f (w ∷ ws) (suc i) v d x lt e = ap (λ (l : List (List _)). f w ∷ l) (extended_there f ws i v d x (omega arith) e)

pub extended_past : {A : Type 0} (ls : List (List A)) (i : ℕ) (x : A) → length ls ≤ i → ls ≡ extended ls i x
extended_past [] i x le = refl
extended_past (l ∷ ls) zero x le = absurd (omega arith)
extended_past (l ∷ ls) (suc i) x le = ap (λ (r : List (List _)). l ∷ r) (extended_past ls i x (omega arith))

pub journaled_there : {V : Type 0} (f : V → List (List JournalEntry)) (vs : List V) (i key : ℕ) (v d : V) (x : JournalEntry) → i < length vs
    → f v ≡ extended (f (get_or vs i d)) key x → map f (set vs i v) ≡ journaled (map f vs) i key x
journaled_there f [] i key v d x lt e = absurd (omega arith)
journaled_there f (w ∷ ws) zero key v d x lt e = ap (λ (l : List (List JournalEntry)). l ∷ map f ws) e
journaled_there f (w ∷ ws) (suc i) key v d x lt e = ap (λ (l : List (List (List JournalEntry))). f w ∷ l) (journaled_there f ws i key v d x (omega arith) e)

pub journaled_past : (ls : List (List (List JournalEntry))) (i key : ℕ) (x : JournalEntry) → length ls ≤ i → ls ≡ journaled ls i key x
journaled_past [] i key x le = refl
journaled_past (l ∷ ls) zero key x le = absurd (omega arith)
journaled_past (l ∷ ls) (suc i) key x le = ap (λ (r : List (List (List JournalEntry))). l ∷ r) (journaled_past ls i key x (omega arith))

pub raised_there : (ns : List ℕ) (i n : ℕ) → i < length ns → n ≡ risen (get_or ns i 0) → set ns i n ≡ raised ns i
raised_there [] i n lt e = absurd (omega arith)
raised_there (m ∷ ms) zero n lt e = ap (λ (k : ℕ). k ∷ ms) e
raised_there (m ∷ ms) (suc i) n lt e = ap (λ (l : List ℕ). m ∷ l) (raised_there ms i n (omega arith) e)

pub raised_past : (ns : List ℕ) (i : ℕ) → length ns ≤ i → ns ≡ raised ns i
raised_past [] i le = refl
raised_past (m ∷ ms) zero le = absurd (omega arith)
raised_past (m ∷ ms) (suc i) le = ap (λ (l : List ℕ). m ∷ l) (raised_past ms i (omega arith))

pub longer : {V A : Type 0} (f : V → List A) (old at : V) (x : A) → old ≡ at → f old ++ x ∷ [] ≡ f at ++ x ∷ []
longer f old at x e = ap (λ (v : _). f v ++ x ∷ []) e

pub journal_of : {V : Type 0} (f : V → List (List JournalEntry)) (old at : V) (key : ℕ) (x : JournalEntry) → old ≡ at → extended (f old) key x ≡ extended (f at) key x
journal_of f old at key x e = ap (λ (v : _). extended (f v) key x) e

pub past_length : {V W : Type 0} (f : V → W) (vs : List V) (i : ℕ) → length vs ≤ i → length (map f vs) ≤ i
past_length f vs i le = omega (arith, le, length-map vs f)
