-- A text, line by line.
use Rattle.std.proofs.Common.{◌≡◌, ℕ, ◌+◌, ◌≤◌, cond, eqb, List, [], ◌∷◌, ◌++◌, length, Option, Some, None, Result, Ok, Err, refl, ap, arith}
use Rattle.std.specs.List.{slice_split}
use Rattle.std.proofs.lemmas.List.{length-append}
use Rattle.mk_spelling.specs.declared.fault.TextFault.{TextFault}
use Rattle.mk_spelling.specs.declared.fault.TextFault.TheVariants.{Cut}
use Rattle.mk_spelling.specs.Words.{cut}
use Rattle.mk_spelling.specs.Lines.{go_on, next_number, read_parts}
use Rattle.mk_spelling.proofs.Cuts.{Lacks, IsCut-from_cut, Lacks-from_none}

abbrev pub parts : List ℕ → List (List ℕ)
parts bytes = slice_split (λ b. eqb b 10) bytes

pub parts-lacks : (bs : List ℕ) → Lacks 10 bs → parts bs ≡ bs ∷ []
parts-lacks [] h = refl
parts-lacks (b ∷ bs) h = rw (h.0, parts-lacks bs h.1) refl

pub parts-front : (front rest : List ℕ) → Lacks 10 front → parts (front ++ 10 ∷ rest) ≡ front ∷ parts rest
parts-front [] rest h = refl
parts-front (b ∷ bs) rest h = rw (h.0, parts-front bs rest h.1) refl

pub parts-none : (bytes : List ℕ) → cut 10 bytes ≡ None → parts bytes ≡ bytes ∷ []
parts-none bytes e = parts-lacks bytes (Lacks-from_none 10 bytes e)

pub parts-some : (bytes : List ℕ) (p : List ℕ × List ℕ) → cut 10 bytes ≡ Some p → parts bytes ≡ p.0 ∷ parts p.1
parts-some bytes p e =
    let h = IsCut-from_cut 10 bytes p e in
    rw h.parts (parts-front p.0 p.1 h.lacks)

pub parts_cons : (bytes : List ℕ) → (x : List ℕ) × (xs : List (List ℕ)) × (parts bytes ≡ x ∷ xs)
parts_cons bytes = here (cut 10 bytes) refl
  where
    here : (o : Option (List ℕ × List ℕ)) → cut 10 bytes ≡ o → (x : List ℕ) × (xs : List (List ℕ)) × (parts bytes ≡ x ∷ xs)
    here None e = (bytes, [], parts-none bytes e)
    here (Some p) e = (p.0, parts p.1, parts-some bytes p e)

-- the first line is taken, and then the others
pub read_first : {S : Type 0} (line : S → List ℕ → Result S TextFault) (close : S → Result S TextFault) (s : S) (n : ℕ) (bytes : List ℕ) (p : List ℕ × List ℕ)
    → cut 10 bytes ≡ Some p
    → read_parts line close s n (parts bytes) ≡ go_on n (line s p.0) (λ t. read_parts line close t (next_number n) (parts p.1))
read_first line close s n bytes p e =
    let c = parts_cons p.1 in
    rw (parts-some bytes p e, c.2) refl

pub read_last : {S : Type 0} (line : S → List ℕ → Result S TextFault) (close : S → Result S TextFault) (s : S) (n : ℕ) (bytes : List ℕ) → cut 10 bytes ≡ None
    → read_parts line close s n (parts bytes) ≡ cond (eqb (length bytes) 0) (go_on n (close s) (λ t. Ok t)) (Err (n, Cut))
read_last line close s n bytes e = rw (parts-none bytes e) refl

pub cut_shorter : (bytes : List ℕ) (p : List ℕ × List ℕ) → cut 10 bytes ≡ Some p → length p.1 + 1 ≤ length bytes
cut_shorter bytes p e =
    let h = IsCut-from_cut 10 bytes p e in
    omega (arith, ap length h.parts, length-append p.0 (10 ∷ p.1))
