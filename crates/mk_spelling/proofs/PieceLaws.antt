-- A text in pieces is read as the whole text is.
use Rattle.std.proofs.Common.{◌≡◌, ℕ, Bool, true, false, eqb, List, [], ◌∷◌, ◌++◌, Result, Ok, Err, refl, sym, ap, ◌∙◌, append_assoc}
use Rattle.std.proofs.lemmas.Bool.{eqb-true}
use Rattle.std.proofs.lemmas.List.{append-nil}
use Rattle.mk_spelling.specs.declared.fault.TextFault.{TextFault}
use Rattle.mk_spelling.specs.Lines.{Refusal, next_number, go_on, read_parts, read_text}
use Rattle.mk_spelling.specs.Pieces.{Reading, started, ended_line, fed_byte, fed, finished}
use Rattle.mk_spelling.proofs.Cuts.{Lacks, Lacks-append}
use Rattle.mk_spelling.proofs.TextLaws.{parts, parts-lacks, parts-front, parts_cons}

-- it does not matter where the text is cut
pub fed-append : {S : Type 0} (line : S → List ℕ → Result S TextFault) (r : Reading S) (a b : List ℕ) → fed line r (a ++ b) ≡ fed line (fed line r a) b
fed-append line r [] b = refl
fed-append line r (x ∷ a) b = fed-append line (fed_byte line r x) a b

-- behind a faulty line a reading stands still
pub fed-refused : {S : Type 0} (line : S → List ℕ → Result S TextFault) (refusal : Refusal) (n : ℕ) (held bytes : List ℕ)
    → fed line (record { answer = Err refusal; number = n; held = held }) bytes ≡ record { answer = Err refusal; number = n; held = held }
fed-refused line refusal n held [] = refl
fed-refused line refusal n held (b ∷ bs) = fed-refused line refusal n held bs

-- what is left to read behind an answer
abbrev pub rest_of : {S : Type 0} → (S → List ℕ → Result S TextFault) → (S → Result S TextFault) → Result S Refusal → ℕ → List ℕ → Result S Refusal
rest_of line close (Ok s) n text = read_parts line close s n (parts text)
rest_of line close (Err refusal) n text = Err refusal

-- a line that ends is the first of the text that is left
line_ends : {S : Type 0} (line : S → List ℕ → Result S TextFault) (close : S → Result S TextFault) (s : S) (n : ℕ) (held bs : List ℕ) → Lacks 10 held
    → rest_of line close (go_on n (line s held) (λ t. Ok t)) (next_number n) bs ≡ read_parts line close s n (parts (held ++ 10 ∷ bs))
line_ends {S} line close s n held bs h =
    let c = parts_cons bs in
    let first : read_parts line close s n (held ∷ parts bs) ≡ go_on n (line s held) (λ t. read_parts line close t (next_number n) (parts bs)) = rw c.2 refl in
    taken (line s held) ∙ sym (ap (read_parts line close s n) (parts-front held bs h) ∙ first)
  where
    taken : (r : Result S TextFault)
        → rest_of line close (go_on n r (λ t. Ok t)) (next_number n) bs ≡ go_on n r (λ t. read_parts line close t (next_number n) (parts bs))
    taken (Ok t) = refl
    taken (Err fault) = refl

pub fed_is : {S : Type 0} (line : S → List ℕ → Result S TextFault) (close : S → Result S TextFault) (bytes : List ℕ) (answer : Result S Refusal) (n : ℕ) (held : List ℕ) → Lacks 10 held
    → finished close (fed line (record { answer = answer; number = n; held = held }) bytes) ≡ rest_of line close answer n (held ++ bytes)
fed_is line close [] (Ok s) n held h =
    sym (ap (λ (x : List ℕ). read_parts line close s n (parts x)) (append-nil held) ∙ ap (read_parts line close s n) (parts-lacks held h))
fed_is line close bytes (Err refusal) n held h = ap (finished close) (fed-refused line refusal n held bytes)
fed_is {S} line close (b ∷ bs) (Ok s) n held h =
    here (eqb b 10) refl
    (fed_is line close bs (go_on n (line s held) (λ t. Ok t)) (next_number n) [] tt)
    (λ (k : Lacks 10 (held ++ b ∷ [])). fed_is line close bs (Ok s) n (held ++ b ∷ []) k)
  where
    here : (t : Bool) → eqb b 10 ≡ t
        → finished close (fed line (ended_line line s n held) bs) ≡ rest_of line close (go_on n (line s held) (λ t. Ok t)) (next_number n) bs
        → (Lacks 10 (held ++ b ∷ []) → finished close (fed line (record { answer = Ok s; number = n; held = held ++ b ∷ [] }) bs) ≡ rest_of line close (Ok s) n ((held ++ b ∷ []) ++ bs))
        → finished close (fed line (fed_byte line (record { answer = Ok s; number = n; held = held }) b) bs) ≡ rest_of line close (Ok s) n (held ++ b ∷ bs)
    here true t ends goes =
        rw t (ends ∙ line_ends line close s n held bs h ∙ ap (λ (x : ℕ). read_parts line close s n (parts (held ++ x ∷ bs))) (sym (eqb-true b 10 t)))
    here false t ends goes =
        rw t (goes (Lacks-append 10 held (b ∷ []) h (t, tt)) ∙ ap (λ (x : List ℕ). read_parts line close s n (parts x)) (append_assoc held (b ∷ []) bs))

-- what was fed, to its end, is the text
pub finished_is : {S : Type 0} (line : S → List ℕ → Result S TextFault) (close : S → Result S TextFault) (s : S) (bytes : List ℕ)
    → finished close (fed line (started s) bytes) ≡ read_text line close s bytes
finished_is line close s bytes = fed_is line close bytes (Ok s) 1 [] tt

-- a piece without a line feed is held
pub fed-held : {S : Type 0} (line : S → List ℕ → Result S TextFault) (s : S) (n : ℕ) (held bytes : List ℕ) → Lacks 10 bytes
    → fed line (record { answer = Ok s; number = n; held = held }) bytes ≡ record { answer = Ok s; number = n; held = held ++ bytes }
fed-held line s n held [] h = λ i. record { answer = Ok s; number = n; held = sym (append-nil held) i }
fed-held line s n held (b ∷ bs) h =
    let rest = fed-held line s n (held ++ b ∷ []) bs h.1 in
    rw h.0 (rest ∙ λ i. record { answer = Ok s; number = n; held = append_assoc held (b ∷ []) bs i })

-- and a line feed ends the line
pub fed-line : {S : Type 0} (line : S → List ℕ → Result S TextFault) (s : S) (n : ℕ) (held front rest : List ℕ) → Lacks 10 front
    → fed line (record { answer = Ok s; number = n; held = held }) (front ++ 10 ∷ rest) ≡ fed line (ended_line line s n (held ++ front)) rest
fed-line line s n held front rest h =
    fed-append line (record { answer = Ok s; number = n; held = held }) front (10 ∷ rest)
    ∙ ap (λ (x : Reading _). fed line x (10 ∷ rest)) (fed-held line s n held front h)
