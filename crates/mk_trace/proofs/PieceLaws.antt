-- A trace in pieces is read as the whole text is, and what was handed out changes nothing of it.
use Rattle.std.proofs.Common.{◌≡◌, ℕ, Bool, true, false, cond, eqb, List, [], ◌∷◌, ◌++◌, Option, Some, None, Result, Ok, Err, refl, sym, ap, subst, ◌∙◌, append_assoc}
use Rattle.std.proofs.lemmas.List.{append-nil}
use Rattle.mk_spelling.specs.declared.fault.TextFault.{TextFault}
use Rattle.mk_spelling.specs.Lines.{Refusal}
use Rattle.mk_spelling.specs.Pieces as plain
use Rattle.mk_spelling.specs.Words.{cut}
use Rattle.mk_spelling.proofs.Cuts.{Lacks, IsCut-from_cut, Lacks-from_none}
use Rattle.mk_spelling.proofs.PieceLaws.{finished_is}
use Rattle.mk_txn.specs.declared.NoMemory.{NoMemory}
use Rattle.mk_trace_text.specs.States.{State, nothing}
use Rattle.mk_trace_text.specs.Grammar.{line_result, end_result, state_text}
use Rattle.mk_trace.specs.Pieces.{Reading, started, ended_line, byte_behind, fed_byte, fed, answer_of, plainly, finished}
use Rattle.mk_trace.specs.Answers.{is_reading, fed_behind, ended_behind, held_behind, IsThere, Told, Leaves, Fed}

abbrev some_reading : Reading → Option Reading
some_reading r = Some r

-- it does not matter where the text is cut
pub fed-append : (r : Reading) (a b : List ℕ) → fed r (a ++ b) ≡ fed (fed r a) b
fed-append r [] b = refl
fed-append r (x ∷ a) b = fed-append (fed_byte r x) a b

-- behind a faulty line a reading stands still
pub fed-refused : (s : State) (refusal : Refusal) (n : ℕ) (held bytes : List ℕ)
    → fed (record { state = s; fault = Some refusal; number = n; held = held }) bytes ≡ record { state = s; fault = Some refusal; number = n; held = held }
fed-refused s refusal n held [] = refl
fed-refused s refusal n held (b ∷ bs) = fed-refused s refusal n held bs

-- a piece without a line feed is held
pub fed-held : (s : State) (n : ℕ) (held bytes : List ℕ) → Lacks 10 bytes
    → fed (record { state = s; fault = None; number = n; held = held }) bytes ≡ record { state = s; fault = None; number = n; held = held ++ bytes }
fed-held s n held [] h = λ i. record { state = s; fault = None; number = n; held = sym (append-nil held) i }
fed-held s n held (b ∷ bs) h =
    let rest = fed-held s n (held ++ b ∷ []) bs h.1 in
    rw h.0 (rest ∙ λ i. record { state = s; fault = None; number = n; held = append_assoc held (b ∷ []) bs i })

-- and a line feed ends the line
pub fed-line : (s : State) (n : ℕ) (held front rest : List ℕ) → Lacks 10 front
    → fed (record { state = s; fault = None; number = n; held = held }) (front ++ 10 ∷ rest) ≡ fed (ended_line s n (line_result s (held ++ front))) rest
fed-line s n held front rest h =
    fed-append (record { state = s; fault = None; number = n; held = held }) front (10 ∷ rest) ∙ ap (λ (r : Reading). fed r (10 ∷ rest)) (fed-held s n held front h)

-- ---- as the plain reading of a text in pieces

ended_plainly : (s : State) (n : ℕ) (held : List ℕ) (r : Result State TextFault) → line_result s held ≡ r
    → plainly (ended_line s n r) ≡ plain.ended_line line_result s n held
ended_plainly s n held (Ok t) e = rw e refl
ended_plainly s n held (Err why) e = rw e refl

byte_plainly : (s : State) (fault : Option Refusal) (n : ℕ) (held : List ℕ) (b : ℕ)
    → plainly (byte_behind s fault n held b) ≡ plain.byte_behind line_result (answer_of s fault) n held b
byte_plainly s (Some refusal) n held b = refl
byte_plainly s None n held b = here (eqb b 10)
  where
    here : (t : Bool) → plainly (cond t (ended_line s n (line_result s held)) (record { state = s; fault = None; number = n; held = held ++ b ∷ [] }))
        ≡ cond t (plain.ended_line line_result s n held) (record { answer = Ok s; number = n; held = held ++ b ∷ [] })
    here true = ended_plainly s n held (line_result s held) refl
    here false = refl

fed_plainly : (r : Reading) (bytes : List ℕ) → plainly (fed r bytes) ≡ plain.fed line_result (plainly r) bytes
fed_plainly r [] = refl
fed_plainly r (b ∷ bs) =
    fed_plainly (fed_byte r b) bs ∙ ap (λ (x : plain.Reading State). plain.fed line_result x bs) (byte_plainly r.state r.fault r.number r.held b)

-- what was fed, to its end, is the text
pub finished_text : (bytes : List ℕ) → finished (fed started bytes) ≡ state_text bytes
finished_text bytes =
    ap (plain.finished end_result) (fed_plainly started bytes) ∙ finished_is line_result end_result nothing bytes

-- ---- the steps of a piece

line_turns : (s : State) (fault : Option Refusal) (n : ℕ) (held left front rest : List ℕ)
    → is_reading (Some (record { state = s; fault = fault; number = n; held = held })) ≡ true → cut 10 left ≡ Some (front, rest)
    → fed_behind (ended_behind (Some (record { state = s; fault = fault; number = n; held = held })) front) rest
    ≡ fed_behind (Some (record { state = s; fault = fault; number = n; held = held })) left
line_turns s (Some refusal) n held left front rest e h = absurd cc
line_turns s None n held left front rest e h =
    let parts = IsCut-from_cut 10 left (front, rest) h in
    ap (λ (r : Reading). some_reading r)
    (sym (fed-line s n held front rest parts.lacks) ∙ ap (λ (x : List ℕ). fed (record { state = s; fault = None; number = n; held = held }) x) (sym parts.parts))

-- a line was read, and what stands behind it is left
pub line_turn : (o : Option Reading) (left front rest : List ℕ) → is_reading o ≡ true → cut 10 left ≡ Some (front, rest)
    → fed_behind (ended_behind o front) rest ≡ fed_behind o left
line_turn None left front rest e h = absurd cc
line_turn (Some r) left front rest e h = line_turns r.state r.fault r.number r.held left front rest e h

hold_lasts : (s : State) (fault : Option Refusal) (n : ℕ) (held left : List ℕ)
    → is_reading (Some (record { state = s; fault = fault; number = n; held = held })) ≡ true → cut 10 left ≡ None
    → held_behind (Some (record { state = s; fault = fault; number = n; held = held })) left
    ≡ fed_behind (Some (record { state = s; fault = fault; number = n; held = held })) left
hold_lasts s (Some refusal) n held left e h = absurd cc
hold_lasts s None n held left e h = ap (λ (r : Reading). some_reading r) (sym (fed-held s n held left (Lacks-from_none 10 left h)))

-- no line ends in what is left
pub hold_last : (o : Option Reading) (left : List ℕ) → is_reading o ≡ true → cut 10 left ≡ None → held_behind o left ≡ fed_behind o left
hold_last None left e h = absurd cc
hold_last (Some r) left e h = hold_lasts r.state r.fault r.number r.held left e h

stands : (s : State) (fault : Option Refusal) (n : ℕ) (held left : List ℕ) → is_reading (Some (record { state = s; fault = fault; number = n; held = held })) ≡ false
    → fed_behind (Some (record { state = s; fault = fault; number = n; held = held })) left ≡ Some (record { state = s; fault = fault; number = n; held = held })
stands s None n held left e = absurd cc
stands s (Some refusal) n held left e = ap (λ (r : Reading). some_reading r) (fed-refused s refusal n held left)

-- behind a faulty line, or once memory has run out, nothing is read
pub stands_still : (o : Option Reading) (left : List ℕ) → is_reading o ≡ false → fed_behind o left ≡ o
stands_still None left e = refl
stands_still (Some r) left e = stands r.state r.fault r.number r.held left e

-- what a piece is answered, once it is read
pub answered : (result : Result (Unit {0}) NoMemory) (old now : Option Reading) (piece : List ℕ) → Told result now → now ≡ fed_behind old piece → Fed result old piece now
answered (Ok u) old now piece t e = (e, t)
answered (Err x) old now piece t e = t

-- nothing more is read of a piece
pub piece_refused : (result : Result (Unit {0}) NoMemory) (o old : Option Reading) (left piece : List ℕ) → is_reading o ≡ false → fed_behind o left ≡ fed_behind old piece → Told result o
    → Fed result old piece o
piece_refused result o old left piece e same t = answered result old o piece t (sym (stands_still o left e) ∙ same)

there : (o new : Option Reading) (left : List ℕ) → is_reading o ≡ true → new ≡ held_behind o left → IsThere new
there None new left e h = absurd cc
there (Some r) new left e h = subst (λ (x : Option Reading). IsThere x) (sym h) tt

-- the rest of a piece is held
pub piece_held : (result : Result (Unit {0}) NoMemory) (o new old : Option Reading) (left piece : List ℕ) → is_reading o ≡ true → cut 10 left ≡ None
    → fed_behind o left ≡ fed_behind old piece → Leaves result new (held_behind o left) → Fed result old piece new
piece_held (Ok u) o new old left piece e none same h = (h ∙ hold_last o left e none ∙ same, there o new left e h)
piece_held (Err x) o new old left piece e none same h = h
