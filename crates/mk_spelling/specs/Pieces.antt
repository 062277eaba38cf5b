-- Reading a text a byte at a time, in whatever pieces it comes.
use Rattle.std.specs.Prelude.{ℕ, List, [], ◌∷◌, ◌++◌, ◌==◌, length, Result, Ok, Err, if◌then◌else◌}
use Rattle.mk_spelling.specs.declared.fault.TextFault.{TextFault}
use Rattle.mk_spelling.specs.declared.fault.TextFault.TheVariants.{Cut}
use Rattle.mk_spelling.specs.Lines.{Refusal, next_number, go_on}

-- what the lines so far answer, the number of the line that comes, and its bytes so far
pub record Reading (S : Type 0) : Type 0 where
  pub answer : Result S Refusal
  pub number : ℕ
  pub held : List ℕ

-- nothing was read yet
abbrev pub started : {S : Type 0} → S → Reading S
started s = record { answer = Ok s; number = 1; held = [] }

-- the line that was held is whole
abbrev pub ended_line : {S : Type 0} → (S → List ℕ → Result S TextFault) → S → ℕ → List ℕ → Reading S
ended_line line s n held = record { answer = go_on n (line s held) (λ t. Ok t); number = next_number n; held = [] }

-- a byte is held until its line ends; behind a faulty line nothing is read and nothing is kept
abbrev pub byte_behind : {S : Type 0} → (S → List ℕ → Result S TextFault) → Result S Refusal → ℕ → List ℕ → ℕ → Reading S
byte_behind line (Ok s) n held b = if b == 10 then ended_line line s n held else record { answer = Ok s; number = n; held = held ++ b ∷ [] }
byte_behind line (Err refusal) n held b = record { answer = Err refusal; number = n; held = held }

-- one more byte was read
abbrev pub fed_byte : {S : Type 0} → (S → List ℕ → Result S TextFault) → Reading S → ℕ → Reading S
fed_byte line r b = byte_behind line r.answer r.number r.held b

-- these bytes were read
abbrev pub fed : {S : Type 0} → (S → List ℕ → Result S TextFault) → Reading S → List ℕ → Reading S
fed line r [] = r
fed line r (b ∷ bs) = fed line (fed_byte line r b) bs

-- the answer, and how to go on where no line was faulty
abbrev pub go_answer : {S : Type 0} → Result S Refusal → (S → Result S Refusal) → Result S Refusal
go_answer (Ok s) next = next s
go_answer (Err refusal) next = Err refusal

-- the text ends here
abbrev pub finished : {S : Type 0} → (S → Result S TextFault) → Reading S → Result S Refusal
finished close r = go_answer r.answer (λ s. if length r.held == 0 then go_on r.number (close s) (λ t. Ok t) else Err (r.number, Cut))
