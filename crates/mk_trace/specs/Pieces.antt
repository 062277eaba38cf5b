-- A trace that comes in pieces. What the good lines said stays behind a faulty line.
use Rattle.std.specs.Prelude.{ℕ, List, [], ◌∷◌, ◌++◌, ◌==◌, Option, Some, None, Result, Ok, Err, if◌then◌else◌}
use Rattle.mk_spelling.specs.declared.fault.TextFault.{TextFault}
use Rattle.mk_spelling.specs.Lines.{Refusal, next_number}
use Rattle.mk_spelling.specs.Pieces as plain
use Rattle.mk_trace_text.specs.States.{State, nothing}
use Rattle.mk_trace_text.specs.Grammar.{line_result, end_result}

-- what the good lines said, the first fault, the number of the line that comes, and its bytes so far
pub record Reading : Type 0 where
  pub state : State
  pub fault : Option Refusal
  pub number : ℕ
  pub held : List ℕ

-- no byte was read
abbrev pub started : Reading
started = record { state = nothing; fault = None; number = 1; held = [] }

-- the line that ended gave this
abbrev pub ended_line : State → ℕ → Result State TextFault → Reading
ended_line s n (Ok t) = record { state = t; fault = None; number = next_number n; held = [] }
ended_line s n (Err why) = record { state = s; fault = Some (n, why); number = next_number n; held = [] }

-- a byte is held until its line ends; behind a faulty line nothing is read and nothing is kept
abbrev pub byte_behind : State → Option Refusal → ℕ → List ℕ → ℕ → Reading
byte_behind s None n held b = if b == 10 then ended_line s n (line_result s held) else record { state = s; fault = None; number = n; held = held ++ b ∷ [] }
byte_behind s (Some refusal) n held b = record { state = s; fault = Some refusal; number = n; held = held }

-- one more byte was read
abbrev pub fed_byte : Reading → ℕ → Reading
fed_byte r b = byte_behind r.state r.fault r.number r.held b

-- these bytes were read
abbrev pub fed : Reading → List ℕ → Reading
fed r [] = r
fed r (b ∷ bs) = fed (fed_byte r b) bs

-- what the lines so far answer
abbrev pub answer_of : State → Option Refusal → Result State Refusal
answer_of s None = Ok s
answer_of s (Some refusal) = Err refusal

-- the same as a text in pieces is read, with a fault in place of what the good lines said
abbrev pub plainly : Reading → plain.Reading State
plainly r = record { answer = answer_of r.state r.fault; number = r.number; held = r.held }

-- the text ends here
abbrev pub finished : Reading → Result State Refusal
finished r = plain.finished end_result (plainly r)
