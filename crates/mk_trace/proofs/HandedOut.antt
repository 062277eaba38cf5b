-- Rounds that were handed out change nothing of what is read behind them.
use Rattle.std.proofs.Common.{◌≡◌, ℕ, Bool, true, false, cond, eqb, List, [], ◌∷◌, ◌++◌, Option, Some, None, Result, Ok, Err, refl, ap, ◌∙◌, append_assoc}
use Rattle.mk_spelling.specs.declared.fault.TextFault.{TextFault}
use Rattle.mk_spelling.specs.Lines.{Refusal}
use Rattle.mk_history.specs.declared.RoundLog.{RoundLog}
use Rattle.mk_trace_lines.specs.TraceLines.{TraceLine}
use Rattle.mk_trace_lines.specs.TraceLines.TraceLine.{Opens, Sizes, Declares, Names, Begins, Heads, Logged, Marks, Kept, Changes, Changed, Ends}
use Rattle.mk_trace_text.specs.States.{State, closed, after}
use Rattle.mk_trace_text.specs.Grammar.{line_of, taken, line_result}
use Rattle.mk_trace.specs.Pieces.{Reading, started, ended_line, byte_behind, fed_byte, fed}
use Rattle.mk_trace.proofs.PieceLaws.{fed-append}
use Rattle.mk_trace.specs.Answers.{with_rounds}

-- the same, with these rounds in front
abbrev pub lifted : List RoundLog → State → State
lifted h s = record s { rounds = h ++ s.rounds }

abbrev pub lifted_result : List RoundLog → Result State TextFault → Result State TextFault
lifted_result h (Ok s) = Ok (lifted h s)
lifted_result h (Err fault) = Err fault

closed_lifted : (h : List RoundLog) (s : State) → closed (lifted h s) ≡ h ++ closed s
closed_lifted h s = here (eqb s.count 0)
  where
    here : (t : Bool) → cond t (h ++ s.rounds) ((h ++ s.rounds) ++ s.round ∷ []) ≡ h ++ cond t s.rounds (s.rounds ++ s.round ∷ [])
    here true = refl
    here false = append_assoc h s.rounds (s.round ∷ [])

after_lifted : (h : List RoundLog) (s : State) (line : TraceLine) → after (lifted h s) line ≡ lifted h (after s line)
after_lifted h s (Opens version) = refl
after_lifted h s (Sizes f) = refl
after_lifted h s (Declares name column) = refl
after_lifted h s (Names name) = refl
after_lifted h s (Begins n) = ap (λ (r : List RoundLog). record (after s (Begins n)) { rounds = r }) (closed_lifted h s)
after_lifted h s (Heads column) = refl
after_lifted h s (Logged seq step) = refl
after_lifted h s (Marks replica key) = refl
after_lifted h s (Kept entry) = refl
after_lifted h s Changes = refl
after_lifted h s (Changed entry) = refl
after_lifted h s Ends = ap (λ (r : List RoundLog). record (after s Ends) { rounds = r }) (closed_lifted h s)

line_lifted : (h : List RoundLog) (s : State) (bytes : List ℕ) → line_result (lifted h s) bytes ≡ lifted_result h (line_result s bytes)
line_lifted h s bytes = here (line_of s bytes)
  where
    here : (r : Result TraceLine TextFault) → taken (lifted h s) r ≡ lifted_result h (taken s r)
    here (Ok line) = ap (λ (t : State). ok_state t) (after_lifted h s line)
      where
        ok_state : State → Result State TextFault
        ok_state t = Ok t
    here (Err fault) = refl

ended_lifted : (h : List RoundLog) (s : State) (n : ℕ) (r : Result State TextFault) → ended_line (lifted h s) n (lifted_result h r) ≡ with_rounds h (ended_line s n r)
ended_lifted h s n (Ok t) = refl
ended_lifted h s n (Err fault) = refl

byte_lifted : (h : List RoundLog) (s : State) (fault : Option Refusal) (n : ℕ) (held : List ℕ) (b : ℕ)
    → byte_behind (lifted h s) fault n held b ≡ with_rounds h (byte_behind s fault n held b)
byte_lifted h s (Some refusal) n held b = refl
byte_lifted h s None n held b = here (eqb b 10)
  where
    here : (t : Bool) → cond t (ended_line (lifted h s) n (line_result (lifted h s) held)) (record { state = lifted h s; fault = None; number = n; held = held ++ b ∷ [] })
        ≡ with_rounds h (cond t (ended_line s n (line_result s held)) (record { state = s; fault = None; number = n; held = held ++ b ∷ [] }))
    here true = ap (ended_line (lifted h s) n) (line_lifted h s held) ∙ ended_lifted h s n (line_result s held)
    here false = refl

pub fed_lifted : (h : List RoundLog) (r : Reading) (bytes : List ℕ) → fed (with_rounds h r) bytes ≡ with_rounds h (fed r bytes)
fed_lifted h r [] = refl
fed_lifted h r (b ∷ bs) =
    ap (λ (x : Reading). fed x bs) (byte_lifted h r.state r.fault r.number r.held b) ∙ fed_lifted h (fed_byte r b) bs

-- a piece behind a text, of which rounds were handed out
pub piece_behind : (text piece : List ℕ) (h : List RoundLog) (r : Reading) → fed started text ≡ with_rounds h r → fed started (text ++ piece) ≡ with_rounds h (fed r piece)
piece_behind text piece h r e = fed-append started text piece ∙ ap (λ (x : Reading). fed x piece) e ∙ fed_lifted h r piece
