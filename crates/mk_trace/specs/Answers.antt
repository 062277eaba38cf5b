-- What a reader of pieces stands for, and what its calls answer.
use Rattle.std.specs.Prelude.{◌≡◌, ℕ, Bool, false, not, is_some, List, ◌++◌, Option, Some, None, Result, Ok, Err}
use Rattle.std.specs.Borrow.{Bor}
use Rattle.mk_spelling.specs.Lines.{Refusal}
use Rattle.mk_txn.specs.declared.NoMemory.{NoMemory}
use Rattle.mk_history.specs.declared.RoundLog.{RoundLog}
use Rattle.mk_history.specs.Histories.{History}
use Rattle.mk_kept.specs.declared.head.Head.{Head}
use Rattle.mk_kept.specs.Heads.{history}
use Rattle.mk_trace.specs.declared.error.TraceError.{TraceError}
use Rattle.mk_trace.specs.declared.error.TraceError.TheVariants as errors
use Rattle.mk_trace.specs.declared.tracing.Standing.{Standing}
use Rattle.mk_trace.specs.declared.tracing.Standing.TheVariants as standings
use Rattle.mk_trace_text.specs.States.{State}
use Rattle.mk_trace_text.specs.Grammar.{line_result, state_text, head_of, seen_head, IsTaken}
use Rattle.mk_trace.specs.Pieces.{Reading, started, ended_line, fed, finished}

-- what was read; none once memory has run out
abbrev pub reading_of : Standing → ℕ → List ℕ → State → Option Reading
reading_of standings.Reading number held state = Some (record { state = state; fault = None; number = number; held = held })
reading_of (standings.Refused line why) number held state = Some (record { state = state; fault = Some (line, why); number = number; held = held })
reading_of standings.NoMemory number held state = None

-- these bytes were read behind a reading
abbrev pub fed_behind : Option Reading → List ℕ → Option Reading
fed_behind None bytes = None
fed_behind (Some r) bytes = Some (fed r bytes)

-- memory has not run out
abbrev pub IsThere : Option Reading → Type 0
IsThere None = ⊥
IsThere (Some r) = Unit {0}

-- a piece was read behind old, or memory ran out
abbrev pub Fed : Result (Unit {0}) NoMemory → Option Reading → List ℕ → Option Reading → Type 0
Fed (Ok u) old piece new = (new ≡ fed_behind old piece) × IsThere new
Fed (Err e) old piece new = new ≡ None

-- lines are read
abbrev pub is_reading : Option Reading → Bool
is_reading None = false
is_reading (Some r) = not (is_some r.fault)

-- bytes are held
abbrev pub held_behind : Option Reading → List ℕ → Option Reading
held_behind None bytes = None
held_behind (Some r) bytes = Some (record r { held = r.held ++ bytes })

-- the line that these bytes end was read
abbrev pub ended_behind : Option Reading → List ℕ → Option Reading
ended_behind None bytes = None
ended_behind (Some r) bytes = Some (ended_line r.state r.number (line_result r.state (r.held ++ bytes)))

-- a call leaves this, or memory ran out
abbrev pub Leaves : Result (Unit {0}) NoMemory → Option Reading → Option Reading → Type 0
Leaves (Ok u) new wanted = new ≡ wanted
Leaves (Err e) new wanted = new ≡ None

-- what a piece is answered
abbrev pub Told : Result (Unit {0}) NoMemory → Option Reading → Type 0
Told (Ok u) now = IsThere now
Told (Err e) now = now ≡ None

-- the head, where memory has not run out
abbrev pub HeadIs : Option (Bor Head) → Option Reading → Type 0
HeadIs head None = Unit {0}
HeadIs head (Some r) = seen_head head ≡ head_of r.state

-- a round was handed out, where one was there, and all else stays
abbrev pub Takes : Option RoundLog → Option Reading → Option Reading → Type 0
Takes round (Some old) (Some new) = IsTaken old.state round new.state × (new ≡ record old { state = new.state })
Takes round None None = Unit {0}
Takes round old new = ⊥

-- what the text, if it ends here, is answered
abbrev pub Finishes : Result (Unit {0}) TraceError → Option Reading → Type 0
Finishes (Ok u) (Some r) = finished r ≡ Ok r.state
Finishes (Ok u) None = ⊥
Finishes (Err (errors.BadLine line why)) (Some r) = finished r ≡ Err (line, why)
Finishes (Err (errors.BadLine line why)) None = ⊥
Finishes (Err errors.NoMemory) (Some r) = ⊥
Finishes (Err errors.NoMemory) None = Unit {0}

-- these rounds stand before those that were not handed out
abbrev pub with_rounds : List RoundLog → Reading → Reading
with_rounds taken r = record r { state = record r.state { rounds = taken ++ r.state.rounds } }

-- the text was read, and these rounds were handed out
pub record StandsFor (reader : Option Reading) (text : List ℕ) (taken : List RoundLog) : Type 0 where
  pub reading : Reading
  pub is : reader ≡ Some reading
  pub read : fed started text ≡ with_rounds taken reading

-- the run of what was read
abbrev pub run_of : Result State Refusal → Result History Refusal
run_of (Ok s) = Ok (history s.head s.rounds)
run_of (Err refusal) = Err refusal

-- the run of a text, or its first faulty line and that line's first fault
abbrev pub run_text : List ℕ → Result History Refusal
run_text bytes = run_of (state_text bytes)

-- the same answer, with these rounds in front
abbrev pub answer_with : List RoundLog → Result State Refusal → Result State Refusal
answer_with taken (Ok s) = Ok (record s { rounds = taken ++ s.rounds })
answer_with taken (Err refusal) = Err refusal

-- the call answers this, unless memory ran out
abbrev pub Answers : Result History TraceError → Result History Refusal → Type 0
Answers (Ok run) answer = answer ≡ Ok run
Answers (Err (errors.BadLine line why)) answer = answer ≡ Err (line, why)
Answers (Err errors.NoMemory) answer = Unit {0}
