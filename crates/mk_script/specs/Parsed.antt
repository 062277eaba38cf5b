-- What parsing answers.
use Rattle.std.specs.Prelude.{◌≡◌, ℕ, List, Result, Ok, Err}
use Rattle.mk_spelling.specs.Lines.{Refusal, read_text}
use Rattle.mk_script.specs.declared.error.LineError.{LineError}
use Rattle.mk_script.specs.declared.error.LineError.TheVariants as errors
use Rattle.mk_script.specs.declared.parsing.ScriptError.{ScriptError}
use Rattle.mk_script.specs.declared.parsing.ScriptError.TheVariants as refusals
use Rattle.mk_script.specs.Scripts.{ScriptParts, State, nothing, script_of}
use Rattle.mk_script.specs.Faults.{line_result, end_result}

-- the error of a line
abbrev pub error_at : ℕ → LineError → ScriptError
error_at line errors.Memory = refusals.NoMemory
error_at line (errors.Fault why) = refusals.Refused line why

-- a refusal names the faulty line and its fault; want of memory says nothing of the text
abbrev pub Refuses : {A : Type 0} → ScriptError → Result A Refusal → Type 0
Refuses refusals.NoMemory answer = Unit {0}
Refuses (refusals.Refused line why) answer = answer ≡ Err (line, why)

-- the call answers this, unless memory ran out
abbrev pub Answers : {A : Type 0} → Result A ScriptError → Result A Refusal → Type 0
Answers (Ok s) answer = answer ≡ Ok s
Answers (Err e) answer = Refuses e answer

-- what was read of a text, line by line
abbrev pub state_text : List ℕ → Result State Refusal
state_text bytes = read_text line_result end_result nothing bytes

-- the script of what was read
abbrev pub scripted : Result State Refusal → Result ScriptParts Refusal
scripted (Ok s) = Ok (script_of s)
scripted (Err refusal) = Err refusal

-- the script of a text, or its first faulty line, counted from 1, and that line's first fault
abbrev pub script_text : List ℕ → Result ScriptParts Refusal
script_text bytes = scripted (state_text bytes)
