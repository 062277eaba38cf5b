-- What a call that reads a line leaves, and what the reader keeps.
use Rattle.std.specs.Prelude.{◌≡◌, ◌≤◌, ℕ, length, Result, Ok, Err}
use Rattle.mk_spelling.specs.declared.fault.TextFault.{TextFault}
use Rattle.mk_kept.specs.declared.head.Head.{Head}
use Rattle.mk_trace_lines.specs.TraceLines.{TraceLine}
use Rattle.mk_trace.specs.declared.error.LineError.{LineError}
use Rattle.mk_trace.specs.declared.error.LineError.TheVariants as errors
use Rattle.mk_trace_text.specs.States.{State}
use Rattle.mk_trace_text.specs.Grammar.{taken}

-- the limits of the tables, and the counts that have them
pub record IsWithin (head : Head) (count changes : ℕ) : Type 0 where
  pub client_limit : head.client_names.limit ≡ 64
  pub key_limit : head.key_names.limit ≡ 256
  pub few_clients : length head.client_names.names ≤ 64
  pub few_rounds : count ≤ 16
  pub few_changes : changes ≤ 256

-- a fault is the one that the definition answers
abbrev pub Fails : {A : Type 0} → LineError → Result A TextFault → Type 0
Fails errors.Memory answer = Unit {0}
Fails (errors.Fault fault) answer = answer ≡ Err fault

-- what a call that failed leaves, where memory did not run out: all as it was
abbrev pub Refuses : LineError → State → State → Result State TextFault → Type 0
Refuses errors.Memory new old answer = Unit {0}
Refuses (errors.Fault fault) new old answer = (answer ≡ Err fault) × (new ≡ old)

-- a call that found old left new, and answered what the definition answers, unless memory ran out
abbrev pub Meets : Result (Unit {0}) LineError → State → State → Result State TextFault → Type 0
Meets (Ok u) new old answer = answer ≡ Ok new
Meets (Err e) new old answer = Refuses e new old answer

-- the same, where the definition gives the line that was read behind old
abbrev pub MeetsLine : Result (Unit {0}) LineError → State → State → Result TraceLine TextFault → Type 0
MeetsLine result new old line = Meets result new old (taken old line)
