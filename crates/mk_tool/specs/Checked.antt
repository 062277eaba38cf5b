-- How a call that reads a trace ends.
use Rattle.std.specs.Prelude.{◌≡◌, ◌≤◌, ◌⊎◌, ℕ, List, length, Bool, true, false, Option, Some, None, Ok, Err, ⊤}
use Rattle.std.specs.Io.KnownBytes.{Appends}
use Rattle.mk_spelling.specs.declared.fault.TextFault.{TextFault}
use Rattle.mk_io.specs.Wholes.{AppendsPart}
use Rattle.mk_history.specs.Histories.{History}
use Rattle.mk_history.specs.Legality.{IsLegal}
use Rattle.mk_history.specs.Shape.{HasShape}
use Rattle.mk_verdict.specs.declared.Verdict.{Verdict}
use Rattle.mk_verdict.specs.declared.Verdict.TheVariants.{Legal, Broken}
use Rattle.mk_verdict.specs.Flaws.{verdict_of}
use Rattle.mk_trace.specs.Answers.{run_text}
use Rattle.mk_ending.specs.declared.why.Why.{Why}
use Rattle.mk_ending.specs.declared.why.Why.TheVariants.{Usage, Refused, SourceFault, TooLong, SinkFault, NoMemory, NoAttempt}
use Rattle.mk_ending.specs.declared.why.Grammar.TheVariants.{Trace}
use Rattle.mk_ending.specs.Endings.{status_of}
use Rattle.mk_tool.specs.Asking.{Asked, HasAsked}
use Rattle.mk_tool.specs.PastTexts.{answer_of}

-- the bytes of a trace at the most
abbrev pub trace_limit : ℕ
trace_limit = 67108864

-- the bytes that a source held, where it tells them, are the trace of this run
abbrev pub IsTrace : Option (List ℕ) → History → Type 0
IsTrace None run = ⊤
IsTrace (Some bytes) run = (length bytes ≤ trace_limit) × (run_text bytes ≡ Ok run)

-- the source held a run
abbrev pub Tells : Option (List ℕ) → History → Type 0
Tells left run = HasShape run × IsTrace left run

-- this is the first faulty line of what it held, and its first fault
abbrev pub TellsFault : Option (List ℕ) → ℕ → TextFault → Type 0
TellsFault None line fault = ⊤
TellsFault (Some bytes) line fault = (length bytes ≤ trace_limit) × (run_text bytes ≡ Err (line, fault))

-- why bytes are no trace of a run
abbrev pub IsRefused : List ℕ → Why → Type 0
IsRefused bytes (Refused line why) = run_text bytes ≡ Err (line, why)
IsRefused bytes NoMemory = ⊤
IsRefused bytes Usage = ⊥
IsRefused bytes SourceFault = ⊥
IsRefused bytes TooLong = ⊥
IsRefused bytes SinkFault = ⊥
IsRefused bytes NoAttempt = ⊥

-- why nothing is written of a run: it is legal and lacks what is asked for, or memory ran out
abbrev pub IsUntold : Asked → History → Why → Type 0
IsUntold asked run NoAttempt = IsLegal run × (¬ (HasAsked asked run))
IsUntold asked run NoMemory = ⊤
IsUntold asked run Usage = ⊥
IsUntold asked run (Refused line why) = ⊥
IsUntold asked run SourceFault = ⊥
IsUntold asked run TooLong = ⊥
IsUntold asked run SinkFault = ⊥

-- this is written of a run with this verdict; a legal one has what is asked for
pub record IsTold (asked : Asked) (run : History) (verdict : Verdict) (text : List ℕ) : Type 0 where
  pub verdict_is : verdict ≡ verdict_of run
  pub text_is : answer_of asked run ≡ Some text
  pub has : IsLegal run → HasAsked asked run

-- why bytes are not answered that are asked this
abbrev pub IsUnanswered : Asked → List ℕ → Why → Type 0
IsUnanswered asked bytes NoAttempt = (run : History) × HasShape run × (run_text bytes ≡ Ok run) × IsLegal run × (¬ (HasAsked asked run))
IsUnanswered asked bytes (Refused line why) = run_text bytes ≡ Err (line, why)
IsUnanswered asked bytes NoMemory = ⊤
IsUnanswered asked bytes Usage = ⊥
IsUnanswered asked bytes SourceFault = ⊥
IsUnanswered asked bytes TooLong = ⊥
IsUnanswered asked bytes SinkFault = ⊥

-- the source held a run of which this is told
pub record IsAnswer (asked : Asked) (left : Option (List ℕ)) (verdict : Verdict) (text : List ℕ) : Type 0 where
  pub run : History
  pub tells : Tells left run
  pub told : IsTold asked run verdict text

-- the source held a legal run that lacks what is asked for
pub record IsLacking (asked : Asked) (left : Option (List ℕ)) : Type 0 where
  pub run : History
  pub tells : Tells left run
  pub legal : IsLegal run
  pub lacks : ¬ (HasAsked asked run)

-- what is asked of the run was written
abbrev pub AppendsAnswer : Asked → History → Option (List ℕ) → Option (List ℕ) → Type 0
AppendsAnswer asked run old new = (text : List ℕ) × (answer_of asked run ≡ Some text) × Appends old new text

-- or a front of it
abbrev pub AppendsAnswerPart : Asked → History → Option (List ℕ) → Option (List ℕ) → Type 0
AppendsAnswerPart asked run old new = (text : List ℕ) × (answer_of asked run ≡ Some text) × AppendsPart old new text

-- the status of a verdict that is written whole
abbrev pub verdict_status : Verdict → ℕ
verdict_status Legal = 0
verdict_status (Broken round place why) = 7

-- the status of each ending; where no refusal is told, a verdict is
abbrev pub tool_status : Option Verdict → Option Why → ℕ
tool_status verdict (Some why) = status_of Trace why
tool_status (Some verdict) None = verdict_status verdict
tool_status None None = 0

-- the verdict that is told with a refusal before anything is written: a run that lacks an attempt is legal
abbrev pub verdict_with : Why → Option Verdict
verdict_with NoAttempt = Some Legal
verdict_with Usage = None
verdict_with (Refused line why) = None
verdict_with SourceFault = None
verdict_with TooLong = None
verdict_with SinkFault = None
verdict_with NoMemory = None

-- whether a verdict is told
abbrev pub has_verdict : Option Why → Bool
has_verdict None = true
has_verdict (Some SinkFault) = true
has_verdict (Some NoAttempt) = true
has_verdict (Some Usage) = false
has_verdict (Some (Refused line why)) = false
has_verdict (Some SourceFault) = false
has_verdict (Some TooLong) = false
has_verdict (Some NoMemory) = false

-- what lies outside the trace: the source or the sink failed, or memory ran out
abbrev pub IsOutside : Option Why → Type 0
IsOutside (Some SourceFault) = ⊤
IsOutside (Some SinkFault) = ⊤
IsOutside (Some NoMemory) = ⊤
IsOutside (Some NoAttempt) = ⊥
IsOutside (Some Usage) = ⊥
IsOutside (Some (Refused line why)) = ⊥
IsOutside (Some TooLong) = ⊥
IsOutside None = ⊥

-- how a call ends that is asked this of a legal run: with status 0, without the attempt that the run lacks, or by what lies outside
abbrev pub Completes : Asked → History → ℕ → Option Why → Type 0
Completes asked run status why =
    ((status ≡ 0) × HasAsked asked run) ⊎ (((why ≡ Some NoAttempt) × (¬ (HasAsked asked run))) ⊎ IsOutside why)
