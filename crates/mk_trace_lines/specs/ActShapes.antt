-- Acts with their answers as words: the parts of their form, and what they are.
use Rattle.std.specs.Prelude.{◌^◌, ◌-◌, ℕ, Bool, true, false, ◌==◌, ◌&&◌, List, [], ◌∷◌, Option, Some, None, Result, Ok, Err, if◌then◌else◌}
use Rattle.std.specs.Str.{bytes_eq}
use Rattle.mk_spelling.specs.declared.fault.TextFault.{TextFault}
use Rattle.mk_spelling.specs.declared.fault.TextFault.TheVariants as faults
use Rattle.mk_spelling.specs.Words.{cut, are_digits, is_number, ranged, number, value, small_value, none_left}
use Rattle.mk_spelling.specs.Fields.{◌>>=◌, ◌>>◌, need, found, named, one_of, two_of}
use Rattle.mk_txn.specs.declared.Stamp.{Stamp}
use Rattle.mk_txn.specs.declared.Value.{Value}
use Rattle.mk_txn.specs.declared.Value.TheVariants.{Number, Absent}
use Rattle.mk_words.specs.declared.Act.{Act}
use Rattle.mk_words.specs.declared.Act.TheVariants as acts
use Rattle.mk_words.specs.declared.Answer.{Answer}
use Rattle.mk_words.specs.declared.Answer.TheVariants as answers
use Rattle.mk_trace_lines.specs.declared.words.ActWord.{ActWord}
use Rattle.mk_trace_lines.specs.declared.words.ActWord.TheVariants as words
use Rattle.mk_trace_lines.specs.LineWords.{act_text, act_list, reason_text, check_reasons, okay_text, none_text}

-- a stamp's time and client, as they are written
abbrev pub Parts : Type 0
Parts = List ℕ × List ℕ

-- a check's answer: it passed, or a reason and a stamp
pub data AnswerShape : Type 0 where
  OkayShape : AnswerShape
  RefusedShape : List ℕ → Parts → AnswerShape

-- an act with its answer
pub data ActShape : Type 0 where
  GetShape : Parts → List ℕ → ActShape
  CheckReadShape : Parts → Parts → AnswerShape → ActShape
  CheckWriteShape : Parts → AnswerShape → ActShape
  CommitReadShape : Parts → ActShape
  CommitWriteShape : Parts → List ℕ → ActShape
  ReleaseReadShape : Parts → ActShape
  ReleaseWriteShape : Parts → ActShape

-- ---- the form

-- a first word, and the words behind it
abbrev pub first_of : List (List ℕ) → Option (List ℕ × List (List ℕ))
first_of [] = None
first_of (w ∷ ws) = Some (w, ws)

-- the parts of a stamp
abbrev pub stamp_parts : List ℕ → Result Parts TextFault
stamp_parts word = found faults.Form (cut 46 word)

-- a check that passed
abbrev pub okay_shape : List ℕ → Result AnswerShape TextFault
okay_shape word = if bytes_eq okay_text word then Ok OkayShape else Err faults.Form

-- a check that was refused
abbrev pub refused_shape : List ℕ → List (List ℕ) → Result AnswerShape TextFault
refused_shape word rest = do
  last ← found faults.Form (one_of rest)
  stamp ← stamp_parts last
  Ok (RefusedShape word stamp)

-- a check's answer has one word or two
abbrev pub answer_shape : List (List ℕ) → Result AnswerShape TextFault
answer_shape ws = do
  w ← found faults.Form (first_of ws)
  if none_left w.1 then okay_shape w.0 else refused_shape w.0 w.1

-- VERSION VALUE
abbrev pub get_shape : List (List ℕ) → Result ActShape TextFault
get_shape ws = do
  w ← found faults.Form (two_of ws)
  version ← stamp_parts w.0
  Ok (GetShape version w.1)

-- TS VERSION and the answer
abbrev pub check_read_shape : List (List ℕ) → Result ActShape TextFault
check_read_shape ws = do
  w ← found faults.Form (first_of ws)
  ts ← stamp_parts w.0
  v ← found faults.Form (first_of w.1)
  version ← stamp_parts v.0
  answer ← answer_shape v.1
  Ok (CheckReadShape ts version answer)

-- TS and the answer
abbrev pub check_write_shape : List (List ℕ) → Result ActShape TextFault
check_write_shape ws = do
  w ← found faults.Form (first_of ws)
  ts ← stamp_parts w.0
  answer ← answer_shape w.1
  Ok (CheckWriteShape ts answer)

-- TS VALUE
abbrev pub commit_write_shape : List (List ℕ) → Result ActShape TextFault
commit_write_shape ws = do
  w ← found faults.Form (two_of ws)
  ts ← stamp_parts w.0
  Ok (CommitWriteShape ts w.1)

-- TS alone
abbrev pub alone : List (List ℕ) → Result Parts TextFault
alone ws = do
  w ← found faults.Form (one_of ws)
  stamp_parts w

-- the acts with a stamp alone
abbrev pub commit_read_shape : List (List ℕ) → Result ActShape TextFault
commit_read_shape ws = do
  ts ← alone ws
  Ok (CommitReadShape ts)

abbrev pub release_read_shape : List (List ℕ) → Result ActShape TextFault
release_read_shape ws = do
  ts ← alone ws
  Ok (ReleaseReadShape ts)

abbrev pub release_write_shape : List (List ℕ) → Result ActShape TextFault
release_write_shape ws = do
  ts ← alone ws
  Ok (ReleaseWriteShape ts)

-- the words behind the act's word
abbrev pub shape_behind : ActWord → List (List ℕ) → Result ActShape TextFault
shape_behind words.Get ws = get_shape ws
shape_behind words.CheckRead ws = check_read_shape ws
shape_behind words.CheckWrite ws = check_write_shape ws
shape_behind words.CommitRead ws = commit_read_shape ws
shape_behind words.CommitWrite ws = commit_write_shape ws
shape_behind words.ReleaseRead ws = release_read_shape ws
shape_behind words.ReleaseWrite ws = release_write_shape ws

-- the form of an act with its answer, else Form
abbrev pub act_shape : List (List ℕ) → Result ActShape TextFault
act_shape ws = do
  w ← found faults.Form (first_of ws)
  word ← found faults.Form (named act_text act_list w.0)
  shape_behind word w.1

-- ---- the fields

-- the value of digits, where it is below 2^64
abbrev pub digits_sum : List ℕ → Option ℕ
digits_sum word = if are_digits word then small_value word else None

-- the number below 2^64 that the word is
abbrev pub small_number : List ℕ → Option ℕ
small_number word = if is_number word then small_value word else None

-- both parts of a stamp are numbers, then both are in range
abbrev pub stamp_of : Parts → Result Stamp TextFault
stamp_of p = do
  need (is_number p.0) faults.Number
  need (is_number p.1) faults.Number
  time ← ranged 0 (2 ^ 62) (value p.0)
  client ← ranged 0 64 (value p.1)
  Ok (record { time = time; client = client })

-- the word of an absent value
abbrev pub is_none : List ℕ → Bool
is_none word = bytes_eq none_text word

-- a number of 64 bits, or in version 2 none
abbrev pub value_of : ℕ → List ℕ → Result Value TextFault
value_of version word =
    if version == 2 && is_none word then Ok Absent else (number 0 (2 ^ 64 - 1) word >>= λ n. Ok (Number n))

-- what a check of a read, or of a write, was answered
abbrev pub answer_of : Bool → AnswerShape → Result Answer TextFault
answer_of read OkayShape = Ok answers.Okay
answer_of read (RefusedShape word stamp) = do
  reason ← found faults.Unknown (named reason_text (check_reasons read) word)
  other ← stamp_of stamp
  Ok (answers.Refused reason other)

-- an act and its answer, the fields from the left
abbrev pub turn_of : ℕ → ActShape → Result (Act × Answer) TextFault
turn_of version (GetShape stamp word) = do
  seen ← stamp_of stamp
  v ← value_of version word
  Ok (acts.Get, answers.Version seen v)
turn_of version (CheckReadShape stamp seen answer) = do
  ts ← stamp_of stamp
  read ← stamp_of seen
  said ← answer_of true answer
  Ok (acts.CheckRead ts read, said)
turn_of version (CheckWriteShape stamp answer) = do
  ts ← stamp_of stamp
  said ← answer_of false answer
  Ok (acts.CheckWrite ts, said)
turn_of version (CommitReadShape stamp) = do
  ts ← stamp_of stamp
  Ok (acts.CommitRead ts, answers.Done)
turn_of version (CommitWriteShape stamp word) = do
  ts ← stamp_of stamp
  v ← value_of version word
  Ok (acts.CommitWrite ts v, answers.Done)
turn_of version (ReleaseReadShape stamp) = do
  ts ← stamp_of stamp
  Ok (acts.ReleaseRead ts, answers.Done)
turn_of version (ReleaseWriteShape stamp) = do
  ts ← stamp_of stamp
  Ok (acts.ReleaseWrite ts, answers.Done)
