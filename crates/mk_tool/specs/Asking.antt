-- What the words of a call that reads a trace ask for.
use Rattle.std.specs.Prelude.{◌+◌, ℕ, List, [], ◌∷◌, codes, Option, Some, None, Result, Ok, Err, if◌then◌else◌}
use Rattle.std.specs.Str.{bytes_eq}
use Rattle.mk_txn.specs.declared.Stamp.{Stamp}
use Rattle.mk_txn.specs.declared.TxnId.{TxnId}
use Rattle.mk_spelling.specs.declared.fault.TextFault.{TextFault}
use Rattle.mk_spelling.specs.declared.fault.TextFault.TheVariants.{Form, Name}
use Rattle.mk_spelling.specs.Words.{cut, number, is_name}
use Rattle.mk_spelling.specs.Fields.{◌>>=◌, ◌>>◌, need, found, place}
use Rattle.mk_trace_lines.specs.ActShapes.{stamp_parts, stamp_of}
use Rattle.mk_history.specs.Histories.{History}
use Rattle.mk_past.specs.Reasons.{HasAttempt}

-- the verdict, the past at a stamp, or the reason of the attempt of a client's name and a seq
pub data Asked : Type 0 where
  ForVerdict : Asked
  ForPast : Stamp → Asked
  ForReason : List ℕ → ℕ → Asked

-- ---- words

-- the past at the stamp that the word is, spelled as in a trace
abbrev pub past_in : List ℕ → Result Asked TextFault
past_in word = do
  parts ← stamp_parts word
  stamp ← stamp_of parts
  Ok (ForPast stamp)

-- the reason of the attempt that the word names: a client's name, a dot and a seq
abbrev pub reason_in : List ℕ → Result Asked TextFault
reason_in word = do
  parts ← found Form (cut 46 word)
  need (is_name parts.0) Name
  seq ← number 1 16384 parts.1
  Ok (ForReason parts.0 seq)

-- what is asked for, where that is well formed
abbrev pub asked_in : Result Asked TextFault → Option Asked
asked_in (Ok asked) = Some asked
asked_in (Err fault) = None

-- check
abbrev pub one_word : List ℕ → Option Asked
one_word word = if bytes_eq word (codes "check") then Some ForVerdict else None

-- at STAMP, or why ID
abbrev pub two_words : List ℕ → List ℕ → Option Asked
two_words word other =
    if bytes_eq word (codes "at")
    then asked_in (past_in other)
    else if bytes_eq word (codes "why") then asked_in (reason_in other) else None

-- what the words ask for, and nothing for all other words
abbrev pub asked_of : List (List ℕ) → Option Asked
asked_of (word ∷ []) = one_word word
asked_of (word ∷ other ∷ []) = two_words word other
asked_of _ = None

-- ---- runs

-- the attempt of a client at this place and a seq; clients have the numbers from 1
abbrev pub id_at : ℕ → Option ℕ → Option TxnId
id_at seq None = None
id_at seq (Some place) = Some (record { client = place + 1; seq = seq })

-- the attempt of a client's name and a seq
abbrev pub id_named : List ℕ → ℕ → History → Option TxnId
id_named name seq run = id_at seq (place name run.client_names)

-- there is this attempt, and the run has it
abbrev pub HasNamed : Option TxnId → History → Type 0
HasNamed None run = ⊥
HasNamed (Some id) run = HasAttempt run id

-- the run has what is asked for: a verdict and each past it has, a reason where it has the attempt
abbrev pub HasAsked : Asked → History → Type 0
HasAsked ForVerdict run = Unit {0}
HasAsked (ForPast stamp) run = Unit {0}
HasAsked (ForReason name seq) run = HasNamed (id_named name seq run) run
