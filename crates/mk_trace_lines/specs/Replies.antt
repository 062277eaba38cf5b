-- The answers of global lines as words.
use Rattle.std.specs.Prelude.{◌^◌, ◌-◌, ℕ, Bool, true, false, List, [], ◌∷◌, Result, Ok, Err}
use Rattle.mk_spelling.specs.declared.fault.TextFault.{TextFault}
use Rattle.mk_spelling.specs.declared.fault.TextFault.TheVariants as faults
use Rattle.mk_spelling.specs.Words.{number, none_left}
use Rattle.mk_spelling.specs.Fields.{◌>>=◌, ◌>>◌, need, found, named}
use Rattle.mk_words.specs.declared.GlobalAnswer.{GlobalAnswer}
use Rattle.mk_words.specs.declared.GlobalAnswer.TheVariants as answers
use Rattle.mk_trace_lines.specs.declared.words.ReplyWord.{ReplyWord}
use Rattle.mk_trace_lines.specs.declared.words.ReplyWord.TheVariants as replies
use Rattle.mk_trace_lines.specs.declared.words.Replier.{Replier}
use Rattle.mk_trace_lines.specs.declared.words.Replier.TheVariants as repliers
use Rattle.mk_trace_lines.specs.LineWords.{reply_text, reply_list}
use Rattle.mk_trace_lines.specs.ActShapes.{first_of}

-- a word, and up to two numbers behind it
pub data ReplyShape : Type 0 where
  OneWord : ReplyWord → ReplyShape
  OneNumber : ReplyWord → List ℕ → ReplyShape
  TwoNumbers : ReplyWord → List ℕ → List ℕ → ReplyShape

-- the words behind the first
abbrev pub shape_behind : ReplyWord → List (List ℕ) → Result ReplyShape TextFault
shape_behind word [] = Ok (OneWord word)
shape_behind word (n ∷ []) = Ok (OneNumber word n)
shape_behind word (n ∷ m ∷ more) = do
  need (none_left more) faults.Form
  Ok (TwoNumbers word n m)

-- the answer that such a line can have
abbrev pub suits : Replier → ReplyShape → Bool
suits repliers.Promise (OneWord replies.Ok) = true
suits repliers.Promise (OneWord replies.Unasked) = true
suits repliers.Promise (OneWord replies.Lacking) = true
suits repliers.Promise (OneWord replies.WordFault) = true
suits repliers.Promise (OneNumber replies.Old n) = true
suits repliers.Merge (TwoNumbers replies.Ok n m) = true
suits repliers.Merge (OneNumber replies.Short n) = true
suits repliers.Merge (OneWord replies.Lacking) = true
suits repliers.Merge (OneNumber replies.Old n) = true
suits repliers.Adopt (OneWord replies.Ok) = true
suits repliers.Adopt (OneWord replies.Unmade) = true
suits repliers.Adopt (OneWord replies.WordFault) = true
suits repliers.Adopt (OneNumber replies.Old n) = true
suits repliers.Enter (OneNumber replies.Ok n) = true
suits repliers.Enter (OneNumber replies.Short n) = true
suits _ _ = false

-- the form of an answer of such a line, else Form
abbrev pub reply_shape : Replier → List (List ℕ) → Result ReplyShape TextFault
reply_shape replier ws = do
  w ← found faults.Form (first_of ws)
  word ← found faults.Form (named reply_text reply_list w.0)
  shape ← shape_behind word w.1
  need (suits replier shape) faults.Form
  Ok shape

-- an answer of one word
abbrev pub plain_reply : ReplyWord → Result GlobalAnswer TextFault
plain_reply replies.Ok = Ok answers.Ok
plain_reply replies.Unasked = Ok answers.Unasked
plain_reply replies.Unmade = Ok answers.Unmade
plain_reply replies.Lacking = Ok answers.Lacking
plain_reply replies.WordFault = Ok answers.WordFault
plain_reply _ = Err faults.Form

-- an answer with one number
abbrev pub numbered_reply : ReplyWord → List ℕ → Result GlobalAnswer TextFault
numbered_reply replies.Ok n = number 0 7 n >>= λ k. Ok (answers.Entered k)
numbered_reply replies.Old n = number 0 1000 n >>= λ word. Ok (answers.Old word)
numbered_reply replies.Short n = number 0 7 n >>= λ k. Ok (answers.Short k)
numbered_reply _ n = Err faults.Form

-- the answer of such a form
abbrev pub reply_of : ReplyShape → Result GlobalAnswer TextFault
reply_of (OneWord word) = plain_reply word
reply_of (OneNumber word n) = numbered_reply word n
reply_of (TwoNumbers word n m) = do
  commits ← number 0 (2 ^ 64 - 1) n
  aborts ← number 0 (2 ^ 64 - 1) m
  Ok (answers.Counts commits aborts)
