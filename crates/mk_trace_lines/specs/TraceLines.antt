-- What the lines of a trace hold, and how they are written.
use Rattle.std.specs.Prelude.{◌-◌, ℕ, List, [], ◌∷◌, ◌++◌, map, slice_get, unwrap_or, codes}
use Rattle.std.specs.List.{join_with_byte, flat_map}
use Rattle.std.specs.Fmt.{decimal}
use Rattle.mk_txn.specs.declared.Stamp.{Stamp}
use Rattle.mk_txn.specs.declared.TxnId.{TxnId}
use Rattle.mk_txn.specs.declared.Value.{Value}
use Rattle.mk_txn.specs.declared.Value.TheVariants.{Number, Absent}
use Rattle.mk_txn.specs.declared.WriteItem.{WriteItem}
use Rattle.mk_words.specs.declared.Act.{Act}
use Rattle.mk_words.specs.declared.Act.TheVariants.{Get, CheckRead, CheckWrite, CommitRead, CommitWrite, ReleaseRead, ReleaseWrite}
use Rattle.mk_words.specs.declared.Answer.{Answer}
use Rattle.mk_words.specs.declared.Answer.TheVariants.{Version, Okay, Refused, Done}
use Rattle.mk_words.specs.declared.JournalEntry.{JournalEntry}
use Rattle.mk_words.specs.declared.KeyCall.{KeyCall}
use Rattle.mk_words.specs.declared.GlobalEntry.{GlobalEntry}
use Rattle.mk_words.specs.declared.GlobalLine.{GlobalLine}
use Rattle.mk_words.specs.declared.GlobalLine.TheVariants as globals
use Rattle.mk_words.specs.declared.GlobalAnswer.{GlobalAnswer}
use Rattle.mk_words.specs.declared.GlobalAnswer.TheVariants as answers
use Rattle.mk_words.specs.declared.Step.{Step}
use Rattle.mk_words.specs.declared.Step.TheVariants.{Begin, Unread, Read, Stamp as StampStep, Validate, Take, Key as KeyStep, Rule, Again, Takeover, Pick, Stop}
use Rattle.mk_trace_lines.specs.declared.words.Keyword.TheVariants as keywords
use Rattle.mk_trace_lines.specs.declared.words.ActWord.TheVariants as acts
use Rattle.mk_trace_lines.specs.declared.words.ReplyWord.TheVariants as replies
use Rattle.mk_trace_lines.specs.LineWords.{keyword_text, act_text, reason_text, reply_text, okay_text, none_text}

-- a line of a trace; a step has the seq that its line names where it begins an attempt
pub data TraceLine : Type 0 where
  Opens : ℕ → TraceLine
  Sizes : ℕ → TraceLine
  Declares : List ℕ → ℕ → TraceLine
  Names : List ℕ → TraceLine
  Begins : ℕ → TraceLine
  Heads : ℕ → TraceLine
  Logged : ℕ → Step → TraceLine
  Marks : ℕ → ℕ → TraceLine
  Kept : JournalEntry → TraceLine
  Changes : TraceLine
  Changed : GlobalEntry → TraceLine
  Ends : TraceLine

-- the name of the client of this number, which counts from 1
abbrev pub client_name : List (List ℕ) → ℕ → List ℕ
client_name clients number = unwrap_or (slice_get clients (number - 1)) []

-- the name of the key of this number, which counts from 0
abbrev pub key_name : List (List ℕ) → ℕ → List ℕ
key_name keys number = unwrap_or (slice_get keys number) []

-- an attempt: its client's name, a dot and its seq
abbrev pub attempt_text : List (List ℕ) → ℕ → ℕ → List ℕ
attempt_text clients client seq = client_name clients client ++ 46 ∷ decimal seq

-- a time, a dot and a client
abbrev pub stamp_text : Stamp → List ℕ
stamp_text stamp = decimal stamp.time ++ 46 ∷ decimal stamp.client

-- a number, or none
abbrev pub value_text : Value → List ℕ
value_text (Number n) = decimal n
value_text Absent = none_text

-- KEY=VALUE
abbrev pub write_text : List (List ℕ) → WriteItem → List ℕ
write_text keys item = key_name keys item.key ++ 61 ∷ value_text item.value

-- the act's word and its stamps and values; a Get has those of its answer
abbrev pub act_words : Act → List (List ℕ)
act_words Get = act_text acts.Get ∷ []
act_words (CheckRead ts version) = act_text acts.CheckRead ∷ stamp_text ts ∷ stamp_text version ∷ []
act_words (CheckWrite ts) = act_text acts.CheckWrite ∷ stamp_text ts ∷ []
act_words (CommitRead ts) = act_text acts.CommitRead ∷ stamp_text ts ∷ []
act_words (CommitWrite ts value) = act_text acts.CommitWrite ∷ stamp_text ts ∷ value_text value ∷ []
act_words (ReleaseRead ts) = act_text acts.ReleaseRead ∷ stamp_text ts ∷ []
act_words (ReleaseWrite ts) = act_text acts.ReleaseWrite ∷ stamp_text ts ∷ []

-- what was answered
abbrev pub answer_words : Answer → List (List ℕ)
answer_words (Version version value) = stamp_text version ∷ value_text value ∷ []
answer_words Okay = okay_text ∷ []
answer_words (Refused reason stamp) = reason_text reason ∷ stamp_text stamp ∷ []
answer_words Done = []

-- an act with its answer
abbrev pub turn_words : Act → Answer → List (List ℕ)
turn_words act answer = act_words act ++ answer_words answer

-- one step of a column's log
abbrev pub step_words : List (List ℕ) → List (List ℕ) → ℕ → Step → List (List ℕ)
step_words clients keys seq (Begin client replica) = keyword_text keywords.Begin ∷ attempt_text clients client seq ∷ decimal replica ∷ []
step_words clients keys seq (Unread client) = keyword_text keywords.Unread ∷ attempt_text clients client seq ∷ []
step_words clients keys seq (Read id key) = keyword_text keywords.Read ∷ attempt_text clients id.client id.seq ∷ key_name keys key ∷ []
step_words clients keys seq (StampStep id clock writes) =
    keyword_text keywords.Stamp ∷ attempt_text clients id.client id.seq ∷ decimal clock ∷ map (write_text keys) writes
step_words clients keys seq (Validate id) = keyword_text keywords.Validate ∷ attempt_text clients id.client id.seq ∷ []
step_words clients keys seq (Take number) = keyword_text keywords.Take ∷ decimal number ∷ []
step_words clients keys seq (KeyStep call answer) =
    keyword_text keywords.Key ∷ decimal call.replica ∷ key_name keys call.key ∷ turn_words call.act answer
step_words clients keys seq (Rule id) = keyword_text keywords.Rule ∷ attempt_text clients id.client id.seq ∷ []
step_words clients keys seq (Again id) = keyword_text keywords.Again ∷ attempt_text clients id.client id.seq ∷ []
step_words clients keys seq (Takeover id view) = keyword_text keywords.Takeover ∷ attempt_text clients id.client id.seq ∷ decimal view ∷ []
step_words clients keys seq (Pick id view) = keyword_text keywords.Pick ∷ attempt_text clients id.client id.seq ∷ decimal view ∷ []
step_words clients keys seq (Stop id) = keyword_text keywords.Stop ∷ attempt_text clients id.client id.seq ∷ []

-- one entry of a journal
abbrev pub entry_words : JournalEntry → List (List ℕ)
entry_words entry = decimal entry.seat ∷ turn_words entry.act entry.answer

-- the answer of a global line with its numbers
abbrev pub reply_words : GlobalAnswer → List (List ℕ)
reply_words answers.Ok = reply_text replies.Ok ∷ []
reply_words (answers.Counts commits aborts) = reply_text replies.Ok ∷ decimal commits ∷ decimal aborts ∷ []
reply_words (answers.Entered k) = reply_text replies.Ok ∷ decimal k ∷ []
reply_words answers.Unasked = reply_text replies.Unasked ∷ []
reply_words answers.Unmade = reply_text replies.Unmade ∷ []
reply_words answers.Lacking = reply_text replies.Lacking ∷ []
reply_words (answers.Old word) = reply_text replies.Old ∷ decimal word ∷ []
reply_words answers.WordFault = reply_text replies.WordFault ∷ []
reply_words (answers.Short k) = reply_text replies.Short ∷ decimal k ∷ []

-- a global line: its first word, and its epoch, replica or both
abbrev pub global_words : GlobalLine → List (List ℕ)
global_words (globals.Wipe replica) = keyword_text keywords.Wipe ∷ decimal replica ∷ []
global_words (globals.Ask epoch) = keyword_text keywords.Ask ∷ decimal epoch ∷ []
global_words (globals.Promise epoch replica) = keyword_text keywords.Promise ∷ decimal epoch ∷ decimal replica ∷ []
global_words (globals.Merge epoch) = keyword_text keywords.Merge ∷ decimal epoch ∷ []
global_words (globals.Adopt epoch replica) = keyword_text keywords.Adopt ∷ decimal epoch ∷ decimal replica ∷ []
global_words (globals.Enter epoch) = keyword_text keywords.Enter ∷ decimal epoch ∷ []

-- a wipe and a question are not answered
abbrev pub answered_words : GlobalLine → GlobalAnswer → List (List ℕ)
answered_words (globals.Wipe replica) answer = []
answered_words (globals.Ask epoch) answer = []
answered_words _ answer = reply_words answer

-- a global line with its answer
abbrev pub change_words : GlobalEntry → List (List ℕ)
change_words entry = global_words entry.line ++ answered_words entry.line entry.answer

-- the words of a line
abbrev pub line_words : List (List ℕ) → List (List ℕ) → TraceLine → List (List ℕ)
line_words clients keys (Opens version) = keyword_text keywords.Opening ∷ decimal version ∷ []
line_words clients keys (Sizes f) = keyword_text keywords.Size ∷ decimal f ∷ []
line_words clients keys (Declares name column) = keyword_text keywords.Client ∷ name ∷ decimal column ∷ []
line_words clients keys (Names name) = keyword_text keywords.Key ∷ name ∷ []
line_words clients keys (Begins n) = keyword_text keywords.Round ∷ decimal n ∷ []
line_words clients keys (Heads column) = keyword_text keywords.Column ∷ decimal column ∷ []
line_words clients keys (Logged seq step) = step_words clients keys seq step
line_words clients keys (Marks replica key) = keyword_text keywords.Cell ∷ decimal replica ∷ key_name keys key ∷ []
line_words clients keys (Kept entry) = entry_words entry
line_words clients keys Changes = keyword_text keywords.Globals ∷ []
line_words clients keys (Changed entry) = change_words entry
line_words clients keys Ends = keyword_text keywords.End ∷ []

-- words with single spaces between them
abbrev pub spelling : List (List ℕ) → List (List ℕ) → TraceLine → List ℕ
spelling clients keys line = join_with_byte 32 (line_words clients keys line)

-- a line and its line feed
abbrev pub ended : List ℕ → List ℕ
ended line = line ++ 10 ∷ []

-- the line of its words
abbrev pub line_text : List (List ℕ) → List (List ℕ) → TraceLine → List ℕ
line_text clients keys line = ended (spelling clients keys line)

-- lines, one behind the other
abbrev pub text_of : List (List ℕ) → List (List ℕ) → List TraceLine → List ℕ
text_of clients keys lines = flat_map (line_text clients keys) lines

-- ---- parts of a line, as they are written one behind the other

-- a word behind a space
abbrev pub spaced_word : List ℕ → List ℕ
spaced_word word = 32 ∷ word

-- each word behind a space
abbrev pub spaced : List (List ℕ) → List ℕ
spaced ws = flat_map spaced_word ws

-- a key step
abbrev pub turn_text : List (List ℕ) → KeyCall → Answer → List ℕ
turn_text keys call answer =
    codes "key " ++ (decimal call.replica ++ 32 ∷ (key_name keys call.key ++ spaced (turn_words call.act answer)))

-- a write behind a space
abbrev pub spaced_write : List (List ℕ) → WriteItem → List ℕ
spaced_write keys item = 32 ∷ write_text keys item

-- a stamp with its writes
abbrev pub stamped_text : List (List ℕ) → List (List ℕ) → TxnId → ℕ → List WriteItem → List ℕ
stamped_text clients keys id clock writes =
    codes "stamp " ++ (attempt_text clients id.client id.seq ++ 32 ∷ (decimal clock ++ flat_map (spaced_write keys) writes))
