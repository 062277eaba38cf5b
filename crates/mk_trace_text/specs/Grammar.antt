-- What a line of a trace is, or its first fault, in the order of the tests.
use Rattle.std.specs.Prelude.{◌≡◌, ◌+◌, ◌*◌, ◌^◌, ◌-◌, ℕ, Bool, true, false, not, ◌==◌, ◌&&◌, ◌||◌, nat_lt, nat_le, List, [], ◌∷◌, length, get_or, Option, Some, None, Result, Ok, Err, is_some, if◌then◌else◌}
use Rattle.std.specs.List.{list_any}
use Rattle.std.specs.Borrow.{Bor}
use Rattle.mk_spelling.specs.declared.fault.TextFault.{TextFault}
use Rattle.mk_spelling.specs.declared.fault.TextFault.TheVariants as faults
use Rattle.mk_spelling.specs.Words.{words, cut, is_name, is_number, value, number, is_printable, is_empty, none_left}
use Rattle.mk_spelling.specs.Fields.{◌>>=◌, ◌>>◌, need, found, named, place, one_on, one_of, two_of}
use Rattle.mk_spelling.specs.Lines.{Refusal, read_text}
use Rattle.mk_txn.specs.declared.TxnId.{TxnId}
use Rattle.mk_txn.specs.declared.WriteItem.{WriteItem}
use Rattle.mk_words.specs.declared.GlobalLine.{GlobalLine}
use Rattle.mk_words.specs.declared.GlobalLine.TheVariants as globals
use Rattle.mk_words.specs.declared.GlobalAnswer.{GlobalAnswer}
use Rattle.mk_words.specs.declared.GlobalAnswer.TheVariants.{Ok as Done}
use Rattle.mk_words.specs.declared.Step.{Step}
use Rattle.mk_words.specs.declared.Step.TheVariants as steps
use Rattle.mk_history.specs.declared.RoundLog.{RoundLog}
use Rattle.mk_kept.specs.declared.head.Head.{Head}
use Rattle.mk_trace_lines.specs.declared.words.Keyword.{Keyword}
use Rattle.mk_trace_lines.specs.declared.words.Keyword.TheVariants as keywords
use Rattle.mk_trace_lines.specs.declared.words.Replier.{Replier}
use Rattle.mk_trace_lines.specs.declared.words.Replier.TheVariants as repliers
use Rattle.mk_trace_lines.specs.LineWords.{keyword_text, keyword_list}
use Rattle.mk_trace_lines.specs.TraceLines.{TraceLine}
use Rattle.mk_trace_lines.specs.TraceLines.TraceLine.{Opens, Sizes, Declares, Names, Begins, Heads, Logged, Marks, Kept, Changes, Changed, Ends}
use Rattle.mk_trace_lines.specs.ActShapes.{first_of, act_shape, turn_of, value_of}
use Rattle.mk_trace_lines.specs.Replies.{reply_shape, reply_of}
use Rattle.mk_trace_text.specs.declared.section.Section.{Section}
use Rattle.mk_trace_text.specs.declared.section.Section.TheVariants as sections
use Rattle.mk_trace_text.specs.States.{State, nothing, after, closed, no_round}

-- ---- places

-- the version may come
abbrev pub at_start : Section → Bool
at_start sections.Start = true
at_start _ = false

-- the size may come
abbrev pub at_size : Section → Bool
at_size sections.Opened = true
at_size _ = false

-- clients may come
abbrev pub in_clients : Section → Bool
in_clients sections.Clients = true
in_clients _ = false

-- keys may come
abbrev pub in_keys : Section → Bool
in_keys sections.Clients = true
in_keys sections.Keys = true
in_keys _ = false

-- the heading of a log may come
abbrev pub before_column : Section → Bool
before_column sections.Round = true
before_column sections.Log = true
before_column _ = false

-- the heading of a journal, or of global lines, may come
abbrev pub before_cell : Section → Bool
before_cell sections.Round = true
before_cell sections.Log = true
before_cell sections.Journal = true
before_cell _ = false

-- the round may end
abbrev pub at_end : Section → Bool
at_end sections.Round = true
at_end sections.Log = true
at_end sections.Journal = true
at_end sections.Changes = true
at_end _ = false

-- the next round may begin
abbrev pub before_round : Section → Bool
before_round sections.Clients = true
before_round sections.Keys = true
before_round section = at_end section

-- steps may come
abbrev pub in_log : Section → Bool
in_log sections.Column = true
in_log sections.Log = true
in_log _ = false

-- entries of a journal may come
abbrev pub in_journal : Section → Bool
in_journal sections.Cell = true
in_journal sections.Journal = true
in_journal _ = false

-- global lines may come
abbrev pub in_changes : Section → Bool
in_changes sections.Globals = true
in_changes sections.Changes = true
in_changes _ = false

-- ---- fields

-- the word is the digits of this number
abbrev pub is_text_of : ℕ → List ℕ → Bool
is_text_of n word = is_number word && value word == n

-- the word is a number that is not above this one
abbrev pub is_up_to : ℕ → List ℕ → Bool
is_up_to n word = is_number word && nat_le (value word) n

-- the number below n that the word is, else Number or Large
abbrev pub below : ℕ → List ℕ → Result ℕ TextFault
below n word = do
  need (is_number word) faults.Number
  need (nat_lt (value word) n) faults.Large
  Ok (value word)

-- the place of a name that has a line; another word has none
abbrev pub named_place : List (List ℕ) → List ℕ → Option ℕ
named_place names word = if is_name word then place word names else None

-- the number of a declared client, which counts from 1
abbrev pub client_number : State → List ℕ → Option ℕ
client_number s name = one_on (place name s.head.client_names.names)

-- the attempt of a client's name and a seq: the number first, then the name, then the client
abbrev pub attempt_of : State → List ℕ × List ℕ → Result TxnId TextFault
attempt_of s p = do
  seq ← number 1 16384 p.1
  need (is_name p.0) faults.Name
  client ← found faults.Unknown (client_number s p.0)
  Ok (record { client = client; seq = seq })

-- the number of a key with a line
abbrev pub key_of : State → List ℕ → Result ℕ TextFault
key_of s name = do
  need (is_name name) faults.Name
  found faults.Unknown (place name s.head.key_names.names)

-- the seq that comes next in the lines of a client; without a line of its own it is 1
abbrev pub next_at : List ℕ → Option ℕ → ℕ
next_at begun None = 1
next_at begun (Some client) = get_or begun client 0 + 1

abbrev pub next_seq : State → List ℕ → ℕ
next_seq s name = next_at s.begun (named_place s.head.client_names.names name)

-- a replica below 2f + 1
abbrev pub replica_of : State → List ℕ → Result ℕ TextFault
replica_of s word = number 0 (2 * s.head.size) word

-- the heading of this column comes behind the last one
abbrev pub column_ascends : State → Section → List ℕ → Bool
column_ascends s sections.Log word = not (is_up_to s.column word)
column_ascends s _ word = true

-- the key of this place is not above that one; without a place it is not
abbrev pub key_up_to : ℕ → Option ℕ → Bool
key_up_to key None = false
key_up_to key (Some n) = nat_le n key

-- the heading of this replica and key does not come behind the last one
abbrev pub cell_up_to : State → List ℕ → List ℕ → Bool
cell_up_to s replica name =
    is_number replica && (nat_lt (value replica) s.replica || (value replica == s.replica && key_up_to s.key (named_place s.head.key_names.names name)))

abbrev pub cell_ascends : State → Section → List ℕ → List ℕ → Bool
cell_ascends s sections.Journal replica name = not (cell_up_to s replica name)
cell_ascends s _ replica name = true

-- ---- lines of the head

-- the versions
abbrev pub version_text : ℕ → List ℕ
version_text v = (48 + v) ∷ []

abbrev pub versions : List ℕ
versions = 1 ∷ 2 ∷ []

abbrev pub version_named : List ℕ → Option ℕ
version_named word = named version_text versions word

-- meerkat-trace VERSION
abbrev pub version_line : State → List (List ℕ) → Result TraceLine TextFault
version_line s ws = do
  word ← found faults.Form (one_of ws)
  need (at_start s.section) faults.Order
  v ← found faults.Unknown (version_named word)
  Ok (Opens v)

-- size F
abbrev pub size_line : State → List (List ℕ) → Result TraceLine TextFault
size_line s ws = do
  word ← found faults.Form (one_of ws)
  need (at_size s.section) faults.Order
  f ← number 1 3 word
  Ok (Sizes f)

-- client NAME COLUMN
abbrev pub client_line : State → List (List ℕ) → Result TraceLine TextFault
client_line s ws = do
  w ← found faults.Form (two_of ws)
  need (in_clients s.section) faults.Order
  need (is_name w.0) faults.Name
  c ← number 0 7 w.1
  need (nat_lt (length s.head.client_names.names) 64) faults.Many
  need (not (is_some (place w.0 s.head.client_names.names))) faults.Twice
  Ok (Declares w.0 c)

-- key NAME
abbrev pub name_line : State → List ℕ → Result TraceLine TextFault
name_line s word = do
  need (in_keys s.section) faults.Order
  need (is_name word) faults.Name
  need (nat_lt (length s.head.key_names.names) 256) faults.Many
  need (not (is_some (place word s.head.key_names.names))) faults.Twice
  Ok (Names word)

-- ---- headings

-- round N
abbrev pub round_line : State → List (List ℕ) → Result TraceLine TextFault
round_line s ws = do
  word ← found faults.Form (one_of ws)
  need (before_round s.section) faults.Order
  need (is_text_of (s.count + 1) word) faults.Order
  need (nat_lt s.count 16) faults.Many
  Ok (Begins (s.count + 1))

-- column C
abbrev pub column_line : State → List (List ℕ) → Result TraceLine TextFault
column_line s ws = do
  word ← found faults.Form (one_of ws)
  need (before_column s.section) faults.Order
  need (column_ascends s s.section word) faults.Order
  c ← below s.head.columns word
  Ok (Heads c)

-- cell R KEY
abbrev pub cell_line : State → List (List ℕ) → Result TraceLine TextFault
cell_line s ws = do
  w ← found faults.Form (two_of ws)
  need (before_cell s.section) faults.Order
  need (cell_ascends s s.section w.0 w.1) faults.Order
  replica ← replica_of s w.0
  key ← key_of s w.1
  Ok (Marks replica key)

-- global
abbrev pub global_line : State → List (List ℕ) → Result TraceLine TextFault
global_line s ws = do
  need (none_left ws) faults.Form
  need (before_cell s.section) faults.Order
  Ok Changes

-- end
abbrev pub end_line : State → List (List ℕ) → Result TraceLine TextFault
end_line s ws = do
  need (none_left ws) faults.Form
  need (at_end s.section) faults.Order
  Ok Ends

-- ---- steps

-- begin ID R
abbrev pub begin_line : State → List (List ℕ) → Result TraceLine TextFault
begin_line s ws = do
  w ← found faults.Form (two_of ws)
  p ← found faults.Form (cut 46 w.0)
  need (in_log s.section) faults.Order
  need (is_text_of (next_seq s p.0) p.1) faults.Order
  id ← attempt_of s p
  replica ← replica_of s w.1
  Ok (Logged id.seq (steps.Begin id.client replica))

-- unread ID
abbrev pub unread_line : State → List (List ℕ) → Result TraceLine TextFault
unread_line s ws = do
  word ← found faults.Form (one_of ws)
  p ← found faults.Form (cut 46 word)
  need (in_log s.section) faults.Order
  need (is_text_of (next_seq s p.0) p.1) faults.Order
  id ← attempt_of s p
  Ok (Logged id.seq (steps.Unread id.client))

-- read ID KEY
abbrev pub read_line : State → List (List ℕ) → Result TraceLine TextFault
read_line s ws = do
  w ← found faults.Form (two_of ws)
  p ← found faults.Form (cut 46 w.0)
  need (in_log s.section) faults.Order
  id ← attempt_of s p
  key ← key_of s w.1
  Ok (Logged 0 (steps.Read id key))

-- each word has an equals sign
abbrev pub are_writes : List (List ℕ) → Bool
are_writes [] = true
are_writes (w ∷ ws) = is_some (cut 61 w) && are_writes ws

-- KEY=VALUE: the value first, then the key
abbrev pub write_word : State → List ℕ → Result WriteItem TextFault
write_word s word = do
  p ← found faults.Form (cut 61 word)
  v ← value_of s.head.version p.1
  key ← key_of s p.0
  Ok (record { key = key; value = v })

-- writes from the left
abbrev pub writes_of : State → List (List ℕ) → Result (List WriteItem) TextFault
writes_of s [] = Ok []
writes_of s (w ∷ ws) = do
  item ← write_word s w
  more ← writes_of s ws
  Ok (item ∷ more)

-- stamp ID CLOCK KEY=VALUE ..
abbrev pub stamp_line : State → List (List ℕ) → Result TraceLine TextFault
stamp_line s ws = do
  w ← found faults.Form (first_of ws)
  p ← found faults.Form (cut 46 w.0)
  c ← found faults.Form (first_of w.1)
  need (are_writes c.1) faults.Form
  need (in_log s.section) faults.Order
  id ← attempt_of s p
  clock ← number 0 (2 ^ 61) c.0
  writes ← writes_of s c.1
  Ok (Logged 0 (steps.Stamp id clock writes))

-- the attempt of a line of an attempt alone
abbrev pub alone_of : State → List (List ℕ) → Result TxnId TextFault
alone_of s ws = do
  word ← found faults.Form (one_of ws)
  p ← found faults.Form (cut 46 word)
  need (in_log s.section) faults.Order
  attempt_of s p

-- a line of an attempt alone
abbrev pub alone_line : (TxnId → Step) → State → List (List ℕ) → Result TraceLine TextFault
alone_line make s ws = do
  id ← alone_of s ws
  Ok (Logged 0 (make id))

-- the attempt and the view of a line of both
abbrev pub viewed_of : State → List (List ℕ) → Result (TxnId × ℕ) TextFault
viewed_of s ws = do
  w ← found faults.Form (two_of ws)
  p ← found faults.Form (cut 46 w.0)
  need (in_log s.section) faults.Order
  id ← attempt_of s p
  view ← number 1 15 w.1
  Ok (id, view)

-- a line of an attempt and a view
abbrev pub view_line : (TxnId → ℕ → Step) → State → List (List ℕ) → Result TraceLine TextFault
view_line make s ws = do
  r ← viewed_of s ws
  Ok (Logged 0 (make r.0 r.1))

-- the steps of an attempt, and of one and a view
abbrev pub validate_step : TxnId → Step
validate_step id = steps.Validate id

abbrev pub rule_step : TxnId → Step
rule_step id = steps.Rule id

abbrev pub again_step : TxnId → Step
again_step id = steps.Again id

abbrev pub stop_step : TxnId → Step
stop_step id = steps.Stop id

abbrev pub takeover_step : TxnId → ℕ → Step
takeover_step id view = steps.Takeover id view

abbrev pub pick_step : TxnId → ℕ → Step
pick_step id view = steps.Pick id view

-- take NUMBER
abbrev pub take_line : State → List (List ℕ) → Result TraceLine TextFault
take_line s ws = do
  word ← found faults.Form (one_of ws)
  need (in_log s.section) faults.Order
  n ← number 1 (2 ^ 64 - 1) word
  Ok (Logged 0 (steps.Take n))

-- key R KEY ACT
abbrev pub turn_line : State → List ℕ → List (List ℕ) → Result TraceLine TextFault
turn_line s first ws = do
  w ← found faults.Form (first_of ws)
  shape ← act_shape w.1
  need (in_log s.section) faults.Order
  replica ← replica_of s first
  key ← key_of s w.0
  turn ← turn_of s.head.version shape
  Ok (Logged 0 (steps.Key (record { replica = replica; key = key; act = turn.0 }) turn.1))

-- a key's name in the head, or a step of a log
abbrev pub key_line : State → List (List ℕ) → Result TraceLine TextFault
key_line s ws = do
  w ← found faults.Form (first_of ws)
  if none_left w.1 then name_line s w.0 else turn_line s w.0 w.1

-- C ACT
abbrev pub entry_line : State → List ℕ → List (List ℕ) → Result TraceLine TextFault
entry_line s first ws = do
  shape ← act_shape ws
  need (in_journal s.section) faults.Order
  c ← below s.head.columns first
  turn ← turn_of s.head.version shape
  Ok (Kept (record { seat = c; act = turn.0; answer = turn.1 }))

-- ---- global lines

-- a global line that is read, and whether there may be one more
abbrev pub changed : State → GlobalLine → GlobalAnswer → Result TraceLine TextFault
changed s line answer = do
  need (nat_lt s.changes 256) faults.Many
  Ok (Changed (record { line = line; answer = answer }))

-- wipe R
abbrev pub wipe_line : State → List (List ℕ) → Result TraceLine TextFault
wipe_line s ws = do
  word ← found faults.Form (one_of ws)
  need (in_changes s.section) faults.Order
  replica ← replica_of s word
  changed s (globals.Wipe replica) Done

-- ask E
abbrev pub ask_line : State → List (List ℕ) → Result TraceLine TextFault
ask_line s ws = do
  word ← found faults.Form (one_of ws)
  need (in_changes s.section) faults.Order
  epoch ← number 1 1000 word
  changed s (globals.Ask epoch) Done

-- the epoch and the answer of a line of both
abbrev pub epoch_of : Replier → State → List (List ℕ) → Result (ℕ × GlobalAnswer) TextFault
epoch_of replier s ws = do
  w ← found faults.Form (first_of ws)
  shape ← reply_shape replier w.1
  need (in_changes s.section) faults.Order
  epoch ← number 1 1000 w.0
  answer ← reply_of shape
  Ok (epoch, answer)

-- the epoch, the replica and the answer of a line of the three
abbrev pub member_of : Replier → State → List (List ℕ) → Result (ℕ × ℕ × GlobalAnswer) TextFault
member_of replier s ws = do
  w ← found faults.Form (first_of ws)
  r ← found faults.Form (first_of w.1)
  shape ← reply_shape replier r.1
  need (in_changes s.section) faults.Order
  epoch ← number 1 1000 w.0
  replica ← replica_of s r.0
  answer ← reply_of shape
  Ok (epoch, replica, answer)

-- promise E R and the answer
abbrev pub promise_line : State → List (List ℕ) → Result TraceLine TextFault
promise_line s ws = do
  m ← member_of repliers.Promise s ws
  changed s (globals.Promise m.0 m.1) m.2

-- merge E and the answer
abbrev pub merge_line : State → List (List ℕ) → Result TraceLine TextFault
merge_line s ws = do
  m ← epoch_of repliers.Merge s ws
  changed s (globals.Merge m.0) m.1

-- adopt E R and the answer
abbrev pub adopt_line : State → List (List ℕ) → Result TraceLine TextFault
adopt_line s ws = do
  m ← member_of repliers.Adopt s ws
  changed s (globals.Adopt m.0 m.1) m.2

-- enter E and the answer
abbrev pub enter_line : State → List (List ℕ) → Result TraceLine TextFault
enter_line s ws = do
  m ← epoch_of repliers.Enter s ws
  changed s (globals.Enter m.0) m.1

-- ---- any line

-- the line of this first word and the words behind it
abbrev pub by_keyword : State → Keyword → List (List ℕ) → Result TraceLine TextFault
by_keyword s keywords.Opening ws = version_line s ws
by_keyword s keywords.Size ws = size_line s ws
by_keyword s keywords.Client ws = client_line s ws
by_keyword s keywords.Key ws = key_line s ws
by_keyword s keywords.Round ws = round_line s ws
by_keyword s keywords.Column ws = column_line s ws
by_keyword s keywords.Cell ws = cell_line s ws
by_keyword s keywords.Globals ws = global_line s ws
by_keyword s keywords.End ws = end_line s ws
by_keyword s keywords.Begin ws = begin_line s ws
by_keyword s keywords.Unread ws = unread_line s ws
by_keyword s keywords.Read ws = read_line s ws
by_keyword s keywords.Stamp ws = stamp_line s ws
by_keyword s keywords.Validate ws = alone_line validate_step s ws
by_keyword s keywords.Take ws = take_line s ws
by_keyword s keywords.Rule ws = alone_line rule_step s ws
by_keyword s keywords.Again ws = alone_line again_step s ws
by_keyword s keywords.Stop ws = alone_line stop_step s ws
by_keyword s keywords.Takeover ws = view_line takeover_step s ws
by_keyword s keywords.Pick ws = view_line pick_step s ws
by_keyword s keywords.Wipe ws = wipe_line s ws
by_keyword s keywords.Ask ws = ask_line s ws
by_keyword s keywords.Promise ws = promise_line s ws
by_keyword s keywords.Merge ws = merge_line s ws
by_keyword s keywords.Adopt ws = adopt_line s ws
by_keyword s keywords.Enter ws = enter_line s ws

-- the word begins with a digit
abbrev pub begins_with_digit : List ℕ → Bool
begins_with_digit [] = false
begins_with_digit (b ∷ bs) = nat_le 48 b && nat_le b 57

-- a line of these words: a journal's line, or a line with a first word of its own
abbrev pub by_words : State → List ℕ → List (List ℕ) → Result TraceLine TextFault
by_words s first ws =
    if begins_with_digit first then entry_line s first ws
    else (found faults.Form (named keyword_text keyword_list first) >>= λ keyword. by_keyword s keyword ws)

-- the line that these bytes are, or its first fault
abbrev pub line_of : State → List ℕ → Result TraceLine TextFault
line_of s bytes = do
  need (is_printable bytes) faults.Byte
  need (not (list_any is_empty (words bytes))) faults.Form
  w ← found faults.Form (first_of (words bytes))
  by_words s w.0 w.1

-- the round that went on is taken
abbrev pub without_round : State → State
without_round s = record s { round = no_round }

-- the round that went on is closed
abbrev pub closed_state : State → State
closed_state s = record s { round = no_round; rounds = closed s }

-- what was read with a line
abbrev pub taken : State → Result TraceLine TextFault → Result State TextFault
taken s (Ok line) = Ok (after s line)
taken s (Err fault) = Err fault

-- what was read with these bytes, or their first fault
abbrev pub line_result : State → List ℕ → Result State TextFault
line_result s bytes = taken s (line_of s bytes)

-- the text may end behind the line `end`
abbrev pub ended : Section → Bool
ended sections.Ended = true
ended _ = false

abbrev pub end_result : State → Result State TextFault
end_result s = do
  need (ended s.section) faults.Order
  Ok s

-- what was read of a text, or its first faulty line, counted from 1, and that line's first fault
abbrev pub state_text : List ℕ → Result State Refusal
state_text bytes = read_text line_result end_result nothing bytes

-- the head, once a round has begun
abbrev pub head_of : State → Option Head
head_of s = if s.count == 0 then None else Some s.head

-- a borrowed head
abbrev pub seen_head : Option (Bor Head) → Option Head
seen_head None = None
seen_head (Some head) = Some head.now

-- the first round that was not handed out is handed out, where there is one
abbrev pub IsTaken : State → Option RoundLog → State → Type 0
IsTaken old None new = (old.rounds ≡ []) × (new ≡ old)
IsTaken old (Some round) new = old ≡ record new { rounds = round ∷ new.rounds }
