-- What a line says, or its first fault, in the order of the tests.
use Rattle.std.specs.Prelude.{◌+◌, ◌*◌, ◌^◌, ℕ, Bool, true, false, not, ◌==◌, nat_lt, nat_le, List, [], ◌∷◌, length, Result, Ok, Err, is_some, if◌then◌else◌}
use Rattle.std.specs.List.{list_any}
use Rattle.mk_spelling.specs.declared.fault.TextFault.{TextFault}
use Rattle.mk_spelling.specs.declared.fault.TextFault.TheVariants as faults
use Rattle.mk_spelling.specs.Words.{words, cut, is_name, number, is_printable, is_empty, none_left}
use Rattle.mk_spelling.specs.Fields.{◌>>=◌, ◌>>◌, need, found, named, place, one_of, two_of, three_of, five_of, two_and_more}
use Rattle.mk_txn.specs.declared.TxnId.{TxnId}
use Rattle.mk_words.specs.declared.GlobalLine.{GlobalLine}
use Rattle.mk_words.specs.declared.GlobalLine.TheVariants as globals
use Rattle.mk_script.specs.declared.words.Section.{Section}
use Rattle.mk_script.specs.declared.words.Section.TheVariants as sections
use Rattle.mk_script.specs.declared.words.Keyword.{Keyword}
use Rattle.mk_script.specs.declared.words.Keyword.TheVariants as keywords
use Rattle.mk_script.specs.LineWords.{version_text, versions, kind_list, fate_list, point_list, keyword_list, kind_text, fate_text, point_text, keyword_text}
use Rattle.mk_script.specs.ItemShapes.{are_items, mentions_of}
use Rattle.mk_script.specs.Scripts.{State, names_of, client_number, txn_count, takeover_count, global_count, total}
use Rattle.mk_script.specs.Grammar.{keys_after, same_message, same_attempt, after}
use Rattle.mk_script.specs.Grammar.Line.{Opens, Sizes, Declares, Retries, Injects, Halts, Tries, TakesOver, Changes, NextRound}

-- ---- places

-- the version may come
abbrev pub at_start : Section → Bool
at_start sections.Start = true
at_start _ = false

-- the size may come
abbrev pub at_size : Section → Bool
at_size sections.Opened = true
at_size _ = false

-- lines of the prelude may come
abbrev pub in_prelude : Section → Bool
in_prelude sections.Prelude = true
in_prelude _ = false

-- transactions and takeovers may come
abbrev pub in_rounds : Section → Bool
in_rounds sections.Prelude = true
in_rounds sections.Round = true
in_rounds _ = false

-- global lines and the next round may come
abbrev pub behind_prelude : Section → Bool
behind_prelude sections.Prelude = true
behind_prelude sections.Round = true
behind_prelude sections.Globals = true
behind_prelude _ = false

-- ---- fields

-- the attempt of a client's name and a seq: each number first, then the name, then the client
abbrev pub attempt_of : State → List ℕ × List ℕ → Result TxnId TextFault
attempt_of s p = do
  seq ← number 1 16384 p.1
  need (is_name p.0) faults.Name
  client ← found faults.Unknown (client_number s p.0)
  Ok (record { client = client; seq = seq })

-- ---- lines

-- meerkat VERSION
abbrev pub version_result : State → List (List ℕ) → Result State TextFault
version_result s ws = do
  word ← found faults.Form (one_of ws)
  need (at_start s.section) faults.Order
  v ← found faults.Unknown (named version_text versions word)
  Ok (after s (Opens v))

-- size F
abbrev pub size_result : State → List (List ℕ) → Result State TextFault
size_result s ws = do
  word ← found faults.Form (one_of ws)
  need (at_size s.section) faults.Order
  f ← number 1 3 word
  Ok (after s (Sizes f))

-- client NAME COLUMN HOME
abbrev pub client_result : State → List (List ℕ) → Result State TextFault
client_result s ws = do
  w ← found faults.Form (three_of ws)
  need (in_prelude s.section) faults.Order
  need (is_name w.0) faults.Name
  c ← number 0 7 w.1
  h ← number 0 (2 * s.size) w.2
  need (nat_lt (length s.clients) 64) faults.Many
  need (not (is_some (place w.0 (names_of s.clients)))) faults.Twice
  Ok (after s (Declares w.0 c h))

-- retry N
abbrev pub retry_result : State → List (List ℕ) → Result State TextFault
retry_result s ws = do
  word ← found faults.Form (one_of ws)
  need (in_prelude s.section) faults.Order
  n ← number 0 3 word
  need (not (is_some s.retry)) faults.Twice
  Ok (after s (Retries n))

-- fault KIND ID R NTH FATE
abbrev pub fault_result : State → List (List ℕ) → Result State TextFault
fault_result s ws = do
  w ← found faults.Form (five_of ws)
  p ← found faults.Form (cut 46 w.1)
  need (in_prelude s.section) faults.Order
  kind ← found faults.Unknown (named kind_text kind_list w.0)
  id ← attempt_of s p
  replica ← number 0 (2 * s.size) w.2
  nth ← number 1 255 w.3
  fate ← found faults.Unknown (named fate_text fate_list w.4)
  need (nat_lt (length s.faults + length s.stops) 1024) faults.Many
  need (not (list_any (same_message (record { kind = kind; id = id; replica = replica; nth = nth; fate = fate })) s.faults)) faults.Twice
  Ok (after s (Injects p.0 (record { kind = kind; id = id; replica = replica; nth = nth; fate = fate })))

-- stop ID POINT
abbrev pub stop_result : State → List (List ℕ) → Result State TextFault
stop_result s ws = do
  w ← found faults.Form (two_of ws)
  p ← found faults.Form (cut 46 w.0)
  need (in_prelude s.section) faults.Order
  id ← attempt_of s p
  point ← found faults.Unknown (named point_text point_list w.1)
  need (nat_lt (length s.faults + length s.stops) 1024) faults.Many
  need (not (list_any (same_attempt (record { id = id; point = point })) s.stops)) faults.Twice
  Ok (after s (Halts p.0 (record { id = id; point = point })))

-- txn NAME CLOCK ITEM ..
abbrev pub txn_result : State → List (List ℕ) → Result State TextFault
txn_result s ws = do
  w ← found faults.Form (two_and_more ws)
  need (are_items s.version w.2) faults.Form
  need (in_rounds s.section) faults.Order
  need (is_name w.0) faults.Name
  client ← found faults.Unknown (client_number s w.0)
  t ← number 0 (2 ^ 61) w.1
  mentions ← mentions_of w.2
  need (nat_le (length mentions) 16) faults.Many
  need (nat_le (length (keys_after s.keys mentions)) 256) faults.Many
  need (nat_lt (total txn_count s) 4096) faults.Many
  Ok (after s (Tries w.0 client t mentions))

-- takeover ID V
abbrev pub takeover_result : State → List (List ℕ) → Result State TextFault
takeover_result s ws = do
  w ← found faults.Form (two_of ws)
  p ← found faults.Form (cut 46 w.0)
  need (in_rounds s.section) faults.Order
  id ← attempt_of s p
  view ← number 1 15 w.1
  need (nat_lt (total takeover_count s) 1024) faults.Many
  Ok (after s (TakesOver p.0 id view))

-- a global line that is read, and whether there may be one more
abbrev pub global_result : State → GlobalLine → Result State TextFault
global_result s line = do
  need (nat_lt (total global_count s) 256) faults.Many
  Ok (after s (Changes line))

-- wipe R
abbrev pub wipe_result : State → List (List ℕ) → Result State TextFault
wipe_result s ws = do
  word ← found faults.Form (one_of ws)
  need (behind_prelude s.section) faults.Order
  replica ← number 0 (2 * s.size) word
  global_result s (globals.Wipe replica)

-- the lines of an epoch alone
abbrev pub epoch_result : (ℕ → GlobalLine) → State → List (List ℕ) → Result State TextFault
epoch_result make s ws = do
  word ← found faults.Form (one_of ws)
  need (behind_prelude s.section) faults.Order
  epoch ← number 1 1000 word
  global_result s (make epoch)

-- the lines of an epoch and a replica
abbrev pub member_result : (ℕ → ℕ → GlobalLine) → State → List (List ℕ) → Result State TextFault
member_result make s ws = do
  w ← found faults.Form (two_of ws)
  need (behind_prelude s.section) faults.Order
  epoch ← number 1 1000 w.0
  replica ← number 0 (2 * s.size) w.1
  global_result s (make epoch replica)

-- the global lines of their fields
abbrev pub ask_line : ℕ → GlobalLine
ask_line epoch = globals.Ask epoch

abbrev pub promise_line : ℕ → ℕ → GlobalLine
promise_line epoch replica = globals.Promise epoch replica

abbrev pub merge_line : ℕ → GlobalLine
merge_line epoch = globals.Merge epoch

abbrev pub adopt_line : ℕ → ℕ → GlobalLine
adopt_line epoch replica = globals.Adopt epoch replica

abbrev pub enter_line : ℕ → GlobalLine
enter_line epoch = globals.Enter epoch

-- round
abbrev pub round_result : State → List (List ℕ) → Result State TextFault
round_result s ws = do
  need (none_left ws) faults.Form
  need (behind_prelude s.section) faults.Order
  need (nat_lt (length s.rounds) 15) faults.Many
  Ok (after s NextRound)

-- what a line says, by its first word and the words behind it
abbrev pub by_keyword : State → Keyword → List (List ℕ) → Result State TextFault
by_keyword s keywords.Meerkat ws = version_result s ws
by_keyword s keywords.Size ws = size_result s ws
by_keyword s keywords.Client ws = client_result s ws
by_keyword s keywords.Retry ws = retry_result s ws
by_keyword s keywords.Fault ws = fault_result s ws
by_keyword s keywords.Stop ws = stop_result s ws
by_keyword s keywords.Txn ws = txn_result s ws
by_keyword s keywords.Takeover ws = takeover_result s ws
by_keyword s keywords.Wipe ws = wipe_result s ws
by_keyword s keywords.Ask ws = epoch_result ask_line s ws
by_keyword s keywords.Promise ws = member_result promise_line s ws
by_keyword s keywords.Merge ws = epoch_result merge_line s ws
by_keyword s keywords.Adopt ws = member_result adopt_line s ws
by_keyword s keywords.Enter ws = epoch_result enter_line s ws
by_keyword s keywords.Round ws = round_result s ws

-- what a line of these words says
abbrev pub by_words : State → List (List ℕ) → Result State TextFault
by_words s [] = Err faults.Form
by_words s (first ∷ ws) = do
  keyword ← found faults.Form (named keyword_text keyword_list first)
  by_keyword s keyword ws

-- a line without bytes, or one that begins with #
abbrev pub is_passed_over : List ℕ → Bool
is_passed_over [] = true
is_passed_over (b ∷ bs) = b == 35

-- what a line says that is not passed over
abbrev pub counted_result : State → List (List ℕ) → Result State TextFault
counted_result s ws = do
  need (not (list_any is_empty ws)) faults.Form
  by_words s ws

-- what was read with this line, or the line's first fault
abbrev pub line_result : State → List ℕ → Result State TextFault
line_result s bytes = do
  need (is_printable bytes) faults.Byte
  if is_passed_over bytes then Ok s else counted_result s (words bytes)

-- the text may end behind the size
abbrev pub end_result : State → Result State TextFault
end_result s = do
  need (behind_prelude s.section) faults.Order
  Ok s
