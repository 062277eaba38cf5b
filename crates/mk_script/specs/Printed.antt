-- The text of a script.
use Rattle.std.specs.Prelude.{ℕ, ◌-◌, ◌==◌, List, [], ◌∷◌, ◌++◌, map, slice_get, unwrap_or, codes, if◌then◌else◌}
use Rattle.std.specs.Fmt.{decimal}
use Rattle.std.specs.List.{flat_map}
use Rattle.mk_proc.specs.declared.Item.{Item}
use Rattle.mk_proc.specs.declared.Item.TheVariants as items
use Rattle.mk_words.specs.declared.GlobalLine.{GlobalLine}
use Rattle.mk_script.specs.declared.lines.ClientLine.{ClientLine}
use Rattle.mk_script.specs.declared.lines.FaultLine.{FaultLine}
use Rattle.mk_script.specs.declared.lines.StopLine.{StopLine}
use Rattle.mk_script.specs.declared.lines.TxnLine.{TxnLine}
use Rattle.mk_script.specs.declared.lines.TakeoverLine.{TakeoverLine}
use Rattle.mk_script.specs.declared.lines.Round.{Round}
use Rattle.mk_script.specs.Scripts.{ScriptParts, names_of}
use Rattle.mk_script.specs.Grammar.{Mention, Line, mention_text, spelling}
use Rattle.mk_script.specs.Grammar.Mention.{Reads, Writes, Computes, Deletes}
use Rattle.mk_script.specs.Grammar.Line.{Opens, Sizes, Declares, Retries, Injects, Halts, Tries, TakesOver, Changes, NextRound}
use Rattle.mk_script.specs.Texts.{ended}

-- the name of the client of this number, which counts from 1
abbrev pub client_name : List ClientLine → ℕ → List ℕ
client_name clients number = unwrap_or (slice_get (names_of clients) (number - 1)) []

-- the name of the key of this number, which counts from 0
abbrev pub key_name : List (List ℕ) → ℕ → List ℕ
key_name keys number = unwrap_or (slice_get keys number) []

-- an item with its key's name
abbrev pub mention_in : List (List ℕ) → Item → Mention
mention_in keys (items.Read key) = Reads (key_name keys key)
mention_in keys (items.Write key value) = Writes (key_name keys key) value
mention_in keys (items.Compute key kind arg) = Computes (key_name keys key) kind arg
mention_in keys (items.Delete key) = Deletes (key_name keys key)

-- a space and the item
abbrev pub item_text : List (List ℕ) → Item → List ℕ
item_text keys item = 32 ∷ mention_text (mention_in keys item)

-- a transaction's line up to its items
abbrev pub txn_head : List ℕ → ℕ → List ℕ
txn_head name clock = codes "txn " ++ (name ++ 32 ∷ decimal clock)

-- the line of a client
abbrev pub client_line : ClientLine → Line
client_line client = Declares client.name client.column client.home

-- no line stands for 0
abbrev pub retry_lines : ℕ → List Line
retry_lines retry = if retry == 0 then [] else Retries retry ∷ []

-- the line of a fault
abbrev pub fault_line : List ClientLine → FaultLine → Line
fault_line clients fault = Injects (client_name clients fault.id.client) fault

-- the line of a stop
abbrev pub stop_line : List ClientLine → StopLine → Line
stop_line clients stop = Halts (client_name clients stop.id.client) stop

-- the line of a transaction
abbrev pub txn_line : List ClientLine → List (List ℕ) → TxnLine → Line
txn_line clients keys txn = Tries (client_name clients txn.client) txn.client txn.clock (map (mention_in keys) txn.items)

-- the line of a takeover
abbrev pub takeover_line : List ClientLine → TakeoverLine → Line
takeover_line clients takeover = TakesOver (client_name clients takeover.id.client) takeover.id takeover.view

-- a global line
abbrev pub global_line : GlobalLine → Line
global_line line = Changes line

-- the lines of a round, each kind in its order
abbrev pub round_lines : List ClientLine → List (List ℕ) → Round → List Line
round_lines clients keys round = map (txn_line clients keys) round.txns ++ (map (takeover_line clients) round.takeovers ++ map global_line round.globals)

-- a round behind the first one
abbrev pub next_lines : List ClientLine → List (List ℕ) → Round → List Line
next_lines clients keys round = NextRound ∷ round_lines clients keys round

-- all rounds: the first one, and each next one with its line `round`
abbrev pub rounds_lines : List ClientLine → List (List ℕ) → List Round → List Line
rounds_lines clients keys [] = []
rounds_lines clients keys (round ∷ rounds) = round_lines clients keys round ++ flat_map (next_lines clients keys) rounds

-- the lines of a script: the two first, the clients, the retries, the faults, the stops and the rounds
abbrev pub lines_of : ScriptParts → List Line
lines_of s =
    Opens s.version ∷ Sizes s.size ∷ (map client_line s.clients ++ (retry_lines s.retry ++ (map (fault_line s.clients) s.faults ++ (map (stop_line s.clients) s.stops ++ rounds_lines s.clients s.keys s.rounds))))

-- the text of a line
abbrev pub line_text : Line → List ℕ
line_text line = ended (spelling line)

-- the text of lines, one behind the other
abbrev pub text_of : List Line → List ℕ
text_of lines = flat_map line_text lines

-- the text of a script
abbrev pub print_text : ScriptParts → List ℕ
print_text s = text_of (lines_of s)
