-- What a script says, and what its lines so far said.
use Rattle.std.specs.Prelude.{ℕ, ◌+◌, List, [], ◌∷◌, ◌++◌, length, map, Option, Some, None, sum_by}
use Rattle.mk_spelling.specs.Fields.{place, one_on}
use Rattle.mk_script.specs.declared.words.Section.{Section}
use Rattle.mk_script.specs.declared.words.Section.TheVariants as sections
use Rattle.mk_script.specs.declared.lines.ClientLine.{ClientLine}
use Rattle.mk_script.specs.declared.lines.FaultLine.{FaultLine}
use Rattle.mk_script.specs.declared.lines.StopLine.{StopLine}
use Rattle.mk_script.specs.declared.lines.Round.{Round}

-- what a script says
pub record ScriptParts : Type 0 where
  pub version : ℕ
  pub size : ℕ
  pub clients : List ClientLine
  pub keys : List (List ℕ)
  pub retry : ℕ
  pub faults : List FaultLine
  pub stops : List StopLine
  pub rounds : List Round

-- a round without lines
abbrev pub no_lines : Round
no_lines = record { txns = []; takeovers = []; globals = [] }

-- what the lines so far said: rounds that ended, and the round that goes on
pub record State : Type 0 where
  pub section : Section
  pub version : ℕ
  pub size : ℕ
  pub clients : List ClientLine
  pub keys : List (List ℕ)
  pub retry : Option ℕ
  pub faults : List FaultLine
  pub stops : List StopLine
  pub rounds : List Round
  pub round : Round

-- no line was read
abbrev pub nothing : State
nothing =
    record { section = sections.Start; version = 0; size = 0; clients = []; keys = []; retry = None; faults = []; stops = []; rounds = []; round = no_lines }

-- no number counts as 0
abbrev pub or_zero : Option ℕ → ℕ
or_zero None = 0
or_zero (Some n) = n

-- the script, where its last round ends here
abbrev pub script_of : State → ScriptParts
script_of s =
    record { version = s.version; size = s.size; clients = s.clients; keys = s.keys; retry = or_zero s.retry; faults = s.faults; stops = s.stops; rounds = s.rounds ++ s.round ∷ [] }

-- the name that a client line declares
abbrev pub name_of : ClientLine → List ℕ
name_of client = client.name

-- the names of the clients, in order of declaration
abbrev pub names_of : List ClientLine → List (List ℕ)
names_of clients = map name_of clients

-- clients are numbered from 1 in order of declaration
abbrev pub client_number : State → List ℕ → Option ℕ
client_number s name = one_on (place name (names_of s.clients))

-- how many transactions a round has
abbrev pub txn_count : Round → ℕ
txn_count round = length round.txns

-- how many takeovers a round has
abbrev pub takeover_count : Round → ℕ
takeover_count round = length round.takeovers

-- how many global lines a round has
abbrev pub global_count : Round → ℕ
global_count round = length round.globals

-- how many lines of a kind were read
abbrev pub total : (Round → ℕ) → State → ℕ
total count s = sum_by count s.rounds + count s.round
