-- The grammar of scripts: what each line is, how it is written, where it may stand, and what it says.
use Rattle.std.specs.Prelude.{◌≡◌, ◌≢◌, ◌⊎◌, ◌≤◌, ◌<◌, ◌+◌, ◌*◌, ◌^◌, ℕ, Bool, true, false, List, [], ◌∷◌, ◌++◌, length, map, Some, None, codes, ◌&&◌, ◌==◌}
use Rattle.std.specs.List.{join_with_byte, list_any, AllByRecursion}
use Rattle.std.specs.Fmt.{decimal}
use Rattle.mk_spelling.specs.Words.{is_name, is_printable}
use Rattle.mk_spelling.specs.Fields.{place}
use Rattle.mk_names.specs.NameLists.{with_name}
use Rattle.mk_txn.specs.declared.TxnId.{TxnId}
use Rattle.mk_txn.specs.Transactions.{same_id}
use Rattle.mk_words.specs.Links.{same_kind}
use Rattle.mk_proc.specs.declared.ProcKind.{ProcKind}
use Rattle.mk_proc.specs.declared.Item.{Item}
use Rattle.mk_proc.specs.declared.Item.TheVariants as items
use Rattle.mk_words.specs.declared.GlobalLine.{GlobalLine}
use Rattle.mk_words.specs.declared.GlobalLine.TheVariants as globals
use Rattle.mk_script.specs.declared.words.Section.{Section}
use Rattle.mk_script.specs.declared.words.Section.TheVariants as sections
use Rattle.mk_script.specs.declared.words.Keyword.TheVariants as keywords
use Rattle.mk_script.specs.declared.lines.Fate.TheVariants as fates
use Rattle.mk_script.specs.declared.lines.FaultLine.{FaultLine}
use Rattle.mk_script.specs.declared.lines.StopLine.{StopLine}
use Rattle.mk_script.specs.declared.lines.TxnLine.{TxnLine}
use Rattle.mk_script.specs.LineWords.{kind_text, fate_text, point_text, proc_text, keyword_text}
use Rattle.mk_script.specs.Scripts.{State, no_lines, or_zero, names_of, client_number, txn_count, takeover_count, global_count, total}

-- an item with its key's name
pub data Mention : Type 0 where
  Reads : List ℕ → Mention
  Writes : List ℕ → ℕ → Mention
  Computes : List ℕ → ProcKind → ℕ → Mention
  Deletes : List ℕ → Mention

-- a line with the names that it mentions; an attempt has its client's name and its id
pub data Line : Type 0 where
  Opens : ℕ → Line
  Sizes : ℕ → Line
  Declares : List ℕ → ℕ → ℕ → Line
  Retries : ℕ → Line
  Injects : List ℕ → FaultLine → Line
  Halts : List ℕ → StopLine → Line
  Tries : List ℕ → ℕ → ℕ → List Mention → Line
  TakesOver : List ℕ → TxnId → ℕ → Line
  Changes : GlobalLine → Line
  NextRound : Line

-- ---- how it is written

-- a client's name, a dot and a seq
abbrev pub id_text : List ℕ → ℕ → List ℕ
id_text name seq = name ++ 46 ∷ decimal seq

-- r:KEY, w:KEY=NUMBER, c:KEY=PROC(NUMBER) or d:KEY
abbrev pub mention_text : Mention → List ℕ
mention_text (Reads key) = codes "r:" ++ key
mention_text (Writes key n) = codes "w:" ++ (key ++ 61 ∷ decimal n)
mention_text (Computes key proc n) = codes "c:" ++ (key ++ 61 ∷ (proc_text proc ++ 40 ∷ (decimal n ++ 41 ∷ [])))
mention_text (Deletes key) = codes "d:" ++ key

-- a global line: its first word, and its epoch, replica or both
abbrev pub global_words : GlobalLine → List (List ℕ)
global_words (globals.Wipe replica) = keyword_text keywords.Wipe ∷ decimal replica ∷ []
global_words (globals.Ask epoch) = keyword_text keywords.Ask ∷ decimal epoch ∷ []
global_words (globals.Promise epoch replica) = keyword_text keywords.Promise ∷ decimal epoch ∷ decimal replica ∷ []
global_words (globals.Merge epoch) = keyword_text keywords.Merge ∷ decimal epoch ∷ []
global_words (globals.Adopt epoch replica) = keyword_text keywords.Adopt ∷ decimal epoch ∷ decimal replica ∷ []
global_words (globals.Enter epoch) = keyword_text keywords.Enter ∷ decimal epoch ∷ []

-- the words of a line
abbrev pub line_words : Line → List (List ℕ)
line_words (Opens version) = keyword_text keywords.Meerkat ∷ decimal version ∷ []
line_words (Sizes f) = keyword_text keywords.Size ∷ decimal f ∷ []
line_words (Declares name column home) = keyword_text keywords.Client ∷ name ∷ decimal column ∷ decimal home ∷ []
line_words (Retries n) = keyword_text keywords.Retry ∷ decimal n ∷ []
line_words (Injects name fault) =
    keyword_text keywords.Fault ∷ kind_text fault.kind ∷ id_text name fault.id.seq ∷ decimal fault.replica ∷ decimal fault.nth ∷ fate_text fault.fate ∷ []
line_words (Halts name stop) = keyword_text keywords.Stop ∷ id_text name stop.id.seq ∷ point_text stop.point ∷ []
line_words (Tries name client clock mentions) = keyword_text keywords.Txn ∷ name ∷ decimal clock ∷ map mention_text mentions
line_words (TakesOver name id view) = keyword_text keywords.Takeover ∷ id_text name id.seq ∷ decimal view ∷ []
line_words (Changes line) = global_words line
line_words NextRound = keyword_text keywords.Round ∷ []

-- words with single spaces between them
abbrev pub spelling : Line → List ℕ
spelling line = join_with_byte 32 (line_words line)

-- ---- where it may stand

-- the key's name
abbrev pub key_of : Mention → List ℕ
key_of (Reads key) = key
key_of (Writes key n) = key
key_of (Computes key proc n) = key
key_of (Deletes key) = key

-- values are below 2^64; only version 2 deletes
abbrev pub FitsVersion : ℕ → Mention → Type 0
FitsVersion version (Reads key) = Unit {0}
FitsVersion version (Writes key n) = n < 2 ^ 64
FitsVersion version (Computes key proc n) = n < 2 ^ 64
FitsVersion version (Deletes key) = version ≡ 2

-- an item that may stand in a script of this version
pub record IsMention (version : ℕ) (m : Mention) : Type 0 where
  pub well_named : is_name (key_of m) ≡ true
  pub fits : FitsVersion version m

-- keys are numbered from 0 in order of first mention
abbrev pub keys_after : List (List ℕ) → List Mention → List (List ℕ)
keys_after keys [] = keys
keys_after keys (m ∷ ms) = keys_after (with_name keys (key_of m)) ms

-- the lines of a round may begin or go on
abbrev pub IsInRounds : Section → Type 0
IsInRounds section = (section ≡ sections.Prelude) ⊎ (section ≡ sections.Round)

-- the global lines of a round may begin or go on, or the next round may begin
abbrev pub IsBehindPrelude : Section → Type 0
IsBehindPrelude section = IsInRounds section ⊎ (section ≡ sections.Globals)

-- an attempt of a client that is declared above
pub record IsAttempt (s : State) (name : List ℕ) (id : TxnId) : Type 0 where
  pub low : 1 ≤ id.seq
  pub high : id.seq ≤ 16384
  pub well_named : is_name name ≡ true
  pub declared : client_number s name ≡ Some id.client

-- both fault lines speak of one message
abbrev pub same_message : FaultLine → FaultLine → Bool
same_message a b = same_kind b.kind a.kind && same_id b.id a.id && b.replica == a.replica && b.nth == a.nth

-- both stop lines speak of one attempt
abbrev pub same_attempt : StopLine → StopLine → Bool
same_attempt a b = same_id b.id a.id

-- a client with a new name
pub record IsClient (s : State) (name : List ℕ) (column home : ℕ) : Type 0 where
  pub section : s.section ≡ sections.Prelude
  pub well_named : is_name name ≡ true
  pub column_fits : column ≤ 7
  pub home_fits : home ≤ 2 * s.size
  pub few : length s.clients < 64
  pub fresh : place name (names_of s.clients) ≡ None

-- a fault of a message that no line above speaks of
pub record IsFault (s : State) (name : List ℕ) (fault : FaultLine) : Type 0 where
  pub section : s.section ≡ sections.Prelude
  pub attempt : IsAttempt s name fault.id
  pub replica_fits : fault.replica ≤ 2 * s.size
  pub nth_low : 1 ≤ fault.nth
  pub nth_high : fault.nth ≤ 255
  pub injected : fault.fate ≢ fates.Deliver
  pub few : length s.faults + length s.stops < 1024
  pub fresh : list_any (same_message fault) s.faults ≡ false

-- a stop of an attempt that no line above speaks of
pub record IsStop (s : State) (name : List ℕ) (stop : StopLine) : Type 0 where
  pub section : s.section ≡ sections.Prelude
  pub attempt : IsAttempt s name stop.id
  pub few : length s.faults + length s.stops < 1024
  pub fresh : list_any (same_attempt stop) s.stops ≡ false

-- a transaction of a declared client, with one item at least
pub record IsTxn (s : State) (name : List ℕ) (client clock : ℕ) (mentions : List Mention) : Type 0 where
  pub section : IsInRounds s.section
  pub well_named : is_name name ≡ true
  pub declared : client_number s name ≡ Some client
  pub clock_fits : clock ≤ 2 ^ 61
  pub mentions_fit : AllByRecursion (IsMention s.version) mentions
  pub some : 0 < length mentions
  pub few : length mentions ≤ 16
  pub keys : length (keys_after s.keys mentions) ≤ 256
  pub txns : total txn_count s < 4096

-- a takeover of an attempt of a declared client
pub record IsTakeover (s : State) (name : List ℕ) (id : TxnId) (view : ℕ) : Type 0 where
  pub section : IsInRounds s.section
  pub attempt : IsAttempt s name id
  pub view_low : 1 ≤ view
  pub view_high : view ≤ 15
  pub few : total takeover_count s < 1024

-- replicas are below 2f + 1, epochs from 1 to 1,000
abbrev pub GlobalFits : ℕ → GlobalLine → Type 0
GlobalFits size (globals.Wipe replica) = replica ≤ 2 * size
GlobalFits size (globals.Ask epoch) = (1 ≤ epoch) × (epoch ≤ 1000)
GlobalFits size (globals.Promise epoch replica) = (1 ≤ epoch) × (epoch ≤ 1000) × (replica ≤ 2 * size)
GlobalFits size (globals.Merge epoch) = (1 ≤ epoch) × (epoch ≤ 1000)
GlobalFits size (globals.Adopt epoch replica) = (1 ≤ epoch) × (epoch ≤ 1000) × (replica ≤ 2 * size)
GlobalFits size (globals.Enter epoch) = (1 ≤ epoch) × (epoch ≤ 1000)

-- a global line whose fields fit
pub record IsGlobal (s : State) (line : GlobalLine) : Type 0 where
  pub section : IsBehindPrelude s.section
  pub fits : GlobalFits s.size line
  pub few : total global_count s < 256

-- the line may stand behind what was read
abbrev pub Fits : State → Line → Type 0
Fits s (Opens version) = (s.section ≡ sections.Start) × (1 ≤ version) × (version ≤ 2)
Fits s (Sizes f) = (s.section ≡ sections.Opened) × (1 ≤ f) × (f ≤ 3)
Fits s (Declares name column home) = IsClient s name column home
Fits s (Retries n) = (s.section ≡ sections.Prelude) × (n ≤ 3) × (s.retry ≡ None)
Fits s (Injects name fault) = IsFault s name fault
Fits s (Halts name stop) = IsStop s name stop
Fits s (Tries name client clock mentions) = IsTxn s name client clock mentions
Fits s (TakesOver name id view) = IsTakeover s name id view
Fits s (Changes line) = IsGlobal s line
Fits s NextRound = IsBehindPrelude s.section × (length s.rounds < 15)

-- ---- what it says

-- the number of a key that is known
abbrev pub number_of : List (List ℕ) → List ℕ → ℕ
number_of keys name = or_zero (place name keys)

-- an item with its key's number
abbrev pub item_of : List (List ℕ) → Mention → Item
item_of keys (Reads key) = items.Read (number_of keys key)
item_of keys (Writes key n) = items.Write (number_of keys key) n
item_of keys (Computes key proc n) = items.Compute (number_of keys key) proc n
item_of keys (Deletes key) = items.Delete (number_of keys key)

-- one more transaction in the round, and the keys known then
abbrev pub with_txn : State → List (List ℕ) → TxnLine → State
with_txn s keys txn = record s { section = sections.Round; keys = keys; round = record s.round { txns = s.round.txns ++ txn ∷ [] } }

-- what was read with this line
abbrev pub after : State → Line → State
after s (Opens version) = record s { section = sections.Opened; version = version }
after s (Sizes f) = record s { section = sections.Prelude; size = f }
after s (Declares name column home) = record s { clients = s.clients ++ record { name = name; column = column; home = home } ∷ [] }
after s (Retries n) = record s { retry = Some n }
after s (Injects name fault) = record s { faults = s.faults ++ fault ∷ [] }
after s (Halts name stop) = record s { stops = s.stops ++ stop ∷ [] }
after s (Tries name client clock mentions) =
    let keys = keys_after s.keys mentions in
    with_txn s keys (record { client = client; clock = clock; items = map (item_of keys) mentions })
after s (TakesOver name id view) =
    record s { section = sections.Round; round = record s.round { takeovers = s.round.takeovers ++ record { id = id; view = view } ∷ [] } }
after s (Changes line) = record s { section = sections.Globals; round = record s.round { globals = s.round.globals ++ line ∷ [] } }
after s NextRound = record s { section = sections.Round; rounds = s.rounds ++ s.round ∷ []; round = no_lines }

-- ---- a text

-- a line without bytes, and one that begins with #, are passed over
abbrev pub IsPassedOver : List ℕ → Type 0
IsPassedOver [] = Unit {0}
IsPassedOver (b ∷ bs) = b ≡ 35

-- it is a line that may stand here, and leaves t
pub record IsLine (s : State) (bytes : List ℕ) (t : State) : Type 0 where
  pub line : Line
  pub text : bytes ≡ spelling line
  pub fits : Fits s line
  pub leaves : t ≡ after s line

-- a line behind what was read as s leaves t: it is passed over, or it is a line of the grammar
abbrev pub Says : State → List ℕ → State → Type 0
Says s bytes t = ((is_printable bytes ≡ true) × IsPassedOver bytes × (t ≡ s)) ⊎ IsLine s bytes t

-- lines, one behind the other
abbrev pub Say : State → List (List ℕ) → State → Type 0
Say s [] t = t ≡ s
Say s (bytes ∷ more) t = (mid : State) × Says s bytes mid × Say mid more t
