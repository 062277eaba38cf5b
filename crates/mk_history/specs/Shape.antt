-- The shape of a run: its tables, and the range of every number in it.
use Rattle.std.specs.Prelude.{◌≡◌, ◌⊎◌, ℕ, ◌+◌, ◌^◌, ◌≤◌, Bool, true, false, ◌&&◌, ◌==◌, nat_lt, nat_le, max, List, [], ◌∷◌, length, map, sum, count_by}
use Rattle.std.specs.List.{list_all}
use Rattle.mk_lists.specs.Among.{Each, AllDistinct}
use Rattle.mk_spelling.specs.Words.{is_name}
use Rattle.mk_txn.specs.declared.Stamp.{Stamp}
use Rattle.mk_txn.specs.declared.TxnId.{TxnId}
use Rattle.mk_txn.specs.declared.Value.{Value}
use Rattle.mk_txn.specs.declared.Value.TheVariants.{Number, Absent}
use Rattle.mk_txn.specs.declared.WriteItem.{WriteItem}
use Rattle.mk_words.specs.declared.Act.{Act}
use Rattle.mk_words.specs.declared.Act.TheVariants.{Get, CheckRead, CheckWrite, CommitRead, CommitWrite, ReleaseRead, ReleaseWrite}
use Rattle.mk_words.specs.declared.Answer.{Answer}
use Rattle.mk_words.specs.declared.Answer.TheVariants.{Version, Okay, Refused, Done}
use Rattle.mk_words.specs.declared.JournalEntry.{JournalEntry}
use Rattle.mk_words.specs.Acts.{answer_fits}
use Rattle.mk_quorum.specs.Sizes.{members}
use Rattle.mk_words.specs.declared.GlobalEntry.{GlobalEntry}
use Rattle.mk_words.specs.Lines.{line_fits, can_answer}
use Rattle.mk_words.specs.declared.Step.{Step}
use Rattle.mk_words.specs.declared.Step.TheVariants.{Begin, Unread, Read, Stamp as StampStep, Validate, Take, Key, Rule, Again, Takeover, Pick, Stop}
use Rattle.mk_history.specs.declared.RoundLog.{RoundLog}
use Rattle.mk_history.specs.Histories.{History}

-- one more than the greatest column of a client, and 0 without clients
abbrev pub columns_of : List ℕ → ℕ
columns_of [] = 0
columns_of (column ∷ columns) = max (column + 1) (columns_of columns)

-- a number of 64 bits, or, from version 2 on, nothing
abbrev pub value_fits : History → Value → Bool
value_fits run (Number n) = nat_lt n (2 ^ 64)
value_fits run Absent = run.version == 2

-- the stamp's time and client are in range
abbrev pub stamp_fits : Stamp → Bool
stamp_fits stamp = nat_le stamp.time (2 ^ 62) && nat_le stamp.client 64

-- the stamps and the value of an act are in range
abbrev pub act_in_range : History → Act → Bool
act_in_range run Get = true
act_in_range run (CheckRead ts version) = stamp_fits ts && stamp_fits version
act_in_range run (CheckWrite ts) = stamp_fits ts
act_in_range run (CommitRead ts) = stamp_fits ts
act_in_range run (CommitWrite ts value) = stamp_fits ts && value_fits run value
act_in_range run (ReleaseRead ts) = stamp_fits ts
act_in_range run (ReleaseWrite ts) = stamp_fits ts

-- the stamp and the value of an answer are in range
abbrev pub answer_in_range : History → Answer → Bool
answer_in_range run (Version version value) = stamp_fits version && value_fits run value
answer_in_range run (Refused reason stamp) = stamp_fits stamp
answer_in_range run Okay = true
answer_in_range run Done = true

-- an act with an answer of a kind that it can get
abbrev pub turn_fits : History → Act → Answer → Bool
turn_fits run act answer = answer_fits act answer && act_in_range run act && answer_in_range run answer

-- the client has a name
abbrev pub client_fits : History → ℕ → Bool
client_fits run client = nat_le 1 client && nat_le client (length run.client_names)

-- the attempt's client has a name, and its place is one that an attempt can have
abbrev pub id_fits : History → TxnId → Bool
id_fits run id = client_fits run id.client && nat_le 1 id.seq && nat_le id.seq 16384

-- the key has a name
abbrev pub key_fits : History → ℕ → Bool
key_fits run key = nat_lt key (length run.key_names)

-- there is such a replica
abbrev pub replica_fits : History → ℕ → Bool
replica_fits run replica = nat_lt replica (members run.faults)

-- the view of a takeover
abbrev pub view_fits : ℕ → Bool
view_fits view = nat_le 1 view && nat_le view 15

-- the key has a name, and the value is in range
abbrev pub write_fits : History → WriteItem → Bool
write_fits run item = key_fits run item.key && value_fits run item.value

-- every number of a step is in range
abbrev pub step_fits : History → Step → Bool
step_fits run (Begin client replica) = client_fits run client && replica_fits run replica
step_fits run (Unread client) = client_fits run client
step_fits run (Read id key) = id_fits run id && key_fits run key
step_fits run (StampStep id clock writes) = id_fits run id && nat_le clock (2 ^ 61) && list_all (write_fits run) writes
step_fits run (Validate id) = id_fits run id
step_fits run (Take number) = nat_le 1 number && nat_lt number (2 ^ 64)
step_fits run (Key call answer) = replica_fits run call.replica && key_fits run call.key && turn_fits run call.act answer
step_fits run (Rule id) = id_fits run id
step_fits run (Again id) = id_fits run id
step_fits run (Takeover id view) = id_fits run id && view_fits view
step_fits run (Pick id view) = id_fits run id && view_fits view
step_fits run (Stop id) = id_fits run id

-- a journal's entry names one of the columns
abbrev pub entry_fits : History → JournalEntry → Bool
entry_fits run entry = nat_lt entry.seat run.columns && turn_fits run entry.act entry.answer

-- a global line with its numbers in range, and an answer of a kind that it can have
abbrev pub global_fits : History → GlobalEntry → Bool
global_fits run entry = line_fits (members run.faults) entry.line && can_answer entry.line entry.answer

-- a round has a log for each column and a journal for each replica and key
pub record IsRoundShape (run : History) (round : RoundLog) : Type 0 where
  pub logs : length round.logs ≡ run.columns
  pub journals : length round.journals ≡ members run.faults
  pub keys : Each (λ replica. length replica ≡ length run.key_names) round.journals
  pub steps : list_all (list_all (step_fits run)) round.logs ≡ true
  pub entries : list_all (list_all (list_all (entry_fits run))) round.journals ≡ true
  pub globals : list_all (global_fits run) round.globals ≡ true

-- the step begins an attempt of this client, read or unread
abbrev pub begins_of : ℕ → Step → Bool
begins_of client (Begin number replica) = number == client
begins_of client (Unread number) = number == client
begins_of client _ = false

-- how many attempts of this client the logs of a round begin
abbrev pub begins_in : ℕ → RoundLog → ℕ
begins_in client round = sum (map (count_by (begins_of client)) round.logs)

-- what every run keeps
pub record HasShape (run : History) : Type 0 where
  pub version : (run.version ≡ 1) ⊎ (run.version ≡ 2)
  pub faults : (1 ≤ run.faults) × (run.faults ≤ 3)
  pub columns : run.columns ≡ columns_of run.client_columns
  pub few_columns : run.columns ≤ 8
  pub clients : length run.client_names ≡ length run.client_columns
  pub few_clients : length run.client_names ≤ 64
  pub few_keys : length run.key_names ≤ 256
  pub named_clients : Each (λ name. is_name name ≡ true) run.client_names
  pub named_keys : Each (λ name. is_name name ≡ true) run.key_names
  pub distinct_clients : AllDistinct run.client_names
  pub distinct_keys : AllDistinct run.key_names
  pub some_round : 1 ≤ length run.rounds
  pub few_rounds : length run.rounds ≤ 16
  pub few_globals : sum (map (λ round. length round.globals) run.rounds) ≤ 256
  pub few_attempts : (client : ℕ) → sum (map (begins_in client) run.rounds) ≤ 16384
  pub rounds : Each (IsRoundShape run) run.rounds
