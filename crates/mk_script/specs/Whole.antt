-- What holds of every script: its limits, its numberings, and the rules of its lines.
use Rattle.std.specs.Prelude.{◌≡◌, ◌≢◌, ◌+◌, ◌*◌, ◌<◌, ◌≤◌, ◌^◌, ℕ, true, false, List, [], ◌∷◌, ◌++◌, length, map, Some, None, sum_by}
use Rattle.std.specs.List.{list_any, AllByRecursion}
use Rattle.mk_spelling.specs.Words.{is_name}
use Rattle.mk_spelling.specs.Fields.{place, one_on}
use Rattle.mk_txn.specs.declared.TxnId.{TxnId}
use Rattle.mk_script.specs.declared.lines.Fate.TheVariants as fates
use Rattle.mk_script.specs.declared.lines.ClientLine.{ClientLine}
use Rattle.mk_script.specs.declared.lines.FaultLine.{FaultLine}
use Rattle.mk_script.specs.declared.lines.StopLine.{StopLine}
use Rattle.mk_script.specs.declared.lines.TxnLine.{TxnLine}
use Rattle.mk_script.specs.declared.lines.TakeoverLine.{TakeoverLine}
use Rattle.mk_script.specs.declared.lines.Round.{Round}
use Rattle.mk_script.specs.Scripts.{ScriptParts, names_of, txn_count, takeover_count, global_count}
use Rattle.mk_script.specs.Grammar.{Mention, IsMention, keys_after, item_of, same_message, same_attempt, GlobalFits}

-- each member fits behind those before it
abbrev pub Prefixed : {A : Type 0} → (List A → A → Type 0) → List A → List A → Type 0
Prefixed P before [] = Unit {0}
Prefixed P before (x ∷ xs) = P before x × Prefixed P (before ++ x ∷ []) xs

-- a client with a name of its own
pub record IsClientBehind (size : ℕ) (before : List ClientLine) (client : ClientLine) : Type 0 where
  pub well_named : is_name client.name ≡ true
  pub column_fits : client.column ≤ 7
  pub home_fits : client.home ≤ 2 * size
  pub fresh : place client.name (names_of before) ≡ None

-- the number of a client that is declared, which counts from 1
pub record IsOwned (clients : List ClientLine) (client : ℕ) : Type 0 where
  pub name : List ℕ
  pub well_named : is_name name ≡ true
  pub number : one_on (place name (names_of clients)) ≡ Some client

-- an attempt of a declared client
pub record IsAttemptOf (clients : List ClientLine) (id : TxnId) : Type 0 where
  pub low : 1 ≤ id.seq
  pub high : id.seq ≤ 16384
  pub owner : IsOwned clients id.client

-- a fault of a message that none before it speaks of
pub record IsFaultBehind (size : ℕ) (clients : List ClientLine) (before : List FaultLine) (fault : FaultLine) : Type 0 where
  pub attempt : IsAttemptOf clients fault.id
  pub replica_fits : fault.replica ≤ 2 * size
  pub nth_low : 1 ≤ fault.nth
  pub nth_high : fault.nth ≤ 255
  pub injected : fault.fate ≢ fates.Deliver
  pub fresh : list_any (same_message fault) before ≡ false

-- a stop of an attempt that none before it speaks of
pub record IsStopBehind (clients : List ClientLine) (before : List StopLine) (stop : StopLine) : Type 0 where
  pub attempt : IsAttemptOf clients stop.id
  pub fresh : list_any (same_attempt stop) before ≡ false

-- a transaction whose items mention keys, numbered on behind the keys known before it
pub record IsTxnAt (version : ℕ) (clients : List ClientLine) (keys : List (List ℕ)) (txn : TxnLine) (after : List (List ℕ)) : Type 0 where
  pub owner : IsOwned clients txn.client
  pub clock_fits : txn.clock ≤ 2 ^ 61
  pub mentions : List Mention
  pub fit : AllByRecursion (IsMention version) mentions
  pub some : 0 < length mentions
  pub few : length mentions ≤ 16
  pub items : txn.items ≡ map (item_of (keys_after keys mentions)) mentions
  pub grown : after ≡ keys_after keys mentions

-- transactions, one behind the other
abbrev pub TxnsAt : ℕ → List ClientLine → List (List ℕ) → List TxnLine → List (List ℕ) → Type 0
TxnsAt version clients keys [] after = after ≡ keys
TxnsAt version clients keys (txn ∷ txns) after = (mid : List (List ℕ)) × IsTxnAt version clients keys txn mid × TxnsAt version clients mid txns after

-- a takeover of an attempt of a declared client
pub record IsTakeoverOf (clients : List ClientLine) (takeover : TakeoverLine) : Type 0 where
  pub attempt : IsAttemptOf clients takeover.id
  pub view_low : 1 ≤ takeover.view
  pub view_high : takeover.view ≤ 15

-- the lines of a round, behind which these keys are known
pub record IsRoundAt (version size : ℕ) (clients : List ClientLine) (keys : List (List ℕ)) (round : Round) (after : List (List ℕ)) : Type 0 where
  pub txns : TxnsAt version clients keys round.txns after
  pub takeovers : AllByRecursion (IsTakeoverOf clients) round.takeovers
  pub globals : AllByRecursion (GlobalFits size) round.globals

-- rounds, one behind the other
abbrev pub RoundsAt : ℕ → ℕ → List ClientLine → List (List ℕ) → List Round → List (List ℕ) → Type 0
RoundsAt version size clients keys [] after = after ≡ keys
RoundsAt version size clients keys (round ∷ rounds) after =
    (mid : List (List ℕ)) × IsRoundAt version size clients keys round mid × RoundsAt version size clients mid rounds after

-- the version, the size and the retries
pub record IsHead (version size retry : ℕ) : Type 0 where
  pub version_low : 1 ≤ version
  pub version_high : version ≤ 2
  pub size_low : 1 ≤ size
  pub size_high : size ≤ 3
  pub retry_high : retry ≤ 3

-- the clients, the faults and the stops
pub record IsPrelude (size : ℕ) (clients : List ClientLine) (faults : List FaultLine) (stops : List StopLine) : Type 0 where
  pub clients_fit : Prefixed (IsClientBehind size) [] clients
  pub clients_few : length clients ≤ 64
  pub faults_fit : Prefixed (IsFaultBehind size clients) [] faults
  pub stops_fit : Prefixed (IsStopBehind clients) [] stops
  pub few : length faults + length stops ≤ 1024

-- the rounds, which number the keys in order of first mention, and their limits
pub record AreRounds (version size : ℕ) (clients : List ClientLine) (keys : List (List ℕ)) (rounds : List Round) : Type 0 where
  pub numbered : RoundsAt version size clients [] rounds keys
  pub some : 1 ≤ length rounds
  pub few : length rounds ≤ 16
  pub keys_few : length keys ≤ 256
  pub txns_few : sum_by txn_count rounds ≤ 4096
  pub takeovers_few : sum_by takeover_count rounds ≤ 1024
  pub globals_few : sum_by global_count rounds ≤ 256

-- what holds of every script
pub record IsWhole (s : ScriptParts) : Type 0 where
  pub head : IsHead s.version s.size s.retry
  pub prelude : IsPrelude s.size s.clients s.faults s.stops
  pub rounds : AreRounds s.version s.size s.clients s.keys s.rounds
