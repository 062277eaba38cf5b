-- The script of a number.
use Rattle.std.specs.Prelude.{◌≡◌, ◌<◌, ◌≤◌, ℕ, zero, suc, ◌-◌, ◌%◌, List, [], ◌∷◌, ◌++◌, map}
use Rattle.std.specs.Fmt.{decimal}
use Rattle.std.specs.List.{flat_map}
use Rattle.mk_lists.specs.Among.{Each, AllDistinct}
use Rattle.mk_proc.specs.declared.Item.{Item}
use Rattle.mk_proc.specs.declared.Item.TheVariants as items
use Rattle.mk_script.specs.declared.lines.ClientLine.{ClientLine}
use Rattle.mk_script.specs.declared.lines.TxnLine.{TxnLine}
use Rattle.mk_script.specs.Scripts.{ScriptParts}
use Rattle.mk_script.specs.Grammar.{Mention, keys_after, item_of}
use Rattle.mk_script.specs.Grammar.Mention.{Reads, Writes, Computes, Deletes}
use Rattle.mk_script.specs.Quiet.{IsQuiet}
use Rattle.mk_gen.specs.WordStream.{words_of}
use Rattle.mk_gen.specs.Drawn.{txns_drawn}

-- c and the number
abbrev pub client_name : ℕ → List ℕ
client_name client = 99 ∷ decimal client

-- the line of a client, counted from 1
abbrev pub client_line : ℕ → ClientLine
client_line client = record { name = client_name client; column = (client - 1) % 8; home = client % 3 }

-- the lines of the first clients
abbrev pub client_lines : ℕ → List ClientLine
client_lines zero = []
client_lines (suc n) = client_lines n ++ client_line (suc n) ∷ []

-- k and the number
abbrev pub key_name : ℕ → List ℕ
key_name key = 107 ∷ decimal key

-- names of distinct keys below a number
pub record AreKeyNames (keys : ℕ) (names : List (List ℕ)) : Type 0 where
  pub numbers : List ℕ
  pub named : names ≡ map key_name numbers
  pub below : Each (λ key. key < keys) numbers
  pub distinct : AllDistinct numbers

-- an item with its key's name
abbrev pub mention : Item → Mention
mention (items.Read key) = Reads (key_name key)
mention (items.Write key value) = Writes (key_name key) value
mention (items.Compute key kind arg) = Computes (key_name key) kind arg
mention (items.Delete key) = Deletes (key_name key)

-- the items of a transaction with their keys' names
abbrev pub mentions : TxnLine → List Mention
mentions txn = map mention txn.items

-- the keys of the transactions in order of first mention
abbrev pub keys_of_txns : List TxnLine → List (List ℕ)
keys_of_txns txns = keys_after [] (flat_map mentions txns)

-- a transaction whose keys go by their numbers in the script
abbrev pub numbered : List (List ℕ) → TxnLine → TxnLine
numbered names txn = record { client = txn.client; clock = txn.clock; items = map (item_of names) (mentions txn) }

-- a script of version 1 with f = 1, so many clients, these keys, and these transactions in one round
abbrev pub one_round : ℕ → List (List ℕ) → List TxnLine → ScriptParts
one_round clients keys txns =
    record {
      version = 1;
      size = 1;
      clients = client_lines clients;
      keys = keys;
      retry = 0;
      faults = [];
      stops = [];
      rounds = record { txns = txns; takeovers = []; globals = [] } ∷ [];
    }

-- the script of transactions, whose keys are numbered in order of first mention
abbrev pub script_of_txns : ℕ → List TxnLine → ScriptParts
script_of_txns clients txns = one_round clients (keys_of_txns txns) (map (numbered (keys_of_txns txns)) txns)

-- the script of a number with so many clients, transactions and keys
abbrev pub generated : ℕ → ℕ → ℕ → ℕ → ScriptParts
generated number clients txns keys = script_of_txns clients (txns_drawn clients keys txns 0 (words_of number))

-- the script of a number is quiet
abbrev pub GeneratedAreQuiet : Type 0
GeneratedAreQuiet = (number clients txns keys : ℕ) → 1 ≤ clients → clients ≤ keys → keys ≤ 256 → IsQuiet (generated number clients txns keys)
