-- What the code keeps of a client.
use Rattle.std.specs.Prelude.{ℕ, ◌+◌, max, Bool, ◌==◌, false, List, Option, find, map, option_map, option_copied}
use Rattle.std.specs.Borrow.{Bor}
use Rattle.mk_lists.specs.Changed.{change}
use Rattle.mk_txn.specs.declared.TxnId.{TxnId}
use Rattle.mk_column.specs.declared.clients.Client.{Client}
use Rattle.mk_model.specs.ColumnState.{ClientState}

-- a client that has begun nothing
abbrev pub fresh_client : ℕ → Client
fresh_client number = record { number = number; last_time = 0; next_seq = 1; heard = 0; reading = false }

-- a client none of whose attempts reads
abbrev pub not_reading : Client → Client
not_reading client = record client { reading = false }

-- the number of a client's next attempt
abbrev pub next_of : Client → TxnId
next_of client = record { client = client.number; seq = client.next_seq }

-- a client that has begun one more attempt, in this epoch, and whether it reads
abbrev pub client_begun : ℕ → Bool → Client → Client
client_begun epoch reading client =
    record client { next_seq = client.next_seq + 1; heard = max client.heard epoch; reading = reading }

-- a client whose last stamp has this time, and none of whose attempts reads
abbrev pub client_stamped : ℕ → Client → Client
client_stamped time client = record client { last_time = time; reading = false }

-- a client that has heard of this epoch
abbrev pub client_heard : ℕ → Client → Client
client_heard epoch client = record client { heard = max client.heard epoch }

-- the client's number
abbrev pub number_of : Client → ℕ
number_of client = client.number

-- whether two numbers are one
abbrev pub same_number : ℕ → ℕ → Bool
same_number a b = a == b

-- the client of this number
abbrev pub kept_client : ℕ → List Client → Option Client
kept_client number all = find (λ client. client.number == number) all

-- the client of this number is changed, and no other
abbrev pub change_kept : ℕ → (Client → Client) → List Client → List Client
change_kept number f all = change (λ client. client.number == number) f all

-- a client as the definitions have it
abbrev pub client_state : Client → ClientState
client_state client =
    record { number = client.number; last_time = client.last_time; next_seq = client.next_seq; heard = client.heard }

-- the clients as the definitions have them
abbrev pub client_states : List Client → List ClientState
client_states all = map client_state all

-- a client that was looked up, as the definitions have it
abbrev pub seen_client : Option (Bor Client) → Option ClientState
seen_client client = option_map client_state (option_copied client)
