-- What is drawn from words: keys, items and transactions. Keys go by their own numbers here, below the number of keys.
use Rattle.std.specs.Prelude.{ℕ, zero, suc, ◌+◌, ◌-◌, ◌*◌, ◌/◌, ◌%◌, ◌==◌, List, [], ◌∷◌, if◌then◌else◌}
use Rattle.rand_pcg.specs.Lcg.{Lcg}
use Rattle.mk_proc.specs.declared.Item.{Item}
use Rattle.mk_proc.specs.declared.Item.TheVariants as items
use Rattle.mk_proc.specs.declared.ProcKind.TheVariants as procs
use Rattle.mk_script.specs.declared.lines.TxnLine.{TxnLine}
use Rattle.mk_gen.specs.WordStream.{word, rest}

-- so many clients share so many keys, and this is one of them, counted from 1
pub record Share : Type 0 where
  pub client : ℕ
  pub clients : ℕ
  pub keys : ℕ

-- how many keys are the client's: those with its remainder by the number of clients
abbrev pub keys_of : Share → ℕ
keys_of s = (s.keys - s.client) / s.clients + 1

-- the key that a word picks among the client's
abbrev pub key_picked : Share → ℕ → ℕ
key_picked s w = (s.client - 1) + s.clients * (w / 4 % keys_of s)

-- the item of a kind: 0 and 1 read, 2 writes the value, 3 adds 1
abbrev pub item_of_kind : ℕ → ℕ → ℕ → Item
item_of_kind kind key value =
    if kind == 2 then items.Write key value else if kind == 3 then items.Compute key procs.Add 1 else items.Read key

-- the item of the next word; the value of a write is the word behind it
abbrev pub item_drawn : Share → Lcg → Item
item_drawn s words = item_of_kind (word words % 4) (key_picked s (word words)) (word (rest words))

-- the words behind an item: a write takes two, any other item one
abbrev pub after_item : Lcg → Lcg
after_item words = if word words % 4 == 2 then rest (rest words) else rest words

-- so many items, one behind the other
abbrev pub items_drawn : Share → ℕ → Lcg → List Item
items_drawn s zero words = []
items_drawn s (suc n) words = item_drawn s words ∷ items_drawn s n (after_item words)

-- the words behind so many items
abbrev pub after_items : ℕ → Lcg → Lcg
after_items zero words = words
after_items (suc n) words = after_items n (after_item words)

-- how many items the next word gives
abbrev pub item_count : Lcg → ℕ
item_count words = 1 + word words % 4

-- clients take turns; transactions count from 0, clients from 1
abbrev pub share_of : ℕ → ℕ → ℕ → Share
share_of clients keys t = record { client = t % clients + 1; clients = clients; keys = keys }

-- transaction t: a word tells how many items it has, and these follow
abbrev pub txn_drawn : ℕ → ℕ → ℕ → Lcg → TxnLine
txn_drawn clients keys t words =
    record { client = t % clients + 1; clock = 1000 * (t + 1); items = items_drawn (share_of clients keys t) (item_count words) (rest words) }

-- the words behind a transaction
abbrev pub after_txn : Lcg → Lcg
after_txn words = after_items (item_count words) (rest words)

-- so many transactions from t on
abbrev pub txns_drawn : ℕ → ℕ → ℕ → ℕ → Lcg → List TxnLine
txns_drawn clients keys zero t words = []
txns_drawn clients keys (suc n) t words = txn_drawn clients keys t words ∷ txns_drawn clients keys n (t + 1) (after_txn words)
