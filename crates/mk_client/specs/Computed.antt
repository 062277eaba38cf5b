-- What an attempt writes, once its keys are fetched: its items are done in order over a buffer.
use Rattle.std.specs.Prelude.{ℕ, ◌==◌, List, [], ◌∷◌, ◌++◌, Option, Some, None, find, option_map, if◌then◌else◌}
use Rattle.std.specs.List.{position_from}
use Rattle.mk_txn.specs.declared.Value.{Value}
use Rattle.mk_txn.specs.declared.Value.TheVariants.{Number, Absent}
use Rattle.mk_txn.specs.declared.ReadItem.{ReadItem}
use Rattle.mk_txn.specs.declared.WriteItem.{WriteItem}
use Rattle.mk_txn.specs.Transactions.{initial_value}
use Rattle.mk_proc.specs.declared.Item.{Item}
use Rattle.mk_proc.specs.declared.Item.TheVariants.{Read, Write, Compute, Delete}
use Rattle.mk_proc.specs.Procedures.{proc_value}

-- a value as a procedure sees it: an absent one counts as 0
abbrev pub number_in : Value → ℕ
number_in (Number number) = number
number_in Absent = 0

-- the values that the read items gave so far, and the writes so far
pub record Buffer : Type 0 where
  pub values : List ℕ
  pub writes : List WriteItem

-- the value that is buffered for the key
abbrev pub buffered_value : ℕ → List WriteItem → Option Value
buffered_value key writes = option_map (λ item. item.value) (find (λ item. item.key == key) writes)

-- the value that was fetched of the key
abbrev pub fetched_value : ℕ → List ReadItem → Option Value
fetched_value key reads = option_map (λ item. item.value) (find (λ item. item.key == key) reads)

-- the first of the two that is there
abbrev pub value_by : Option Value → Option Value → Value
value_by (Some value) fetched = value
value_by None (Some value) = value
value_by None None = initial_value

-- what a read item gives: the buffered value, and else the fetched one
abbrev pub read_value : ℕ → List WriteItem → List ReadItem → Value
read_value key writes reads = value_by (buffered_value key writes) (fetched_value key reads)

-- the place of the write to the key
abbrev pub place_of : ℕ → List WriteItem → Option ℕ
place_of key writes = position_from (λ item. item.key == key) 0 writes

-- a second write of a key replaces the value and keeps the place
abbrev pub put : ℕ → Value → List WriteItem → List WriteItem
put key value [] = record { key = key; value = value } ∷ []
put key value (item ∷ items) = if item.key == key then record item { value = value } ∷ items else item ∷ put key value items

-- after a read item
abbrev pub with_value : List ReadItem → Buffer → ℕ → Buffer
with_value reads buffer key =
    record buffer { values = buffer.values ++ number_in (read_value key buffer.writes reads) ∷ [] }

-- after a write item
abbrev pub with_write : Buffer → ℕ → Value → Buffer
with_write buffer key value = record buffer { writes = put key value buffer.writes }

-- after an item
abbrev pub after_item : List ReadItem → Buffer → Item → Buffer
after_item reads buffer (Read key) = with_value reads buffer key
after_item reads buffer (Write key value) = with_write buffer key (Number value)
after_item reads buffer (Compute key proc arg) = with_write buffer key (Number (proc_value proc buffer.values arg))
after_item reads buffer (Delete key) = with_write buffer key Absent

-- after items, in order
abbrev pub after_items : List ReadItem → Buffer → List Item → Buffer
after_items reads buffer [] = buffer
after_items reads buffer (item ∷ items) = after_items reads (after_item reads buffer item) items

-- nothing was read or written
abbrev pub empty_buffer : Buffer
empty_buffer = record { values = []; writes = [] }

-- what the items write, after these keys were fetched
abbrev pub writes_of : List Item → List ReadItem → List WriteItem
writes_of items reads = let buffer = after_items reads empty_buffer items in buffer.writes
