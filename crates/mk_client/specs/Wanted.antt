-- Which keys an attempt fetches, in order.
use Rattle.std.specs.Prelude.{ℕ, Bool, ◌==◌, ◌&&◌, not, List, [], ◌∷◌, ◌++◌, length, Option, slice_get, if◌then◌else◌}
use Rattle.std.specs.List.{list_any}
use Rattle.mk_txn.specs.declared.Stamp.{Stamp}
use Rattle.mk_txn.specs.declared.Value.{Value}
use Rattle.mk_txn.specs.declared.ReadItem.{ReadItem}
use Rattle.mk_proc.specs.declared.Item.{Item}
use Rattle.mk_proc.specs.Items.{key_of, is_read}

-- whether one of the items reads or writes the key
abbrev pub has_key : ℕ → List Item → Bool
has_key key items = list_any (λ item. key_of item == key) items

-- a read item is fetched where no earlier item reads or writes its key
abbrev pub is_fetched : List Item → Item → Bool
is_fetched earlier item = is_read item && not (has_key (key_of item) earlier)

-- the keys that these items fetch, which come behind the earlier ones
abbrev pub keys_after : List Item → List Item → List ℕ
keys_after earlier [] = []
keys_after earlier (item ∷ items) =
    let later = keys_after (earlier ++ item ∷ []) items in if is_fetched earlier item then key_of item ∷ later else later

-- the keys that the items fetch
abbrev pub wanted_keys : List Item → List ℕ
wanted_keys items = keys_after [] items

-- an attempt: its items, and what it fetched so far
pub record Attempt : Type 0 where
  pub items : List Item
  pub reads : List ReadItem

-- the next key to fetch, if one is left
abbrev pub next_wanted : List Item → List ReadItem → Option ℕ
next_wanted items reads = slice_get (wanted_keys items) (length reads)

-- after the key was fetched with this version and value
abbrev pub with_read : Attempt → ℕ → Stamp → Value → Attempt
with_read attempt key version value =
    record attempt { reads = attempt.reads ++ record { key = key; version = version; value = value } ∷ [] }
