-- Why parts make no transaction.
use Rattle.std.specs.Prelude.{ℕ, ◌==◌, ◌||◌, nat_lt, List, [], ◌∷◌, length, find, not, Option, Some, None, if◌then◌else◌}
use Rattle.std.specs.Option.{option_map}
use Rattle.std.specs.List.{list_any}
use Rattle.mk_txn.specs.declared.Stamp.{Stamp}
use Rattle.mk_txn.specs.declared.ReadItem.{ReadItem}
use Rattle.mk_txn.specs.declared.WriteItem.{WriteItem}
use Rattle.mk_txn.specs.declared.faults.TxnError.{TxnError}
use Rattle.mk_txn.specs.declared.faults.TxnError.TheVariants.{TooMany, Repeated, NotAbove}
use Rattle.mk_txn.specs.Stamps.{is_before}
use Rattle.mk_txn.specs.Transactions.{read_keys, write_keys}

-- the first key that stands at a later place too
abbrev pub repeated_key : List ℕ → Option ℕ
repeated_key [] = None
repeated_key (key ∷ keys) = if list_any (λ later. later == key) keys then Some key else repeated_key keys

-- the key of the first read whose version is not below the stamp
abbrev pub key_not_above : Stamp → List ReadItem → Option ℕ
key_not_above stamp items = option_map (λ item. item.key) (find (λ item. not (is_before item.version stamp)) items)

-- the fault of this key, where there is one, and else the next fault
abbrev pub fault_at : (ℕ → TxnError) → Option ℕ → Option TxnError → Option TxnError
fault_at fault None next = next
fault_at fault (Some key) next = Some (fault key)

-- the first fault, in the order in which they are looked for
abbrev pub txn_fault : Stamp → List ReadItem → List WriteItem → Option TxnError
txn_fault stamp reads writes =
    if nat_lt 16 (length reads) || nat_lt 16 (length writes)
    then Some TooMany
    else fault_at Repeated (repeated_key (read_keys reads))
    (fault_at Repeated (repeated_key (write_keys writes)) (fault_at NotAbove (key_not_above stamp reads) None))
