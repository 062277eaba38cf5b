-- The items of a transaction, as contracts see them.
use Rattle.std.specs.Prelude.{ℕ, Bool, true, false}
use Rattle.mk_proc.specs.declared.Item.{Item}
use Rattle.mk_proc.specs.declared.Item.TheVariants.{Read, Write, Compute, Delete}

-- the key that the item reads or writes
abbrev pub key_of : Item → ℕ
key_of (Read key) = key
key_of (Write key value) = key
key_of (Compute key proc arg) = key
key_of (Delete key) = key

-- whether the item reads
abbrev pub is_read : Item → Bool
is_read (Read key) = true
is_read (Write key value) = false
is_read (Compute key proc arg) = false
is_read (Delete key) = false
