-- The entries of a promise, by the number of their attempt.
use Rattle.std.specs.Prelude.{◌≡◌, List, option_copied}
use Rattle.std.specs.Borrow.{Bor}
use Rattle.std.specs.Map.{lookup}
use Rattle.std.specs.BTreeMap.{is_at}
use Rattle.mk_txn.specs.declared.TxnId.{TxnId}
use Rattle.mk_txn.specs.Transactions.{id_cmp}
use Rattle.mk_words.specs.declared.Entry.{Entry}
use Rattle.mk_words.specs.Entries.{entry_of}

-- each attempt has its first entry in the index
abbrev pub IsIndexed : List Entry → List (TxnId × Bor Entry) → Type 0
IsIndexed entries index = (id : TxnId) → option_copied (lookup (is_at (id_cmp id)) index) ≡ entry_of id entries
