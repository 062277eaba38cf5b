-- The entries of one replica, in the order in which they were opened.
use Rattle.std.specs.Prelude.{ℕ, List, Option, Some, None, nat_lt, option_and_then, if◌then◌else◌}
use Rattle.mk_txn.specs.declared.TxnId.{TxnId}
use Rattle.mk_txn.specs.declared.Outcome.{Outcome}
use Rattle.mk_words.specs.declared.Entry.{Entry}
use Rattle.mk_record.specs.declared.RecordError.{RecordError}
use Rattle.mk_record.specs.declared.RecordError.TheVariants.{Finished, OldView}
use Rattle.mk_words.specs.Entries.{entry_of}

-- the final outcome refuses first, and then a higher view
abbrev pub refusal_unless_final : ℕ → Entry → Option Outcome → Option RecordError
refusal_unless_final view entry (Some outcome) = Some (Finished outcome)
refusal_unless_final view entry None = if nat_lt view entry.view then Some (OldView entry.view) else None

-- why the entry refuses to promise a view or to accept in it: it is final, or else its view is higher
abbrev pub refusal_of : ℕ → Entry → Option RecordError
refusal_of view entry = refusal_unless_final view entry entry.last

-- why the entry of this attempt refuses, where there is one
abbrev pub refusal_in : ℕ → TxnId → List Entry → Option RecordError
refusal_in view id entries = option_and_then (refusal_of view) (entry_of id entries)
