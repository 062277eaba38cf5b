-- The entries of one replica, in the order in which they were opened.
use Rattle.std.specs.Prelude.{ℕ, Bool, List, Option, Some, None, find, is_none, ◌&&◌, ◌==◌, map, option_and_then}
use Rattle.mk_lists.specs.Among.{AllDistinct}
use Rattle.mk_lists.specs.Changed.{change}
use Rattle.mk_txn.specs.declared.TxnId.{TxnId}
use Rattle.mk_txn.specs.declared.Vote.{Vote}
use Rattle.mk_txn.specs.declared.Outcome.{Outcome}
use Rattle.mk_txn.specs.Transactions.{Transaction, same_id}
use Rattle.mk_words.specs.declared.Entry.{Entry}

-- an entry as it is opened
abbrev pub opened : Transaction → Entry
opened txn = record { txn = txn; view = 0; vote = None; accepted = None; last = None }

-- the entry is of this attempt
abbrev pub is_entry_of : TxnId → Entry → Bool
is_entry_of id entry = same_id entry.txn.id id

-- the entry of this attempt
abbrev pub entry_of : TxnId → List Entry → Option Entry
entry_of id entries = find (is_entry_of id) entries

-- no two entries are of one attempt
abbrev pub HasDistinctIds : List Entry → Type 0
HasDistinctIds entries = AllDistinct (map (λ entry. entry.txn.id) entries)

-- the entry of this attempt is changed, and no other
abbrev pub change_entry : TxnId → (Entry → Entry) → List Entry → List Entry
change_entry id f entries = change (is_entry_of id) f entries

-- the vote is set
abbrev pub with_vote : Vote → Entry → Entry
with_vote vote entry = record entry { vote = Some vote }

-- the view is promised
abbrev pub with_promise : ℕ → Entry → Entry
with_promise view entry = record entry { view = view }

-- an outcome is accepted in a view, which is then the entry's view
abbrev pub with_accepted : ℕ → Outcome → Entry → Entry
with_accepted view outcome entry = record entry { view = view; accepted = Some (record { view = view; outcome = outcome }) }

-- the entry becomes final
abbrev pub with_last : Outcome → Entry → Entry
with_last outcome entry = record entry { last = Some outcome }

-- a vote may be set: nothing was promised, voted, accepted or decided before
abbrev pub may_vote : Entry → Bool
may_vote entry = entry.view == 0 && is_none entry.vote && is_none entry.accepted && is_none entry.last

-- the final outcome of this attempt's entry
abbrev pub last_in : TxnId → List Entry → Option Outcome
last_in id entries = option_and_then (λ entry. entry.last) (entry_of id entries)
