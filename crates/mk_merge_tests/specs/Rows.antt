-- Transactions and promises of worked cases.
use Rattle.std.specs.Prelude.{ℕ, List, [], ◌∷◌, Option, Some, None}
use Rattle.mk_txn.specs.declared.Value.TheVariants.{Number}
use Rattle.mk_txn.specs.declared.Vote.{Vote}
use Rattle.mk_txn.specs.declared.Vote.TheVariants.{Ok as VoteOk}
use Rattle.mk_txn.specs.declared.Accepted.{Accepted}
use Rattle.mk_txn.specs.declared.Outcome.{Outcome}
use Rattle.mk_txn.specs.declared.Outcome.TheVariants.{Commit}
use Rattle.mk_txn.specs.Stamps.{zero_stamp}
use Rattle.mk_txn.specs.Transactions.{Transaction}
use Rattle.mk_words.specs.declared.Entry.{Entry}
use Rattle.mk_words.specs.Bases.{empty_base}
use Rattle.mk_words.specs.Promises.{PromiseState}

-- reads the first version of key 0 and writes key 1, at 20.1
abbrev pub reader : Transaction
reader =
    record {
      id = record { client = 1; seq = 1 };
      stamp = record { time = 20; client = 1 };
      reads = record { key = 0; version = zero_stamp; value = Number 0 } ∷ [];
      writes = record { key = 1; value = Number 1 } ∷ [];
    }

-- writes key 0 at 10.2
abbrev pub writer : Transaction
writer =
    record {
      id = record { client = 2; seq = 1 };
      stamp = record { time = 10; client = 2 };
      reads = [];
      writes = record { key = 0; value = Number 2 } ∷ [];
    }

-- writes key 0 at 10.1
abbrev pub early : Transaction
early =
    record {
      id = record { client = 1; seq = 1 };
      stamp = record { time = 10; client = 1 };
      reads = [];
      writes = record { key = 0; value = Number 5 } ∷ [];
    }

-- reads what that wrote, at 20.2
abbrev pub late : Transaction
late =
    record {
      id = record { client = 2; seq = 1 };
      stamp = record { time = 20; client = 2 };
      reads = record { key = 0; version = record { time = 10; client = 1 }; value = Number 5 } ∷ [];
      writes = [];
    }

-- an entry of this view with this vote and these outcomes
abbrev pub reported : ℕ → Transaction → Option Vote → Option Accepted → Option Outcome → Entry
reported view txn vote accepted last = record { txn = txn; view = view; vote = vote; accepted = accepted; last = last }

-- an entry with an Ok vote
abbrev pub voted : Transaction → Option Accepted → Option Outcome → Entry
voted txn accepted last = reported 0 txn (Some VoteOk) accepted last

-- an entry of which a takeover of view 1 has asked, with this vote
abbrev pub left_by_takeover : Transaction → Option Vote → Entry
left_by_takeover txn vote = reported 1 txn vote None None

-- a promise from epoch 0
abbrev pub promised : ℕ → List Entry → PromiseState
promised r entries = record { replica = r; adopted = 0; base = empty_base; entries = entries; marks = [] }

-- two votes for the reader, and an accepted commit of the writer
abbrev pub conflicting : List PromiseState
conflicting =
    promised 1 (voted reader None None ∷ [])
    ∷ promised 0 (voted reader None None ∷ [])
    ∷ promised 2 (voted writer (Some (record { view = 0; outcome = Commit })) None ∷ [])
    ∷ []

-- final commits of the early write and of the read of it
abbrev pub finished : List PromiseState
finished =
    promised 1 (voted early None (Some Commit) ∷ voted late None (Some Commit) ∷ [])
    ∷ promised 0 []
    ∷ []

-- of the three that a takeover has asked, two have an Ok vote
abbrev pub hinted : List PromiseState
hinted =
    promised 1 (left_by_takeover early (Some VoteOk) ∷ [])
    ∷ promised 0 (left_by_takeover early (Some VoteOk) ∷ [])
    ∷ promised 2 (left_by_takeover early None ∷ [])
    ∷ []

-- two without entries
abbrev pub silent : List PromiseState
silent = promised 1 [] ∷ promised 2 [] ∷ []

-- one of two has an Ok vote
abbrev pub unhinted : List PromiseState
unhinted = promised 2 [] ∷ promised 0 (voted early None None ∷ []) ∷ []
