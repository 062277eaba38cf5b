-- Worked cases of a merge, by computing: ties, contradictions, candidates that conflict, promises beyond the first, marks.
use Rattle.std.proofs.Common.{◌≡◌, ℕ, refl, List, [], ◌∷◌, Option}
use Rattle.std.specs.Prelude.{Some, None}
use Rattle.mk_txn.specs.declared.Value.TheVariants.{Number}
use Rattle.mk_txn.specs.declared.Vote.{Vote}
use Rattle.mk_txn.specs.declared.Vote.TheVariants.{Ok as VoteOk}
use Rattle.mk_txn.specs.declared.Accepted.{Accepted}
use Rattle.mk_txn.specs.declared.Cause.TheVariants.{Epoch as ByEpoch, Takeover as ByTakeover}
use Rattle.mk_txn.specs.declared.Outcome.{Outcome}
use Rattle.mk_txn.specs.declared.Outcome.TheVariants.{Commit, Abort}
use Rattle.mk_txn.specs.MarkMaps.{MarkMap}
use Rattle.mk_txn.specs.Stamps.{zero_stamp}
use Rattle.mk_txn.specs.Transactions.{Transaction}
use Rattle.mk_words.specs.declared.Entry.{Entry}
use Rattle.mk_words.specs.Bases.{BaseState, empty_base}
use Rattle.mk_words.specs.Promises.{PromiseState}
use Rattle.mk_words.specs.Merging.{merged}

-- reads the first version of key 0 and writes it, at this time
abbrev updates : ℕ → ℕ → Transaction
updates time client =
    record {
      id = record { client = client; seq = 1 };
      stamp = record { time = time; client = client };
      reads = record { key = 0; version = zero_stamp; value = Number 0 } ∷ [];
      writes = record { key = 0; value = Number 5 } ∷ [];
    }

abbrev first : Transaction
first = updates 10 1

-- what a replica reports of a transaction
abbrev reports : Transaction → Option Vote → Option Accepted → Option Outcome → Entry
reports txn vote accepted last = record { txn = txn; view = 2; vote = vote; accepted = accepted; last = last }

abbrev accepts : ℕ → Outcome → Option Accepted
accepts view outcome = Some (record { view = view; outcome = outcome })

abbrev promise : ℕ → List Entry → PromiseState
promise r entries = record { replica = r; adopted = 0; base = empty_base; entries = entries; marks = [] }

abbrev given_up : Outcome
given_up = Abort (ByTakeover 2)

abbrev only : Transaction → Outcome → BaseState
only txn outcome = record { list = record { txn = txn; outcome = outcome } ∷ []; marks = [] }

-- of two outcomes accepted in one highest view that of the lower-numbered replica stands, whatever the order of promises
pub tie_of_views : merged 1 1 (promise 1 (reports first None (accepts 2 given_up) None ∷ []) ∷ promise 0 (reports first None (accepts 2 Commit) None ∷ []) ∷ []) ≡ only first Commit
tie_of_views = refl

pub tie_turned : merged 1 1 (promise 1 (reports first None (accepts 2 Commit) None ∷ []) ∷ promise 0 (reports first None (accepts 2 given_up) None ∷ []) ∷ []) ≡ only first given_up
tie_turned = refl

-- of two final outcomes likewise
pub finals_differ : merged 1 1 (promise 1 (reports first None None (Some given_up) ∷ []) ∷ promise 0 (reports first None None (Some Commit) ∷ []) ∷ []) ≡ only first Commit
finals_differ = refl

-- a final outcome stands beside an accepted one that differs, of whatever replica
pub final_beside_accepted : merged 1 1 (promise 1 (reports first None None (Some Commit) ∷ []) ∷ promise 0 (reports first None (accepts 2 given_up) None ∷ []) ∷ []) ≡ only first Commit
final_beside_accepted = refl

-- of two candidates that conflict the one of the earlier stamp commits, though its number is the greater
pub candidates_conflict : merged 2 1 (promise 1 (reports (updates 20 1) (Some VoteOk) None None ∷ []) ∷ promise 0 (reports (updates 20 1) (Some VoteOk) None None ∷ reports (updates 10 2) (Some VoteOk) None None ∷ []) ∷ promise 2 (reports (updates 10 2) (Some VoteOk) None None ∷ []) ∷ [])
    ≡ record { list = record { txn = updates 20 1; outcome = Abort (ByEpoch 1) } ∷ record { txn = updates 10 2; outcome = Commit } ∷ []; marks = [] }
candidates_conflict = refl

-- beside the leader's promise the first f others count: what the third reports is not even listed
pub third_counts_not : merged 1 1 (promise 2 [] ∷ promise 0 (reports first None None (Some Commit) ∷ []) ∷ promise 1 [] ∷ []) ≡ empty_base
third_counts_not = refl

pub second_counts : merged 1 1 (promise 0 (reports first None None (Some Commit) ∷ []) ∷ promise 2 [] ∷ promise 1 [] ∷ []) ≡ only first Commit
second_counts = refl

-- the mark of a client is the base's where that is greater than those of the promises
abbrev promise_on : ℕ → MarkMap → PromiseState
promise_on r marks = record { replica = r; adopted = 1; base = record { list = []; marks = (1, 7) ∷ [] }; entries = []; marks = marks }

pub mark_of_base : merged 1 2 (promise_on 2 ((1, 3) ∷ []) ∷ promise_on 0 ((2, 4) ∷ []) ∷ []) ≡ record { list = []; marks = (1, 7) ∷ (2, 4) ∷ [] }
mark_of_base = refl

pub mark_of_promise : merged 1 2 (promise_on 2 ((1, 9) ∷ []) ∷ promise_on 0 ((1, 8) ∷ []) ∷ []) ≡ record { list = []; marks = (1, 9) ∷ [] }
mark_of_promise = refl
