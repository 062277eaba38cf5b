-- A merge over f = 2 and one with marks, by computing.
use Rattle.std.proofs.Common.{◌≡◌, ℕ, refl, true, false, List, [], ◌∷◌}
use Rattle.std.specs.Prelude.{Some, None}
use Rattle.mk_txn.specs.declared.Value.TheVariants.{Number, Absent}
use Rattle.mk_txn.specs.declared.Vote.TheVariants.{Ok as VoteOk}
use Rattle.mk_txn.specs.declared.Cause.TheVariants.{Epoch as ByEpoch}
use Rattle.mk_txn.specs.declared.Outcome.TheVariants.{Commit, Abort}
use Rattle.mk_txn.specs.declared.Known.TheVariants.{Outcome as KnownOutcome, Absent as KnownAbsent, Forgotten}
use Rattle.mk_txn.specs.MarkMaps.{MarkMap}
use Rattle.mk_txn.specs.Stamps.{zero_stamp}
use Rattle.mk_txn.specs.Transactions.{Transaction}
use Rattle.mk_words.specs.Cells.{settled_cell}
use Rattle.mk_words.specs.declared.Entry.{Entry}
use Rattle.mk_words.specs.KeptOutcomes.{commit_count, abort_count}
use Rattle.mk_words.specs.Bases.{BaseState, empty_base, known, taught_by}
use Rattle.mk_words.specs.Rebuilding.{rebuilt, fits_base}
use Rattle.mk_words.specs.Promises.{PromiseState, can_merge}
use Rattle.mk_words.specs.Merging.{merged}

-- a reader of x that writes y, and a writer of x with an earlier stamp
abbrev reader : Transaction
reader =
    record {
      id = record { client = 1; seq = 1 };
      stamp = record { time = 20; client = 1 };
      reads = record { key = 0; version = zero_stamp; value = Number 0 } ∷ [];
      writes = record { key = 1; value = Number 1 } ∷ [];
    }

abbrev writer : Transaction
writer =
    record {
      id = record { client = 2; seq = 1 };
      stamp = record { time = 10; client = 2 };
      reads = [];
      writes = record { key = 0; value = Number 2 } ∷ [];
    }

abbrev voted : Transaction → Entry
voted txn = record { txn = txn; view = 0; vote = Some VoteOk; accepted = None; last = None }

abbrev accepted : Transaction → Entry
accepted txn = record { txn = txn; view = 0; vote = Some VoteOk; accepted = Some (record { view = 0; outcome = Commit }); last = None }

abbrev final : Transaction → Entry
final txn = record { txn = txn; view = 0; vote = Some VoteOk; accepted = None; last = Some Commit }

abbrev promise : ℕ → List Entry → MarkMap → PromiseState
promise r entries marks = record { replica = r; adopted = 0; base = empty_base; entries = entries; marks = marks }

abbrev promises : List PromiseState
promises = promise 1 (voted reader ∷ []) [] ∷ (promise 0 (voted reader ∷ []) [] ∷ (promise 2 (accepted writer ∷ []) [] ∷ []))

-- the candidate gives way to the accepted commit
pub gives_way : merged 2 1 promises
    ≡ record { list = record { txn = reader; outcome = Abort (ByEpoch 1) } ∷ (record { txn = writer; outcome = Commit } ∷ []); marks = [] }
gives_way = refl

-- alone it commits
pub candidate_commits : merged 2 1 (promise 1 (voted reader ∷ []) [] ∷ (promise 0 (voted reader ∷ []) [] ∷ (promise 2 [] [] ∷ [])))
    ≡ record { list = record { txn = reader; outcome = Commit } ∷ []; marks = [] }
candidate_commits = refl

-- fewer Ok votes than a hint make no candidate
pub no_candidate : merged 2 1 (promise 1 (voted reader ∷ []) [] ∷ (promise 0 [] [] ∷ (promise 2 [] [] ∷ [])))
    ≡ record { list = record { txn = reader; outcome = Abort (ByEpoch 1) } ∷ []; marks = [] }
no_candidate = refl

pub rebuilt_x : rebuilt (merged 2 1 promises) 0 ≡ settled_cell (Number 2) (record { time = 10; client = 2 }) zero_stamp
rebuilt_x = refl

pub rebuilt_y : rebuilt (merged 2 1 promises) 1 ≡ settled_cell (Number 0) zero_stamp zero_stamp
rebuilt_y = refl

-- the leader's promise has to be there
pub leaders_missing : can_merge 1 1 (promise 0 [] [] ∷ (promise 2 [] [] ∷ [])) ≡ false
leaders_missing = refl

-- two transactions of one client, of which the first is covered
abbrev second : Transaction
second =
    record {
      id = record { client = 1; seq = 2 };
      stamp = record { time = 30; client = 1 };
      reads = record { key = 0; version = record { time = 20; client = 1 }; value = Number 1 } ∷ [];
      writes = record { key = 1; value = Absent } ∷ [];
    }

abbrev covering : BaseState
covering = merged 1 1 (promise 1 (final reader ∷ (final second ∷ [])) ((1, 1) ∷ []) ∷ (promise 0 (final reader ∷ (final second ∷ [])) [] ∷ []))

-- the covered transaction stays in the base
pub both_stay : covering
    ≡ record { list = record { txn = reader; outcome = Commit } ∷ (record { txn = second; outcome = Commit } ∷ []); marks = (1, 1) ∷ [] }
both_stay = refl

-- a covered outcome is not counted
pub commits_counted : commit_count (taught_by covering) ≡ 1
commits_counted = refl

pub aborts_counted : abort_count (taught_by covering) ≡ 0
aborts_counted = refl

pub first_forgotten : known covering (record { client = 1; seq = 1 }) ≡ Forgotten
first_forgotten = refl

pub second_known : known covering (record { client = 1; seq = 2 }) ≡ KnownOutcome Commit
second_known = refl

pub third_absent : known covering (record { client = 1; seq = 3 }) ≡ KnownAbsent
third_absent = refl

-- the whole list is rebuilt, and an absent value as any other
pub rebuilt_absent : rebuilt covering 1 ≡ settled_cell Absent (record { time = 30; client = 1 }) zero_stamp
rebuilt_absent = refl

pub rebuilt_read : rebuilt covering 0 ≡ settled_cell (Number 0) zero_stamp (record { time = 30; client = 1 })
rebuilt_read = refl

-- a base with a write of 10.1 and a read of 20.2, and what fits it
abbrev write_of : ℕ → ℕ → Transaction
write_of time client =
    record {
      id = record { client = client; seq = 1 };
      stamp = record { time = time; client = client };
      reads = [];
      writes = record { key = 0; value = Number 5 } ∷ [];
    }

abbrev read_of : ℕ → ℕ → ℕ → Transaction
read_of version time client =
    record {
      id = record { client = client; seq = 1 };
      stamp = record { time = time; client = client };
      reads = record { key = 0; version = record { time = version; client = 1 }; value = Number 5 } ∷ [];
      writes = [];
    }

abbrev read_and_written : BaseState
read_and_written =
    record { list = record { txn = write_of 10 1; outcome = Commit } ∷ (record { txn = read_of 10 20 2; outcome = Commit } ∷ []); marks = [] }

pub rebuilt_both : rebuilt read_and_written 0 ≡ settled_cell (Number 5) (record { time = 10; client = 1 }) (record { time = 20; client = 2 })
rebuilt_both = refl

pub late_write_unfit : fits_base read_and_written (write_of 15 3) ≡ false
late_write_unfit = refl

pub stale_read_unfit : fits_base read_and_written (read_of 0 25 3) ≡ false
stale_read_unfit = refl

pub fresh_read_fits : fits_base read_and_written (read_of 10 25 3) ≡ true
fresh_read_fits = refl
