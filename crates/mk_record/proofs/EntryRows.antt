-- What an entry refuses, by computing.
use Rattle.std.proofs.Common.{◌≡◌, refl, true, false, []}
use Rattle.std.specs.Prelude.{Some, None}
use Rattle.mk_txn.specs.declared.Vote.TheVariants.{Ok as VoteOk}
use Rattle.mk_txn.specs.declared.Outcome.TheVariants.{Commit}
use Rattle.mk_txn.specs.Transactions.{Transaction}
use Rattle.mk_record.specs.declared.RecordError.TheVariants.{Finished, OldView}
use Rattle.mk_words.specs.Entries.{opened, with_vote, with_promise, with_accepted, with_last, may_vote}
use Rattle.mk_record.specs.Entries.{refusal_of}

abbrev txn : Transaction
txn = record { id = record { client = 1; seq = 1 }; stamp = record { time = 10; client = 1 }; reads = []; writes = [] }

-- an accept in view 0 of an entry that promised view 1
pub old_view : refusal_of 0 (with_promise 1 (opened txn)) ≡ Some (OldView 1)
old_view = refl

pub same_view : refusal_of 1 (with_promise 1 (opened txn)) ≡ None
same_view = refl

pub final_first : refusal_of 0 (with_last Commit (with_promise 1 (opened txn))) ≡ Some (Finished Commit)
final_first = refl

pub opened_may_vote : may_vote (opened txn) ≡ true
opened_may_vote = refl

pub voted_once : may_vote (with_vote VoteOk (opened txn)) ≡ false
voted_once = refl

pub accepted_first : may_vote (with_accepted 0 Commit (opened txn)) ≡ false
accepted_first = refl
