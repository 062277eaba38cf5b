-- Validations of a transaction that reads two keys and writes one, by computing.
use Rattle.std.proofs.Common.{◌≡◌, refl, true, false, List, [], ◌∷◌}
use Rattle.std.specs.Prelude.{Option, Some, None}
use Rattle.mk_txn.specs.declared.Stamp.{Stamp}
use Rattle.mk_txn.specs.declared.Value.TheVariants.{Number, Absent}
use Rattle.mk_txn.specs.declared.Reason.TheVariants.{ReadPending, WriteLate}
use Rattle.mk_txn.specs.declared.Cause.TheVariants.{Takeover as ByTakeover}
use Rattle.mk_txn.specs.declared.Vote.TheVariants.{Ok as VoteOk, Abort as VoteAbort}
use Rattle.mk_txn.specs.declared.Outcome.TheVariants.{Commit, Abort}
use Rattle.mk_txn.specs.Stamps.{zero_stamp}
use Rattle.mk_txn.specs.Transactions.{Transaction}
use Rattle.mk_words.specs.declared.Act.TheVariants.{CheckRead, CheckWrite, CommitRead, CommitWrite, ReleaseRead, ReleaseWrite}
use Rattle.mk_words.specs.declared.Answer.{Answer}
use Rattle.mk_words.specs.declared.Answer.TheVariants.{Okay, Refused, Done}
use Rattle.mk_words.specs.Checks.{KeyAct, finish_acts}
use Rattle.mk_words.specs.Validations.{ValidationState, validation_of, next_act, after_answer, vote_so_far}

abbrev ts : Stamp
ts = record { time = 10; client = 1 }

abbrev other : Stamp
other = record { time = 9; client = 2 }

abbrev txn : Transaction
txn =
    record {
      id = record { client = 1; seq = 1 };
      stamp = ts;
      reads = record { key = 3; version = zero_stamp; value = Number 0 } ∷ (record { key = 4; version = zero_stamp; value = Absent } ∷ []);
      writes = record { key = 3; value = Absent } ∷ [];
    }

-- the acts that are next, answer by answer, and then the vote
abbrev acts : ValidationState → List Answer → List (Option KeyAct)
acts state [] = next_act state ∷ []
acts state (answer ∷ answers) = next_act state ∷ acts (after_answer state answer) answers

abbrev after : ValidationState → List Answer → ValidationState
after state [] = state
after state (answer ∷ answers) = after (after_answer state answer) answers

pub all_pass : acts (validation_of txn) (Okay ∷ (Okay ∷ (Okay ∷ [])))
    ≡ Some (3, CheckRead ts zero_stamp) ∷ (Some (4, CheckRead ts zero_stamp) ∷ (Some (3, CheckWrite ts) ∷ (None ∷ [])))
all_pass = refl

pub all_pass_vote : vote_so_far (after (validation_of txn) (Okay ∷ (Okay ∷ (Okay ∷ [])))) ≡ Some VoteOk
all_pass_vote = refl

-- the checks that were passed are given up in their order
pub write_refused : acts (validation_of txn) (Okay ∷ (Okay ∷ (Refused WriteLate other ∷ (Done ∷ (Done ∷ [])))))
    ≡ Some (3, CheckRead ts zero_stamp) ∷ (Some (4, CheckRead ts zero_stamp) ∷ (Some (3, CheckWrite ts)
    ∷ (Some (3, ReleaseRead ts) ∷ (Some (4, ReleaseRead ts) ∷ (None ∷ [])))))
write_refused = refl

pub no_vote_before : vote_so_far (after (validation_of txn) (Okay ∷ (Okay ∷ (Refused WriteLate other ∷ (Done ∷ []))))) ≡ None
no_vote_before = refl

pub write_refused_vote : vote_so_far (after (validation_of txn) (Okay ∷ (Okay ∷ (Refused WriteLate other ∷ (Done ∷ (Done ∷ []))))))
    ≡ Some (VoteAbort (record { key = 3; reason = WriteLate; stamp = other }))
write_refused_vote = refl

-- a first check that is refused leaves nothing to give up
pub read_refused : vote_so_far (after (validation_of txn) (Refused ReadPending other ∷ []))
    ≡ Some (VoteAbort (record { key = 3; reason = ReadPending; stamp = other }))
read_refused = refl

pub commits : finish_acts txn Commit false ≡ (3, CommitRead ts) ∷ ((4, CommitRead ts) ∷ ((3, CommitWrite ts Absent) ∷ []))
commits = refl

pub aborts : finish_acts txn (Abort (ByTakeover 1)) true ≡ (3, ReleaseRead ts) ∷ ((4, ReleaseRead ts) ∷ ((3, ReleaseWrite ts) ∷ []))
aborts = refl

pub aborts_after_refusal : finish_acts txn (Abort (ByTakeover 1)) false ≡ []
aborts_after_refusal = refl
