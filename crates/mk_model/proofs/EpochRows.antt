-- Epoch changes of three replicas, by computing.
use Rattle.std.proofs.Common.{◌≡◌, List, [], ◌∷◌, refl}
use Rattle.std.specs.Prelude.{Some, None}
use Rattle.mk_txn.specs.declared.Value.TheVariants.{Number}
use Rattle.mk_txn.specs.declared.Vote.TheVariants.{Ok as VoteOk}
use Rattle.mk_txn.specs.declared.Outcome.TheVariants.{Commit}
use Rattle.mk_txn.specs.MarkMaps.{MarkMap}
use Rattle.mk_txn.specs.Transactions.{Transaction}
use Rattle.mk_words.specs.declared.Entry.{Entry}
use Rattle.mk_words.specs.declared.GlobalLine.{GlobalLine}
use Rattle.mk_words.specs.declared.GlobalLine.TheVariants.{Wipe, Ask, Promise, Merge, Adopt, Enter}
use Rattle.mk_words.specs.declared.GlobalAnswer.{GlobalAnswer}
use Rattle.mk_words.specs.declared.GlobalAnswer.TheVariants.{Ok as Done, Counts, Entered, Unasked, Unmade, Lacking, Old, Short}
use Rattle.mk_model.specs.EpochState.{EpochState, first_epochs}
use Rattle.mk_model.specs.GlobalAnswers.{global_answer}
use Rattle.mk_model.specs.GlobalSteps.{HandedIn, nothing_handed, global_outcome}

-- the answers to lines in turn, where each promise hands this in until an epoch was adopted
abbrev answers : HandedIn → EpochState → List GlobalLine → List GlobalAnswer
answers handed state [] = []
answers handed state (line ∷ lines) =
    global_answer state line
    ∷ answers (left_of line) (global_outcome state handed line (global_answer state line)) lines
  where
    left_of : GlobalLine → HandedIn
    left_of (Adopt epoch r) = nothing_handed
    left_of _ = handed

abbrev answers_of : List GlobalLine → List GlobalAnswer
answers_of lines = answers nothing_handed (first_epochs 1) lines

pub twice_promised : answers_of (Ask 1 ∷ (Promise 1 1 ∷ (Promise 1 1 ∷ (Merge 1 ∷ [])))) ≡ Done ∷ (Done ∷ (Old 1 ∷ (Short 1 ∷ [])))
twice_promised = refl

pub wiped_lacks : answers_of (Ask 1 ∷ (Wipe 1 ∷ (Promise 1 1 ∷ []))) ≡ Done ∷ (Done ∷ (Lacking ∷ []))
wiped_lacks = refl

pub not_made : answers_of (Adopt 1 2 ∷ []) ≡ Unmade ∷ []
not_made = refl

pub not_asked : answers_of (Promise 2 0 ∷ []) ≡ Unasked ∷ []
not_asked = refl

-- the adopter that was wiped does not adopt again, and counts all the same
pub readopted : answers_of (Ask 1 ∷ (Promise 1 1 ∷ (Promise 1 0 ∷ (Merge 1 ∷ (Adopt 1 2 ∷ (Wipe 2 ∷ (Adopt 1 2 ∷ (Adopt 1 0 ∷ (Enter 1 ∷ [])))))))))
    ≡ Done ∷ (Done ∷ (Done ∷ (Counts 0 0 ∷ (Done ∷ (Done ∷ (Old 1 ∷ (Done ∷ (Entered 2 ∷ []))))))))
readopted = refl

-- lines that come too early
pub early : answers_of (Enter 1 ∷ (Adopt 1 0 ∷ (Merge 1 ∷ (Promise 1 0 ∷ [])))) ≡ Short 0 ∷ (Unmade ∷ (Short 0 ∷ (Unasked ∷ [])))
early = refl

-- without the leader's promise a merge is short of it alone
pub leader_missing : answers_of (Ask 1 ∷ (Promise 1 0 ∷ (Promise 1 2 ∷ (Merge 1 ∷ [])))) ≡ Done ∷ (Done ∷ (Done ∷ (Short 2 ∷ [])))
leader_missing = refl

pub leader_wiped : answers_of (Ask 1 ∷ (Promise 1 1 ∷ (Promise 1 0 ∷ (Wipe 1 ∷ (Merge 1 ∷ []))))) ≡ Done ∷ (Done ∷ (Done ∷ (Done ∷ (Lacking ∷ []))))
leader_wiped = refl

pub leader_went_on : answers_of (Ask 1 ∷ (Promise 1 1 ∷ (Promise 1 0 ∷ (Ask 2 ∷ (Promise 2 1 ∷ (Merge 1 ∷ []))))))
    ≡ Done ∷ (Done ∷ (Done ∷ (Done ∷ (Done ∷ (Old 2 ∷ [])))))
leader_went_on = refl

pub adopted_without_promise : answers_of (Ask 1 ∷ (Promise 1 1 ∷ (Promise 1 0 ∷ (Merge 1 ∷ (Adopt 1 2 ∷ (Promise 1 2 ∷ (Adopt 1 2 ∷ [])))))))
    ≡ Done ∷ (Done ∷ (Done ∷ (Counts 0 0 ∷ (Done ∷ (Old 1 ∷ (Old 1 ∷ []))))))
adopted_without_promise = refl

pub promiser_wiped : answers_of (Ask 1 ∷ (Promise 1 1 ∷ (Promise 1 0 ∷ (Merge 1 ∷ (Wipe 0 ∷ (Adopt 1 0 ∷ []))))))
    ≡ Done ∷ (Done ∷ (Done ∷ (Counts 0 0 ∷ (Done ∷ (Old 1 ∷ [])))))
promiser_wiped = refl

-- a transaction that all three replicas committed
abbrev txn : Transaction
txn =
    record {
      id = record { client = 1; seq = 1 };
      stamp = record { time = 10; client = 1 };
      reads = [];
      writes = record { key = 0; value = Number 5 } ∷ [];
    }

abbrev final : Transaction → Entry
final t = record { txn = t; view = 0; vote = Some VoteOk; accepted = None; last = Some Commit }

abbrev committed : HandedIn
committed = record { entries = final txn ∷ []; marks = [] }

abbrev answers_with : HandedIn → List GlobalLine → List GlobalAnswer
answers_with handed lines = answers handed (first_epochs 1) lines

-- a base that was made answers with the same counts, whatever was wiped since
pub merged_again : answers_with committed (Ask 1 ∷ (Promise 1 1 ∷ (Promise 1 0 ∷ (Merge 1 ∷ (Wipe 1 ∷ (Merge 1 ∷ []))))))
    ≡ Done ∷ (Done ∷ (Done ∷ (Counts 1 0 ∷ (Done ∷ (Counts 1 0 ∷ [])))))
merged_again = refl

-- a replica that was wiped is readmitted by the next epoch, and by a later one again
pub readmitted :
    answers_with committed
    (Wipe 2 ∷ (Ask 1 ∷ (Promise 1 1 ∷ (Promise 1 0 ∷ (Promise 1 2 ∷ (Merge 1 ∷ (Adopt 1 0 ∷ (Adopt 1 1 ∷ (Adopt 1 2 ∷ (Enter 1
    ∷ (Wipe 2 ∷ (Adopt 1 2 ∷ (Ask 3 ∷ (Promise 3 0 ∷ (Promise 3 1 ∷ (Merge 3 ∷ (Adopt 3 0 ∷ (Adopt 3 1 ∷ (Adopt 3 2 ∷ (Enter 3 ∷ []))))))))))))))))))))
    ≡ Done ∷ (Done ∷ (Done ∷ (Done ∷ (Lacking ∷ (Counts 1 0 ∷ (Done ∷ (Done ∷ (Done ∷ (Entered 3
    ∷ (Done ∷ (Old 1 ∷ (Done ∷ (Done ∷ (Done ∷ (Counts 1 0 ∷ (Done ∷ (Done ∷ (Done ∷ (Entered 3 ∷ [])))))))))))))))))))
readmitted = refl

-- an epoch that was superseded is entered all the same
pub superseded :
    answers_with committed
    (Ask 1 ∷ (Promise 1 1 ∷ (Promise 1 0 ∷ (Merge 1 ∷ (Adopt 1 0 ∷ (Adopt 1 1 ∷ (Ask 2 ∷ (Promise 2 2 ∷ (Promise 2 0 ∷ (Merge 2
    ∷ (Adopt 2 2 ∷ (Adopt 2 0 ∷ (Adopt 2 1 ∷ (Enter 1 ∷ (Enter 2 ∷ (Enter 2 ∷ []))))))))))))))))
    ≡ Done ∷ (Done ∷ (Done ∷ (Counts 1 0 ∷ (Done ∷ (Done ∷ (Done ∷ (Done ∷ (Done ∷ (Counts 1 0
    ∷ (Done ∷ (Done ∷ (Done ∷ (Entered 2 ∷ (Entered 3 ∷ (Entered 3 ∷ [])))))))))))))))
superseded = refl

-- two transactions of one client, of which the first is covered
abbrev second : Transaction
second =
    record {
      id = record { client = 1; seq = 2 };
      stamp = record { time = 20; client = 1 };
      reads = [];
      writes = record { key = 1; value = Number 6 } ∷ [];
    }

abbrev both : MarkMap → HandedIn
both marks = record { entries = final txn ∷ (final second ∷ []); marks = marks }

pub covered_not_counted : answers_with (both ((1, 1) ∷ [])) (Ask 1 ∷ (Promise 1 1 ∷ (Promise 1 0 ∷ (Merge 1 ∷ []))))
    ≡ Done ∷ (Done ∷ (Done ∷ (Counts 1 0 ∷ [])))
covered_not_counted = refl

pub without_marks : answers_with (both []) (Ask 1 ∷ (Promise 1 1 ∷ (Promise 1 0 ∷ (Merge 1 ∷ [])))) ≡ Done ∷ (Done ∷ (Done ∷ (Counts 2 0 ∷ [])))
without_marks = refl
