-- Which answers are equal.
use Rattle.std.specs.Prelude.{ℕ, Bool, true, false, ◌&&◌, ◌||◌, ◌==◌}
use Rattle.mk_txn.specs.declared.Reason.{Reason}
use Rattle.mk_txn.specs.declared.Reason.TheVariants.{ReadStale, ReadPending, WriteLate, WritePending}
use Rattle.mk_txn.specs.Stamps.{same_stamp}
use Rattle.mk_txn.specs.Transactions.{same_value}
use Rattle.mk_words.specs.declared.Answer.{Answer}
use Rattle.mk_words.specs.declared.Answer.TheVariants.{Version, Okay, Refused, Done}
use Rattle.mk_words.specs.declared.GlobalLine.{GlobalLine}
use Rattle.mk_words.specs.declared.GlobalAnswer.{GlobalAnswer}
use Rattle.mk_words.specs.declared.GlobalAnswer.TheVariants.{Ok as GlobalDone, Counts, Entered, Unasked, Unmade, Lacking, Old, WordFault, Short}
use Rattle.mk_words.specs.Acts.{same_act}
use Rattle.mk_model.specs.EpochState.{EpochState}
use Rattle.mk_model.specs.GlobalAnswers.{global_answer, writes_word}
use Rattle.mk_history.specs.Matching.{Turn}

-- whether two reasons are equal
abbrev pub same_reason : Reason → Reason → Bool
same_reason ReadStale ReadStale = true
same_reason ReadPending ReadPending = true
same_reason WriteLate WriteLate = true
same_reason WritePending WritePending = true
same_reason _ _ = false

-- whether two answers of a cell are equal
abbrev pub same_answer : Answer → Answer → Bool
same_answer (Version version value) (Version version' value') = same_stamp version version' && same_value value value'
same_answer Okay Okay = true
same_answer (Refused reason stamp) (Refused reason' stamp') = same_reason reason reason' && same_stamp stamp stamp'
same_answer Done Done = true
same_answer _ _ = false

-- whether two acts are equal, and so are their answers
abbrev pub same_turn : Turn → Turn → Bool
same_turn a b = same_act a.act b.act && same_answer a.answer b.answer

-- whether two answers of a global line are equal
abbrev pub same_global : GlobalAnswer → GlobalAnswer → Bool
same_global GlobalDone GlobalDone = true
same_global (Counts commits aborts) (Counts commits' aborts') = commits == commits' && aborts == aborts'
same_global (Entered k) (Entered k') = k == k'
same_global Unasked Unasked = true
same_global Unmade Unmade = true
same_global Lacking Lacking = true
same_global (Old word) (Old word') = word == word'
same_global WordFault WordFault = true
same_global (Short k) (Short k') = k == k'
same_global _ _ = false

-- the answer is the one that the state gives, or a failing word where the word would have been written
abbrev pub may_answer : EpochState → GlobalLine → GlobalAnswer → Bool
may_answer state line answer =
    same_global answer (global_answer state line)
    || (same_global answer WordFault && writes_word line && same_global (global_answer state line) GlobalDone)
