-- The first check of an attempt that was refused for a reason, in order of round, replica and journal entry.
use Rattle.std.specs.Prelude.{ℕ, ◌+◌, Bool, false, ◌&&◌, List, [], ◌∷◌, Option, Some, None, if◌then◌else◌}
use Rattle.std.specs.Option.{option_or}
use Rattle.mk_txn.specs.declared.Stamp.{Stamp}
use Rattle.mk_txn.specs.declared.Conflict.{Conflict}
use Rattle.mk_txn.specs.Stamps.{same_stamp}
use Rattle.mk_quorum.specs.Sizes.{members}
use Rattle.mk_words.specs.declared.Answer.{Answer}
use Rattle.mk_words.specs.declared.Answer.TheVariants.{Refused}
use Rattle.mk_words.specs.declared.JournalEntry.{JournalEntry}
use Rattle.mk_words.specs.Acts.{is_check_of}
use Rattle.mk_history.specs.declared.RoundLog.{RoundLog}
use Rattle.mk_history.specs.Histories.{History, journal_of}
use Rattle.mk_verdict.specs.Flaws.{first_from}
use Rattle.mk_verdict.specs.Sameness.{same_reason}
use Rattle.mk_past.specs.declared.refusals.CheckPlace.{CheckPlace}

-- the answer refuses with the conflict's reason, and names its stamp
abbrev pub is_refused_by : Conflict → Answer → Bool
is_refused_by conflict (Refused reason stamp) = same_reason reason conflict.reason && same_stamp stamp conflict.stamp
is_refused_by conflict _ = false

-- a check of this stamp was refused so
abbrev pub is_refusal : Stamp → Conflict → JournalEntry → Bool
is_refusal stamp conflict entry = is_check_of stamp entry.act && is_refused_by conflict entry.answer

-- the first such entry of a journal from this number on
abbrev pub refusal_in_journal : Stamp → Conflict → ℕ → ℕ → ℕ → List JournalEntry → Option CheckPlace
refusal_in_journal stamp conflict round replica number [] = None
refusal_in_journal stamp conflict round replica number (entry ∷ entries) =
    if is_refusal stamp conflict entry
    then Some (record { round = round; replica = replica; entry = number })
    else refusal_in_journal stamp conflict round replica (number + 1) entries

-- the first in the journal of the conflict's key at this replica; entries count from 1
abbrev pub refusal_at : Stamp → Conflict → ℕ → RoundLog → ℕ → Option CheckPlace
refusal_at stamp conflict number round replica = refusal_in_journal stamp conflict number replica 1 (journal_of round replica conflict.key)

-- the first of a round, by replica
abbrev pub refusal_in_round : Stamp → Conflict → ℕ → ℕ → RoundLog → Option CheckPlace
refusal_in_round stamp conflict replicas number round = first_from (refusal_at stamp conflict number round) 0 replicas

-- the first of these rounds, the first of which has this number
abbrev pub refusal_in_rounds : Stamp → Conflict → ℕ → ℕ → List RoundLog → Option CheckPlace
refusal_in_rounds stamp conflict replicas number [] = None
refusal_in_rounds stamp conflict replicas number (round ∷ rounds) =
    option_or (refusal_in_round stamp conflict replicas number round) (refusal_in_rounds stamp conflict replicas (number + 1) rounds)

-- the first of a run; rounds count from 1
abbrev pub first_refusal : History → Stamp → Conflict → Option CheckPlace
first_refusal run stamp conflict = refusal_in_rounds stamp conflict (members run.faults) 1 run.rounds
