-- Outcomes that are kept, in order of attempt, and the marks up to which they are forgotten.
use Rattle.std.specs.Prelude.{◌≡◌, ℕ, true, false, not, List, [], ◌∷◌, filter, count_by, Option, Some, None, if◌then◌else◌}
use Rattle.mk_lists.specs.Among.{Each}
use Rattle.mk_txn.specs.declared.TxnId.{TxnId}
use Rattle.mk_txn.specs.declared.Outcome.{Outcome}
use Rattle.mk_txn.specs.declared.Known.{Known}
use Rattle.mk_txn.specs.declared.Known.TheVariants.{Outcome as KnownOutcome, Absent, Forgotten}
use Rattle.mk_txn.specs.Transactions.{same_id, id_before}
use Rattle.mk_txn.specs.Outcomes.{is_commit}
use Rattle.mk_txn.specs.MarkMaps.{MarkMap, covers, joined_marks}

-- attempts with their outcomes
abbrev pub Outcomes : Type 0
Outcomes = List (TxnId × Outcome)

-- outcomes in order of number, and marks
pub record KeptOutcomes : Type 0 where
  pub outcomes : Outcomes
  pub marks : MarkMap

-- nothing kept, and nothing forgotten
abbrev pub nothing_kept : KeptOutcomes
nothing_kept = record { outcomes = []; marks = [] }

-- each attempt is before all later ones
abbrev pub AreInIdOrder : Outcomes → Type 0
AreInIdOrder [] = Unit {0}
AreInIdOrder (first ∷ rest) = Each (λ later. id_before first.0 later.0 ≡ true) rest × AreInIdOrder rest

-- what is kept stands in order, and none of it is covered
pub record IsKept (kept : KeptOutcomes) : Type 0 where
  pub in_order : AreInIdOrder kept.outcomes
  pub uncovered : Each (λ outcome. covers kept.marks outcome.0 ≡ false) kept.outcomes

-- the outcome at its place, unless the attempt has one already
abbrev pub put_outcome : TxnId → Outcome → Outcomes → Outcomes
put_outcome id outcome [] = (id, outcome) ∷ []
put_outcome id outcome (first ∷ rest) =
    if id_before first.0 id then first ∷ put_outcome id outcome rest else (if same_id first.0 id then first ∷ rest else (id, outcome) ∷ first ∷ rest)

-- one more outcome, unless its attempt is covered
abbrev pub with_outcome : TxnId → Outcome → KeptOutcomes → KeptOutcomes
with_outcome id outcome kept =
    record kept { outcomes = if covers kept.marks id then kept.outcomes else put_outcome id outcome kept.outcomes }

-- those that the marks do not cover
abbrev pub not_covered : MarkMap → Outcomes → Outcomes
not_covered marks outcomes = filter (λ outcome. not (covers marks outcome.0)) outcomes

-- the marks raised by more, and what they cover forgotten
abbrev pub covered_by : MarkMap → KeptOutcomes → KeptOutcomes
covered_by more kept =
    record { outcomes = not_covered (joined_marks kept.marks more) kept.outcomes; marks = joined_marks kept.marks more }

-- the outcome of an attempt, if there is one
abbrev pub outcome_of : TxnId → Outcomes → Option Outcome
outcome_of id [] = None
outcome_of id (first ∷ rest) = if same_id first.0 id then Some first.1 else outcome_of id rest

-- what an outcome, or none, tells of its attempt
abbrev pub known_outcome : Option Outcome → Known
known_outcome None = Absent
known_outcome (Some outcome) = KnownOutcome outcome

-- what is known of an attempt: forgotten where it is covered, else its outcome where there is one
abbrev pub known_of : KeptOutcomes → TxnId → Known
known_of kept id = if covers kept.marks id then Forgotten else known_outcome (outcome_of id kept.outcomes)

-- how many commits are kept
abbrev pub commit_count : Outcomes → ℕ
commit_count outcomes = count_by (λ outcome. is_commit outcome.1) outcomes

-- how many aborts are kept
abbrev pub abort_count : Outcomes → ℕ
abort_count outcomes = count_by (λ outcome. not (is_commit outcome.1)) outcomes
