-- What a base is composed of: where the outcome of each attempt comes from, and which commits fit together. All of it is
-- said of the merge of any promises, of different replicas where that is needed.
use Rattle.std.specs.Prelude.{◌≡◌, ◌≢◌, ◌⊎◌, ◌<◌, ◌≤◌, ℕ, Bool, true, false, List, map, Option, Some, None, is_some}
use Rattle.mk_lists.specs.Among.{Among, Each, AllDistinct}
use Rattle.mk_txn.specs.declared.TxnId.{TxnId}
use Rattle.mk_txn.specs.declared.Accepted.{Accepted}
use Rattle.mk_txn.specs.declared.Cause.{Cause}
use Rattle.mk_txn.specs.declared.Cause.TheVariants.{Epoch as ByEpoch}
use Rattle.mk_txn.specs.declared.Outcome.{Outcome}
use Rattle.mk_txn.specs.declared.Outcome.TheVariants.{Commit, Abort}
use Rattle.mk_txn.specs.Clashes.{conflict}
use Rattle.mk_txn.specs.Outcomes.{is_ok_vote}
use Rattle.mk_txn.specs.Transactions.{Transaction}
use Rattle.mk_words.specs.declared.Entry.{Entry}
use Rattle.mk_words.specs.Entries.{entry_of}
use Rattle.mk_quorum.specs.Sizes.{members, hint_of}
use Rattle.mk_quorum.specs.Slots.{passes}
use Rattle.mk_words.specs.declared.Fated.{Fated}
use Rattle.mk_words.specs.Bases.{IsInIdOrder, fate_in}
use Rattle.mk_words.specs.Promises.{PromiseState, base_of}
use Rattle.mk_words.specs.Merging.{merged_from, ok_reports, reported}

-- the promises are of different replicas, each with a number below that of all
pub record AreOfReplicas (f : ℕ) (promises : List PromiseState) : Type 0 where
  pub different : AllDistinct (map (λ p. p.replica) promises)
  pub within : Each (λ p. p.replica < members f) promises

-- one of the promises hands in an entry of the attempt
pub record Report (promises : List PromiseState) (id : TxnId) : Type 0 where
  pub promise : PromiseState
  pub entry : Entry
  pub given : Among promise promises
  pub handed : entry_of id promise.entries ≡ Some entry

-- the outcome of the attempt in the base that is made
abbrev pub made_fate : ℕ → ℕ → List PromiseState → TxnId → Option Outcome
made_fate f epoch promises id = fate_in id (merged_from f epoch promises).list

-- the attempt is not in the base of the promises
abbrev pub IsNew : List PromiseState → TxnId → Type 0
IsNew promises id = fate_in id (base_of promises).list ≡ None

-- no promise reports a final outcome of the attempt
abbrev pub IsUnfinished : List PromiseState → TxnId → Type 0
IsUnfinished promises id = (report : Report promises id) → report.entry.last ≡ None

-- no promise reports an accepted outcome of the attempt
abbrev pub IsUnaccepted : List PromiseState → TxnId → Type 0
IsUnaccepted promises id = (report : Report promises id) → report.entry.accepted ≡ None

-- the attempt is new, and what was reported of it settles no outcome
pub record IsUnsettled (promises : List PromiseState) (id : TxnId) : Type 0 where
  pub new : IsNew promises id
  pub unfinished : IsUnfinished promises id
  pub unaccepted : IsUnaccepted promises id

-- a candidate: an unsettled attempt with a hint of Ok votes
pub record IsCandidate (f : ℕ) (promises : List PromiseState) (id : TxnId) : Type 0 where
  pub unsettled : IsUnsettled promises id
  pub hinted : hint_of f ≤ ok_reports f promises id

-- what the base of the promises says, the base that is made says too
abbrev pub OldFatesStay : ℕ → ℕ → List PromiseState → Type 0
OldFatesStay f epoch promises =
    (id : TxnId) (outcome : Outcome) → fate_in id (base_of promises).list ≡ Some outcome → made_fate f epoch promises id ≡ Some outcome

-- a new attempt of which a final outcome was reported has such an outcome
abbrev pub FinalFatesStay : ℕ → ℕ → List PromiseState → Type 0
FinalFatesStay f epoch promises =
    AreOfReplicas f promises → (id : TxnId) → IsNew promises id →
    (report : Report promises id) (outcome : Outcome) → report.entry.last ≡ Some outcome →
    (source : Report promises id) × (kept : Outcome) × (source.entry.last ≡ Some kept) × (made_fate f epoch promises id ≡ Some kept)

-- else one of which an accepted outcome was reported has one that was accepted in the highest view
abbrev pub AcceptedFatesStay : ℕ → ℕ → List PromiseState → Type 0
AcceptedFatesStay f epoch promises =
    AreOfReplicas f promises → (id : TxnId) → IsNew promises id → IsUnfinished promises id →
    (report : Report promises id) (accepted : Accepted) → report.entry.accepted ≡ Some accepted →
    (source : Report promises id) × (kept : Accepted) × (source.entry.accepted ≡ Some kept)
    × ((other : Report promises id) (lower : Accepted) → other.entry.accepted ≡ Some lower → lower.view ≤ kept.view)
    × (made_fate f epoch promises id ≡ Some kept.outcome)

-- else a candidate commits or is rejected, and whatever else was reported is rejected: it aborts by this epoch
abbrev pub UnsettledFates : ℕ → ℕ → List PromiseState → Type 0
UnsettledFates f epoch promises =
    (id : TxnId) → IsUnsettled promises id → Report promises id →
    ((made_fate f epoch promises id ≡ Some Commit) × (hint_of f ≤ ok_reports f promises id))
    ⊎ (made_fate f epoch promises id ≡ Some (Abort (ByEpoch epoch)))

-- there is nothing else in it
abbrev pub NothingElse : ℕ → ℕ → List PromiseState → Type 0
NothingElse f epoch promises =
    (id : TxnId) → is_some (made_fate f epoch promises id) ≡ true →
    (is_some (fate_in id (base_of promises).list) ≡ true) ⊎ Report promises id

-- each attempt stands in it once, in order of number
abbrev pub StandsInOrder : ℕ → ℕ → List PromiseState → Type 0
StandsInOrder f epoch promises = IsInIdOrder (merged_from f epoch promises).list

-- a candidate that is rejected conflicts with a commit
abbrev pub RejectedConflict : ℕ → ℕ → List PromiseState → Type 0
RejectedConflict f epoch promises =
    (rejected : Fated) (cause : Cause) → Among rejected (merged_from f epoch promises).list → IsCandidate f promises rejected.txn.id →
    rejected.outcome ≡ Abort cause →
    (commit : Fated) × Among commit (merged_from f epoch promises).list × (commit.outcome ≡ Commit) × (conflict rejected.txn commit.txn ≡ true)

-- a candidate that commits conflicts with no other commit
abbrev pub CandidatesFit : ℕ → ℕ → List PromiseState → Type 0
CandidatesFit f epoch promises =
    (taken other : Fated) → Among taken (merged_from f epoch promises).list → IsCandidate f promises taken.txn.id → taken.outcome ≡ Commit →
    Among other (merged_from f epoch promises).list → other.outcome ≡ Commit → taken.txn.id ≢ other.txn.id →
    conflict taken.txn other.txn ≡ false

-- the replica of this number reported an Ok vote for the attempt
abbrev pub reported_ok : List PromiseState → TxnId → ℕ → Bool
reported_ok promises id r = passes (λ e. passes is_ok_vote e.vote) (reported promises id r)

-- what counts as a report of an Ok vote by a replica
abbrev pub OkReportsMean : ℕ → List PromiseState → Type 0
OkReportsMean f promises =
    AreOfReplicas f promises → (id : TxnId) →
    ((r : ℕ) → reported_ok promises id r ≡ true →
    (report : Report promises id) × (report.promise.replica ≡ r) × (passes is_ok_vote report.entry.vote ≡ true))
    × ((report : Report promises id) → passes is_ok_vote report.entry.vote ≡ true → reported_ok promises id report.promise.replica ≡ true)

-- conflict does not go by the order of the two
abbrev pub ConflictIsMutual : Type 0
ConflictIsMutual = (a b : Transaction) → conflict a b ≡ conflict b a
