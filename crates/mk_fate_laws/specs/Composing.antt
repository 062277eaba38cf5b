-- How an attempt gets its outcome in a base, in terms of what the replicas have of it whose promises count.
use Rattle.std.specs.Prelude.{◌≡◌, ◌⊎◌, ◌<◌, ◌≤◌, ℕ, Bool, true, false, ◌&&◌, ◌==◌, List, Option, Some, None}
use Rattle.std.specs.List.{list_any}
use Rattle.mk_lists.specs.Among.{Among}
use Rattle.mk_txn.specs.declared.TxnId.{TxnId}
use Rattle.mk_txn.specs.declared.Accepted.{Accepted}
use Rattle.mk_txn.specs.declared.Cause.TheVariants.{Epoch as ByEpoch}
use Rattle.mk_txn.specs.declared.Outcome.{Outcome}
use Rattle.mk_txn.specs.declared.Outcome.TheVariants.{Commit, Abort}
use Rattle.mk_txn.specs.Clashes.{conflict}
use Rattle.mk_txn.specs.Outcomes.{is_ok_vote}
use Rattle.mk_words.specs.declared.Entry.{Entry}
use Rattle.mk_words.specs.Entries.{entry_of}
use Rattle.mk_quorum.specs.Counts.{count_below}
use Rattle.mk_quorum.specs.Sizes.{members, hint_of}
use Rattle.mk_quorum.specs.Slots.{passes}
use Rattle.mk_words.specs.declared.Fated.{Fated}
use Rattle.mk_words.specs.Bases.{fate_in}
use Rattle.mk_words.specs.Promises.{PromiseState, base_of}
use Rattle.mk_words.specs.Merging.{merged_from}
use Rattle.mk_merge_laws.specs.Composition.{AreOfReplicas, Report, IsNew, made_fate}

-- one of the promises is of the replica of this number
abbrev pub has_promise : List PromiseState → ℕ → Bool
has_promise promises r = list_any (λ p. p.replica == r) promises

-- what each replica has of the attempt, its promise hands in
abbrev pub AreHandedIn : List PromiseState → TxnId → (ℕ → Option Entry) → Type 0
AreHandedIn promises id has = (p : PromiseState) → Among p promises → entry_of id p.entries ≡ has p.replica

-- the replica counts, and has this entry of the attempt
abbrev pub Counts : List PromiseState → (ℕ → Option Entry) → ℕ → Entry → Type 0
Counts promises has r entry = (has_promise promises r ≡ true) × (has r ≡ Some entry)

-- the entry has an Ok vote
abbrev pub is_ok_entry : Entry → Bool
is_ok_entry entry = passes is_ok_vote entry.vote

-- how many of those that count voted Ok for the attempt
abbrev pub counted_oks : ℕ → List PromiseState → (ℕ → Option Entry) → ℕ
counted_oks f promises has = count_below (members f) (λ r. passes is_ok_entry (has r) && has_promise promises r)

-- none that counts has a final outcome of the attempt, or an accepted one
abbrev pub IsUnfinishedAt : List PromiseState → (ℕ → Option Entry) → Type 0
IsUnfinishedAt promises has = (r : ℕ) (entry : Entry) → Counts promises has r entry → entry.last ≡ None

abbrev pub IsUnacceptedAt : List PromiseState → (ℕ → Option Entry) → Type 0
IsUnacceptedAt promises has = (r : ℕ) (entry : Entry) → Counts promises has r entry → entry.accepted ≡ None

-- no outcome is settled by what they have
pub record IsOpen (promises : List PromiseState) (has : ℕ → Option Entry) : Type 0 where
  pub unfinished : IsUnfinishedAt promises has
  pub unaccepted : IsUnacceptedAt promises has

-- one of them has this final outcome, and so has the base
pub record IsFinal (f epoch : ℕ) (promises : List PromiseState) (id : TxnId) (has : ℕ → Option Entry) : Type 0 where
  pub replica : ℕ
  pub entry : Entry
  pub counts : Counts promises has replica entry
  pub outcome : Outcome
  pub final : entry.last ≡ Some outcome
  pub fate : made_fate f epoch promises id ≡ Some outcome

-- none has one, one has this accepted outcome in the highest view of all, and so has the base
pub record IsAccepted (f epoch : ℕ) (promises : List PromiseState) (id : TxnId) (has : ℕ → Option Entry) : Type 0 where
  pub unfinished : IsUnfinishedAt promises has
  pub replica : ℕ
  pub entry : Entry
  pub counts : Counts promises has replica entry
  pub kept : Accepted
  pub accepted : entry.accepted ≡ Some kept
  pub highest : (r : ℕ) (other : Entry) (lower : Accepted) → Counts promises has r other → other.accepted ≡ Some lower → lower.view ≤ kept.view
  pub fate : made_fate f epoch promises id ≡ Some kept.outcome

-- a candidate that conflicts with a commit of the base
pub record IsRejected (f epoch : ℕ) (promises : List PromiseState) (id : TxnId) (has : ℕ → Option Entry) : Type 0 where
  pub open_still : IsOpen promises has
  pub hinted : hint_of f ≤ counted_oks f promises has
  pub fate : made_fate f epoch promises id ≡ Some (Abort (ByEpoch epoch))
  pub rejected : Fated
  pub rejected_there : Among rejected (merged_from f epoch promises).list
  pub of_attempt : rejected.txn.id ≡ id
  pub commit : Fated
  pub commit_there : Among commit (merged_from f epoch promises).list
  pub commits : commit.outcome ≡ Commit
  pub in_conflict : conflict rejected.txn commit.txn ≡ true

-- too few Ok votes: it aborts, or the base does not list it
pub record IsDropped (f epoch : ℕ) (promises : List PromiseState) (id : TxnId) (has : ℕ → Option Entry) : Type 0 where
  pub open_still : IsOpen promises has
  pub few : counted_oks f promises has < hint_of f
  pub fate : (made_fate f epoch promises id ≡ None) ⊎ (made_fate f epoch promises id ≡ Some (Abort (ByEpoch epoch)))

-- the ways to an outcome
pub data Composed (f epoch : ℕ) (promises : List PromiseState) (id : TxnId) (has : ℕ → Option Entry) : Type 0 where
  Finally : IsFinal f epoch promises id has → Composed f epoch promises id has
  ByAcceptance : IsAccepted f epoch promises id has → Composed f epoch promises id has
  Taken : IsOpen promises has → hint_of f ≤ counted_oks f promises has → made_fate f epoch promises id ≡ Some Commit → Composed f epoch promises id has
  Rejected : IsRejected f epoch promises id has → Composed f epoch promises id has
  Dropped : IsDropped f epoch promises id has → Composed f epoch promises id has

-- an attempt that the base of the promises does not have gets its outcome in one of these ways
abbrev pub OutcomesAreComposed : Type 0
OutcomesAreComposed =
    (f epoch : ℕ) (promises : List PromiseState) → AreOfReplicas f promises → (id : TxnId) → IsNew promises id →
    (has : ℕ → Option Entry) → AreHandedIn promises id has → Composed f epoch promises id has

-- and where it was taken it conflicts with no commit of the base that is made
abbrev pub TakenFit : Type 0
TakenFit =
    (f epoch : ℕ) (promises : List PromiseState) → AreOfReplicas f promises → (id : TxnId) → IsNew promises id →
    (has : ℕ → Option Entry) → AreHandedIn promises id has → IsOpen promises has → hint_of f ≤ counted_oks f promises has →
    (taken other : Fated) → Among taken (merged_from f epoch promises).list → taken.txn.id ≡ id → taken.outcome ≡ Commit →
    Among other (merged_from f epoch promises).list → other.outcome ≡ Commit → conflict taken.txn other.txn ≡ false

-- what commits in a base commits in the one that it was built on, or a promise handed it in
abbrev pub CommitsComeFrom : Type 0
CommitsComeFrom =
    (f epoch : ℕ) (promises : List PromiseState) (id : TxnId) → made_fate f epoch promises id ≡ Some Commit →
    (fate_in id (base_of promises).list ≡ Some Commit) ⊎ (IsNew promises id × Report promises id)

-- each member of a base has there what the base says of its attempt, and what a base says a member says
pub record MembersSay (f epoch : ℕ) (promises : List PromiseState) : Type 0 where
  pub said : (member : Fated) → Among member (merged_from f epoch promises).list → made_fate f epoch promises member.txn.id ≡ Some member.outcome
  pub member_of : (id : TxnId) (outcome : Outcome) → made_fate f epoch promises id ≡ Some outcome →
      (member : Fated) × Among member (merged_from f epoch promises).list × (member.txn.id ≡ id) × (member.outcome ≡ outcome)

abbrev pub BasesSay : Type 0
BasesSay = (f epoch : ℕ) (promises : List PromiseState) → MembersSay f epoch promises
