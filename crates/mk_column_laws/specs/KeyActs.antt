-- Key acts of a column: where each comes from, and what votes and final outcomes tell of them.
use Rattle.std.specs.Prelude.{◌≡◌, ◌⊎◌, ◌≤◌, ℕ, true, List, Some, None, slice_get}
use Rattle.mk_lists.specs.Among.{Among}
use Rattle.mk_txn.specs.declared.TxnId.{TxnId}
use Rattle.mk_txn.specs.declared.Conflict.{Conflict}
use Rattle.mk_txn.specs.declared.Cause.{Cause}
use Rattle.mk_txn.specs.declared.Vote.TheVariants.{Ok as VoteOk, Abort as VoteAbort}
use Rattle.mk_txn.specs.declared.Outcome.{Outcome}
use Rattle.mk_txn.specs.declared.Outcome.TheVariants.{Commit, Abort}
use Rattle.mk_txn.specs.Outcomes.{is_ok_vote}
use Rattle.mk_txn.specs.Transactions.{Transaction}
use Rattle.mk_words.specs.declared.Act.TheVariants.{Get}
use Rattle.mk_words.specs.declared.Answer.{Answer}
use Rattle.mk_words.specs.declared.Answer.TheVariants.{Okay, Refused}
use Rattle.mk_quorum.specs.Slots.{passes}
use Rattle.mk_words.specs.Checks.{KeyAct, checks, commits_of, releases_of, finish_acts}
use Rattle.mk_words.specs.Validations.{ValidationState}
use Rattle.mk_model.specs.ColumnState.{AttemptState, Work, attempt_of}
use Rattle.mk_model.specs.ColumnState.Work.{Validating, Finishing}
use Rattle.mk_model.specs.Replicas.{serves}
use Rattle.mk_column_laws.specs.Moments.{Moment, PastAct, PastEntry}
use Rattle.mk_column_laws.specs.Moves.{undated}

-- an act at a key, with its place and answer
abbrev pub act_at : ℕ → ℕ → ℕ → KeyAct → Answer → PastAct
act_at round r epoch act answer = record { round = round; replica = r; epoch = epoch; key = act.0; act = act.1; answer = answer }

-- the act was done in this round at this replica, which served this epoch, and was answered so
abbrev pub WasDone : Moment → ℕ → ℕ → ℕ → KeyAct → Answer → Type 0
WasDone m round r epoch act answer = Among (act_at round r epoch act answer) m.past.acts

-- the attempt is of this epoch
abbrev pub IsInEpoch : Moment → TxnId → ℕ → Type 0
IsInEpoch m id epoch = (a : AttemptState) × (attempt_of m.column id ≡ Some a) × (a.epoch ≡ epoch)

-- ---- what holds of key acts

-- an Ok vote had every check answered Okay, in the round of the vote; an Abort vote had the check refused that it names
pub record VoteActs (m : Moment) (r : ℕ) (id : TxnId) (entry : PastEntry) : Type 0 where
  pub ok : (round epoch : ℕ) → entry.vote ≡ Some (VoteOk, round) → IsInEpoch m id epoch → (check : KeyAct) → Among check (checks entry.txn) → WasDone m round r epoch check Okay
  pub refused : (conflict : Conflict) (round epoch : ℕ) → entry.vote ≡ Some (VoteAbort conflict, round) → IsInEpoch m id epoch →
      (check : KeyAct) × Among check (checks entry.txn) × (check.0 ≡ conflict.key) × WasDone m round r epoch check (Refused conflict.reason conflict.stamp)

-- a validation under way at the replica that has been refused
abbrev pub IsReleasing : Moment → ℕ → TxnId → Type 0
IsReleasing m r id =
    (txn : Transaction) × ((epoch : ℕ) × ((state : ValidationState) × ((conflict : Conflict) ×
    ((m.column.work ≡ Validating txn r epoch state) × (txn.id ≡ id) × (state.refusal ≡ Some conflict)))))

-- why a release is done: the vote is Abort, or is to be; or the entry is final with Abort, since this round or before
abbrev pub ReleaseReason : Moment → ℕ → TxnId → PastEntry → ℕ → Type 0
ReleaseReason m r id entry round =
    ((conflict : Conflict) × ((i : ℕ) × (entry.vote ≡ Some (VoteAbort conflict, i))))
    ⊎ (IsReleasing m r id ⊎ ((cause : Cause) × ((i : ℕ) × ((entry.last ≡ Some (Abort cause, i)) × (i ≤ round)))))

-- where an act comes from
pub data ActOrigin (m : Moment) (act : PastAct) : Type 0 where
  OfRead : act.act ≡ Get → ActOrigin m act
  OfCheck : (id : TxnId) (entry : PastEntry) → m.past.entries act.replica id ≡ Some entry → IsInEpoch m id act.epoch → m.past.served_in act.round act.replica act.epoch ≡ true →
      Among (act.key, act.act) (checks entry.txn) → ActOrigin m act
  OfRelease : (id : TxnId) (entry : PastEntry) → m.past.entries act.replica id ≡ Some entry → IsInEpoch m id act.epoch → m.past.served_in act.round act.replica act.epoch ≡ true →
      Among (act.key, act.act) (releases_of entry.txn) → ReleaseReason m act.replica id entry act.round → ActOrigin m act
  OfCommit : (id : TxnId) (entry : PastEntry) (round : ℕ) → m.past.entries act.replica id ≡ Some entry → IsInEpoch m id act.epoch → m.past.served_in act.round act.replica act.epoch ≡ true →
      Among (act.key, act.act) (commits_of entry.txn) → entry.last ≡ Some (Commit, round) → round ≤ act.round → ActOrigin m act

-- how far a validation has come
pub record ValidationActs (m : Moment) (txn : Transaction) (r epoch : ℕ) (state : ValidationState) : Type 0 where
  pub passed : (check : KeyAct) → Among check state.passed → WasDone m m.past.now r epoch check Okay × Among check (checks txn)
  pub left : (check : KeyAct) → Among check state.left → Among check (checks txn)
  pub whole : state.refusal ≡ None → (check : KeyAct) → Among check (checks txn) → Among check state.passed ⊎ Among check state.left
  pub refused : (conflict : Conflict) → state.refusal ≡ Some conflict →
      (check : KeyAct) × Among check (checks txn) × (check.0 ≡ conflict.key) × WasDone m m.past.now r epoch check (Refused conflict.reason conflict.stamp)
  pub releases : (release : KeyAct) → Among release state.releases → Among release (releases_of txn)

-- how far the end of a transaction has come
pub record FinishActs (m : Moment) (r : ℕ) (left : List KeyAct) : Type 0 where
  pub id : TxnId
  pub entry : PastEntry
  pub outcome : Outcome
  pub attempt : AttemptState
  pub there : m.past.entries r id ≡ Some entry
  pub final : entry.last ≡ Some (outcome, m.past.now)
  pub found : attempt_of m.column id ≡ Some attempt
  pub served : serves attempt.epoch (slice_get m.round.views r) ≡ true
  pub acts : (act : KeyAct) → Among act left → Among act (finish_acts entry.txn outcome (passes is_ok_vote (undated entry.vote)))

-- the key calls under way
abbrev pub WorkActs : Moment → Work → Type 0
WorkActs m (Validating txn r epoch state) = ValidationActs m txn r epoch state
WorkActs m (Finishing r left) = FinishActs m r left
WorkActs m _ = Unit {0}

-- what holds of key acts at every moment
pub record ActFacts (m : Moment) : Type 0 where
  pub votes : (r : ℕ) (id : TxnId) (entry : PastEntry) → m.past.entries r id ≡ Some entry → VoteActs m r id entry
  pub origins : (act : PastAct) → Among act m.past.acts → (act.round ≤ m.past.now) × ActOrigin m act
  pub work : WorkActs m m.column.work
  pub serving : (r epoch : ℕ) → serves epoch (slice_get m.round.views r) ≡ true → m.past.served_in m.past.now r epoch ≡ true
