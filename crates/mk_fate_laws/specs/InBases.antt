-- What there is of the bases of a list of global lines where each base adds attempts of its source's epoch alone: what their
-- paths give, whose promises they are made of, and how attempts of the source's epoch get their outcomes in them.
use Rattle.std.specs.Prelude.{◌≡◌, ◌⊎◌, ◌<◌, ◌≤◌, ℕ, Bool, true, false, Option, Some, is_some}
use Rattle.mk_lists.specs.Among.{Among}
use Rattle.mk_txn.specs.declared.TxnId.{TxnId}
use Rattle.mk_txn.specs.declared.Outcome.TheVariants.{Commit}
use Rattle.mk_txn.specs.Clashes.{conflict}
use Rattle.mk_txn.specs.Outcomes.{is_commit}
use Rattle.mk_words.specs.declared.Entry.{Entry}
use Rattle.mk_quorum.specs.Counts.{count_below}
use Rattle.mk_quorum.specs.Sizes.{members, majority_of, hint_of}
use Rattle.mk_quorum.specs.Slots.{passes}
use Rattle.mk_words.specs.declared.Fated.{Fated}
use Rattle.mk_words.specs.Bases.{BaseState}
use Rattle.mk_words.specs.Promises.{PromiseState}
use Rattle.mk_words.specs.Merging.{merged_from}
use Rattle.mk_model.specs.EpochState.{EpochState, base_for}
use Rattle.mk_model.specs.Force.{InForce, source_of}
use Rattle.mk_epoch_laws.specs.WordLaws.{EverHad}
use Rattle.mk_epoch_laws.specs.BaseLaws.{IsMade, IsHeld, taken_for, counted_for}
use Rattle.mk_epoch_laws.specs.PathLaws.{outcome_in, AddsItsSource}
use Rattle.mk_fate_laws.specs.Composing.{has_promise, AreHandedIn, IsOpen, counted_oks, Composed}

-- the base of this epoch commits the attempt
abbrev pub commits_at : EpochState → ℕ → TxnId → Bool
commits_at state epoch id = passes is_commit (outcome_in state epoch id)

-- what paths give
pub record PathsGive (state : EpochState) (epoch_of : TxnId → ℕ) : Type 0 where
  pub made : (e : ℕ) → InForce state e → IsMade state e
  pub below : (e : ℕ) → InForce state e → 0 < e → source_of state e < e
  pub source_force : (e : ℕ) → InForce state e → InForce state (source_of state e)
  -- a base lists attempts of epochs below
  pub listed_below : (e : ℕ) (id : TxnId) → IsMade state e → is_some (outcome_in state e id) ≡ true → epoch_of id < e
  -- two bases in force commit the same of the attempts of epochs below both
  pub line : (one other : ℕ) (id : TxnId) → InForce state one → InForce state other → epoch_of id < one → epoch_of id < other →
      commits_at state one id ≡ commits_at state other id
  -- on the path of a base in force lies one whose source is this epoch below, where a majority ever adopted that
  pub under : (e held : ℕ) → InForce state e → IsHeld state held → held < e → (m : ℕ) × InForce state m × (0 < m) × (source_of state m ≡ held)
  -- what commits in a base commits in its source's, or is of the source's epoch
  pub commits_from : (e : ℕ) (id : TxnId) → IsMade state e → 0 < e → commits_at state e id ≡ true →
      (commits_at state (source_of state e) id ≡ true) ⊎ (epoch_of id ≡ source_of state e)

abbrev pub ForceGives : EpochState → Type 0
ForceGives state = (epoch_of : TxnId → ℕ) → AddsItsSource state epoch_of → PathsGive state epoch_of

-- whose promises the base of an epoch is made of, and whose count
abbrev pub is_taken : EpochState → ℕ → ℕ → Bool
is_taken state epoch r = has_promise (taken_for state epoch) r

abbrev pub is_counted : EpochState → ℕ → ℕ → Bool
is_counted state epoch r = has_promise (counted_for state epoch) r

-- they are a majority and no more, and whoever of them ever had the source's epoch counts
pub record PromisersOf (state : EpochState) (epoch : ℕ) : Type 0 where
  pub majority : count_below (members state.faults) (is_taken state epoch) ≡ majority_of state.faults
  pub counted : (r : ℕ) → is_counted state epoch r ≡ true → is_taken state epoch r ≡ true
  pub sees : (r : ℕ) → is_taken state epoch r ≡ true → EverHad state r (source_of state epoch) → is_counted state epoch r ≡ true
  pub given : (p : PromiseState) → Among p (counted_for state epoch) →
      Among (record { epoch = epoch; promise = p }) state.promises × (p.adopted ≡ source_of state epoch)
  pub each : (r : ℕ) → is_counted state epoch r ≡ true → (p : PromiseState) × Among p (counted_for state epoch) × (p.replica ≡ r)

abbrev pub PromisersCount : EpochState → Type 0
PromisersCount state = (epoch : ℕ) → IsMade state epoch → 0 < epoch → PromisersOf state epoch

-- a base is what is made of the promises that count
abbrev pub BasesAreComposed : EpochState → Type 0
BasesAreComposed state =
    (epoch : ℕ) → IsMade state epoch → 0 < epoch → base_for epoch state ≡ Some (merged_from state.faults epoch (counted_for state epoch))

-- how an attempt of the source's epoch gets its outcome in a base, by what the replicas have of it whose promises count
abbrev pub OutcomesInBases : EpochState → Type 0
OutcomesInBases state =
    (epoch_of : TxnId → ℕ) → AddsItsSource state epoch_of → (epoch : ℕ) (id : TxnId) → IsMade state epoch → 0 < epoch → epoch_of id ≡ source_of state epoch →
    (has : ℕ → Option Entry) → AreHandedIn (counted_for state epoch) id has → Composed state.faults epoch (counted_for state epoch) id has

-- and if it was taken it conflicts with no commit there
abbrev pub TakenFitInBases : EpochState → Type 0
TakenFitInBases state =
    (epoch_of : TxnId → ℕ) → AddsItsSource state epoch_of → (epoch : ℕ) (id : TxnId) → 0 < epoch → epoch_of id ≡ source_of state epoch →
    (has : ℕ → Option Entry) → AreHandedIn (counted_for state epoch) id has → IsOpen (counted_for state epoch) has →
    hint_of state.faults ≤ counted_oks state.faults (counted_for state epoch) has →
    (base : BaseState) → base_for epoch state ≡ Some base → (taken other : Fated) → Among taken base.list → taken.txn.id ≡ id → taken.outcome ≡ Commit →
    Among other base.list → other.outcome ≡ Commit → conflict taken.txn other.txn ≡ false
