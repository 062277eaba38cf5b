-- What each global line answers, with the refusals in their order.
use Rattle.std.specs.Prelude.{ℕ, Bool, true, false, not, ◌||◌, nat_lt, nat_le, length, Option, Some, None, slice_get, is_some, if◌then◌else◌}
use Rattle.mk_quorum.specs.Sizes.{majority_of}
use Rattle.mk_words.specs.KeptOutcomes.{commit_count, abort_count}
use Rattle.mk_words.specs.declared.Phase.{Phase}
use Rattle.mk_words.specs.declared.Phase.TheVariants.{Lacking}
use Rattle.mk_words.specs.Bases.{BaseState, taught_by}
use Rattle.mk_words.specs.Promises.{can_merge, leader_of}
use Rattle.mk_words.specs.Merging.{merged}
use Rattle.mk_words.specs.declared.GlobalLine.{GlobalLine}
use Rattle.mk_words.specs.declared.GlobalLine.TheVariants.{Wipe, Ask, Promise, Merge, Adopt, Enter}
use Rattle.mk_words.specs.declared.GlobalAnswer.{GlobalAnswer}
use Rattle.mk_words.specs.declared.GlobalAnswer.TheVariants.{Ok as Done, Counts, Entered, Unasked, Unmade, Lacking as AnswerLacking, Old, Short}
use Rattle.mk_model.specs.EpochState.{EpochState, ReplicaState, was_asked, promises_for, made_for, adopters}

-- the replica has lost its state
abbrev pub lacks : Phase → Bool
lacks Lacking = true
lacks _ = false

-- promise: not asked for, then lost, then too old
abbrev pub promise_answer : EpochState → ℕ → Option ReplicaState → GlobalAnswer
promise_answer state epoch None = Unasked
promise_answer state epoch (Some replica) =
    if not (was_asked epoch state) then Unasked
    else if lacks replica.phase then AnswerLacking
    else if nat_le epoch replica.word then Old replica.word
    else Done

-- the commits and aborts of a base that its marks do not cover
abbrev pub counts_of : BaseState → GlobalAnswer
counts_of base = Counts (commit_count (taught_by base)) (abort_count (taught_by base))

-- merge: too few promises or not the leader's, then its leader lost, then too old
abbrev pub merge_refusal : EpochState → ℕ → Option ReplicaState → GlobalAnswer
merge_refusal state epoch None = Short (length (promises_for epoch state))
merge_refusal state epoch (Some leader) =
    if not (can_merge state.faults epoch (promises_for epoch state)) then Short (length (promises_for epoch state))
    else if lacks leader.phase then AnswerLacking
    else if nat_lt epoch leader.word then Old leader.word
    else counts_of (merged state.faults epoch (promises_for epoch state))

-- of a base that was made nothing is tested
abbrev pub merge_answer : EpochState → ℕ → Option BaseState → GlobalAnswer
merge_answer state epoch (Some base) = counts_of base
merge_answer state epoch None = merge_refusal state epoch (slice_get state.replicas (leader_of state.faults epoch))

-- a replica without state takes only an epoch above its word, another one not below its word and above its epoch
abbrev pub is_too_old : ReplicaState → ℕ → Bool
is_too_old replica epoch =
    if lacks replica.phase then nat_le epoch replica.word else nat_lt epoch replica.word || nat_le epoch replica.adopted

-- adopt: not made, then too old
abbrev pub adopt_answer : EpochState → ℕ → Option ReplicaState → GlobalAnswer
adopt_answer state epoch None = Unmade
adopt_answer state epoch (Some replica) =
    if not (is_some (made_for epoch state)) then Unmade
    else if is_too_old replica epoch then Old replica.word
    else Done

-- enter: fewer adopters than a majority are short
abbrev pub enter_answer : EpochState → ℕ → GlobalAnswer
enter_answer state epoch =
    if nat_lt (adopters epoch state) (majority_of state.faults) then Short (adopters epoch state) else Entered (adopters epoch state)

-- the answer where no word fails
abbrev pub global_answer : EpochState → GlobalLine → GlobalAnswer
global_answer state (Wipe r) = Done
global_answer state (Ask epoch) = Done
global_answer state (Promise epoch r) = promise_answer state epoch (slice_get state.replicas r)
global_answer state (Merge epoch) = merge_answer state epoch (made_for epoch state)
global_answer state (Adopt epoch r) = adopt_answer state epoch (slice_get state.replicas r)
global_answer state (Enter epoch) = enter_answer state epoch

-- the line was done
abbrev pub is_accepted : GlobalAnswer → Bool
is_accepted Done = true
is_accepted (Counts commits aborts) = true
is_accepted (Entered k) = true
is_accepted _ = false

-- the lines that write a word once they are not refused
abbrev pub writes_word : GlobalLine → Bool
writes_word (Promise epoch r) = true
writes_word (Adopt epoch r) = true
writes_word _ = false
