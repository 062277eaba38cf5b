-- What each global line changes, and a global step as a relation.
use Rattle.std.specs.Prelude.{◌≡◌, ◌⊎◌, ℕ, Bool, true, false, ◌&&◌, ◌==◌, List, [], ◌∷◌, ◌++◌, Option, Some, None, slice_get, slice_set, unwrap_or, if◌then◌else◌}
use Rattle.mk_lists.specs.Changed.{change}
use Rattle.mk_txn.specs.MarkMaps.{MarkMap}
use Rattle.mk_words.specs.declared.Entry.{Entry}
use Rattle.mk_words.specs.declared.Phase.{Phase}
use Rattle.mk_words.specs.declared.Phase.TheVariants.{Serving, Paused, Adopted, Lacking}
use Rattle.mk_words.specs.Bases.{BaseState, empty_base}
use Rattle.mk_words.specs.Promises.{PromiseState}
use Rattle.mk_words.specs.Merging.{merged}
use Rattle.mk_words.specs.declared.GlobalLine.{GlobalLine}
use Rattle.mk_words.specs.declared.GlobalLine.TheVariants.{Wipe, Ask, Promise, Merge, Adopt, Enter}
use Rattle.mk_words.specs.declared.GlobalAnswer.{GlobalAnswer}
use Rattle.mk_words.specs.declared.GlobalAnswer.TheVariants.{Ok as Done, WordFault}
use Rattle.mk_model.specs.EpochState.{EpochState, ReplicaState, promises_for, made_for}
use Rattle.mk_model.specs.GlobalAnswers.{global_answer, is_accepted, writes_word}

-- what a replica hands in with a promise: the entries and the marks of all its columns
pub record HandedIn : Type 0 where
  pub entries : List Entry
  pub marks : MarkMap

-- what every other line hands in
abbrev pub nothing_handed : HandedIn
nothing_handed = record { entries = []; marks = [] }

-- the replica of this number is changed, where there is one
abbrev pub change_replica : ℕ → (ReplicaState → ReplicaState) → Option ReplicaState → EpochState → EpochState
change_replica r f (Some replica) state = record state { replicas = slice_set state.replicas r (f replica) }
change_replica r f None state = state

-- what a wipe leaves: the word alone
abbrev pub wiped : ReplicaState → ReplicaState
wiped replica = record replica { phase = Lacking; adopted = 0; base = empty_base }

-- a replica that promises writes the epoch to its word and pauses
abbrev pub promised : ℕ → ReplicaState → ReplicaState
promised epoch replica = record replica { word = epoch; phase = Paused }

-- the replica's promise, with what it hands in
abbrev pub promise_of : ℕ → HandedIn → ReplicaState → PromiseState
promise_of r handed replica =
    record { replica = r; adopted = replica.adopted; base = replica.base; entries = handed.entries; marks = handed.marks }

-- the replica's promise is kept
abbrev pub with_promise : ℕ → ℕ → HandedIn → Option ReplicaState → EpochState → EpochState
with_promise epoch r handed (Some replica) state =
    record state { promises = state.promises ++ record { epoch = epoch; promise = promise_of r handed replica } ∷ [] }
with_promise epoch r handed None state = state

-- a base that was made stays
abbrev pub with_base : ℕ → Option BaseState → EpochState → EpochState
with_base epoch (Some base) state = state
with_base epoch None state =
    record state { made = state.made ++ record { epoch = epoch; base = merged state.faults epoch (promises_for epoch state) } ∷ [] }

-- a replica that adopts writes the epoch to its word and takes its base
abbrev pub adopting : ℕ → BaseState → ReplicaState → ReplicaState
adopting epoch base replica = record { word = epoch; phase = Adopted; adopted = epoch; base = base }

-- the replica counts from now on as one that adopted the epoch
abbrev pub with_adoption : ℕ → ℕ → EpochState → EpochState
with_adoption epoch r state = record state { adoptions = state.adoptions ++ record { epoch = epoch; replica = r } ∷ [] }

-- the base where it was made
abbrev pub base_or_empty : Option BaseState → BaseState
base_or_empty base = unwrap_or base empty_base

-- the phase between an adoption and its Enter
abbrev pub is_adopted : Phase → Bool
is_adopted Adopted = true
is_adopted _ = false

-- the replica has adopted this epoch and waits for its Enter
abbrev pub awaits_enter : ℕ → ReplicaState → Bool
awaits_enter epoch replica = is_adopted replica.phase && replica.adopted == epoch

-- the replica serves the epoch that it has adopted
abbrev pub serving : ReplicaState → ReplicaState
serving replica = record replica { phase = Serving }

-- the state after a line that was accepted
abbrev pub global_after : EpochState → HandedIn → GlobalLine → EpochState
global_after state handed (Wipe r) = change_replica r wiped (slice_get state.replicas r) state
global_after state handed (Ask epoch) = record state { asked = state.asked ++ epoch ∷ [] }
global_after state handed (Promise epoch r) =
    change_replica r (promised epoch) (slice_get state.replicas r) (with_promise epoch r handed (slice_get state.replicas r) state)
global_after state handed (Merge epoch) = with_base epoch (made_for epoch state) state
global_after state handed (Adopt epoch r) =
    with_adoption epoch r
    (change_replica r (adopting epoch (base_or_empty (made_for epoch state))) (slice_get state.replicas r) state)
global_after state handed (Enter epoch) = record state { replicas = change (awaits_enter epoch) serving state.replicas }

-- the state after a line with its answer: a line that was not accepted changes nothing
abbrev pub global_outcome : EpochState → HandedIn → GlobalLine → GlobalAnswer → EpochState
global_outcome state handed line answer = if is_accepted answer then global_after state handed line else state

-- the answer is the one that the state gives, or a failing word where the word would have been written
abbrev pub IsAnswer : EpochState → GlobalLine → GlobalAnswer → Type 0
IsAnswer state line answer =
    (answer ≡ global_answer state line) ⊎ ((answer ≡ WordFault) × (writes_word line ≡ true) × (global_answer state line ≡ Done))

-- a global step: the answer is one that the state allows, and the state is so afterwards
pub record GlobalStep (old : EpochState) (handed : HandedIn) (line : GlobalLine) (answer : GlobalAnswer) (new : EpochState) : Type 0 where
  pub answered : IsAnswer old line answer
  pub after : new ≡ global_outcome old handed line answer
