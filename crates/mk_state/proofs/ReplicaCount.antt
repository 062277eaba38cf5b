-- There are as many replicas at all times.
use Rattle.std.proofs.Common.{◌≡◌, ◌∙◌, ℕ, Bool, true, false, refl, length, Option, Some, None, if◌then◌else◌}
use Rattle.std.specs.Prelude.{slice_get}
use Rattle.mk_lists.proofs.Changes.{length-change}
use Rattle.mk_words.specs.Bases.{BaseState}
use Rattle.mk_words.specs.declared.GlobalEntry.{GlobalEntry}
use Rattle.mk_words.specs.declared.GlobalLine.{GlobalLine}
use Rattle.mk_words.specs.declared.GlobalLine.TheVariants.{Wipe, Ask, Promise, Merge, Adopt, Enter}
use Rattle.mk_model.specs.EpochState.{EpochState, ReplicaState, made_for}
use Rattle.mk_model.specs.GlobalAnswers.{is_accepted}
use Rattle.mk_model.specs.GlobalSteps.{HandedIn, global_after, change_replica, wiped, promised, adopting, with_promise, with_base, base_or_empty, awaits_enter, serving}
use Rattle.mk_history.specs.Histories.{History}
use Rattle.mk_history.specs.Wholes.{WholeState, handed_in, after_global}
use Rattle.std.proofs.lemmas.List.{length-set}

count-changed : (r : ℕ) (f : ReplicaState → ReplicaState) (found : Option ReplicaState) (state : EpochState) → length (change_replica r f found state).replicas ≡ length state.replicas
count-changed r f (Some replica) state = length-set state.replicas r (f replica)
count-changed r f None state = refl

count-promised : (epoch r : ℕ) (handed : HandedIn) (found : Option ReplicaState) (state : EpochState) → length (with_promise epoch r handed found state).replicas ≡ length state.replicas
count-promised epoch r handed (Some replica) state = refl
count-promised epoch r handed None state = refl

count-made : (epoch : ℕ) (base : Option BaseState) (state : EpochState) → length (with_base epoch base state).replicas ≡ length state.replicas
count-made epoch (Some base) state = refl
count-made epoch None state = refl

count-after : (state : EpochState) (handed : HandedIn) (line : GlobalLine) → length (global_after state handed line).replicas ≡ length state.replicas
count-after state handed (Wipe r) = count-changed r wiped (slice_get state.replicas r) state
count-after state handed (Ask epoch) = refl
count-after state handed (Promise epoch r) =
    count-changed r (promised epoch) (slice_get state.replicas r) (with_promise epoch r handed (slice_get state.replicas r) state)
    ∙ count-promised epoch r handed (slice_get state.replicas r) state
count-after state handed (Merge epoch) = count-made epoch (made_for epoch state) state
count-after state handed (Adopt epoch r) = count-changed r (adopting epoch (base_or_empty (made_for epoch state))) (slice_get state.replicas r) state
count-after state handed (Enter epoch) = length-change (awaits_enter epoch) serving state.replicas

-- a line leaves as many
pub count-global : (run : History) (state : WholeState) (entry : GlobalEntry) → length (after_global run state entry).epochs.replicas ≡ length state.epochs.replicas
count-global run state entry = by (is_accepted entry.answer)
  where
    by : (b : Bool) → length (if b then global_after state.epochs (handed_in state entry.line) entry.line else state.epochs).replicas ≡ length state.epochs.replicas
    by true = count-after state.epochs (handed_in state entry.line) entry.line
    by false = refl
