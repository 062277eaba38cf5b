-- After which rounds epochs were served and entered, and that a replica which has an epoch has its records.
use Rattle.std.specs.Prelude.{◌≡◌, ◌<◌, ◌≤◌, ℕ, ◌+◌, true, false, List, [], ◌∷◌, ◌++◌, length, Some, is_some, if◌then◌else◌}
use Rattle.mk_words.specs.declared.Phase.TheVariants.{Serving}
use Rattle.mk_model.specs.EpochState.{ReplicaState, base_for}
use Rattle.mk_model.specs.GlobalAnswers.{lacks}
use Rattle.mk_column_laws.specs.Moments.{Moment}
use Rattle.mk_epoch_laws.specs.WordLaws.{IsAt, EverHad}
use Rattle.mk_epoch_laws.specs.BaseLaws.{IsMade, IsHeld}
use Rattle.mk_history.specs.declared.RoundLog.{RoundLog}
use Rattle.mk_history.specs.Histories.{History}
use Rattle.mk_history.specs.Legality.{IsLegal}
use Rattle.mk_history.specs.Teaching.{entered_round}
use Rattle.mk_history.specs.Wholes.{WholeState, first_state, last_state, after_round}
use Rattle.mk_run_laws.specs.RunEvents.{moment_of, IsMomentOf}
use Rattle.mk_run_laws.specs.Ends.{epochs_after}

-- after these rounds the replica serves the epoch
pub record ServedAt (run : History) (done : List RoundLog) (r epoch : ℕ) : Type 0 where
  pub rest : List RoundLog
  pub split : run.rounds ≡ done ++ rest
  pub replica : ReplicaState
  pub at : IsAt (epochs_after run done) r replica
  pub serving : replica.phase ≡ Serving
  pub adopted : replica.adopted ≡ epoch

-- what a moment remembers as served in a round was served where that round began; what it remembers as ever served, where one
-- of the rounds so far began
pub record ServedOf (run : History) (m : Moment) : Type 0 where
  pub in_round : (i r epoch : ℕ) → m.past.served_in i r epoch ≡ true →
      (done : List RoundLog) × (length done + 1 ≡ i) × (i ≤ m.past.now) × ServedAt run done r epoch
  pub ever : (r epoch : ℕ) → m.past.ever_served r epoch ≡ true →
      (done : List RoundLog) × (length done + 1 ≤ m.past.now) × ServedAt run done r epoch

abbrev pub ServedWas : Type 0
ServedWas = (run : History) → IsLegal run → (c : ℕ) → c < run.columns → (m : Moment) → IsMomentOf run c m → ServedOf run m

-- who serves an epoch had it
abbrev pub ServersHad : Type 0
ServersHad = (run : History) → IsLegal run → (done : List RoundLog) (r epoch : ℕ) → ServedAt run done r epoch → EverHad (epochs_after run done) r epoch

-- and it was entered by then
abbrev pub ServersEntered : Type 0
ServersEntered =
    (run : History) → IsLegal run → (done : List RoundLog) (r epoch : ℕ) → ServedAt run done r epoch →
    (j : ℕ) × (entered_round run epoch ≡ Some j) × (j ≤ length done)

-- at the end of the round in which an epoch was entered first a majority has held it, and its base is made
pub record EnteredAt (run : History) (epoch j : ℕ) : Type 0 where
  pub done : List RoundLog
  pub rest : List RoundLog
  pub split : run.rounds ≡ done ++ rest
  pub rounds : length done ≡ j
  pub held : IsHeld (epochs_after run done) epoch
  pub made : IsMade (epochs_after run done) epoch

abbrev pub EnteredWas : Type 0
EnteredWas = (run : History) → IsLegal run → (epoch j : ℕ) → entered_round run epoch ≡ Some j → EnteredAt run epoch j

-- the first number of rounds, from this state and number on, after which the base of the epoch is made
abbrev pub made_from : ℕ → ℕ → History → WholeState → List RoundLog → ℕ
made_from epoch number run state [] = number
made_from epoch number run state (round ∷ rounds) =
    if is_some (base_for epoch state.epochs) then number else made_from epoch (number + 1) run (after_round run round state) rounds

-- the first number of rounds after which the base of the epoch is made
abbrev pub made_round : History → ℕ → ℕ
made_round run epoch = made_from epoch 0 run (first_state run) run.rounds

-- after so many rounds the base is made
pub record MadeAt (run : History) (epoch j : ℕ) : Type 0 where
  pub done : List RoundLog
  pub rest : List RoundLog
  pub split : run.rounds ≡ done ++ rest
  pub rounds : length done ≡ j
  pub made : IsMade (epochs_after run done) epoch

abbrev pub MadeWas : Type 0
MadeWas = (run : History) (epoch : ℕ) → IsMade (last_state run).epochs epoch → MadeAt run epoch (made_round run epoch)

-- and not after fewer
abbrev pub MadeFirst : Type 0
MadeFirst =
    (run : History) (epoch : ℕ) (done rest : List RoundLog) → run.rounds ≡ done ++ rest → IsMade (epochs_after run done) epoch → made_round run epoch ≤ length done

-- a replica that has an epoch's state where a round begins did not lose, before or in the log of that round, what it had of it
abbrev pub RecordsAreKept : Type 0
RecordsAreKept =
    (run : History) → IsLegal run → (done rest : List RoundLog) (round : RoundLog) → run.rounds ≡ done ++ round ∷ rest →
    (c : ℕ) → c < run.columns → (r epoch : ℕ) (replica : ReplicaState) →
    IsAt (epochs_after run done) r replica → lacks replica.phase ≡ false → replica.adopted ≡ epoch →
    (moment_of run c (done ++ round ∷ [])).past.has_left r epoch ≡ false
