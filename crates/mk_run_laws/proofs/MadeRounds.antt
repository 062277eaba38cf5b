-- The round at whose end a base is made first.
use Rattle.std.proofs.Common.{◌≡◌, ◌≤◌, ℕ, ◌+◌, Bool, true, false, refl, arith, ap, List, [], ◌∷◌, ◌++◌, cond, length}
use Rattle.std.specs.Prelude.{is_some}
use Rattle.mk_model.specs.EpochState.{base_for}
use Rattle.mk_epoch_laws.specs.BaseLaws.{IsMade}
use Rattle.mk_history.specs.declared.RoundLog.{RoundLog}
use Rattle.mk_history.specs.Histories.{History}
use Rattle.mk_history.specs.Wholes.{WholeState, first_state, after_round, state_through}
use Rattle.mk_run_laws.specs.Dates.{made_from, MadeWas, MadeFirst}

-- the first of some rounds, from this state and number on, after which it is made
abbrev MadeFrom : (run : History) (epoch n : ℕ) (state : WholeState) (rounds : List RoundLog) → Type 0
MadeFrom run epoch n state rounds =
    (done : List RoundLog) × ((rest : List RoundLog) × ((rounds ≡ done ++ rest) × ((n + length done ≡ made_from epoch n run state rounds) × IsMade (state_through run state done).epochs epoch)))

made_there : (run : History) (epoch n : ℕ) (rounds : List RoundLog) (state : WholeState) → IsMade (state_through run state rounds).epochs epoch → MadeFrom run epoch n state rounds
made_there run epoch n [] state made = ([], ([], (refl, (omega arith, made))))
made_there run epoch n (round ∷ rounds) state made = by (made_there run epoch (n + 1) rounds (after_round run round state) made) (is_some (base_for epoch state.epochs)) refl
  where
    by : MadeFrom run epoch (n + 1) (after_round run round state) rounds → (b : Bool) → is_some (base_for epoch state.epochs) ≡ b →
        (done : List RoundLog) × ((rest : List RoundLog) × ((round ∷ rounds ≡ done ++ rest)
        × ((n + length done ≡ cond b n (made_from epoch (n + 1) run (after_round run round state) rounds)) × IsMade (state_through run state done).epochs epoch)))
    by later true k = ([], (round ∷ rounds, (refl, (omega arith, k))))
    by later false k =
        let count = later.1.1.1.0 in
        (round ∷ later.0, (later.1.0, (ap (λ (rs : List RoundLog). round ∷ rs) later.1.1.0, ((omega (arith, count)), later.1.1.1.1))))

pub made_was : MadeWas
made_was run epoch made =
    let k = made_there run epoch 0 run.rounds (first_state run) made in
    let count = k.1.1.1.0 in
    record { done = k.0; rest = k.1.0; split = k.1.1.0; rounds = omega (arith, count); made = k.1.1.1.1 }

made_by : (run : History) (epoch n : ℕ) (done rest : List RoundLog) (state : WholeState) → IsMade (state_through run state done).epochs epoch → made_from epoch n run state (done ++ rest) ≤ n + length done
made_by run epoch n [] [] state made = omega arith
made_by run epoch n [] (round ∷ rest) state made =
    let now = ap (λ (b : Bool). cond b n (made_from epoch (n + 1) run (after_round run round state) rest)) made in omega (arith, now)
made_by run epoch n (round ∷ done) rest state made = by (made_by run epoch (n + 1) done rest (after_round run round state) made) (is_some (base_for epoch state.epochs))
  where
    by : made_from epoch (n + 1) run (after_round run round state) (done ++ rest) ≤ n + 1 + length done → (b : Bool) →
        cond b n (made_from epoch (n + 1) run (after_round run round state) (done ++ rest)) ≤ n + length (round ∷ done)
    by later true = omega arith
    by later false = omega (arith, later)

pub made_first : MadeFirst
made_first run epoch done rest split made =
    let k = made_by run epoch 0 done rest (first_state run) made in
    let same = ap (λ (rs : List RoundLog). made_from epoch 0 run (first_state run) rs) split in
    omega (arith, k, same)
