-- What the turns name along the logs of a run, for the worked rows.
use Rattle.std.proofs.Common.{◌≡◌, ◌⊎◌, ◌≤◌, ◌<◌, ◌+◌, ℕ, zero, suc, arith, inl, inr, sym, List, [], ◌∷◌, ◌++◌, refl, subst, map, length}
use Rattle.std.proofs.lemmas.List.{length-append}
use Rattle.mk_words.specs.declared.Step.{Step}
use Rattle.mk_words.specs.declared.Step.TheVariants.{Begin, Unread, Read, Stamp, Validate, Take, Key, Rule, Again, Takeover, Pick, Stop}
use Rattle.mk_model.specs.ColumnState.{Setting, numbers_from}
use Rattle.mk_model.specs.EpochState.{views_of}
use Rattle.mk_script.specs.Scripts.{ScriptParts}
use Rattle.mk_history.specs.declared.RoundLog.{RoundLog}
use Rattle.mk_history.specs.Histories.{History, log_of}
use Rattle.mk_history.specs.Shape.{columns_of}
use Rattle.mk_history.specs.Wholes.{WholeState, first_state, after_round}
use Rattle.mk_driver.specs.declared.Next.{Next}
use Rattle.mk_driver.specs.declared.Next.TheVariants.{Step as StepNext, Key as KeyNext, Over}
use Rattle.mk_driver.specs.Driven.{Standing, PastRound, client_columns_of, setting_in, standing_at, standing_after, next_at, IsNamed, IsTurned, EachRoundTurned, IsDriven, lines_in, round_at}

abbrev pub as_next : Step → Next
as_next (Key call answer) = KeyNext call
as_next step = StepNext step

-- what is named before each step, and after the last
abbrev pub named_along : ScriptParts → Setting → Standing → List Step → List Next
named_along script round standing [] = next_at script round standing ∷ []
named_along script round standing (step ∷ steps) =
    next_at script round standing ∷ named_along script round (standing_after script round standing step) steps

abbrev pub expected_along : List Step → List Next
expected_along log = map as_next log ++ Over ∷ []

abbrev pub named_in_rounds : ScriptParts → History → List PastRound → WholeState → List RoundLog → List (List (List Next))
named_in_rounds script run before state [] = []
named_in_rounds script run before state (round ∷ rounds) =
    map (λ c. named_along script (setting_in script (views_of state.epochs)) (standing_at script c before (views_of state.epochs) []) (log_of round c))
    (numbers_from 0 run.columns)
    ∷ named_in_rounds script run (before ++ record { views = views_of state.epochs; round = round } ∷ []) (after_round run round state) rounds

-- by round and by column
abbrev pub named_in : ScriptParts → History → List (List (List Next))
named_in script run = named_in_rounds script run [] (first_state run) run.rounds

abbrev pub expected_in : History → List (List (List Next))
expected_in run = map (λ round. map (λ c. expected_along (log_of round c)) (numbers_from 0 run.columns)) run.rounds

abbrev pub run_of : ScriptParts → ℕ → List RoundLog → History
run_of script columns rounds =
    record {
      version = script.version;
      faults = script.size;
      columns = columns;
      client_columns = client_columns_of script;
      client_names = map (λ line. line.name) script.clients;
      key_names = script.keys;
      rounds = rounds;
    }

named_step : (step : Step) → IsNamed (as_next step) step
named_step (Begin client replica) = refl
named_step (Unread client) = refl
named_step (Read id key) = refl
named_step (Stamp id clock writes) = refl
named_step (Validate id) = refl
named_step (Take number) = refl
named_step (Key call answer) = refl
named_step (Rule id) = refl
named_step (Again id) = refl
named_step (Takeover id view) = refl
named_step (Pick id view) = refl
named_step (Stop id) = refl

-- a log along which the turns name its steps, and nothing more at its end, goes by the turns
pub turned_along : (script : ScriptParts) (round : Setting) (standing : Standing) (log : List Step) →
    named_along script round standing log ≡ expected_along log → IsTurned script round standing log
turned_along script round standing [] e = let first : next_at script round standing ≡ Over = cc in first
turned_along script round standing (step ∷ steps) e =
    let first : as_next step ≡ next_at script round standing = cc in
    let rest : named_along script round (standing_after script round standing step) steps ≡ expected_along steps = cc in
    (subst (λ next. IsNamed next step) first (named_step step), turned_along script round (standing_after script round standing step) steps rest)

at_or_above : (a b : ℕ) → b ≤ a → (a ≡ b) ⊎ (b + 1 ≤ a)
at_or_above a b le = grind (arith, le)

-- equal lists over numbers are equal at each of them
maps_agree : {X : Type 0} (f g : ℕ → X) (r n : ℕ) → map f (numbers_from r n) ≡ map g (numbers_from r n) → (c : ℕ) → r ≤ c → c < r + n → f c ≡ g c
maps_agree f g r zero e c low high = absurd (omega (arith, low, high))
maps_agree f g r (suc n) e c low high =
    let first : f r ≡ g r = cc in
    let rest : map f (numbers_from (r + 1) n) ≡ map g (numbers_from (r + 1) n) = cc in
    elim (at_or_above c r low) [
      | inl same ↦ subst (λ (k : ℕ). f k ≡ g k) (sym same) first
      | inr above ↦ maps_agree f g (r + 1) n rest c above (omega (arith, high))
    ]

-- the global lines of each round are the script's, from the round of this number on
abbrev pub AreLines : ScriptParts → ℕ → List RoundLog → Type 0
AreLines script number [] = Unit {0}
AreLines script number (round ∷ rounds) =
    (lines_in round.globals ≡ (let lines = round_at script number in lines.globals)) × AreLines script (number + 1) rounds

rounds_turned : (script : ScriptParts) (run : History) (before : List PastRound) (state : WholeState) (rounds : List RoundLog) (number : ℕ) → number ≡ length before →
    named_in_rounds script run before state rounds ≡ map (λ round. map (λ c. expected_along (log_of round c)) (numbers_from 0 run.columns)) rounds →
    AreLines script number rounds → EachRoundTurned script run before state rounds
rounds_turned script run before state [] number n e lines = tt
rounds_turned script run before state (round ∷ rounds) number n e lines =
    let views = views_of state.epochs in
    let first : map (λ c. named_along script (setting_in script (views_of state.epochs)) (standing_at script c before (views_of state.epochs) []) (log_of round c)) (numbers_from 0 run.columns)
    ≡ map (λ c. expected_along (log_of round c)) (numbers_from 0 run.columns) = cc in
    let rest : named_in_rounds script run (before ++ record { views = views_of state.epochs; round = round } ∷ []) (after_round run round state) rounds
    ≡ map (λ round. map (λ c. expected_along (log_of round c)) (numbers_from 0 run.columns)) rounds = cc in (
      (λ c lt. turned_along script (setting_in script views) (standing_at script c before views []) (log_of round c)
          (maps_agree (λ c. named_along script (setting_in script (views_of state.epochs)) (standing_at script c before (views_of state.epochs) []) (log_of round c))
          (λ c. expected_along (log_of round c)) 0 run.columns first c (omega arith) (omega (arith, lt)))),
      subst (λ (k : ℕ). lines_in round.globals ≡ (let lines = round_at script k in lines.globals)) n lines.0,
      rounds_turned script run (before ++ record { views = views; round = round } ∷ []) (after_round run round state) rounds (number + 1)
          (let longer = length-append before (record { views = views; round = round } ∷ []) in omega (arith, n, longer)) rest lines.1,
    )

-- a run whose logs are what the turns name goes by the script
pub driven_run : (script : ScriptParts) (run : History) → named_in script run ≡ expected_in run → AreLines script 0 run.rounds →
    run.version ≡ script.version → run.faults ≡ script.size → run.columns ≡ columns_of (client_columns_of script) → run.client_columns ≡ client_columns_of script →
    run.client_names ≡ map (λ line. line.name) script.clients → run.key_names ≡ script.keys → length run.rounds ≡ length script.rounds → IsDriven script run
driven_run script run named lines version size columns client_columns client_names key_names rounds =
    record {
      version = version;
      size = size;
      columns = columns;
      client_columns = client_columns;
      client_names = client_names;
      key_names = key_names;
      rounds = rounds;
      turns = rounds_turned script run [] (first_state run) run.rounds 0 refl named lines;
    }
