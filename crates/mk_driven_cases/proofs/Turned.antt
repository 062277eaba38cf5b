-- A round's logs along which the driver's turns name each step, and nothing more at the end, go by the turns.
use Rattle.std.proofs.Common.{◌≡◌, ◌<◌, ◌++◌, ℕ, List, [], ◌∷◌, refl, subst, map}
use Rattle.mk_words.specs.declared.Step.{Step}
use Rattle.mk_words.specs.declared.Step.TheVariants.{Begin, Unread, Read, Stamp, Validate, Take, Key, Rule, Again, Takeover, Pick, Stop}
use Rattle.mk_model.specs.ColumnState.{Setting}
use Rattle.mk_model.specs.EpochState.{views_of}
use Rattle.mk_script.specs.Scripts.{ScriptParts}
use Rattle.mk_history.specs.declared.RoundLog.{RoundLog}
use Rattle.mk_history.specs.Histories.{History, log_of}
use Rattle.mk_history.specs.Wholes.{WholeState}
use Rattle.mk_driver.specs.declared.Next.{Next}
use Rattle.mk_driver.specs.declared.Next.TheVariants.{Step as StepNext, Key as KeyNext, Over}
use Rattle.mk_driver.specs.Driven.{Standing, PastRound, setting_in, standing_at, standing_after, next_at, IsNamed, IsTurned}
use Rattle.mk_cases.proofs.Tried.{each_below, below}

-- what names this step
abbrev pub as_next : Step → Next
as_next (Key call answer) = KeyNext call
as_next step = StepNext step

-- what is named before each step, and after the last
abbrev pub named : ScriptParts → Setting → Standing → List Step → List Next
named script round standing [] = next_at script round standing ∷ []
named script round standing (step ∷ steps) = next_at script round standing ∷ named script round (standing_after script round standing step) steps

-- what is to be named
abbrev pub wanted : List Step → List Next
wanted log = map as_next log ++ Over ∷ []

is_named : (step : Step) → IsNamed (as_next step) step
is_named (Begin client replica) = refl
is_named (Unread client) = refl
is_named (Read id key) = refl
is_named (Stamp id clock writes) = refl
is_named (Validate id) = refl
is_named (Take number) = refl
is_named (Key call answer) = refl
is_named (Rule id) = refl
is_named (Again id) = refl
is_named (Takeover id view) = refl
is_named (Pick id view) = refl
is_named (Stop id) = refl

along : (script : ScriptParts) (round : Setting) (standing : Standing) (log : List Step) → named script round standing log ≡ wanted log → IsTurned script round standing log
along script round standing [] e = let first : next_at script round standing ≡ Over = cc in first
along script round standing (step ∷ steps) e =
    let first : as_next step ≡ next_at script round standing = cc in
    let rest : named script round (standing_after script round standing step) steps ≡ wanted steps = cc in
    (subst (λ next. IsNamed next step) first (is_named step), along script round (standing_after script round standing step) steps rest)

-- driver and column as a round begins after these rounds
abbrev pub begins : ScriptParts → List PastRound → WholeState → ℕ → Standing
begins script before state c = standing_at script c before (views_of state.epochs) []

-- what the columns go by in it
abbrev pub goes_by : ScriptParts → WholeState → Setting
goes_by script state = setting_in script (views_of state.epochs)

pub round_turned : (script : ScriptParts) (run : History) (before : List PastRound) (state : WholeState) (round : RoundLog) →
    each_below run.columns (λ c. named script (goes_by script state) (begins script before state c) (log_of round c)) ≡ each_below run.columns (λ c. wanted (log_of round c)) →
    (c : ℕ) → c < run.columns → IsTurned script (goes_by script state) (begins script before state c) (log_of round c)
round_turned script run before state round e c lt =
    along script (goes_by script state) (begins script before state c) (log_of round c)
    (below (λ c. named script (goes_by script state) (begins script before state c) (log_of round c)) (λ c. wanted (log_of round c)) run.columns e c lt)
