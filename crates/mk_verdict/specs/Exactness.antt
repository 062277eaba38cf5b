-- What a verdict says.
use Rattle.std.specs.Prelude.{◌≡◌, ◌↔◌, ℕ, ◌+◌, List, ◌∷◌, ◌++◌, length, Some}
use Rattle.mk_history.specs.declared.RoundLog.{RoundLog}
use Rattle.mk_history.specs.Histories.{History}
use Rattle.mk_history.specs.Legality.{IsLegal, EachRoundLegal}
use Rattle.mk_history.specs.Wholes.{first_state, state_through}
use Rattle.mk_verdict.specs.declared.Flaw.{Flaw}
use Rattle.mk_verdict.specs.declared.Place.{Place}
use Rattle.mk_verdict.specs.declared.Verdict.TheVariants.{Legal, Broken}
use Rattle.mk_verdict.specs.Flaws.{verdict_of, flaw_of_round}

-- a run has no flaw exactly where it is legal
abbrev pub VerdictsAreExact : Type 0
VerdictsAreExact = (run : History) → (verdict_of run ≡ Legal) ↔ IsLegal run

-- the round has this flaw first, and the rounds before it are legal
pub record IsFirstFlaw (run : History) (number : ℕ) (place : Place) (why : Flaw) : Type 0 where
  pub done : List RoundLog
  pub round : RoundLog
  pub rest : List RoundLog
  pub split : run.rounds ≡ done ++ round ∷ rest
  pub number_is : number ≡ length done + 1
  pub before : EachRoundLegal run (first_state run) done
  pub flaw : flaw_of_round run (state_through run (first_state run) done) round ≡ Some (record { place = place; why = why })

abbrev pub FirstFlawsAreFirst : Type 0
FirstFlawsAreFirst = (run : History) (number : ℕ) (place : Place) (why : Flaw) → verdict_of run ≡ Broken number place why → IsFirstFlaw run number place why
