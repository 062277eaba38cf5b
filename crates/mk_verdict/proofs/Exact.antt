-- What a verdict says.
use Rattle.std.proofs.Common.{◌≡◌, ◌∙◌, ◌↔◌, ℕ, ◌+◌, refl, sym, ap, subst, arith, List, [], ◌∷◌, ◌++◌, length, Option, Some, None}
use Rattle.std.specs.Prelude.{option_map, unwrap_or}
use Rattle.std.specs.Option.{option_or}
use Rattle.mk_lists.proofs.Options.{None-from_map}
use Rattle.mk_history.specs.declared.RoundLog.{RoundLog}
use Rattle.mk_history.specs.Histories.{History}
use Rattle.mk_history.specs.Legality.{IsLegal, EachRoundLegal}
use Rattle.mk_history.specs.Wholes.{WholeState, first_state, state_through, after_round}
use Rattle.mk_verdict.specs.declared.Flaw.{Flaw}
use Rattle.mk_verdict.specs.declared.PlacedFlaw.{PlacedFlaw}
use Rattle.mk_verdict.specs.declared.Place.{Place}
use Rattle.mk_verdict.specs.declared.Verdict.{Verdict}
use Rattle.mk_verdict.specs.declared.Verdict.TheVariants.{Legal, Broken}
use Rattle.mk_verdict.specs.Flaws.{flaw_of_round, broken, flaw_from, verdict_of}
use Rattle.mk_verdict.specs.Exactness.{VerdictsAreExact, IsFirstFlaw, FirstFlawsAreFirst}
use Rattle.mk_verdict.proofs.FirstFacts.{option_or-none, option_or-none_from}
use Rattle.mk_verdict.proofs.Rounds.{round_is_legal, round_has_no_flaw}

pub rounds_are_legal : (number : ℕ) (run : History) (state : WholeState) (rounds : List RoundLog) → flaw_from number run state rounds ≡ None → EachRoundLegal run state rounds
rounds_are_legal number run state [] e = tt
rounds_are_legal number run state (round ∷ rounds) e =
    let first = flaw_of_round run state round in
    let parts = option_or-none (option_map (broken number) first) (flaw_from (number + 1) run (after_round run round state) rounds) e in
    (round_is_legal run state round (None-from_map (broken number) first parts.0), rounds_are_legal (number + 1) run (after_round run round state) rounds parts.1)

pub rounds_have_no_flaw : (number : ℕ) (run : History) (state : WholeState) (rounds : List RoundLog) → EachRoundLegal run state rounds → flaw_from number run state rounds ≡ None
rounds_have_no_flaw number run state [] h = refl
rounds_have_no_flaw number run state (round ∷ rounds) h =
    option_or-none_from (option_map (broken number) (flaw_of_round run state round)) (flaw_from (number + 1) run (after_round run round state) rounds)
    (ap (option_map (broken number)) (round_has_no_flaw run state round h.0))
    (rounds_have_no_flaw (number + 1) run (after_round run round state) rounds h.1)

-- the rounds have a first flaw, or none
record Flawed (run : History) (state : WholeState) (first : ℕ) (rounds : List RoundLog) (number : ℕ) (place : Place) (why : Flaw) : Type 0 where
  done : List RoundLog
  round : RoundLog
  rest : List RoundLog
  split : rounds ≡ done ++ round ∷ rest
  number_is : number ≡ length done + first
  before : EachRoundLegal run state done
  flaw : flaw_of_round run (state_through run state done) round ≡ Some (record { place = place; why = why })

legal_not_broken : (number : ℕ) (place : Place) (why : Flaw) → Legal ≡ Broken number place why → ⊥
legal_not_broken number place why e = cc e

same_broken : (a b : ℕ) (p q : Place) (v w : Flaw) → Broken a p v ≡ Broken b q w → (a ≡ b) × (p ≡ q) × (v ≡ w)
same_broken a b p q v w e = (cc e, cc e, cc e)

no_flaw_is_not_legal : (number : ℕ) (run : History) (state : WholeState) (rounds : List RoundLog) → unwrap_or (flaw_from number run state rounds) Legal ≡ Legal → flaw_from number run state rounds ≡ None
no_flaw_is_not_legal number run state [] e = refl
no_flaw_is_not_legal number run state (round ∷ rounds) e =
    none_first (flaw_of_round run state round) e (no_flaw_is_not_legal (number + 1) run (after_round run round state) rounds)
  where
    later : Option Verdict
    later = flaw_from (number + 1) run (after_round run round state) rounds

    none_first : (first : Option PlacedFlaw) → unwrap_or (option_or (option_map (broken number) first) later) Legal ≡ Legal → (unwrap_or later Legal ≡ Legal → later ≡ None) → option_or (option_map (broken number) first) later ≡ None
    none_first None legal rest = rest legal
    none_first (Some flaw) legal rest = absurd (legal_not_broken number flaw.place flaw.why (sym legal))

-- the flaw of the first round, where it has one, and else that of the later rounds
first_flaw : (first : ℕ) (run : History) (state : WholeState) (round : RoundLog) (rounds : List RoundLog) (number : ℕ) (place : Place) (why : Flaw) (found : Option PlacedFlaw) →
    flaw_of_round run state round ≡ found →
    unwrap_or (option_or (option_map (broken first) found) (flaw_from (first + 1) run (after_round run round state) rounds)) Legal ≡ Broken number place why →
    (unwrap_or (flaw_from (first + 1) run (after_round run round state) rounds) Legal ≡ Broken number place why → Flawed run (after_round run round state) (first + 1) rounds number place why) →
    Flawed run state first (round ∷ rounds) number place why
first_flaw first run state round rounds number place why None none broke rest =
    let k = rest broke in
    record {
      done = round ∷ k.done;
      round = k.round;
      rest = k.rest;
      split = ap (λ (rs : List RoundLog). round ∷ rs) k.split;
      number_is = k.number_is ∙ omega arith;
      before = (round_is_legal run state round none, k.before);
      flaw = k.flaw;
    }
first_flaw first run state round rounds number place why (Some flaw) some broke rest =
    let same = same_broken first number flaw.place place flaw.why why broke in
    record {
      done = [];
      round = round;
      rest = rounds;
      split = refl;
      number_is = sym same.0 ∙ omega arith;
      before = tt;
      flaw = some ∙ (λ i. Some (record { place = same.1 i; why = same.2 i }));
    }

flawed : (first : ℕ) (run : History) (state : WholeState) (rounds : List RoundLog) (number : ℕ) (place : Place) (why : Flaw) →
    unwrap_or (flaw_from first run state rounds) Legal ≡ Broken number place why → Flawed run state first rounds number place why
flawed first run state [] number place why e = absurd (legal_not_broken number place why e)
flawed first run state (round ∷ rounds) number place why e =
    first_flaw first run state round rounds number place why (flaw_of_round run state round) refl e (flawed (first + 1) run (after_round run round state) rounds number place why)

pub verdicts_are_exact : VerdictsAreExact
verdicts_are_exact run = (
  λ e. rounds_are_legal 1 run (first_state run) run.rounds (no_flaw_is_not_legal 1 run (first_state run) run.rounds e),
  λ legal. ap (λ (v : Option Verdict). unwrap_or v Legal) (rounds_have_no_flaw 1 run (first_state run) run.rounds legal),
)

pub first_flaws_are_first : FirstFlawsAreFirst
first_flaws_are_first run number place why e =
    let k = flawed 1 run (first_state run) run.rounds number place why e in
    record { done = k.done; round = k.round; rest = k.rest; split = k.split; number_is = k.number_is; before = k.before; flaw = k.flaw }
