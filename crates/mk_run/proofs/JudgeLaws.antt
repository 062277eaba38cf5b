-- Rounds judged in turn: one more round behind those that were judged.
use Rattle.std.proofs.Common.{◌≡◌, ◌∙◌, ◌+◌, ℕ, refl, sym, ap, arith, List, [], ◌∷◌, ◌++◌, length, Option, Some, None}
use Rattle.std.specs.Prelude.{option_map, unwrap_or}
use Rattle.std.specs.Option.{option_or}
use Rattle.mk_history.specs.declared.RoundLog.{RoundLog}
use Rattle.mk_history.specs.Histories.{History}
use Rattle.mk_history.specs.Legality.{EachRoundLegal, IsLegalRound}
use Rattle.mk_history.specs.Wholes.{WholeState, first_state, state_through, after_round}
use Rattle.mk_verdict.specs.declared.Flaw.{Flaw}
use Rattle.mk_verdict.specs.declared.Place.{Place}
use Rattle.mk_verdict.specs.declared.PlacedFlaw.{PlacedFlaw}
use Rattle.mk_verdict.specs.declared.Verdict.{Verdict}
use Rattle.mk_verdict.specs.declared.Verdict.TheVariants.{Legal, Broken}
use Rattle.mk_verdict.specs.Flaws.{broken, flaw_of_round, flaw_from}
use Rattle.mk_verdict.proofs.Exact.{rounds_have_no_flaw}
use Rattle.mk_run.proofs.FirstLaws.{or_none, option_or-assoc}

pub state-push : (run : History) (state : WholeState) (rounds : List RoundLog) (round : RoundLog) →
    state_through run state (rounds ++ round ∷ []) ≡ after_round run round (state_through run state rounds)
state-push run state [] round = refl
state-push run state (r ∷ rounds) round = state-push run (after_round run r state) rounds round

pub legal-push : (run : History) (state : WholeState) (rounds : List RoundLog) (round : RoundLog) → EachRoundLegal run state rounds →
    IsLegalRound run round (state_through run state rounds) → EachRoundLegal run state (rounds ++ round ∷ [])
legal-push run state [] round h legal = (legal, tt)
legal-push run state (r ∷ rounds) round h legal = (h.0, legal-push run (after_round run r state) rounds round h.1 legal)

pub flaw-push : (first number : ℕ) (run : History) (state : WholeState) (rounds : List RoundLog) (round : RoundLog) → number ≡ length rounds + first →
    flaw_from first run state (rounds ++ round ∷ []) ≡ option_or (flaw_from first run state rounds) (option_map (broken number) (flaw_of_round run (state_through run state rounds) round))
flaw-push first number run state [] round e =
    let same : first ≡ number = omega (arith, e) in
    or_none (option_map (broken first) (flaw_of_round run state round)) ∙ ap (λ (n : ℕ). option_map (broken n) (flaw_of_round run state round)) same
flaw-push first number run state (r ∷ rounds) round e =
    let here = option_map (broken first) (flaw_of_round run state r) in
    let next = after_round run r state in
    let count : number ≡ length rounds + (first + 1) = omega (arith, e) in
    ap (option_or here) (flaw-push (first + 1) number run next rounds round count)
    ∙ option_or-assoc here (flaw_from (first + 1) run next rounds) (option_map (broken number) (flaw_of_round run (state_through run next rounds) round))

-- behind legal rounds the verdict is that of the next
pub legal-verdict : (run : History) (rounds : List RoundLog) (round : RoundLog) (number : ℕ) (flaw : Option PlacedFlaw) → number ≡ length rounds + 1 →
    EachRoundLegal run (first_state run) rounds → flaw ≡ flaw_of_round run (state_through run (first_state run) rounds) round →
    unwrap_or (option_map (broken number) flaw) Legal ≡ unwrap_or (flaw_from 1 run (first_state run) (rounds ++ round ∷ [])) Legal
legal-verdict run rounds round number flaw count legal is =
    let none = rounds_have_no_flaw 1 run (first_state run) rounds legal in
    ap (λ (o : Option PlacedFlaw). unwrap_or (option_map (broken number) o) Legal) is
    ∙ sym (ap (λ (o : Option Verdict). unwrap_or o Legal)
    (flaw-push 1 number run (first_state run) rounds round count
    ∙ ap (λ (o : Option Verdict). option_or o (option_map (broken number) (flaw_of_round run (state_through run (first_state run) rounds) round))) none))

-- behind a flaw the verdict stays
pub broken-verdict : (run : History) (rounds : List RoundLog) (round : RoundLog) (number : ℕ) (place : Place) (why : Flaw) →
    Broken number place why ≡ unwrap_or (flaw_from 1 run (first_state run) rounds) Legal →
    Broken number place why ≡ unwrap_or (flaw_from 1 run (first_state run) (rounds ++ round ∷ [])) Legal
broken-verdict run rounds round number place why e =
    by_found (flaw_from 1 run (first_state run) rounds) refl e
  where
    last : Option Verdict
    last = option_map (broken (length rounds + 1)) (flaw_of_round run (state_through run (first_state run) rounds) round)

    by_found : (o : Option Verdict) → flaw_from 1 run (first_state run) rounds ≡ o → Broken number place why ≡ unwrap_or o Legal →
        Broken number place why ≡ unwrap_or (flaw_from 1 run (first_state run) (rounds ++ round ∷ [])) Legal
    by_found None is wrong = absurd (cc wrong)
    by_found (Some v) is same =
        same
        ∙ sym (ap (λ (o : Option Verdict). unwrap_or o Legal)
        (flaw-push 1 (length rounds + 1) run (first_state run) rounds round refl ∙ ap (λ (o : Option Verdict). option_or o last) is))
