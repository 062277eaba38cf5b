-- What a judge says of the rounds that it was shown.
use Rattle.std.proofs.Common.{◌≡◌, ◌∙◌, ℕ, refl, sym, ap, subst, List, [], ◌∷◌, ◌++◌}
use Rattle.std.proofs.lemmas.List.{append-nil}
use Rattle.mk_history.specs.declared.RoundLog.{RoundLog}
use Rattle.mk_history.specs.Histories.{History}
use Rattle.mk_history.specs.Shape.{HasShape}
use Rattle.mk_kept.specs.declared.head.Head.{Head}
use Rattle.mk_kept.specs.Heads.{history}
use Rattle.mk_verdict.specs.declared.Verdict.{Verdict}
use Rattle.mk_verdict.specs.declared.Verdict.TheVariants.{Legal, Broken}
use Rattle.mk_verdict.specs.declared.Place.{Place}
use Rattle.mk_verdict.specs.declared.Flaw.{Flaw}
use Rattle.mk_verdict.specs.Flaws.{verdict_of}
use Rattle.mk_run_laws.proofs.Cutting.{cuts_have_shape}
use Rattle.mk_run.specs.declared.line.Tally.{Tally}
use Rattle.mk_run.specs.Attempts.{outcomes_of, tally_of}
use Rattle.mk_run.specs.Judging.{JudgeView, StandsForRounds}
use Rattle.mk_tool.specs.VerdictTexts.{legal_text, broken_text, verdict_text, check_text}

-- the first rounds of a run have the shape of a run
pub first-shape : (head : Head) (done rest : List RoundLog) (round : RoundLog) → HasShape (history head (done ++ round ∷ rest)) → HasShape (history head (done ++ round ∷ []))
first-shape head done rest round shape =
    cuts_have_shape (history head (done ++ round ∷ rest)) done rest round round.globals [] shape refl (sym (append-nil round.globals))

-- what a judge tells of runs with a head that is its own
module _ (head : Head) (judge : JudgeView) (same : judge.head ≡ head) (rounds : List RoundLog) (stands : StandsForRounds judge rounds) (shape : HasShape (history head rounds)) where
  own : HasShape (history judge.head rounds)
  own = subst (λ (h : Head). HasShape (history h rounds)) (sym same) shape

  pub told-verdict : (result : Verdict) →
      ((rounds : List RoundLog) → StandsForRounds judge rounds → HasShape (history judge.head rounds) → result ≡ verdict_of (history judge.head rounds)) → result ≡ verdict_of (history head rounds)
  told-verdict result told = told rounds stands own ∙ ap (λ (h : Head). verdict_of (history h rounds)) same

  pub told-tally : (result : Tally) →
      ((rounds : List RoundLog) → StandsForRounds judge rounds → HasShape (history judge.head rounds) → result ≡ tally_of (outcomes_of (history judge.head rounds))) →
      result ≡ tally_of (outcomes_of (history head rounds))
  told-tally result told = told rounds stands own ∙ ap (λ (h : Head). tally_of (outcomes_of (history h rounds))) same

-- the text of a legal run, and that of a run with a flaw
pub legal-text : (run : History) (result : Verdict) (tally : Tally) → result ≡ verdict_of run → result ≡ Legal → tally ≡ tally_of (outcomes_of run) → legal_text tally ≡ check_text run
legal-text run result tally told legal counts =
    ap legal_text counts ∙ ap (λ (v : Verdict). verdict_text run.key_names (tally_of (outcomes_of run)) v) (sym legal ∙ told)

pub broken-text : (run : History) (head : Head) (result : Verdict) (round : ℕ) (place : Place) (why : Flaw) → history head run.rounds ≡ run → result ≡ verdict_of run → result ≡ Broken round place why →
    broken_text head.key_names.names round place why ≡ check_text run
broken-text run head result round place why parts told broken =
    ap (λ (r : History). broken_text r.key_names round place why) parts
    ∙ ap (λ (v : Verdict). verdict_text run.key_names (tally_of (outcomes_of run)) v) (sym broken ∙ told)
