use Rattle.std.proofs.Common.{◌≡◌, ◌∙◌, refl, sym, subst}
use Rattle.mk_words.specs.Bases.{BaseState}
use Rattle.mk_words.specs.declared.GlobalLine.{GlobalLine}
use Rattle.mk_words.specs.declared.GlobalLine.TheVariants.{Promise, Adopt}
use Rattle.mk_words.specs.declared.GlobalAnswer.TheVariants.{WordFault}
use Rattle.mk_epoch.specs.Standing.{ReplicasView, StandsFor}
use Rattle.mk_verdict.specs.Sameness.{may_answer}
use Rattle.mk_whole.specs.Standings.{IsItself}
use Rattle.mk_whole.proofs.LineFacts.{may-write}
use Rattle.mk_whole.proofs.globals.may_write.Goals as goal

pub returns-in-Promise : goal.returns-in-Promise
returns-in-Promise c run state may =
    let line = Promise c.in-Promise.epoch c.in-Promise.replica in
    let stands = subst (λ (kept : ReplicasView BaseState). StandsFor IsItself kept state.epochs) (sym c.replicas.ensures) may.within.epochs in
    c.is_ok.ensures.value
    ∙ may-write state.epochs line refl c.may_promise.result (c.may_promise.ensures.answer state.epochs stands) c.may_promise.ensures.early
    ∙ subst (λ (l : GlobalLine). may_answer state.epochs line WordFault ≡ may_answer state.epochs l WordFault) (sym c.in-Promise.is) refl

pub returns-in-Adopt : goal.returns-in-Adopt
returns-in-Adopt c run state may =
    let line = Adopt c.in-Adopt.epoch c.in-Adopt.replica in
    let stands = subst (λ (kept : ReplicasView BaseState). StandsFor IsItself kept state.epochs) (sym c.replicas-in-Adopt.ensures) may.within.epochs in
    c.is_ok-in-Adopt.ensures.value
    ∙ may-write state.epochs line refl c.may_adopt.result (c.may_adopt.ensures.answer state.epochs stands) c.may_adopt.ensures.early
    ∙ subst (λ (l : GlobalLine). may_answer state.epochs line WordFault ≡ may_answer state.epochs l WordFault) (sym c.in-Adopt.is) refl
