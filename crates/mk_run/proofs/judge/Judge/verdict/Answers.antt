use Rattle.std.proofs.Common.{◌∙◌, ap, sym}
use Rattle.mk_kept.specs.Heads.{history}
use Rattle.mk_run.specs.Judging.{JudgeView}
use Rattle.mk_run.proofs.StandLaws.{judged-whole}
use Rattle.mk_run.proofs.judge.Judge.verdict.Goals as goal

pub returns-clause-legal : goal.returns-clause-legal
returns-clause-legal c =
    λ rounds stands shape.
    let judge = c.args.self.now in
    let told = ap (λ (j : JudgeView). j.verdict) c.self.view_is ∙ (judged-whole judge rounds stands shape).verdict in
    let exact = c.verdicts_are_exact.ensures.exact (history judge.head rounds) in
    (λ legal. exact.0 (sym told ∙ legal), λ legal. told ∙ exact.1 legal)
