use Rattle.std.proofs.Common.{◌∙◌, sym, ap}
use Rattle.mk_words.specs.Validations.{after_answer}
use Rattle.mk_valid.proofs.ProgressLaws.{after-release}
use Rattle.mk_valid.proofs.validation.Validation.take.Goals as goal

pub returns-then-self : goal.returns-then-self
returns-then-self c =
    let v = c.self.inside in
    sym (after-release v.checks.items v.passed v.given_up v.refusal c.in-Some.field-0 c.args.answer c.in-Some.is)
    ∙ ap (λ state. after_answer state c.args.answer) c.self.view_is
