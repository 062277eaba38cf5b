use Rattle.std.proofs.Common.{◌∙◌, sym, ap, []}
use Rattle.std.specs.List.{list_all}
use Rattle.std.proofs.lemmas.List.Folds.{list_all-map}
use Rattle.mk_history.specs.Shape.{step_fits}
use Rattle.mk_kept.specs.Heads.{history}
use Rattle.mk_shape.proofs.rounds.steps_fit.Goals as goal

pub returns : goal.returns
returns c =
    c.logs_fit.ensures ∙ sym (list_all-map (list_all (step_fits (history c.args.head.now []))) (λ log. log.items) c.as_slice.result.now)
    ∙ ap (list_all (list_all (step_fits (history c.args.head.now [])))) c.as_slice.ensures
