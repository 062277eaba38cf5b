use Rattle.std.proofs.Common.{◌∙◌, ap, []}
use Rattle.std.specs.List.{list_all}
use Rattle.mk_history.specs.Shape.{entry_fits}
use Rattle.mk_kept.specs.Heads.{history}
use Rattle.mk_shape.proofs.RoundLaws.{tests_kept}
use Rattle.mk_shape.proofs.rounds.entries_fit.Goals as goal

pub returns : goal.returns
returns c =
    c.replicas_fit.ensures ∙ tests_kept (λ keys. keys.items) (λ key. key.items) (entry_fits (history c.args.head.now [])) c.as_slice.result.now
    ∙ ap (list_all (list_all (list_all (entry_fits (history c.args.head.now []))))) c.as_slice.ensures
