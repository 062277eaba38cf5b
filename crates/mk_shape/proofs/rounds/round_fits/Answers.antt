use Rattle.std.proofs.Common.{◌∙◌, sym}
use Rattle.mk_shape.proofs.RoundLaws.{shape_from_tests, tests_from_shape}
use Rattle.mk_shape.proofs.rounds.round_fits.Goals as goal

pub returns : goal.returns
returns c rounds = (
  (λ passed. shape_from_tests c.args.head.now c.args.round.now rounds (sym c.passes_tests.ensures ∙ passed)),
  (λ shape. c.passes_tests.ensures ∙ tests_from_shape c.args.head.now c.args.round.now rounds shape),
)
