use Rattle.std.proofs.Common.{[], ◌++◌, ◌∷◌}
use Rattle.mk_store.proofs.run.keep_shape.Goals as goal

pub returns-then-are_few-clause-shape : goal.returns-then-are_few-clause-shape
returns-then-are_few-clause-shape c = (c.round_fits.ensures []).0 c.if-round_fits.true

pub returns-then-are_few-clause-few : goal.returns-then-are_few-clause-few
returns-then-are_few-clause-few c run rounds counts names shapes =
    (c.are_few.ensures run (rounds ++ c.args.round.now ∷ []) (c.take.ensures rounds counts) names shapes).0 c.if-are_few.true
