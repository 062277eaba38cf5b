use Rattle.std.proofs.Common.{◌∙◌}
use Rattle.mk_txn.specs.declared.Outcome.TheVariants.{Commit}
use Rattle.mk_trim.proofs.InOrder.{has_outcome-there, has_outcome-none}
use Rattle.mk_trim.proofs.outcomes.stands_at.Goals as goal

pub returns-then-place-outcomes-clause-value : goal.returns-then-place-outcomes-clause-value
returns-then-place-outcomes-clause-value c =
    c.same_id.ensures
    ∙ has_outcome-there c.args.id c.args.outcomes.now c.args.place (record { client = 0; seq = 0 }, Commit) c.requires c.if-place-outcomes.true

pub returns-else-place-outcomes-clause-value : goal.returns-else-place-outcomes-clause-value
returns-else-place-outcomes-clause-value c = has_outcome-none c.args.id c.args.outcomes.now c.args.place c.requires c.if-place-outcomes.false
