use Rattle.std.proofs.Common.{true, false}
use Rattle.mk_txn.specs.declared.Outcome.TheVariants.{Commit}
use Rattle.mk_trim.proofs.InOrder.{outcome_of-there}
use Rattle.mk_trim.proofs.outcomes.find.Goals as goal

pub returns-then-stands_at : goal.returns-then-stands_at
returns-then-stands_at c =
    outcome_of-there c.args.id c.args.outcomes.now c.place-place.result
    (record { client = 0; seq = 0 }, Commit) true c.requires c.place-place.ensures.value c.if-stands_at.ensures.value

pub returns-else-stands_at : goal.returns-else-stands_at
returns-else-stands_at c =
    outcome_of-there c.args.id c.args.outcomes.now c.place-place.result
    (record { client = 0; seq = 0 }, Commit) false c.requires c.place-place.ensures.value c.if-stands_at.ensures.value
