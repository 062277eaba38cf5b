use Rattle.std.proofs.Common.{◌∙◌, sym}
use Rattle.mk_cell.proofs.PlaceLaws.{least_below-first, least_below-none}
use Rattle.mk_cell.proofs.pending.Pending.least_below.Goals as goal

pub returns-then-precedes-clause-least : goal.returns-then-precedes-clause-least
returns-then-precedes-clause-least g c =
    sym (least_below-first c.args.bound c.at-least.result c.args.self.now.stamps c.at-least.ensures.stamp (sym c.precedes.ensures ∙ c.if-precedes.true))

pub returns-else-precedes-clause-least : goal.returns-else-precedes-clause-least
returns-else-precedes-clause-least g c =
    sym (least_below-none c.args.bound c.at-least.result c.args.self.now.stamps c.count.ensures.ascending c.at-least.ensures.stamp (sym c.precedes.ensures ∙ c.if-precedes.false))
