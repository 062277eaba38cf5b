use Rattle.std.proofs.Common.{◌∙◌, sym, ap, arith}
use Rattle.std.specs.Prelude.{slice_get}
use Rattle.std.proofs.lemmas.Option.{slice_get_past}
use Rattle.mk_cell.proofs.PlaceLaws.{least_above-at}
use Rattle.mk_cell.proofs.pending.Pending.least_above.Goals as goal

pub returns-then-place-count-clause-least : goal.returns-then-place-count-clause-least
returns-then-place-count-clause-least g c =
    let stamps = c.args.self.now.stamps in
    sym c.at.ensures.stamp ∙ ap (slice_get stamps) c.first_above-place.ensures.place ∙ sym (least_above-at c.args.bound stamps)

pub returns-else-place-count-clause-least : goal.returns-else-place-count-clause-least
returns-else-place-count-clause-least g c =
    let stamps = c.args.self.now.stamps in
    let past = slice_get_past stamps c.first_above-place.result (omega (arith, c.count.ensures.count, c.if-place-count.false)) in
    sym past ∙ ap (slice_get stamps) c.first_above-place.ensures.place ∙ sym (least_above-at c.args.bound stamps)
