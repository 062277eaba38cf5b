use Rattle.std.proofs.Common.{◌∙◌, ap, true, false}
use Rattle.mk_trim.specs.Places.{place_of, has_outcome}
use Rattle.mk_trim.proofs.InOrder.{put_outcome-there}
use Rattle.mk_trim.proofs.outcomes.put.Goals as goal

pub returns-in_ok-insert-clause-ok : goal.returns-in_ok-insert-clause-ok
returns-in_ok-insert-clause-ok c =
    c.in_ok-insert.ensures.items
    ∙ put_outcome-there c.args.id c.args.outcome c.args.outcomes.now.items c.place-place.result false
    (c.place-place.ensures.value ∙ ap (place_of c.args.id) c.as_slice.ensures.value)
    (c.if-not-stands_at.ensures.value ∙ ap (has_outcome c.args.id) c.as_slice-2.ensures.value)

pub returns-else-not-stands_at-clause-ok : goal.returns-else-not-stands_at-clause-ok
returns-else-not-stands_at-clause-ok c =
    put_outcome-there c.args.id c.args.outcome c.args.outcomes.now.items c.place-place.result true
    (c.place-place.ensures.value ∙ ap (place_of c.args.id) c.as_slice.ensures.value)
    (c.if-not-stands_at.ensures.value ∙ ap (has_outcome c.args.id) c.as_slice-2.ensures.value)
