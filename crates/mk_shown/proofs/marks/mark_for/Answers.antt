use Rattle.std.proofs.Common.{◌∙◌, ◌<◌, length, sym}
use Rattle.mk_shown.specs.Marks.{greatest_between}
use Rattle.mk_shown.proofs.BoundLaws.{some-there, mark-is}
use Rattle.mk_shown.proofs.marks.mark_for.Goals as goal

pub returns : goal.returns
returns c =
    let clients = c.args.clients.now in
    let stamped = c.args.stamped.now in
    let some : 0 < length clients = some-there (length clients) (sym c.is_empty.ensures ∙ c.if-is_empty.false) in
    c.greatest_between.ensures
    ∙ (λ i. greatest_between (c.first_open.ensures i) (c.least_last.ensures i) stamped)
    ∙ mark-is stamped clients some
