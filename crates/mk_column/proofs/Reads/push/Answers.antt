use Rattle.std.proofs.Common.{◌≡◌, true, sym, subst}
use Rattle.mk_column.specs.Readings.{may_join, ReadsFit}
use Rattle.mk_column.proofs.ReadingLaws.{ReadsFit-joined}
use Rattle.mk_column.proofs.Reads.push.Goals as goal

pub invariant_of-self-2 : goal.invariant_of-self-2
invariant_of-self-2 c =
    subst ReadsFit (sym c.in_ok-push.ensures.items)
    (ReadsFit-joined c.self.inside.items.items c.args.item (subst (λ reads. may_join c.args.item.key reads ≡ true) (sym c.self.view_is) c.requires) c.self.invariant)
