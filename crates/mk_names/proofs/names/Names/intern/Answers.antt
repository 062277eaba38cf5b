use Rattle.std.proofs.Common.{◌≡◌, None, sym, ap, ◌∙◌}
use Rattle.mk_spelling.specs.Fields.{place}
use Rattle.mk_names.proofs.NameLaws.{some_place}
use Rattle.mk_spelling.proofs.PlaceLaws.{place_new}
use Rattle.mk_names.proofs.names.Names.intern.Goals as goal

pub returns-clause-number : goal.returns-clause-number
returns-clause-number c =
    let fresh : place c.args.name.now c.args.self.now.names ≡ None = sym c.find.ensures.number ∙ c.in_default.is in
    ap (λ s. place c.args.name.now s.names) c.in_ok-put.ensures.ok ∙ place_new c.args.name.now c.args.self.now.names fresh
    ∙ ap some_place (sym c.len-number.ensures.count)
