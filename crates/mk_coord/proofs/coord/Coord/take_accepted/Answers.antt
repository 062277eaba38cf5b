use Rattle.std.proofs.Common.{◌≡◌, ap, arith, subst}
use Rattle.mk_words.specs.Rulings.{seen_coord, accept_counted}
use Rattle.mk_coord.proofs.CoordChanges.{accepted}
use Rattle.mk_coord.proofs.coord.Coord.take_accepted.Goals as goal

pub fill-requires : goal.fill-requires
fill-requires c =
    let same : c.self.inside.size ≡ c.args.self.now.faults = ap (λ v. v.faults) c.self.view_is in
    omega (arith, same, c.requires, c.self.invariant)

pub returns : goal.returns
returns c =
    let same : c.self.inside.size ≡ c.args.self.now.faults = ap (λ v. v.faults) c.self.view_is in
    subst (λ v. seen_coord c.self.inside.size c.self.inside.votes c.fill.new.slots c.self.inside.proposed c.self.inside.learned ≡ record v { state = accept_counted c.args.replica v.state }) c.self.view_is
    (accepted c.self.inside.size c.self.inside.votes c.self.inside.accepts c.fill.new.slots c.self.inside.proposed c.self.inside.learned c.args.replica (omega (arith, same, c.requires)) c.fill.ensures)
