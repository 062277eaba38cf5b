use Rattle.std.proofs.Common.{◌≡◌, ap, arith, subst}
use Rattle.mk_words.specs.Rulings.{seen_coord, vote_counted}
use Rattle.mk_coord.proofs.CoordChanges.{voted}
use Rattle.mk_coord.proofs.coord.Coord.take_vote.Goals as goal

pub fill-requires : goal.fill-requires
fill-requires c =
    let same : c.self.inside.size ≡ c.args.self.now.faults = ap (λ v. v.faults) c.self.view_is in
    omega (arith, same, c.requires, c.self.invariant)

pub returns : goal.returns
returns c =
    let same : c.self.inside.size ≡ c.args.self.now.faults = ap (λ v. v.faults) c.self.view_is in
    subst (λ v. seen_coord c.self.inside.size c.fill.new.slots c.self.inside.accepts c.self.inside.proposed c.self.inside.learned ≡ record v { state = vote_counted c.args.replica c.args.vote v.state }) c.self.view_is
    (voted c.self.inside.size c.self.inside.votes c.fill.new.slots c.self.inside.accepts c.self.inside.proposed c.self.inside.learned c.args.replica c.args.vote (omega (arith, same, c.requires)) c.fill.ensures)
