use Rattle.std.proofs.Common.{◌≡◌, ap, arith, subst}
use Rattle.mk_words.specs.Picks.{seen_takeover, reply_counted}
use Rattle.mk_takeover.proofs.PickChanges.{replied}
use Rattle.mk_takeover.proofs.takeover.Takeover.take_told.Goals as goal

pub fill-requires : goal.fill-requires
fill-requires c =
    let same : c.self.inside.size ≡ c.args.self.now.faults = ap (λ v. v.faults) c.self.view_is in
    omega (arith, same, c.requires, c.self.invariant)

pub returns : goal.returns
returns c =
    let same : c.self.inside.size ≡ c.args.self.now.faults = ap (λ v. v.faults) c.self.view_is in
    subst (λ v. seen_takeover c.self.inside.size c.self.inside.view c.fill.new.slots c.self.inside.accepts c.self.inside.proposed c.or-self-inside.result ≡ record v { state = reply_counted c.args.replica c.args.told.now v.state }) c.self.view_is
    (replied c.self.inside.size c.self.inside.view c.self.inside.told c.fill.new.slots c.self.inside.accepts c.self.inside.proposed c.self.inside.learned c.or-self-inside.result c.args.replica c.args.told.now (omega (arith, same, c.requires)) c.fill.ensures c.or-self-inside.ensures)
