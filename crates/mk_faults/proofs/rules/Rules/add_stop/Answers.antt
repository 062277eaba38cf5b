use Rattle.std.proofs.Common.{◌≡◌, ◌++◌, ◌∷◌, [], rules}
use Rattle.mk_faults.specs.Indexes.{coordinator_in, KeepsPoint}
use Rattle.mk_faults.proofs.IndexLaws.{ArePoints-more}
use Rattle.mk_faults.proofs.rules.Rules.add_stop.Goals as goal

pub invariant_of-self-2 : goal.invariant_of-self-2
invariant_of-self-2 c =
    let stops = c.self.inside.stops.items in
    let pushed : c.push.new.self.items ≡ stops ++ c.args.line ∷ [] = search rules in
    let keeps : KeepsPoint (coordinator_in c.args.line) c.args.line.point c.self.inside.points.entries c.keep_point.new.points.entries = search rules in
    rw (pushed) (record { fated = c.self.invariant.fated; pointed = ArePoints-more stops c.args.line c.self.inside.points.entries c.keep_point.new.points.entries c.self.invariant.pointed keeps })
