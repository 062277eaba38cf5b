use Rattle.std.proofs.Common.{ap, ◌∙◌}
use Rattle.std.specs.Map.{lookup}
use Rattle.mk_faults.specs.Indexes.{same_coordinator}
use Rattle.mk_faults.specs.Fates.{stop_of}
use Rattle.mk_faults.proofs.IndexLaws.{point-kept}
use Rattle.mk_faults.proofs.rules.Rules.stop_of.Goals as goal

pub returns : goal.returns
returns c =
    c.copied.ensures ∙ c.get.ensures.value ∙ ap (λ t. lookup (same_coordinator t) c.self.inside.points.entries) c.new.ensures
    ∙ point-kept c.self.inside.stops.items c.self.inside.points.entries c.self.invariant.pointed c.args.id
    ∙ ap (λ rules. stop_of rules c.args.id) c.self.view_is
