use Rattle.std.proofs.Common.{◌∙◌, ap}
use Rattle.mk_follow.specs.Commits.{CommitsState}
use Rattle.mk_follow.specs.Following.{has_id}
use Rattle.mk_follow.proofs.CommitLaws.{has-ids}
use Rattle.mk_follow.proofs.commits.Commits.has.Goals as goal

pub returns : goal.returns
returns c =
    c.contains.ensures
    ∙ has-ids c.self.inside.received.items c.self.inside.ids.keys c.args.id c.self.invariant.index
    ∙ ap (λ (s : CommitsState). has_id c.args.id s.commits) c.self.view_is
