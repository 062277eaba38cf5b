use Rattle.std.proofs.Common.{◌≡◌, true, sym, ap, ◌∙◌}
use Rattle.mk_follow.specs.Rules.{picks}
use Rattle.mk_follow.specs.Following.{Following, shown_version}
use Rattle.mk_follow.proofs.Keeps.{shown}
use Rattle.mk_follow.proofs.follower.Follower.get.Goals as goal

pub returns-then-picks : goal.returns-then-picks
returns-then-picks c =
    let s = c.self.inside in
    let picked : picks s.subscription c.args.key ≡ true = sym c.picks.ensures ∙ c.if-picks.true in
    shown c.latest_commits_stand.ensures.copy_holds s.columns s.subscription s.commits.commits s.marks.items s.lanes.items s.rows.items s.watermark c.args.key c.index.result.now
    c.self.invariant.1 c.requires picked c.index.ensures
    ∙ ap (λ (v : Following). shown_version v c.args.key) c.self.view_is
