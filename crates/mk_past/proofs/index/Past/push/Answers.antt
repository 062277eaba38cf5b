use Rattle.std.proofs.Common.{ap, ◌∙◌, ◌++◌, ◌∷◌, [], map}
use Rattle.mk_past.specs.Indexes.{PastView, versions_at, versions_by}
use Rattle.mk_past.proofs.IndexLaws.{pushed-index}
use Rattle.mk_past.proofs.index.Past.push.Goals as goal

pub returns : goal.returns
returns c txns txn own wrote h =
    pushed-index c.args.self.now (record { stamps = c.push.new.self.items; versions = map (λ key. key.items) c.push_writes.new.versions.items }) txns txn c.args.stamp c.args.writes.now
    (c.in_ok-push.ensures.items ∙ ap (λ (p : PastView). p.stamps ++ c.args.stamp ∷ []) c.self.view_is)
    (λ key. c.in_ok-push_writes.ensures key ∙ ap (λ (p : PastView). versions_at p.versions key ++ versions_by key c.args.stamp c.args.writes.now) c.self.view_is)
    own wrote h
