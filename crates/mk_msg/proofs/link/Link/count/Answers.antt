use Rattle.std.proofs.Common.{◌≡◌, ap, ◌∙◌, unwrap_or}
use Rattle.mk_words.specs.Links.{count_of}
use Rattle.mk_msg.specs.Indexes.{kept_count}
use Rattle.mk_msg.proofs.link.Link.count.Goals as goal

pub returns : goal.returns
returns c =
    let kept : c.unwrap_or.result ≡ kept_count c.self.inside.counts.entries c.new-stream.result =
    c.unwrap_or.ensures ∙ ap (λ o. unwrap_or o 0) (c.copied.ensures ∙ c.get.ensures.value) in
    kept ∙ ap (kept_count c.self.inside.counts.entries) c.new-stream.ensures ∙ c.self.invariant.counted c.args.kind c.args.id c.args.replica
    ∙ ap (λ link. count_of link.messages c.args.kind c.args.id c.args.replica) c.self.view_is
