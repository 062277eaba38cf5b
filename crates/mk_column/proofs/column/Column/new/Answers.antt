use Rattle.mk_column.proofs.FreshClients.{start-view, start-kept}
use Rattle.mk_column.proofs.column.Column.new.Goals as goal
use Rattle.std.proofs.Common.{◌≡◌, ◌∙◌, ap}
use Rattle.std.specs.Prelude.{replicate}
use Rattle.mk_quorum.specs.Sizes.{members}
use Rattle.mk_model.specs.Replicas.{nothing_held}

pub invariant_of-result : goal.invariant_of-result
invariant_of-result c =
    let there : c.in_ok-empty_replicas.field-0.items ≡ replicate (members c.args.size) nothing_held =
    c.in_ok-empty_replicas.ensures ∙ ap (λ n. replicate n nothing_held) c.n.ensures in
    start-kept c.args.size c.args.clients.now _ _ _ _ _ _ _ c.in_ok-named.ensures c.new-2.ensures c.new-3.ensures there c.new-4.ensures c.new-5.ensures.items c.new-6.ensures

pub returns : goal.returns
returns c =
    let there : c.in_ok-empty_replicas.field-0.items ≡ replicate (members c.args.size) nothing_held =
    c.in_ok-empty_replicas.ensures ∙ ap (λ n. replicate n nothing_held) c.n.ensures in
    start-view c.args.number c.args.version c.args.size c.args.keys c.args.clients.now _ _ _ _ _ _ _ _ c.new.ensures.items c.in_ok-named.ensures c.new-2.ensures c.new-3.ensures there c.new-4.ensures c.new-5.ensures.items c.new-7.ensures.items
