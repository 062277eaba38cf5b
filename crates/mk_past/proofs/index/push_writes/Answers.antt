use Rattle.std.proofs.Common.{ap, ◌∙◌, ◌+◌, ◌++◌, map, drop}
use Rattle.mk_past.specs.Indexes.{Versions, versions_at, versions_by}
use Rattle.mk_past.proofs.IndexLaws.{written-at}
use Rattle.mk_past.proofs.index.push_writes.Goals as goal

pub each-preserved : goal.each-preserved
each-preserved c other =
    ap (λ (xs : Versions). xs ++ versions_by other c.args.stamp (drop (c.each.item-index + 1) c.args.writes.now)) (c.in_ok-push_version.ensures other)
    ∙ written-at (λ key. versions_at (map (λ key. key.items) c.each.versions.items) key) c.args.stamp c.args.writes.now c.each.item-index _ other c.each-test.true
    ∙ c.each.invariant other
