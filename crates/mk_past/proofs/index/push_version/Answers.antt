use Rattle.std.proofs.Common.{ap, ◌∙◌, ◌==◌, ◌++◌, ◌∷◌, [], if◌then◌else◌}
use Rattle.mk_past.specs.Indexes.{Versions}
use Rattle.mk_past.proofs.IndexLaws.{set-at}
use Rattle.mk_past.proofs.index.push_version.Goals as goal

pub returns : goal.returns
returns c other =
    set-at (λ key. key.items) c.grow.new.versions.items c.args.key c.index_mut.result.now _ c.push.new.self c.args.version other c.in_ok-grow.ensures.there c.index_mut.ensures.value c.in_ok-push.ensures.items
    ∙ ap (λ (xs : Versions). if c.args.key == other then xs ++ c.args.version ∷ [] else xs) (c.in_ok-grow.ensures.same other)
