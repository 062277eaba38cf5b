use Rattle.std.proofs.Common.{ap, sym, ◌∙◌, subst}
use Rattle.mk_words.specs.Promises.{ArePromises, can_merge}
use Rattle.mk_words.specs.Merging.{merged}
use Rattle.mk_merge.proofs.StandLaws.{stand-listed, ok-each}
use Rattle.mk_merge.proofs.keeping.BaseKeeping.merge.Goals as goal

pub merge_listed-requires : goal.merge_listed-requires
merge_listed-requires c = subst ArePromises (sym (stand-listed c.args.promises.now c.requires.0 c.requires.1)) c.requires.2

pub returns-clause-ok : goal.returns-clause-ok
returns-clause-ok c =
    ok-each c.merge_listed.result _ _ (λ made is states stand fit. is ∙ ap (merged c.args.size c.args.epoch) (stand-listed c.args.promises.now states stand)) c.merge_listed.ensures.ok

pub returns-clause-short : goal.returns-clause-short
returns-clause-short c states stand none =
    c.merge_listed.ensures.short (ap (can_merge c.args.size c.args.epoch) (stand-listed c.args.promises.now states stand) ∙ none)

pub returns-clause-enough : goal.returns-clause-enough
returns-clause-enough c states stand there =
    c.merge_listed.ensures.enough (ap (can_merge c.args.size c.args.epoch) (stand-listed c.args.promises.now states stand) ∙ there)
